-- The records of all applicants of a valid instance have no fault, and hold their choices.
use Rattle.std.proofs.Common.{◌≡◌, ◌∙◌, ◌<◌, ◌≤◌, ◌+◌, ◌++◌, ℕ, suc, true, false, not, nat_lt, List, [], ◌∷◌, length, map, get_or, Some, refl, sym, ap, arith, append_assoc, append-nil, length-append, None}
use Rattle.std.specs.Prelude.{zip, flat_map, sum_by, All}
use Rattle.std.specs.List.{fold, list_all, list_any, IsDistinct, AllByRecursion}
use Rattle.std.specs.Str.{bytes_eq}
use Rattle.std.proofs.lemmas.Bool.{and_parts, or_parts, ltb-false, not-false}
use Rattle.std.proofs.lemmas.List.{map-append, length-map}
use Rattle.std.proofs.lemmas.List.Concat.{flat_map-cons}
use Rattle.std.proofs.lemmas.List.Sums.{fold-append, sum_by-cons}
use Rattle.std.proofs.Math.Seq.{get_or-append_seam}
use Rattle.sl_types.specs.declared.kinds.Entry.{Entry}
use Rattle.sl_types.specs.declared.kinds.TheConstants.{MAX_APPLICANTS, MAX_CHOICES, MAX_PLACE}
use Rattle.sl_types.specs.Market.{Market, list_of}
use Rattle.sl_types.specs.Rules.{is_misplaced, is_out_of_order, rises_from, has_prog_twice}
use Rattle.sl_types.proofs.Faultless.{IsFaultless, named, scored, short}
use Rattle.sl_types.proofs.Lists.{none_fails, none_of_any}
use Rattle.sl_codes.specs.Codes.{has_code, with_code, number_of}
use Rattle.sl_codes.specs.Fields.{is_code}
use Rattle.sl_codes.specs.Faults.{first_fault_after}
use Rattle.sl_codes.specs.Records.{Record, codes_of, field_of}
use Rattle.sl_choices.specs.declared.choices.ChoiceRow.{ChoiceRow}
use Rattle.sl_choices.specs.Choices.{choice_form, applicants_of, choice_of}
use Rattle.sl_amend.specs.Tables.{choice_record, own_records}
use Rattle.sl_amend.proofs.ApplicationTable.{IsFine, AreFine, own_right}
use Rattle.sl_amend.proofs.CodesApart.{apart}
use Rattle.sl_amend.proofs.FirstSeen.{seen_has, seen_own}
use Rattle.sl_amend.proofs.ListSeams.{places_apart, progs_apart}
use Rattle.sl_amend.proofs.PrintedNumbers.{decimal_in, code_found}

abbrev pub records_from : List (List ℕ) → List (List ℕ) → List (List Entry) → List Record
records_from progs codes lists = flat_map (λ a. own_records progs a.0 a.1) (zip codes lists)

-- the row of a choice of the applicant with a number
abbrev pub row_at : ℕ → Entry → ChoiceRow
row_at a e = record { app = record { 0 = a }; place = e.place; prog = e.prog; score = e.score }

-- the rows of these lists, of applicants from this number on
unfoldable pub rows_from : ℕ → List (List Entry) → List ChoiceRow
rows_from a [] = []
rows_from a (l ∷ lists) = map (row_at a) l ++ rows_from (suc a) lists

module _ (progs : List (List ℕ)) (once : IsDistinct bytes_eq progs) where
  -- the records of applicants after those of others
  pub all_right : (before : List Record) (codes : List (List ℕ)) (lists : List (List Entry)) → length codes ≡ length lists → AllByRecursion (AreFine (length progs)) lists
      → list_all is_code codes ≡ true → IsDistinct bytes_eq (applicants_of before ++ codes) → length (applicants_of before) + length codes ≤ MAX_APPLICANTS
      → length before + sum_by length lists ≤ MAX_CHOICES
      → first_fault_after (choice_form progs) before (records_from progs codes lists) ≡ None
  unfolding first_fault_after
  all_right before [] lists each fine are new few room = refl
  all_right before (code ∷ codes) [] each fine are new few room = refl
  all_right before (code ∷ codes) (l ∷ lists) each fine are new few room =
      let f : List ℕ × List Entry → List Record = λ a. own_records progs a.0 a.1 in
      let parts = and_parts (is_code code) (list_all is_code codes) are in
      let seen = applicants_of before in
      let own = own_records progs code l in
      let unseen = apart seen code codes new in
      let unread : has_code (codes_of before) code ≡ false = sym (seen_has (codes_of before) [] code) ∙ unseen in
      let sum = sum_by-cons length l lists in
      let more : applicants_of (before ++ own) ≡ seen ++ code ∷ [] =
      ap (fold with_code []) (map-append (λ (r : Record). field_of r 0) before own) ∙ fold-append with_code [] (codes_of before) (codes_of own) ∙ seen_own progs code l seen unseen fine.0.some in
      let along : (seen ++ code ∷ []) ++ codes ≡ seen ++ code ∷ codes = append_assoc seen (code ∷ []) codes in
      let longer = length-append before own in
      let seen_longer = length-append seen (code ∷ []) in
      let count = length-map l (choice_record progs code) in
      let later = all_right (before ++ own) codes lists (omega (arith, each)) fine.1 parts.1 (rw (more, along) new) (rw more (omega (arith, few, seen_longer))) (omega (arith, room, sum, longer, count)) in
      let here = own_right progs once before code [] l (records_from progs codes lists) fine.0 parts.0 unread unseen (omega (arith, few)) (omega (arith, room, sum)) later in
      ap (first_fault_after (choice_form progs) before) (flat_map-cons f (code, l) (zip codes lists))
      ∙ ap (λ rs. first_fault_after (choice_form progs) rs (own ++ records_from progs codes lists)) (sym (append-nil before)) ∙ here

  -- the rows of an applicant's records
  own_rows : (apps : List (List ℕ)) (code : List ℕ) (a : ℕ) (l : List Entry) → number_of apps code ≡ Some a → AllByRecursion (IsFine (length progs)) l
      → map (choice_of progs apps) (own_records progs code l) ≡ map (row_at a) l
  own_rows apps code a [] number fine = refl
  own_rows apps code a (e ∷ es) number fine =
      let last = fine.0.last in
      let score = fine.0.score in
      let p = decimal_in e.place (omega (arith, last)) in
      let s = decimal_in e.score (omega (arith, score)) in
      let g = code_found progs e.prog.0 once fine.0.prog in
      let here : choice_of progs apps (choice_record progs code e) ≡ row_at a e = rw (number, p, s, g) refl in
      rw (here, own_rows apps code a es number fine.1) refl

  -- and of all records
  pub all_rows : (apps done codes : List (List ℕ)) (lists : List (List Entry)) → apps ≡ done ++ codes → IsDistinct bytes_eq apps → length codes ≡ length lists
      → AllByRecursion (AreFine (length progs)) lists → map (choice_of progs apps) (records_from progs codes lists) ≡ rows_from (length done) lists
  unfolding rows_from
  all_rows apps done [] [] is single each fine = refl
  all_rows apps done [] (l ∷ lists) is single each fine = absurd (omega (arith, each))
  all_rows apps done (code ∷ codes) [] is single each fine = absurd (omega (arith, each))
  all_rows apps done (code ∷ codes) (l ∷ lists) is single each fine =
      let f : List ℕ × List Entry → List Record = λ a. own_records progs a.0 a.1 in
      let whole = ap length is ∙ length-append done (code ∷ codes) in
      let stands : get_or apps (length done) [] ≡ code = ap (λ cs. get_or cs (length done) []) is ∙ get_or-append_seam done code codes [] in
      let number : number_of apps code ≡ Some (length done) = ap (number_of apps) (sym stands) ∙ code_found apps (length done) single (omega (arith, whole)) in
      let along : apps ≡ (done ++ code ∷ []) ++ codes = is ∙ sym (append_assoc done (code ∷ []) codes) in
      let next : length (done ++ code ∷ []) ≡ suc (length done) = length-append done (code ∷ []) ∙ omega arith in
      let later = all_rows apps (done ++ code ∷ []) codes lists along single (omega (arith, each)) fine.1 in
      ap (map (choice_of progs apps)) (flat_map-cons f (code, l) (zip codes lists))
      ∙ map-append (choice_of progs apps) (own_records progs code l) (records_from progs codes lists)
      ∙ ap (λ rs. rs ++ map (choice_of progs apps) (records_from progs codes lists)) (own_rows apps code (length done) l number fine.0.each)
      ∙ ap (λ rs. map (row_at (length done)) l ++ rs) (later ∙ ap (λ a. rows_from a lists) next)

-- the lists of a valid instance in which each applicant has a choice
pub by_number : {A : Type 0} (P : A → Type 0) (xs : List A) (d : A) → ((k : ℕ) → k < length xs → P (get_or xs k d)) → AllByRecursion P xs
by_number P [] d h = tt
by_number P (x ∷ xs) d h = (h 0 (omega arith), by_number P xs d (λ k lt. h (suc k) (omega (arith, lt))))

pub none : Entry
none = record { place = 0; prog = record { 0 = 0 }; score = 0 }

module _ (market : Market) (ok : IsFaultless market) where
  ordered : (a : ℕ) → a < length market.lists → (list_any is_misplaced (list_of market a) ≡ false) × (rises_from 0 (list_of market a) ≡ true)
  ordered a lt =
      let parts = or_parts (list_any is_misplaced (list_of market a)) (not (rises_from 0 (list_of market a))) (none_fails is_out_of_order market.lists ok.places a [] lt) in
      (parts.0, not-false (rises_from 0 (list_of market a)) parts.1)

  fine_choice : (a : ℕ) → a < length market.lists → (k : ℕ) → k < length (list_of market a) → IsFine (length market.progs) (get_or (list_of market a) k none)
  fine_choice a lt k within =
      let e : Entry = get_or (list_of market a) k none in
      let place = or_parts (nat_lt e.place 1) (nat_lt MAX_PLACE e.place) (none_of_any is_misplaced (list_of market a) (ordered a lt).0 k none within) in
      record {
        first = ltb-false e.place 1 place.0;
        last = ltb-false MAX_PLACE e.place place.1;
        prog = named market ok a lt k none within;
        score = scored market ok a lt k none within;
      }

  fine_list : (a : ℕ) → a < length market.lists → 0 < length (list_of market a) → AreFine (length market.progs) (list_of market a)
  fine_list a lt some = record {
    some = some;
    few = short market ok a lt;
    each = by_number (IsFine (length market.progs)) (list_of market a) none (fine_choice a lt);
    places = places_apart 0 (list_of market a) (ordered a lt).1;
    progs = progs_apart (list_of market a) (none_fails has_prog_twice market.lists ok.repeats a [] lt);
  }

  pub fine_lists : All (λ choices. 0 < length choices) market.lists → AllByRecursion (AreFine (length market.progs)) market.lists
  fine_lists some = by_number (AreFine (length market.progs)) market.lists [] (λ a lt. fine_list a lt (some a [] lt))

  pub rising : (a : ℕ) → a < length market.lists → rises_from 0 (list_of market a) ≡ true
  rising a lt = (ordered a lt).1
