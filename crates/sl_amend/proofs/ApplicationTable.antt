-- An application table that was printed has no fault record by record.
use Rattle.std.proofs.Common.{◌≡◌, ◌∙◌, ◌<◌, ◌≤◌, ◌+◌, ◌++◌, ◌&&◌, ◌||◌, ℕ, zero, suc, Bool, true, false, not, cond, nat_eq, nat_le, List, [], ◌∷◌, length, map, get_or, Option, Some, None, refl, sym, ap, arith, inl, inr, true≢false, append_assoc, append-nil, length-append}
use Rattle.std.specs.Prelude.{filter}
use Rattle.std.specs.List.{fold, list_any, IsDistinct, AllByRecursion}
use Rattle.std.specs.Str.{bytes_eq}
use Rattle.std.specs.Fmt.{decimal}
use Rattle.std.proofs.lemmas.Bool.{cases_Bool, or_parts, leb-true}
use Rattle.std.proofs.lemmas.List.{map-append, length-map}
use Rattle.std.proofs.lemmas.List.Elements.{filter-append}
use Rattle.std.proofs.lemmas.List.Sums.{fold-append}
use Rattle.std.proofs.lemmas.Slice.Eq.{bytes_eq-Decides}
use Rattle.sl_types.specs.declared.kinds.Entry.{Entry}
use Rattle.sl_types.specs.declared.kinds.TheConstants.{MAX_APPLICANTS, MAX_CHOICES, MAX_LIST, MAX_PLACE, MAX_SCORE}
use Rattle.sl_codes.specs.Codes.{has_code, with_code, number_of}
use Rattle.sl_codes.specs.Fields.{is_code, number_in}
use Rattle.sl_codes.specs.Faults.{record_cause, first_fault_after}
use Rattle.sl_codes.specs.Records.{Record, codes_of, field_of}
use Rattle.sl_codes.proofs.FirstFault.{record_cause-fields}
use Rattle.sl_choices.specs.Choices.{choice_form, choice_fields_cause, applicants_of, own_records as earlier_records, applicant_cause}
use Rattle.sl_amend.specs.Tables.{choice_record, own_records}
use Rattle.sl_amend.proofs.CodesApart.{code_there, no_code_cause}
use Rattle.sl_amend.proofs.FirstSeen.{seen_own}
use Rattle.sl_amend.proofs.ListSeams.{at_seam, none_same, same_place, same_prog}
use Rattle.sl_amend.proofs.PrintedNumbers.{decimal_in, decimal_right, same_code, code_found}

-- the numbers of a choice are in their ranges, where there are so many programmes
pub record IsFine (count : ℕ) (e : Entry) : Type 0 where
  pub first : 1 ≤ e.place
  pub last : e.place ≤ MAX_PLACE
  pub prog : e.prog.0 < count
  pub score : e.score ≤ MAX_SCORE

-- the choices of an applicant: some, not too many, no place and no programme twice
pub record AreFine (count : ℕ) (choices : List Entry) : Type 0 where
  pub some : 0 < length choices
  pub few : length choices ≤ MAX_LIST
  pub each : AllByRecursion (IsFine count) choices
  pub places : IsDistinct same_place choices
  pub progs : IsDistinct same_prog choices

not_above : (m k : ℕ) → k < m → nat_le m k ≡ false
not_above m k lt = elim (cases_Bool (nat_le m k)) [
  | inl e ↦ absurd (let le = leb-true m k e in omega (arith, le, lt))
  | inr e ↦ e
]

module _ (progs : List (List ℕ)) (once : IsDistinct bytes_eq progs) where
  -- codes are the same exactly where their numbers are
  codes_differ : (j k : ℕ) → j < length progs → k < length progs → nat_eq j k ≡ false → bytes_eq (get_or progs k []) (get_or progs j []) ≡ false
  codes_differ j k jn kn differ = elim (cases_Bool (bytes_eq (get_or progs k []) (get_or progs j []))) [
    | inr e ↦ e
    | inl e ↦
        let same : get_or progs k [] ≡ get_or progs j [] = (bytes_eq-Decides (get_or progs k []) (get_or progs j [])).0 e in
        let is : Some k ≡ Some j = sym (code_found progs k once kn) ∙ ap (number_of progs) same ∙ code_found progs j once jn in
        absurd (true≢false (sym (Rattle.std.proofs.Common.eq-eqb j k (number j k (sym is))) ∙ differ))
  ]
    where
      number : (a b : ℕ) → Some a ≡ Some b → a ≡ b
      number a b e = cc e

  -- of the records of choices, none has the place of another choice, and none its programme
  no_place : (code : List ℕ) (done : List Entry) (e : Entry) → AllByRecursion (IsFine (length progs)) done → IsFine (length progs) e
      → list_any (λ d. same_place d e) done ≡ false
      → list_any (λ other. nat_eq (number_in (field_of other 1)) (number_in (decimal e.place))) (own_records progs code done) ≡ false
  no_place code [] e fine is h = refl
  no_place code (d ∷ ds) e fine is h =
      let parts = or_parts (nat_eq d.place e.place) (list_any (λ x. same_place x e) ds) h in
      let d_low = fine.0.last in
      let e_low = is.last in
      let a = decimal_in d.place (omega (arith, d_low)) in
      let b = decimal_in e.place (omega (arith, e_low)) in
      let here : nat_eq (number_in (decimal d.place)) (number_in (decimal e.place)) ≡ false = rw (a, b) parts.0 in
      let later = no_place code ds e fine.1 is parts.1 in
      rw (here, later) refl

  no_prog : (code : List ℕ) (done : List Entry) (e : Entry) → AllByRecursion (IsFine (length progs)) done → IsFine (length progs) e
      → list_any (λ d. same_prog d e) done ≡ false
      → list_any (λ other. bytes_eq (get_or progs e.prog.0 []) (field_of other 2)) (own_records progs code done) ≡ false
  no_prog code [] e fine is h = refl
  no_prog code (d ∷ ds) e fine is h =
      let parts = or_parts (nat_eq d.prog.0 e.prog.0) (list_any (λ x. same_prog x e) ds) h in
      let here = codes_differ d.prog.0 e.prog.0 fine.0.prog is.prog parts.0 in
      let later = no_prog code ds e fine.1 is parts.1 in
      rw (here, later) refl

  -- the records of an applicant are those after the records of others
  others : (before : List Record) (code : List ℕ) → has_code (codes_of before) code ≡ false → filter (λ other. bytes_eq code (field_of other 0)) before ≡ []
  others [] code h = refl
  others (row ∷ before) code h =
      let parts = or_parts (bytes_eq code (field_of row 0)) (has_code (codes_of before) code) h in
      rw (parts.0, others before code parts.1) refl

  owned : (code : List ℕ) (done : List Entry) → filter (λ other. bytes_eq code (field_of other 0)) (own_records progs code done) ≡ own_records progs code done
  owned code [] = refl
  owned code (d ∷ ds) = rw (same_code code, owned code ds) refl

  own_earlier : (before : List Record) (code : List ℕ) (done : List Entry) (e : Entry) → has_code (codes_of before) code ≡ false
      → earlier_records (before ++ own_records progs code done) (choice_record progs code e) ≡ own_records progs code done
  own_earlier before code done e new =
      filter-append (λ other. bytes_eq code (field_of other 0)) before (own_records progs code done)
      ∙ ap (λ rs. rs ++ filter (λ other. bytes_eq code (field_of other 0)) (own_records progs code done)) (others before code new)
      ∙ owned code done

  -- the applicant is a new one, or was seen
  no_applicant_cause : (before : List Record) (code : List ℕ) (done : List Entry) → is_code code ≡ true → has_code (applicants_of before) code ≡ false
      → length (applicants_of before) < MAX_APPLICANTS → applicant_cause (applicants_of (before ++ own_records progs code done)) code ≡ None
  no_applicant_cause before code [] is new few =
      let same : applicants_of (before ++ []) ≡ applicants_of before = ap applicants_of (append-nil before) in
      let room = not_above MAX_APPLICANTS (length (applicants_of before)) few in
      ap (λ known. applicant_cause known code) same ∙ rw (no_code_cause code is, new, room) refl
  no_applicant_cause before code (d ∷ ds) is new few =
      let known : applicants_of (before ++ own_records progs code (d ∷ ds)) ≡ applicants_of before ++ code ∷ [] =
      ap (fold with_code []) (map-append (λ (r : Record). field_of r 0) before (own_records progs code (d ∷ ds)))
      ∙ fold-append with_code [] (codes_of before) (codes_of (own_records progs code (d ∷ ds)))
      ∙ seen_own progs code (d ∷ ds) (applicants_of before) new (omega arith) in
      let there : has_code (applicants_of before ++ code ∷ []) code ≡ true =
      Rattle.std.proofs.lemmas.List.Folds.list_any-append (bytes_eq code) (applicants_of before) (code ∷ []) ∙ rw (new, same_code code) refl in
      ap (λ seen. applicant_cause seen code) known ∙ rw (no_code_cause code is, there) refl

  -- nothing is wrong with the record of a choice
  no_fields_cause : (before : List Record) (code : List ℕ) (done : List Entry) (e : Entry) (todo : List Entry) → AreFine (length progs) (done ++ e ∷ todo)
      → is_code code ≡ true → has_code (codes_of before) code ≡ false → has_code (applicants_of before) code ≡ false → length (applicants_of before) < MAX_APPLICANTS
      → choice_fields_cause progs (before ++ own_records progs code done) (choice_record progs code e) ≡ None
  no_fields_cause before code done e todo fine is new unseen few =
      let own = own_earlier before code done e new in
      let count = length-map done (choice_record progs code) in
      let longer = length-append done (e ∷ todo) in
      let bound = fine.few in
      let room = not_above MAX_LIST (length done) (omega (arith, bound, longer)) in
      let here = at_seam (IsFine (length progs)) done e todo fine.each in
      let earlier = before_seam (IsFine (length progs)) done (e ∷ todo) fine.each in
      let place = decimal_right 1 MAX_PLACE e.place here.first here.last (omega arith) in
      let score = decimal_right 0 MAX_SCORE e.score (omega arith) here.score (omega arith) in
      let known = code_there progs e.prog.0 here.prog in
      let free = no_place code done e earlier here (none_same same_place done e todo fine.places) in
      let fresh = no_prog code done e earlier here (none_same same_prog done e todo fine.progs) in
      let applicant = no_applicant_cause before code done is unseen few in
      rw (applicant, own, count, room, place, free, known, fresh, score) refl
    where
      before_seam : {A : Type 0} (P : A → Type 0) (xs ys : List A) → AllByRecursion P (xs ++ ys) → AllByRecursion P xs
      before_seam P [] ys h = tt
      before_seam P (x ∷ xs) ys h = (h.0, before_seam P xs ys h.1)

  -- the records of an applicant whose first choices were read
  pub own_right : (before : List Record) (code : List ℕ) (done todo : List Entry) (rest : List Record) → AreFine (length progs) (done ++ todo)
      → is_code code ≡ true → has_code (codes_of before) code ≡ false → has_code (applicants_of before) code ≡ false → length (applicants_of before) < MAX_APPLICANTS
      → length before + length (done ++ todo) ≤ MAX_CHOICES
      → first_fault_after (choice_form progs) (before ++ own_records progs code (done ++ todo)) rest ≡ None
      → first_fault_after (choice_form progs) (before ++ own_records progs code done) (own_records progs code todo ++ rest) ≡ None
  unfolding first_fault_after
  own_right before code done [] rest fine is new unseen few room later =
      ap (λ (es : List Entry). first_fault_after (choice_form progs) (before ++ own_records progs code es) rest) (sym (append-nil done)) ∙ later
  own_right before code done (e ∷ todo) rest fine is new unseen few room later =
      let row = choice_record progs code e in
      let so_far = before ++ own_records progs code done in
      let along : (done ++ e ∷ []) ++ todo ≡ done ++ e ∷ todo = append_assoc done (e ∷ []) todo in
      let longer = length-append done (e ∷ todo) in
      let sum = length-append before (own_records progs code done) in
      let count = length-map done (choice_record progs code) in
      let here : record_cause (choice_form progs) so_far row ≡ None =
      record_cause-fields (choice_form progs) so_far row refl (omega (arith, room, longer, sum, count)) ∙ no_fields_cause before code done e todo fine is new unseen few in
      let more : so_far ++ row ∷ [] ≡ before ++ own_records progs code (done ++ e ∷ []) =
      append_assoc before (own_records progs code done) (row ∷ []) ∙ ap (λ rs. before ++ rs) (sym (map-append (choice_record progs code) done (e ∷ []))) in
      let next = own_right before code (done ++ e ∷ []) todo rest (rw along fine) is new unseen few (rw along room) (rw along later) in
      rw (here, more) next
