-- Where no row names a choice in conflict, no conflict stands: only choices that rows name can make one.
use Rattle.std.proofs.Common.{◌≡◌, ◌≢◌, ◌∙◌, ◌<◌, ◌⊎◌, ◌&&◌, not, ℕ, zero, suc, Bool, true, false, nat_eq, List, [], ◌∷◌, length, get_or, Option, Some, None, position, refl, sym, ap, arith, inl, inr, eq-eqb}
use Rattle.std.specs.Prelude.{unwrap_or}
use Rattle.std.specs.List.{list_all, list_any, range_with_len, AllByRecursion}
use Rattle.std.proofs.lemmas.Bool.{cases_lt, or_parts}
use Rattle.std.proofs.lemmas.List.{get_or_past}
use Rattle.std.proofs.lemmas.List.FromFn.{get_or-range_with_len, length-range_with_len}
use Rattle.std.proofs.lemmas.List.Sums.{AllPass-from_list_all}
use Rattle.sl_types.specs.declared.kinds.Entry.{Entry}
use Rattle.sl_types.specs.Market.{Market}
use Rattle.sl_types.specs.Rules.{has_prog_twice, names_prog}
use Rattle.sl_types.proofs.Lists.{none_at, none_fails}
use Rattle.sl_types.proofs.Rings.{found}
use Rattle.sl_codes.proofs.Lists.{differ as apart_numbers}
use Rattle.sl_codes.specs.Records.{Record}
use Rattle.sl_amend.specs.Causes.{subject_field}
use Rattle.sl_amend.specs.Conflicts.{is_contradicted_by, has_merit_of, is_tied_elsewhere, is_choice_where}
use Rattle.sl_amend.specs.DraftMarket.{DraftMarket, applicant_number, own_choices}
use Rattle.sl_amend.specs.Files.{choice_of_prog, choice_named, names_differing, names_tied}
use Rattle.sl_amend.specs.Roll.{is_choice, is_list, no_choice}
use Rattle.sl_amend.proofs.Fine.{fine_parts}
use Rattle.sl_amend.proofs.OneChange.{IsFree, any_never}
use Rattle.sl_amend.proofs.OneTree.{IsFitted, differ, tie, two, ties, differ_is, tie_is, differ_turned, tie_turned, turned}
use Rattle.sl_amend.proofs.Traced.{Traced, AreTraced, Stands, names, naming, IsNaming, each_at}

-- the choice of a programme is the one that stands there, where no programme stands twice
own_found : (choices : List Entry) (k : ℕ) (d : Entry) → has_prog_twice choices ≡ false → k < length choices
    → choice_of_prog choices (get_or choices k d).prog.0 ≡ Some (get_or choices k d)
own_found [] k d once lt = absurd (omega (arith, lt))
own_found (x ∷ xs) zero d once lt = let same = eq-eqb x.prog.0 x.prog.0 refl in rw same refl
own_found (x ∷ xs) (suc k) d once lt =
    let parts = or_parts (names_prog x.prog.0 xs) (has_prog_twice xs) once in
    let inside : k < length xs = omega (arith, lt) in
    let other : nat_eq (get_or xs k d).prog.0 x.prog.0 ≡ false = none_at (λ (e : Entry). nat_eq e.prog.0 x.prog.0) xs d k parts.0 inside in
    let first : nat_eq x.prog.0 (get_or xs k d).prog.0 ≡ false = turned x.prog.0 (get_or xs k d).prog.0 ∙ other in
    rw first (own_found xs k d parts.1 inside)

-- a conflict of choices of one list, each of which is named and in none, or an old one
module _ (test : Entry → Entry → Bool) (turn : (e f : Entry) → test e f ≡ test f e) (xs ys old_xs old_ys : List Entry)
    (P Q : Entry → Type 0) (named_x : (e : Entry) → P e → list_any (test e) ys ≡ false) (named_y : (f : Entry) → Q f → list_any (test f) xs ≡ false)
    (old_free : list_any (λ e. list_any (test e) old_ys) old_xs ≡ false) where
  pair_free : (k j : ℕ) → k < length xs → j < length ys → P (get_or xs k no_choice) ⊎ Stands old_xs (get_or xs k no_choice) → Q (get_or ys j no_choice) ⊎ Stands old_ys (get_or ys j no_choice)
      → test (get_or xs k no_choice) (get_or ys j no_choice) ≡ false
  pair_free k j k_in j_in hx hy =
      let e : Entry = get_or xs k no_choice in
      let f : Entry = get_or ys j no_choice in
      elim hx [
        | inl named ↦ none_at (test e) ys no_choice j (named_x e named) j_in
        | inr old_e ↦ elim hy [
          | inl named ↦ turn e f ∙ none_at (test f) xs no_choice k (named_y f named) k_in
          | inr old_f ↦ old_f (test e) (old_e (λ x. list_any (test x) old_ys) old_free)
        ]
      ]

  pub all_free : AllByRecursion (λ e. P e ⊎ Stands old_xs e) xs → AllByRecursion (λ f. Q f ⊎ Stands old_ys f) ys → list_any (λ e. list_any (test e) ys) xs ≡ false
  all_free hx hy =
      any_never (λ e. list_any (test e) ys) xs no_choice
      (λ k k_in. any_never (test (get_or xs k no_choice)) ys no_choice
      (λ j j_in. pair_free k j k_in j_in (each_at (λ e. P e ⊎ Stands old_xs e) xs k no_choice hx k_in) (each_at (λ f. Q f ⊎ Stands old_ys f) ys j no_choice hy j_in)))

module _ (draft : DraftMarket) (rows : List Record) (trees : List (Option ℕ)) (old : List (List Entry)) (fit : IsFitted draft.named.market trees)
    (each : length draft.named.app_codes ≡ length draft.named.market.lists) (traced : AreTraced draft.named.app_codes draft.named.prog_codes old rows draft.named.market.lists)
    (no_differing : position (names_differing draft) rows ≡ None) (no_tied : position (names_tied draft) rows ≡ None) (old_free : IsFree trees old) where
  abbrev market : Market
  market = draft.named.market

  abbrev lists : List (List Entry)
  lists = market.lists

  abbrev apps : List (List ℕ)
  apps = draft.named.app_codes

  abbrev progs : List (List ℕ)
  progs = draft.named.prog_codes

  fine : (b : ℕ) → b < length lists → list_all (is_choice (length trees)) (get_or lists b []) ≡ true
  fine b lt = (fine_parts (length trees) (get_or lists b []) (AllPass-from_list_all (is_list (length trees)) lists fit.in_order b [] lt)).each

  once : (b : ℕ) → b < length lists → has_prog_twice (get_or lists b []) ≡ false
  once b lt = (fine_parts (length trees) (get_or lists b []) (AllPass-from_list_all (is_list (length trees)) lists fit.in_order b [] lt)).once

  -- a row that names a choice that stands
  named_choice : (a k : ℕ) (row : Record) → a < length lists → k < length (get_or lists a []) → IsNaming apps progs a (get_or (get_or lists a []) k no_choice).prog.0 row
      → (choice_named draft row ≡ Some (get_or (get_or lists a []) k no_choice)) × (applicant_number draft (subject_field row) ≡ a)
  named_choice a k row lt inside h =
      let e : Entry = get_or (get_or lists a []) k no_choice in
      let number : applicant_number draft (subject_field row) ≡ a = ap (λ (o : Option ℕ). unwrap_or o (length apps)) h.app in
      let own : own_choices draft (subject_field row) ≡ get_or lists a [] = ap (λ (n : ℕ). get_or lists n []) number in
      let is : choice_named draft row ≡ choice_of_prog (own_choices draft (subject_field row)) e.prog.0 = rw (h.makes, h.prog) refl in
      (is ∙ ap (λ (es : List Entry). choice_of_prog es e.prog.0) own ∙ own_found (get_or lists a []) k no_choice (once a lt) inside, number)

  -- a choice at an index of the list of an applicant is named by one of the rows
  record IsNamed (a : ℕ) (e : Entry) : Type 0 where
    pub inside : a < length lists
    pub fine_e : is_choice (length trees) e ≡ true
    pub differs : is_contradicted_by market (get_or lists a []) e ≡ false
    pub ties : is_tied_elsewhere market a e ≡ false

  named_at : (a k : ℕ) → a < length lists → k < length (get_or lists a []) → list_any (names apps progs a (get_or (get_or lists a []) k no_choice).prog.0) rows ≡ true
      → IsNamed a (get_or (get_or lists a []) k no_choice)
  named_at a k lt inside h =
      let e : Entry = get_or (get_or lists a []) k no_choice in
      let none : Record = [] in
      let (i, i_in, at) = found (names apps progs a e.prog.0) none rows h in
      let row : Record = get_or rows i none in
      let both = named_choice a k row lt inside (naming apps progs a e.prog.0 row at) in
      let own : own_choices draft (subject_field row) ≡ get_or lists a [] = ap (λ (n : ℕ). get_or lists n []) both.1 in
      record {
        inside = lt;
        fine_e = AllPass-from_list_all (is_choice (length trees)) (get_or lists a []) (fine a lt) k no_choice inside;
        differs =
            sym (ap (λ (o : Option Entry). is_choice_where (is_contradicted_by market (own_choices draft (subject_field row))) o) both.0 ∙ ap (λ (es : List Entry). is_contradicted_by market es e) own)
            ∙ none_fails (names_differing draft) rows no_differing i none i_in;
        ties =
            sym (ap (λ (o : Option Entry). is_choice_where (is_tied_elsewhere market (applicant_number draft (subject_field row))) o) both.0 ∙ ap (λ (n : ℕ). is_tied_elsewhere market n e) both.1)
            ∙ none_fails (names_tied draft) rows no_tied i none i_in;
      }

  -- each choice of an applicant is named and in no conflict, or an old one
  own_or_old : (a : ℕ) → a < length lists → AllByRecursion (λ e. IsNamed a e ⊎ Stands (get_or old a []) e) (get_or lists a [])
  own_or_old a lt = from (get_or lists a []) (λ k inside. elim (each_at (Traced apps progs old rows a) (get_or lists a []) k no_choice (traced a) inside) [
    | inl named ↦ inl (named_at a k lt inside named)
    | inr stands ↦ inr stands
  ])
    where
      from : (xs : List Entry) → ((k : ℕ) → k < length xs → IsNamed a (get_or xs k no_choice) ⊎ Stands (get_or old a []) (get_or xs k no_choice)) → AllByRecursion (λ e. IsNamed a e ⊎ Stands (get_or old a []) e) xs
      from [] h = tt
      from (x ∷ xs) h = (h 0 (omega arith), from xs (λ k inside. h (suc k) (omega (arith, inside))))

  no_difference : (a : ℕ) (e : Entry) → IsNamed a e → list_any (differ trees e) (get_or lists a []) ≡ false
  no_difference a e h = sym (differ_is market trees fit e (get_or lists a []) h.fine_e (fine a h.inside)) ∙ h.differs

  no_tie : (a b : ℕ) (e : Entry) → b < length lists → b ≢ a → IsNamed a e → list_any (tie trees e) (get_or lists b []) ≡ false
  no_tie a b e lt ne h =
      let n = length lists in
      let test : ℕ → Bool = λ b. not (nat_eq b a) && has_merit_of market e (get_or lists b []) in
      let here : get_or (range_with_len 0 n) b 0 ≡ b = get_or-range_with_len 0 n b 0 lt ∙ omega arith in
      let size = length-range_with_len 0 n in
      let none : test b ≡ false = sym (ap test here) ∙ none_at test (range_with_len 0 n) 0 b h.ties (omega (arith, lt, size)) in
      let other : nat_eq b a ≡ false = apart_numbers b a ne in
      let merit : has_merit_of market e (get_or lists b []) ≡ false = sym (ap (λ same. not same && has_merit_of market e (get_or lists b [])) other) ∙ none in
      sym (tie_is market trees fit e (get_or lists b []) h.fine_e (fine b lt)) ∙ merit

  single : (b : ℕ) → two trees (get_or lists b []) ≡ false
  single b = elim (cases_lt b (length lists)) [
    | inl lt ↦ all_free (differ trees) (differ_turned trees) (get_or lists b []) (get_or lists b []) (get_or old b []) (get_or old b []) (IsNamed b) (IsNamed b)
        (no_difference b) (no_difference b) (old_free.single b) (own_or_old b lt) (own_or_old b lt)
    | inr past ↦ ap (two trees) (get_or_past lists b [] past)
  ]

  apart : (a b : ℕ) → b < a → ties trees (get_or lists a []) (get_or lists b []) ≡ false
  apart a b less = elim (cases_lt a (length lists)) [
    | inl lt ↦
        (let b_in : b < length lists = omega (arith, less, lt) in
        all_free (tie trees) (tie_turned trees) (get_or lists a []) (get_or lists b []) (get_or old a []) (get_or old b []) (IsNamed a) (IsNamed b)
        (λ e h. no_tie a b e b_in (λ same. absurd (omega (arith, same, less))) h) (λ f h. no_tie b a f lt (λ same. absurd (omega (arith, same, less))) h)
        (old_free.apart a b less) (own_or_old a lt) (own_or_old b b_in))
    | inr past ↦ ap (λ (es : List Entry). ties trees es (get_or lists b [])) (get_or_past lists a [] past)
  ]

  -- no conflict stands
  pub unconflicted : IsFree trees lists
  unconflicted = record { single = single; apart = apart }
