-- The choice that a row names, and its conflicts.
use Rattle.std.proofs.Common.{refl, ◌≡◌, ◌≢◌, ◌∙◌, ◌<◌, ◌&&◌, not, ℕ, Bool, true, false, cond, nat_eq, nat_lt, List, [], ◌∷◌, length, get_or, Option, Some, None, sym, ap, arith, inl, inr, true≢false, eq-eqb}
use Rattle.std.specs.Prelude.{find, option_and_then}
use Rattle.std.specs.List.{list_all, list_any, range_with_len}
use Rattle.std.proofs.lemmas.Bool.{cases_Bool, and_parts, not-true, ltb-true, ltb-false}
use Rattle.std.proofs.lemmas.List.{get_or_past}
use Rattle.std.proofs.lemmas.List.Folds.{list_any_at, list_all-map}
use Rattle.std.specs.declared.alloc.Global.{Global}
use Rattle.std.proofs.lemmas.List.FromFn.{get_or-range_with_len, length-range_with_len}
use Rattle.std.proofs.lemmas.List.Sums.{AllPass-from_list_all}
use Rattle.sl_types.specs.declared.kinds.Entry.{Entry}
use Rattle.sl_types.proofs.Alike.{nesting_alike}
use Rattle.sl_types.proofs.Rings.{found}
use Rattle.sl_codes.proofs.Lists.{differ as apart_numbers}
use Rattle.sl_codes.specs.Records.{Record}
use Rattle.sl_amend.specs.declared.register.Register.{Register}
use Rattle.sl_amend.specs.Causes.{subject_field}
use Rattle.sl_amend.specs.Conflicts.{is_tied_elsewhere, has_merit_of, is_contradicted_by, is_choice_where}
use Rattle.sl_amend.specs.DraftMarket.{DraftMarket, applicant_number, own_choices}
use Rattle.sl_amend.specs.Files.{choice_of_prog, choice_named, names_differing, names_tied, NamesNone}
use Rattle.sl_amend.specs.Merits.{is_contradicted, is_held_beyond, is_in_none}
use Rattle.sl_amend.specs.Register.{draft_of, IsRegister}
use Rattle.sl_amend.specs.Roll.{is_choice, lists_of, programmes}
use Rattle.sl_amend.proofs.Beyond.{IsTallied, beyond_none, beyond_some}
use Rattle.sl_amend.proofs.Counted.{fine_at}
use Rattle.sl_amend.proofs.Fine.{fine_parts}
use Rattle.sl_amend.proofs.OneTree.{IsFitted, same_test, scored_low, tie_is, differ_is}

-- what is found is one of them
found_fine : (q p : Entry → Bool) (xs : List Entry) (e : Entry) → find p xs ≡ Some e → list_all q xs ≡ true → q e ≡ true
found_fine q p [] e h fine = cc h
found_fine q p (x ∷ xs) e h fine =
    let parts = and_parts (q x) (list_all q xs) fine in
    elim (cases_Bool (p x)) [
      | inl k ↦ let is : Some x ≡ Some e = sym (ap (λ b. cond b (Some x) (find p xs)) k) ∙ h in let same : x ≡ e = cc is in ap q (sym same) ∙ parts.0
      | inr k ↦ found_fine q p xs e (sym (ap (λ b. cond b (Some x) (find p xs)) k) ∙ h) parts.1
    ]

picked_fine : (q : Entry → Bool) (b : Bool) (o : Option ℕ) (choices : List Entry) (e : Entry) → cond b (option_and_then (choice_of_prog choices) o) None ≡ Some e → list_all q choices ≡ true → q e ≡ true
picked_fine q true (Some g) choices e h fine = found_fine q (λ f. nat_eq f.prog.0 g) choices e h fine
picked_fine q true None choices e h fine = cc h
picked_fine q false o choices e h fine = cc h

pub named_fine : (q : Entry → Bool) (draft : DraftMarket) (row : Record) (e : Entry) → choice_named draft row ≡ Some e → list_all q (own_choices draft (subject_field row)) ≡ true → q e ≡ true
named_fine q draft row e h fine = picked_fine q _ _ (own_choices draft (subject_field row)) e h fine

pub fitted : (register : Register) → IsRegister register → IsFitted (draft_of register).named.market register.roll.merits.trees.items
fitted register h = record {
  parents = sym (nesting_alike register.pools.items register.progs.items (lists_of register.roll)) ∙ h.nested;
  trees_are = h.trees;
  in_order = h.roll.in_order;
}

pub each_fine : (register : Register) → IsRegister register → (b : ℕ) → list_all (is_choice (programmes register.roll.merits)) (get_or (lists_of register.roll) b []) ≡ true
each_fine register h b = elim (cases_Bool (nat_lt b (length (lists_of register.roll)))) [
  | inl e ↦
      (let lt = ltb-true b (length (lists_of register.roll)) e in
      (fine_parts (programmes register.roll.merits) (get_or (lists_of register.roll) b []) (fine_at _ _ _ _ _ b h.roll lt)).each)
  | inr e ↦ ap (list_all (is_choice (programmes register.roll.merits))) (get_or_past (lists_of register.roll) b [] (ltb-false b (length (lists_of register.roll)) e))
]

pub tallied : (register : Register) → IsRegister register → IsTallied register.roll.merits (programmes register.roll.merits) (lists_of register.roll)
tallied register h = record { held = h.roll.held; fine = each_fine register h }

-- another applicant has the merit of a choice exactly where more choices hold it
pub elsewhere_is : (register : Register) → IsRegister register → (a : ℕ) (e : Entry) → is_choice (programmes register.roll.merits) e ≡ true
    → is_held_beyond register.roll.merits (get_or (lists_of register.roll) a []) e ≡ is_tied_elsewhere (draft_of register).named.market a e
elsewhere_is register h a e fine =
    let market = (draft_of register).named.market in
    let merits = register.roll.merits in
    let lists = lists_of register.roll in
    let n = length lists in
    let low = scored_low (programmes merits) e fine in
    let tall = tallied register h in
    let is : (b : ℕ) → has_merit_of market e (get_or lists b []) ≡ _ = λ b. tie_is market merits.trees.items (fitted register h) e (get_or lists b []) fine (each_fine register h b) in
    let test : ℕ → Bool = λ b. not (nat_eq b a) && has_merit_of market e (get_or lists b []) in
    same_test (is_held_beyond merits (get_or lists a []) e) (list_any test (range_with_len 0 n))
    (λ more.
    let (b, ne, lt, some) = beyond_some merits (programmes merits) lists tall a e low more in
    let here : get_or (range_with_len 0 n) b 0 ≡ b = get_or-range_with_len 0 n b 0 lt ∙ omega arith in
    let inside : b < length (range_with_len 0 n) = omega (arith, lt, length-range_with_len 0 n) in
    let other : nat_eq b a ≡ false = apart_numbers b a (λ same. ne (sym same)) in
    let passes_b : test b ≡ true = rw other (is b ∙ some) in
    list_any_at test (range_with_len 0 n) b 0 inside (ap test here ∙ passes_b))
    (λ any. elim (cases_Bool (is_held_beyond merits (get_or lists a []) e)) [
      | inl k ↦ k
      | inr k ↦
          let (b, inside, passes_b) = found test 0 (range_with_len 0 n) any in
          let parts = and_parts (not (nat_eq (get_or (range_with_len 0 n) b 0) a)) (has_merit_of market e (get_or lists (get_or (range_with_len 0 n) b 0) [])) passes_b in
          let ne : a ≢ get_or (range_with_len 0 n) b 0 = λ same. not_equal (get_or (range_with_len 0 n) b 0) a parts.0 (sym same) in
          let none = beyond_none merits (programmes merits) lists tall a e low k (get_or (range_with_len 0 n) b 0) ne in
          absurd (true≢false (sym parts.1 ∙ is (get_or (range_with_len 0 n) b 0) ∙ none))
    ])
  where
    not_equal : (x y : ℕ) → not (nat_eq x y) ≡ true → x ≢ y
    not_equal x y k same = let e : nat_eq x y ≡ true = eq-eqb x y same in absurd (true≢false (sym k ∙ ap not e))

-- the choice that a row names is set against the others of its applicant
pub differs_named : (register : Register) → IsRegister register → (row : Record) (a : ℕ) (e : Entry) → choice_named (draft_of register) row ≡ Some e → applicant_number (draft_of register) (subject_field row) ≡ a
    → is_contradicted register.roll.merits.trees.items (get_or (lists_of register.roll) a []) e ≡ names_differing (draft_of register) row
differs_named register h row a e named number =
    let draft = draft_of register in
    let market = draft.named.market in
    let lists = lists_of register.roll in
    let own = get_or lists a [] in
    let trees = register.roll.merits.trees.items in
    let same : own_choices draft (subject_field row) ≡ own = ap (λ (n : ℕ). get_or lists n []) number in
    let fine : is_choice (programmes register.roll.merits) e ≡ true =
    named_fine (is_choice (programmes register.roll.merits)) draft row e named (ap (list_all (is_choice (programmes register.roll.merits))) same ∙ each_fine register h a) in
    sym (differ_is market trees (fitted register h) e own fine (each_fine register h a))
    ∙ sym (ap (λ (es : List Entry). is_contradicted_by market es e) same)
    ∙ sym (ap (λ (o : Option Entry). is_choice_where (is_contradicted_by market (own_choices draft (subject_field row))) o) named)

-- and against those of the other applicants
pub ties_named : (register : Register) → IsRegister register → (row : Record) (a : ℕ) (e : Entry) → choice_named (draft_of register) row ≡ Some e → applicant_number (draft_of register) (subject_field row) ≡ a
    → is_held_beyond register.roll.merits (get_or (lists_of register.roll) a []) e ≡ names_tied (draft_of register) row
ties_named register h row a e named number =
    let draft = draft_of register in
    let market = draft.named.market in
    let lists = lists_of register.roll in
    let same : own_choices draft (subject_field row) ≡ get_or lists a [] = ap (λ (n : ℕ). get_or lists n []) number in
    let fine : is_choice (programmes register.roll.merits) e ≡ true =
    named_fine (is_choice (programmes register.roll.merits)) draft row e named (ap (list_all (is_choice (programmes register.roll.merits))) same ∙ each_fine register h a) in
    elsewhere_is register h a e fine
    ∙ sym (ap (λ (n : ℕ). is_tied_elsewhere market n e) number)
    ∙ sym (ap (λ (o : Option Entry). is_choice_where (is_tied_elsewhere market (applicant_number draft (subject_field row))) o) named)

module _ (register : Register) (h : IsRegister register) (row : Record) where
  abbrev subject_number : ℕ
  subject_number = applicant_number (draft_of register) (subject_field row)

  abbrev subject_choices : List Entry
  subject_choices = get_or (lists_of register.roll) subject_number []

  -- where no choice of an applicant is in a conflict, a row names none of theirs that is
  none_named : (o : Option Entry) → choice_named (draft_of register) row ≡ o → is_in_none register.roll.merits subject_choices ≡ true
      → (names_differing (draft_of register) row ≡ false) × (names_tied (draft_of register) row ≡ false)
  none_named None named free = (
    ap (λ (o : Option Entry). is_choice_where (is_contradicted_by (draft_of register).named.market (own_choices (draft_of register) (subject_field row))) o) named,
    ap (λ (o : Option Entry). is_choice_where (is_tied_elsewhere (draft_of register).named.market subject_number) o) named,
  )
  none_named (Some e) named free =
      let differs = is_contradicted register.roll.merits.trees.items subject_choices in
      let ties = is_held_beyond register.roll.merits subject_choices in
      let test : Entry → Bool = λ e. not (differs e) && not (ties e) in
      let parts = and_parts (not (differs e)) (not (ties e)) (named_fine test (draft_of register) row e named free) in (
        sym (differs_named register h row subject_number e named refl) ∙ not-true (differs e) parts.0,
        sym (ties_named register h row subject_number e named refl) ∙ not-true (ties e) parts.1,
      )

-- where no choice is in a conflict, no row names one that is
pub names_none : (register : Register) → IsRegister register → list_all (is_in_none register.roll.merits) (lists_of register.roll) ≡ true → NamesNone (draft_of register)
names_none register h free row =
    let a = subject_number register h row in
    none_named register h row (choice_named (draft_of register) row) refl
    (elim (cases_Bool (nat_lt a (length (lists_of register.roll)))) [
      | inl e ↦ AllPass-from_list_all (is_in_none register.roll.merits) (lists_of register.roll) free a [] (ltb-true a (length (lists_of register.roll)) e)
      | inr e ↦ ap (is_in_none register.roll.merits) (get_or_past (lists_of register.roll) a [] (ltb-false a (length (lists_of register.roll)) e))
    ])
