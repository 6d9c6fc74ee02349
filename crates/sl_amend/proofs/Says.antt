-- The tests of an amendment say what the words say.
use Rattle.std.proofs.Common.{◌≡◌, ◌≢◌, ◌⊎◌, ℕ, true, ◌&&◌, List, [], ◌∷◌, length, map, nat_eq, get_or, arith, refl, sym, ◌∙◌, inl, inr, true≢false, eqb-true, eq-eqb, ne_eqb, ltb-true}
use Rattle.std.proofs.lemmas.Bool.{cases_Bool, or_cases, or_left, or_right, and_parts, and_from, not-true, not_from_true, not_from_false, lt-ltb}
use Rattle.std.proofs.lemmas.List.Folds.{list_any_at}
use Rattle.std.specs.List.{list_any, range_with_len}
use Rattle.sl_types.specs.declared.kinds.Entry.{Entry}
use Rattle.sl_types.specs.declared.kinds.Rule.{Rule}
use Rattle.sl_types.specs.declared.kinds.Rule.TheVariants.{H, L, Merit}
use Rattle.sl_types.specs.Market.{Market, quota_of, rule_of, list_of, chain_of, lies_in}
use Rattle.sl_types.proofs.Lists.{any_at}
use Rattle.sl_laws.specs.Stable.{is_choice_in}
use Rattle.sl_contend.specs.Contention.{has_choice_in}
use Rattle.sl_amend.specs.Amended.{Origins, is_origin, is_same_choice, are_same_choices, is_still, is_changed, applies_now, applies_in_either, is_touched_by_choice, are_in_one_tree, has_other_quota, is_touched_by_quota, is_touched}
use Rattle.sl_amend.specs.Words.{AreSameChoices, IsChanged, HasSomeIn, HasNewChoiceIn, IsTouchedByChoice, IsTouchedByQuota, IsTouched}
use Rattle.sl_amend.specs.Laws.{SameSays, ChangedSays, TouchedSays}
use Rattle.sl_amend.proofs.Tested.{any_number, any_number_gives, any_place, origin_is, is_the_origin}

no_choices : {C : Type 0} (f : Entry) (fs : List Entry) → AreSameChoices [] (f ∷ fs) → C
no_choices f fs same = let nil : [] ≡ f.prog.0 ∷ map (λ (e : Entry). e.prog.0) fs = same.0 in cc

no_choices' : {C : Type 0} (e : Entry) (es : List Entry) → AreSameChoices (e ∷ es) [] → C
no_choices' e es same = let nil : e.prog.0 ∷ map (λ (e : Entry). e.prog.0) es ≡ [] = same.0 in cc

same_words : (es fs : List Entry) → are_same_choices es fs ≡ true → AreSameChoices es fs
same_words [] [] h = (refl, refl)
same_words [] (f ∷ fs) h = absurd (true≢false (sym h))
same_words (e ∷ es) [] h = absurd (true≢false (sym h))
same_words (e ∷ es) (f ∷ fs) h =
    let parts = and_parts (is_same_choice e f) (are_same_choices es fs) h in
    let both = and_parts (nat_eq e.prog.0 f.prog.0) (nat_eq e.score f.score) parts.0 in
    let prog : e.prog.0 ≡ f.prog.0 = eqb-true e.prog.0 f.prog.0 both.0 in
    let score : e.score ≡ f.score = eqb-true e.score f.score both.1 in
    let rest = same_words es fs parts.1 in
    let progs : map (λ (e : Entry). e.prog.0) es ≡ map (λ (e : Entry). e.prog.0) fs = rest.0 in
    let scores : map (λ (e : Entry). e.score) es ≡ map (λ (e : Entry). e.score) fs = rest.1 in
    (cc, cc)

same_test : (es fs : List Entry) → AreSameChoices es fs → are_same_choices es fs ≡ true
same_test [] [] same = refl
same_test [] (f ∷ fs) same = no_choices f fs same
same_test (e ∷ es) [] same = no_choices' e es same
same_test (e ∷ es) (f ∷ fs) same =
    let progs : e.prog.0 ∷ map (λ (e : Entry). e.prog.0) es ≡ f.prog.0 ∷ map (λ (e : Entry). e.prog.0) fs = same.0 in
    let scores : e.score ∷ map (λ (e : Entry). e.score) es ≡ f.score ∷ map (λ (e : Entry). e.score) fs = same.1 in
    let prog : e.prog.0 ≡ f.prog.0 = cc in
    let score : e.score ≡ f.score = cc in
    let rest_progs : map (λ (e : Entry). e.prog.0) es ≡ map (λ (e : Entry). e.prog.0) fs = cc in
    let rest_scores : map (λ (e : Entry). e.score) es ≡ map (λ (e : Entry). e.score) fs = cc in
    and_from (is_same_choice e f) (are_same_choices es fs)
    (and_from (nat_eq e.prog.0 f.prog.0) (nat_eq e.score f.score) (eq-eqb e.prog.0 f.prog.0 prog) (eq-eqb e.score f.score score))
    (same_test es fs (rest_progs, rest_scores))

-- the same choices, as a test and in words
pub same_says : SameSays
same_says es fs = (same_words es fs, same_test es fs)

module _ (old new : Market) (was : Origins) where
  changed_words : (a : ℕ) → is_changed old new was a ≡ true → IsChanged old new was a
  changed_words a h b b_in is same =
      let none = not-true (list_any (is_still old new was a) (range_with_len 0 (length new.lists))) h in
      let still = and_from (is_origin (was b) a) (are_same_choices (list_of old a) (list_of new b)) (is_the_origin (was b) a is) (same_test (list_of old a) (list_of new b) same) in
      true≢false (sym (any_number (is_still old new was a) (length new.lists) b b_in still) ∙ none)

  changed_test : (a : ℕ) → IsChanged old new was a → is_changed old new was a ≡ true
  changed_test a changed = not_from_false (list_any (is_still old new was a) (range_with_len 0 (length new.lists))) (elim (cases_Bool (list_any (is_still old new was a) (range_with_len 0 (length new.lists)))) [
    | inr none ↦ none
    | inl some ↦ absurd (any_number_gives (is_still old new was a) (length new.lists) (λ b b_in still.
        let parts = and_parts (is_origin (was b) a) (are_same_choices (list_of old a) (list_of new b)) still in
        changed b b_in (origin_is (was b) a parts.0) (same_words (list_of old a) (list_of new b) parts.1)) some)
  ])

  applies_words : (market : Market) (P : ℕ) (choices : List Entry) → has_choice_in market choices P ≡ true → HasSomeIn market P choices
  applies_words market P choices h = any_place (is_choice_in market P) choices h

  applies_test : (market : Market) (P : ℕ) (choices : List Entry) → HasSomeIn market P choices → has_choice_in market choices P ≡ true
  applies_test market P [] has = absurd (let h = has.1 in omega (arith, h))
  applies_test market P (e ∷ es) has = list_any_at (is_choice_in market P) (e ∷ es) has.0 e has.1 (has.2 e)

  either_words : (P a : ℕ) → applies_in_either old new was P a ≡ true → HasSomeIn old P (list_of old a) ⊎ HasNewChoiceIn new was P a
  either_words P a h = elim (or_cases (has_choice_in old (list_of old a) P) (list_any (applies_now new was P a) (range_with_len 0 (length new.lists))) h) [
    | inl before ↦ inl (applies_words old P (list_of old a) before)
    | inr after ↦ inr (any_number_gives (applies_now new was P a) (length new.lists) (λ b b_in now.
        let parts = and_parts (is_origin (was b) a) (has_choice_in new (list_of new b) P) now in
        (b, b_in, origin_is (was b) a parts.0, applies_words new P (list_of new b) parts.1)) after)
  ]

  either_test : (P a : ℕ) → HasSomeIn old P (list_of old a) ⊎ HasNewChoiceIn new was P a → applies_in_either old new was P a ≡ true
  either_test P a (inl before) = or_left (has_choice_in old (list_of old a) P) (list_any (applies_now new was P a) (range_with_len 0 (length new.lists))) (applies_test old P (list_of old a) before)
  either_test P a (inr after) = or_right (has_choice_in old (list_of old a) P) (list_any (applies_now new was P a) (range_with_len 0 (length new.lists)))
      (any_number (applies_now new was P a) (length new.lists) after.0 after.1
      (and_from (is_origin (was after.0) a) (has_choice_in new (list_of new after.0) P) (is_the_origin (was after.0) a after.2) (applies_test new P (list_of new after.0) after.3)))

  choice_words : (P : ℕ) → is_touched_by_choice old new was P ≡ true → IsTouchedByChoice old new was P
  choice_words P h = any_number_gives (λ a. is_changed old new was a && applies_in_either old new was P a) (length old.lists) (λ a a_in both.
      let parts = and_parts (is_changed old new was a) (applies_in_either old new was P a) both in
      (a, a_in, changed_words a parts.0, either_words P a parts.1)) h

  choice_test : (P : ℕ) → IsTouchedByChoice old new was P → is_touched_by_choice old new was P ≡ true
  choice_test P touched = any_number (λ a. is_changed old new was a && applies_in_either old new was P a) (length old.lists) touched.0 touched.1
      (and_from (is_changed old new was touched.0) (applies_in_either old new was P touched.0) (changed_test touched.0 touched.2) (either_test P touched.0 touched.3))

  tree_words : (P Q : ℕ) → are_in_one_tree old P Q ≡ true → (R : ℕ) × (lies_in old P R ≡ true) × (lies_in old Q R ≡ true)
  tree_words P Q h =
      let at = any_place (λ R. lies_in old Q R) (chain_of old P) h in
      let R : ℕ = get_or (chain_of old P) at.0 0 in
      (R, list_any_at (λ S. nat_eq S R) (chain_of old P) at.0 0 at.1 (eq-eqb R R refl), at.2 0)

  tree_test : (P Q : ℕ) → (R : ℕ) × (lies_in old P R ≡ true) × (lies_in old Q R ≡ true) → are_in_one_tree old P Q ≡ true
  tree_test P Q tree = any_at (λ R. lies_in old Q R) tree.0 (chain_of old P) tree.1 tree.2

  other_words : (Q : ℕ) → has_other_quota old new Q ≡ true → quota_of new Q ≢ quota_of old Q
  other_words Q h e = true≢false (sym h ∙ not_from_true (nat_eq (quota_of new Q) (quota_of old Q)) (eq-eqb (quota_of new Q) (quota_of old Q) e))

  quota_words : (rule : Rule) (P : ℕ) → is_touched_by_quota rule old new P ≡ true → IsTouchedByQuota rule old new P
  quota_words H P h = ltb-true (quota_of old P) (quota_of new P) h
  quota_words L P h = ltb-true (quota_of old P) (quota_of new P) h
  quota_words Merit P h = any_number_gives (λ Q. are_in_one_tree old P Q && has_other_quota old new Q) (length old.pools) (λ Q Q_in both.
      let parts = and_parts (are_in_one_tree old P Q) (has_other_quota old new Q) both in
      (Q, Q_in, (tree_words P Q parts.0, other_words Q parts.1))) h

  quota_test : (rule : Rule) (P : ℕ) → IsTouchedByQuota rule old new P → is_touched_by_quota rule old new P ≡ true
  quota_test H P rose = lt-ltb (quota_of old P) (quota_of new P) rose
  quota_test L P rose = lt-ltb (quota_of old P) (quota_of new P) rose
  quota_test Merit P differs =
      let Q = differs.0 in
      any_number (λ Q. are_in_one_tree old P Q && has_other_quota old new Q) (length old.pools) Q differs.1
      (and_from (are_in_one_tree old P Q) (has_other_quota old new Q) (tree_test P Q differs.2.0) (not_from_false (nat_eq (quota_of new Q) (quota_of old Q)) (ne_eqb (quota_of new Q) (quota_of old Q) differs.2.1)))

-- an applicant is changed, as a test and in words
pub changed_says : (old new : Market) → ChangedSays old new
changed_says old new was a = (changed_words old new was a, changed_test old new was a)

-- a pool is touched, as a test and in words
pub touched_says : (old new : Market) → TouchedSays old new
touched_says old new was P = (
  (λ h. elim (or_cases (is_touched_by_choice old new was P) (is_touched_by_quota (rule_of old P) old new P) h) [
    | inl choice ↦ inl (choice_words old new was P choice)
    | inr quota ↦ inr (quota_words old new was (rule_of old P) P quota)
  ]),
  test,
)
  where
    test : IsTouched old new was P → is_touched old new was P ≡ true
    test (inl choice) = or_left (is_touched_by_choice old new was P) (is_touched_by_quota (rule_of old P) old new P) (choice_test old new was P choice)
    test (inr quota) = or_right (is_touched_by_choice old new was P) (is_touched_by_quota (rule_of old P) old new P) (quota_test old new was (rule_of old P) P quota)
