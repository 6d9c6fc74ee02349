-- The flags of the touched pools, and the kept raises.
use Rattle.std.proofs.Common.{◌≡◌, ℕ, ◌<◌, Bool, true, false, ◌&&◌, ◌||◌, not, List, [], ◌∷◌, length, get_or, Option, Some, None, IfSome, All, filter, refl, sym, ap, ◌∙◌, inl, inr, arith, true≢false}
use Rattle.std.specs.Prelude.{option_map}
use Rattle.std.proofs.lemmas.Bool.{cases_lt, or_cases, or_left, or_right, and_parts, and_from, false_from_ne_true}
use Rattle.std.proofs.lemmas.List.{get_or_past}
use Rattle.std.specs.List.{list_any}
use Rattle.sl_types.specs.declared.kinds.AppId.{AppId}
use Rattle.sl_types.specs.Market.{Market, list_of}
use Rattle.sl_types.specs.Valid.{applicant_numbers}
use Rattle.sl_contend.specs.Contention.{has_choice_in}
use Rattle.sl_amend.specs.Amended.{Origins, is_origin, is_still, is_changed, applies_now, applies_in_either, is_touched_by_choice, is_touched, IsAmended, origins_of, AreOrigins}
use Rattle.sl_types.specs.declared.kinds.Raise.{Raise}
use Rattle.sl_types.specs.WellFormed.{IsWellFormed}
use Rattle.sl_laws.specs.Limits.{Limits}
use Rattle.sl_laws.specs.Raises.{EachRaise, after_raise}
use Rattle.std.proofs.lemmas.List.Elements.{All-nil, All-cons}
use Rattle.sl_amend.specs.Cone.{is_reached, is_in_cone, kept_raises}
use Rattle.sl_amend.proofs.Least.{touched_in}
use Rattle.sl_amend.proofs.Tested.{any_number, any_number_gives, same_tests, origin_is, is_the_origin}
use Rattle.sl_amend.specs.Flags.{is_flagged}
use Rattle.sl_amend.specs.Touched.{IsFlaggedBy, is_off, has_off, is_off_before, is_off_after, touched_by_quota}
use Rattle.sl_amend.proofs.Flagged.{flagged_on}

module _ (old new : Market) (origins : List (Option AppId)) (are : AreOrigins old origins) where
  abbrev origin : Origins
  origin = origins_of origins

  low_at : (o : Option AppId) (a : ℕ) → IfSome o (λ x. x.0 < length old.lists) → option_map (λ x. x.0) o ≡ Some a → a < length old.lists
  low_at None a low is = let no : None ≡ Some a = is in cc
  low_at (Some x) a low is = let same : Some x.0 ≡ Some a = is in let e : x.0 ≡ a = cc in omega (arith, low, e)

  -- an origin is an old applicant
  origin_low : (b a : ℕ) → origin b ≡ Some a → a < length old.lists
  origin_low b a is = elim (cases_lt b (length origins)) [
    | inl b_in ↦ low_at (get_or origins b None) a (are b None b_in) is
    | inr past ↦ let no : None ≡ Some a = sym (ap (option_map (λ (x : AppId). x.0)) (get_or_past origins b None past)) ∙ is in cc
  ]

  off_some : (still : List Bool) (o : Option ℕ) → has_off still o ≡ true → (a : ℕ) × (o ≡ Some a) × (is_off still a ≡ true)
  off_some still None h = absurd (true≢false (sym h))
  off_some still (Some a) h = (a, refl, h)

  module _ (still : List Bool) (known : (a : ℕ) → a < length old.lists → is_flagged still a ≡ list_any (is_still old new origin a) (applicant_numbers new)) where
    off_is : (a : ℕ) → a < length old.lists → is_off still a ≡ is_changed old new origin a
    off_is a a_in = ap not (known a a_in)

    to_flags : (P : ℕ) → is_touched_by_choice old new origin P ≡ true → (list_any (is_off_before old still P) (applicant_numbers old) || list_any (is_off_after new origin still P) (applicant_numbers new)) ≡ true
    to_flags P touched = any_number_gives (λ a. is_changed old new origin a && applies_in_either old new origin P a) (length old.lists) (λ a a_in both.
        let parts = and_parts (is_changed old new origin a) (applies_in_either old new origin P a) both in
        let off : is_off still a ≡ true = off_is a a_in ∙ parts.0 in
        elim (or_cases (has_choice_in old (list_of old a) P) (list_any (applies_now new origin P a) (applicant_numbers new)) parts.1) [
          | inl before ↦ or_left (list_any (is_off_before old still P) (applicant_numbers old)) (list_any (is_off_after new origin still P) (applicant_numbers new))
              (any_number (is_off_before old still P) (length old.lists) a a_in (and_from (is_off still a) (has_choice_in old (list_of old a) P) off before))
          | inr after ↦ or_right (list_any (is_off_before old still P) (applicant_numbers old)) (list_any (is_off_after new origin still P) (applicant_numbers new))
              (any_number_gives (applies_now new origin P a) (length new.lists) (λ b b_in now.
              let pair = and_parts (is_origin (origin b) a) (has_choice_in new (list_of new b) P) now in
              let has : has_off still (origin b) ≡ true = ap (has_off still) (origin_is (origin b) a pair.0) ∙ off in
              any_number (is_off_after new origin still P) (length new.lists) b b_in (and_from (has_off still (origin b)) (has_choice_in new (list_of new b) P) has pair.1)) after)
        ]) touched

    from_flags : (P : ℕ) → (list_any (is_off_before old still P) (applicant_numbers old) || list_any (is_off_after new origin still P) (applicant_numbers new)) ≡ true → is_touched_by_choice old new origin P ≡ true
    from_flags P flagged = elim (or_cases (list_any (is_off_before old still P) (applicant_numbers old)) (list_any (is_off_after new origin still P) (applicant_numbers new)) flagged) [
      | inl before ↦ any_number_gives (is_off_before old still P) (length old.lists) (λ a a_in both.
          let parts = and_parts (is_off still a) (has_choice_in old (list_of old a) P) both in
          touched_by a a_in parts.0 (or_left (has_choice_in old (list_of old a) P) (list_any (applies_now new origin P a) (applicant_numbers new)) parts.1)) before
      | inr after ↦ any_number_gives (is_off_after new origin still P) (length new.lists) (λ b b_in both.
          let parts = and_parts (has_off still (origin b)) (has_choice_in new (list_of new b) P) both in
          let found = off_some still (origin b) parts.0 in
          let a : ℕ = found.0 in
          touched_by a (origin_low b a found.1) found.2 (or_right (has_choice_in old (list_of old a) P) (list_any (applies_now new origin P a) (applicant_numbers new))
          (any_number (applies_now new origin P a) (length new.lists) b b_in (and_from (is_origin (origin b) a) (has_choice_in new (list_of new b) P) (is_the_origin (origin b) a found.1) parts.1)))) after
    ] where
      touched_by : (a : ℕ) → a < length old.lists → is_off still a ≡ true → applies_in_either old new origin P a ≡ true → is_touched_by_choice old new origin P ≡ true
      touched_by a a_in off either = any_number (λ a. is_changed old new origin a && applies_in_either old new origin P a) (length old.lists) a a_in
          (and_from (is_changed old new origin a) (applies_in_either old new origin P a) (sym (off_is a a_in) ∙ off) either)

    -- what is touched by choices is what the two passes flag
    choice_is : (P : ℕ) → is_touched_by_choice old new origin P ≡ (list_any (is_off_before old still P) (applicant_numbers old) || list_any (is_off_after new origin still P) (applicant_numbers new))
    choice_is P = same_tests (is_touched_by_choice old new origin P) (list_any (is_off_before old still P) (applicant_numbers old) || list_any (is_off_after new origin still P) (applicant_numbers new)) (to_flags P) (from_flags P)

    pub touched_flags : (n : ℕ) (flags one two three : List Bool) → IsFlaggedBy (λ P. list_any (is_off_before old still P) (applicant_numbers old)) n flags one
        → IsFlaggedBy (λ P. list_any (is_off_after new origin still P) (applicant_numbers new)) n one two → IsFlaggedBy (touched_by_quota old new) n two three → IsFlaggedBy (is_touched old new origin) n flags three
    touched_flags n flags one two three before after quota =
        flagged_on (is_touched_by_choice old new origin) (touched_by_quota old new) (is_touched old new origin) n flags two three
        (flagged_on (λ P. list_any (is_off_before old still P) (applicant_numbers old)) (λ P. list_any (is_off_after new origin still P) (applicant_numbers new)) (is_touched_by_choice old new origin) n flags one two before after choice_is)
        quota (λ P. refl)

-- the flags of the touched pools spread to the cone
pub cone_flags : (old new : Market) → IsWellFormed old → IsWellFormed new → IsAmended old new → (was : Origins) (flags touched later : List Bool) → ((P : ℕ) → is_flagged flags P ≡ false)
    → length touched ≡ length old.pools → IsFlaggedBy (is_touched old new was) (length old.pools) flags touched
    → ((P : ℕ) → is_flagged later P ≡ is_reached old new (is_flagged touched) P) → (P : ℕ) → is_flagged later P ≡ is_in_cone old new was P
cone_flags old new old_ok new_ok amended was flags touched later fresh each by reached P = reached P ∙ ap (λ (S : ℕ → Bool). is_reached old new S P) (λ i Q. agree Q i) where
  agree : (Q : ℕ) → is_flagged touched Q ≡ is_touched old new was Q
  agree Q = elim (cases_lt Q (length old.pools)) [
    | inl Q_in ↦ by Q Q_in ∙ ap (λ (b : Bool). b || is_touched old new was Q) (fresh Q)
    | inr past ↦
        let off : is_flagged touched Q ≡ false = get_or_past touched Q false (omega (arith, past, each)) in
        let out = false_from_ne_true (is_touched old new was Q) (λ h. let low = touched_in old new old_ok new_ok amended was Q h in omega (arith, low, past)) in
        off ∙ sym out
  ]

-- each raise of a list is of a pool
pub raises_in : (market : Market) (F : Limits → Raise → Type 0) (t : Limits) (c : List Raise) → EachRaise market F t c → All (λ r. r.pool.0 < length market.pools) c
raises_in market F t [] each = All-nil (λ (r : Raise). r.pool.0 < length market.pools)
raises_in market F t (r ∷ c) each = All-cons (λ (r : Raise). r.pool.0 < length market.pools) r c each.0 (raises_in market F (after_raise t r) c each.2)

-- the raises of pools that aren't flagged are the kept ones
pub kept_is : (old new : Market) (was : Origins) (flags given : List Bool) (c kept : List Raise) → ((P : ℕ) → is_flagged flags P ≡ is_in_cone old new was P) → given ≡ flags
    → kept ≡ filter (λ r. not (is_flagged given r.pool.0)) c → kept ≡ kept_raises old new was c
kept_is old new was flags given c kept cone same is =
    is ∙ ap (λ (l : List Bool). filter (λ r. not (is_flagged l r.pool.0)) c) same ∙ ap (λ (S : ℕ → Bool). filter (λ (r : Raise). not (S r.pool.0)) c) (λ i P. cone P i)
