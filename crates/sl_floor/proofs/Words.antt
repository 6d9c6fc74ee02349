-- The words of the table as the words of a state, and sums over views.
use Rattle.std.proofs.Common.{◌≡◌, ◌≢◌, ◌⊎◌, ℕ, zero, suc, ◌+◌, ◌<◌, ◌≤◌, false, List, [], ◌∷◌, length, map, get_or, set, sum_by, refl, sym, ap, ◌∙◌, inl, inr, arith, length-append, length-set, get_or-set_other}
use Rattle.std.proofs.lemmas.Bool.{cases_eq}
use Rattle.std.proofs.lemmas.Grind.{get_or-set_at}
use Rattle.std.proofs.lemmas.List.FromFn.{get_or-map-range_with_len, length-map-range_with_len}
use Rattle.std.proofs.lemmas.List.Sums.{sum_by-set}
use mathlib.Core.Option.{some, some-injective, some-ne-none}
use lib.ListN.{get_elem?}
use Rattle.sl_types.specs.declared.kinds.Raise.{Raise}
use Rattle.sl_types.specs.declared.kinds.TheConstants.{MAX_SCORE}
use Rattle.sl_types.specs.Market.{Market}
use Rattle.sl_types.specs.WellFormed.{IsWellFormed}
use Rattle.sl_laws.specs.Limits.{Limits}
use Rattle.sl_laws.specs.Stable.{IsJustified}
use Rattle.sl_laws.specs.Raises.{IsVoid, EachRaise, after_raise, after_raises}
use Rattle.sl_laws.proofs.Least.{raised_at}
use Rattle.sl_laws.proofs.Nest.{limit_le}
use Rattle.sl_laws.proofs.Top.{justified_has_top}
use Rattle.sl_core.specs.State.{Actor, State}
use Rattle.sl_core.specs.Parts.{HasParts}
use Rattle.sl_core.proofs.Filling.{same_by_each}
use Rattle.sl_floor.specs.Floor.{Sitting, word_count, limit_place, flag_place, is_up}
use Rattle.sl_floor.specs.Rule.{limit_words, flag_words, seated}

module _ (market : Market) (words : List ℕ) (wide : length words ≡ word_count market) where
  pub limit_at : (Q : ℕ) → Q < length market.pools → get_or (limit_words market words) Q 0 ≡ get_or words (limit_place Q) 0
  limit_at Q h = get_or-map-range_with_len (λ R. get_or words (limit_place R) 0) 0 (length market.pools) Q Q 0 h (omega arith)

  pub limits_long : length (limit_words market words) ≡ length market.pools
  limits_long = length-map-range_with_len (λ R. get_or words (limit_place R) 0) 0 (length market.pools)

  pub flag_at : (Q : ℕ) → Q < length market.pools → get_or (flag_words market words) Q false ≡ is_up (get_or words (flag_place market Q) 0)
  flag_at Q h = get_or-map-range_with_len (λ R. is_up (get_or words (flag_place market R) 0)) 0 (length market.pools) Q Q false h (omega arith)

  pub flags_long : length (flag_words market words) ≡ length market.pools
  flags_long = length-map-range_with_len (λ R. is_up (get_or words (flag_place market R) 0)) 0 (length market.pools)

-- one word that changes
module _ (market : Market) (words : List ℕ) (wide : length words ≡ word_count market) (i x : ℕ) where
  abbrev after : List ℕ
  after = set words i x

  after_wide : length after ≡ word_count market
  after_wide = length-set words i x ∙ wide

  pub limits_else : ((Q : ℕ) → Q < length market.pools → limit_place Q ≢ i) → limit_words market after ≡ limit_words market words
  limits_else other = same_by_each (limit_words market after) (limit_words market words) 0 (limits_long market after after_wide ∙ sym (limits_long market words wide))
      (λ k h. let n = limits_long market after after_wide in let inside : k < length market.pools = omega (arith, h, n) in
      limit_at market after after_wide k inside ∙ (get_or-set_other words i (limit_place k) x 0 (other k inside) ∙ sym (limit_at market words wide k inside)))

  pub flags_else : ((Q : ℕ) → Q < length market.pools → flag_place market Q ≢ i) → flag_words market after ≡ flag_words market words
  flags_else other = same_by_each (flag_words market after) (flag_words market words) false (flags_long market after after_wide ∙ sym (flags_long market words wide))
      (λ k h. let n = flags_long market after after_wide in let inside : k < length market.pools = omega (arith, h, n) in
      flag_at market after after_wide k inside ∙ (ap is_up (get_or-set_other words i (flag_place market k) x 0 (other k inside)) ∙ sym (flag_at market words wide k inside)))

  pub limits_set : (Q : ℕ) → Q < length market.pools → i ≡ limit_place Q → limit_words market after ≡ set (limit_words market words) Q x
  limits_set Q in_Q is = same_by_each (limit_words market after) (set (limit_words market words) Q x) 0
      (limits_long market after after_wide ∙ sym (length-set (limit_words market words) Q x ∙ limits_long market words wide))
      (λ k h. let n = limits_long market after after_wide in let inside : k < length market.pools = omega (arith, h, n) in let long = limits_long market words wide in
      limit_at market after after_wide k inside ∙ elim (cases_eq k Q) [
        | inl same ↦ get_or-set_at words i (limit_place k) x 0 (omega (arith, same, is)) (omega (arith, wide, in_Q, is)) ∙ sym (get_or-set_at (limit_words market words) Q k x 0 same (omega (arith, long, in_Q)))
        | inr other ↦ get_or-set_other words i (limit_place k) x 0 (λ e. other (omega (arith, e, is))) ∙ (sym (limit_at market words wide k inside) ∙ sym (get_or-set_other (limit_words market words) Q k x 0 other))
      ])

  pub flags_set : (Q : ℕ) → Q < length market.pools → i ≡ flag_place market Q → flag_words market after ≡ set (flag_words market words) Q (is_up x)
  flags_set Q in_Q is = same_by_each (flag_words market after) (set (flag_words market words) Q (is_up x)) false
      (flags_long market after after_wide ∙ sym (length-set (flag_words market words) Q (is_up x) ∙ flags_long market words wide))
      (λ k h. let n = flags_long market after after_wide in let inside : k < length market.pools = omega (arith, h, n) in let long = flags_long market words wide in
      flag_at market after after_wide k inside ∙ elim (cases_eq k Q) [
        | inl same ↦ ap is_up (get_or-set_at words i (flag_place market k) x 0 (omega (arith, same, is)) (omega (arith, wide, in_Q, is))) ∙ sym (get_or-set_at (flag_words market words) Q k (is_up x) false same (omega (arith, long, in_Q)))
        | inr other ↦ ap is_up (get_or-set_other words i (flag_place market k) x 0 (λ e. other (omega (arith, e, is)))) ∙ (sym (flag_at market words wide k inside) ∙ sym (get_or-set_other (flag_words market words) Q k (is_up x) false other))
      ])

-- a view at its place
pub at_within : {A : Type 0} (xs : List A) (k : ℕ) (a : A) → get_elem? xs k ≡ some a → k < length xs
at_within [] k a e = absurd (some-ne-none a (sym e))
at_within (x ∷ xs) zero a e = omega arith
at_within (x ∷ xs) (suc k) a e = let rest = at_within xs k a e in omega (arith, rest)

pub at_get : {A : Type 0} (xs : List A) (k : ℕ) (a d : A) → get_elem? xs k ≡ some a → get_or xs k d ≡ a
at_get [] k a d e = absurd (some-ne-none a (sym e))
at_get (x ∷ xs) zero a d e = some-injective x a e
at_get (x ∷ xs) (suc k) a d e = at_get xs k a d e

pub map_get : {A B : Type 0} (f : A → B) (xs : List A) (k : ℕ) (a : A) (d : B) → get_elem? xs k ≡ some a → get_or (map f xs) k d ≡ f a
map_get f [] k a d e = absurd (some-ne-none a (sym e))
map_get f (x ∷ xs) zero a d e = ap f (some-injective x a e)
map_get f (x ∷ xs) (suc k) a d e = map_get f xs k a d e

pub map_within : {A B : Type 0} (f : A → B) (xs : List A) (k : ℕ) (a : A) → get_elem? xs k ≡ some a → k < length (map f xs)
map_within f [] k a e = absurd (some-ne-none a (sym e))
map_within f (x ∷ xs) zero a e = omega arith
map_within f (x ∷ xs) (suc k) a e = let rest = map_within f xs k a e in omega (arith, rest)

pub sum_set : (f : Sitting → ℕ) (views : List Sitting) (id : ℕ) (v w : Sitting) → get_elem? views id ≡ some v → sum_by f (set views id w) + f v ≡ sum_by f views + f w
sum_set f views id v w at =
    let sums = sum_by-set f views id w v (at_within views id v at) in
    let same : f (get_or views id v) ≡ f v = ap f (at_get views id v v at) in
    omega (arith, sums, same)

-- the actor of a seat that has a share
pub seated_is : (market : Market) (share : ℕ) (a : Actor) → 0 < share → seated market share a ≡ a
seated_is market zero a some' = absurd (omega (arith, some'))
seated_is market (suc share) a some' = refl

-- no sound list reaches more than one point above the greatest score
pub reached_top : (market : Market) → IsWellFormed market → (t : Limits) (c : List Raise) → ((Q : ℕ) → t Q ≤ MAX_SCORE + 1) → EachRaise market (λ u r. IsVoid market u r ⊎ IsJustified market u r.pool.0 r.limit) t c
    → (Q : ℕ) → after_raises t c Q ≤ MAX_SCORE + 1
reached_top market ok t [] low each Q = low Q
reached_top market ok t (r ∷ c) low each Q =
    let top : r.limit ≤ MAX_SCORE + 1 = elim each.1 [
      | inl void ↦ let all = limit_le market t r.pool.0 (MAX_SCORE + 1) (λ R h. low R) in omega (arith, void, all)
      | inr just ↦ justified_has_top market ok t r.pool.0 r.limit each.0 just
    ] in
    let here = low r.pool.0 in
    reached_top market ok (after_raise t r) c (raised_at (λ R n. n ≤ MAX_SCORE + 1) t r low (omega (arith, here, top))) each.2 Q

-- the ticket number is no less than the number of kept raises
pub kept_low : (market : Market) (kept : List Raise) (s : State) → HasParts market kept s → length kept ≤ s.ticket
kept_low market kept s parts =
    let front = parts.front in
    let long = ap length front.1 in
    let both = length-append kept front.0 in
    let count = parts.in_order.count in omega (arith, long, both, count)
