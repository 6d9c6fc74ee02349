-- The cone is the least set that holds the touched pools and is closed under feeding.
use Rattle.std.proofs.Common.{◌≡◌, ℕ, Bool, ◌<◌, true, false, [], length, get_or, All, ap, subst, inl, inr, arith, true≢false, ◌∙◌, sym}
use Rattle.std.proofs.lemmas.Bool.{cases_Bool, cases_lt, or_cases, or_left}
use Rattle.sl_types.specs.declared.kinds.Entry.{Entry}
use Rattle.sl_types.specs.declared.kinds.Pool.{Pool}
use Rattle.sl_types.specs.declared.kinds.Rule.{Rule}
use Rattle.sl_types.specs.Market.{Market, list_of, pool_of, pool_at, no_pool, quota_of}
use Rattle.sl_amend.specs.Words.{IsTouchedByQuota}
use Rattle.sl_amend.proofs.Says.{touched_says}
use Rattle.std.proofs.lemmas.List.{get_or_past}
use Rattle.sl_types.specs.WellFormed.{IsWellFormed}
use Rattle.sl_laws.specs.Stable.{feeds, Feeds}
use Rattle.sl_laws.proofs.Feeding.{feeds_says}
use Rattle.sl_laws.proofs.Fits.{round_in}
use Rattle.sl_amend.specs.Amended.{Origins, IsAmended, is_touched}
use Rattle.sl_amend.specs.Cone.{feeds_in_either, IsCone, is_reached, is_in_cone}
use Rattle.sl_amend.specs.Laws.{ConeIsLeast}
use Rattle.sl_amend.proofs.Spread.{spread_shut, spread_holds, spread_within}

abbrev pub no_entry : Entry
no_entry = record { place = 0; prog = record { 0 = 0 }; score = 0 }

-- pools that feed, and pools that are fed, are pools of the list
pub feeds_in : (market : Market) → IsWellFormed market → (Q P : ℕ) → Feeds market Q P → (Q < length market.pools) × (P < length market.pools)
feeds_in market ok Q P feed =
    let says = (feeds_says market Q P).0 feed in
    let a = says.1.0 in
    let t = says.1.2 in
    let inside : All (λ e. pool_of market e < length market.pools) (list_of market a) = ok.choices a [] says.1.1 in
    let i = t.0 in
    let j = t.1 in
    let i_in : i < length (list_of market a) = (let low = t.2 in let high = t.3 in omega (arith, low, high)) in (
      round_in market ok (pool_of market (get_or (list_of market a) i no_entry)) Q (t.4 no_entry) (inside i no_entry i_in),
      round_in market ok (pool_of market (get_or (list_of market a) j no_entry)) P (t.5 no_entry) (inside j no_entry t.3),
    )

module _ (old new : Market) (old_ok : IsWellFormed old) (new_ok : IsWellFormed new) (amended : IsAmended old new) where
  -- so are pools of which one feeds the other in either market
  pub either_in : (Q P : ℕ) → feeds_in_either old new Q P ≡ true → (Q < length old.pools) × (P < length old.pools)
  either_in Q P feed = elim (or_cases (feeds old Q P) (feeds new Q P) feed) [
    | inl before ↦ feeds_in old old_ok Q P before
    | inr after ↦ let both = feeds_in new new_ok Q P after in let each = amended.each in (omega (arith, both.0, each), omega (arith, both.1, each))
  ]

  -- what is reached holds the set, is closed under feeding, and is within each closed set that holds it
  pub reached_holds : (S : ℕ → Bool) (P : ℕ) → S P ≡ true → is_reached old new S P ≡ true
  unfolding is_reached
  reached_holds S P h = spread_holds (feeds_in_either old new) (length old.pools) S (length old.pools) P h

  pub reached_fed : (S : ℕ → Bool) (Q P : ℕ) → is_reached old new S Q ≡ true → feeds_in_either old new Q P ≡ true → is_reached old new S P ≡ true
  unfolding is_reached
  reached_fed S Q P at_Q feed = let both = either_in Q P feed in spread_shut (feeds_in_either old new) (length old.pools) S Q P both.0 both.1 at_Q feed

  pub reached_within : (S T : ℕ → Bool) → ((P : ℕ) → S P ≡ true → T P ≡ true) → ((Q P : ℕ) → T Q ≡ true → feeds_in_either old new Q P ≡ true → T P ≡ true)
      → (P : ℕ) → is_reached old new S P ≡ true → T P ≡ true
  unfolding is_reached
  reached_within S T holds fed P h = spread_within (feeds_in_either old new) (length old.pools) S T holds fed (length old.pools) P h

  module _ (was : Origins) where
    pub is_cone : IsCone old new was (is_in_cone old new was)
    is_cone = record {
      shut = record {
        touched = reached_holds (is_touched old new was);
        fed = reached_fed (is_touched old new was);
      };
      least = λ T shut P at_P. reached_within (is_touched old new was) T shut.touched shut.fed P at_P;
    }

    -- a pool outside the cone isn't touched
    pub outside_untouched : (P : ℕ) → is_in_cone old new was P ≡ false → is_touched old new was P ≡ false
    outside_untouched P out = elim (cases_Bool (is_touched old new was P)) [
      | inl touched ↦ absurd (true≢false (sym (is_cone.shut.touched P touched) ∙ out))
      | inr not_so ↦ not_so
    ]

    -- what feeds a pool outside the cone is outside too
    pub outside_fed : (Q P : ℕ) → is_in_cone old new was P ≡ false → Feeds old Q P → is_in_cone old new was Q ≡ false
    outside_fed Q P out feed = elim (cases_Bool (is_in_cone old new was Q)) [
      | inl at_Q ↦ absurd (true≢false (sym (is_cone.shut.fed Q P at_Q (or_left (feeds old Q P) (feeds new Q P) feed)) ∙ out))
      | inr not_so ↦ not_so
    ]

-- the cone is the least set that holds the touched pools and is closed under feeding
pub cone_is_least : (old new : Market) → IsWellFormed old → IsWellFormed new → ConeIsLeast old new
cone_is_least old new old_ok new_ok amended was = is_cone old new old_ok new_ok amended was

-- a touched pool is a pool of the list
pub touched_in : (old new : Market) → IsWellFormed old → IsWellFormed new → IsAmended old new → (was : Origins) (P : ℕ) → is_touched old new was P ≡ true → P < length old.pools
touched_in old new old_ok new_ok amended was P touched = elim ((touched_says old new was P).0 touched) [
  | inl choice ↦ elim choice.3 [
    | inl before ↦
        let inside : All (λ e. pool_of old e < length old.pools) (list_of old choice.0) = old_ok.choices choice.0 [] choice.1 in
        round_in old old_ok (pool_of old (get_or (list_of old choice.0) before.0 no_entry)) P (before.2 no_entry) (inside before.0 no_entry before.1)
    | inr after ↦
        let inside : All (λ e. pool_of new e < length new.pools) (list_of new after.0) = new_ok.choices after.0 [] after.1 in
        let has = after.3 in
        let within = round_in new new_ok (pool_of new (get_or (list_of new after.0) has.0 no_entry)) P (has.2 no_entry) (inside has.0 no_entry has.1) in
        let each = amended.each in
        omega (arith, within, each)
  ]
  | inr quota ↦ elim (cases_lt P (length old.pools)) [
    | inl P_in ↦ P_in
    | inr past ↦
        let each = amended.each in
        let before : pool_at old P ≡ no_pool = get_or_past old.pools P no_pool past in
        let after : pool_at new P ≡ no_pool = get_or_past new.pools P no_pool (omega (arith, past, each)) in
        let rose : quota_of old P < quota_of new P = subst (λ (rule : Rule). IsTouchedByQuota rule old new P) (ap (λ (p : Pool). p.rule) before) quota in
        let a : quota_of old P ≡ 0 = ap (λ (p : Pool). p.quota) before in
        let b : quota_of new P ≡ 0 = ap (λ (p : Pool). p.quota) after in
        absurd (omega (arith, rose, a, b))
  ]
]
