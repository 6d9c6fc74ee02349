-- A list of pools that is worked off until it is empty has flagged what is reached.
use Rattle.std.proofs.Common.{◌≡◌, ℕ, zero, suc, ◌+◌, ◌<◌, ◌≤◌, Bool, true, false, ◌||◌, List, [], ◌∷◌, ◌++◌, length, filter, nat_eq, refl, sym, ap, ◌∙◌, subst, inl, inr, arith, true≢false, eqb-true, eq-eqb, Some}
use Rattle.std.proofs.lemmas.Bool.{cases_Bool, cases_eq, or_cases, or_left, or_right, or_from, ne_eqb, false_from_ne_true}
use Rattle.std.proofs.lemmas.List.Elements.{All-pop}
use Rattle.std.specs.List.{list_any, range_with_len}
use Rattle.sl_types.specs.declared.kinds.PoolId.{PoolId}
use Rattle.sl_types.specs.Market.{Market, pool_numbers}
use Rattle.sl_types.specs.WellFormed.{IsWellFormed}
use Rattle.sl_laws.specs.Stable.{feeds}
use Rattle.sl_contend.specs.Contention.{fed_by, numbers_of_pools}
use Rattle.sl_amend.specs.Amended.{IsAmended}
use Rattle.sl_amend.specs.Cone.{feeds_in_either, is_reached}
use Rattle.sl_amend.proofs.Least.{feeds_in, reached_holds, reached_fed, reached_within}
use Rattle.sl_amend.specs.Flags.{is_flagged, is_listed, AreFlagged, HasGrown, HasFlaggedFed, IsSpreading}
use Rattle.sl_amend.proofs.Growing.{grown_on, flagged_in, listed_flagged, listed_push, one_is}

among_filter : (p : ℕ → Bool) (P a n : ℕ) → a ≤ P → P < a + n → p P ≡ true → list_any (λ Q. nat_eq Q P) (filter p (range_with_len a n)) ≡ true
among_filter p P a zero low high hit = absurd (omega (arith, low, high))
among_filter p P a (suc n) low high hit = elim (cases_eq a P) [
  | inl same ↦
      let on : p a ≡ true = ap p same ∙ hit in
      rw on (or_left (nat_eq a P) (list_any (λ Q. nat_eq Q P) (filter p (range_with_len (a + 1) n))) (eq-eqb a P same))
  | inr other ↦
      let rest = among_filter p P (a + 1) n (omega (arith, low, other)) (omega (arith, high)) hit in
      elim (cases_Bool (p a)) [
        | inl on ↦ rw on (or_right (nat_eq a P) (list_any (λ Q. nat_eq Q P) (filter p (range_with_len (a + 1) n))) rest)
        | inr off ↦ rw off rest
      ]
]

filter_passes : (p : ℕ → Bool) (P : ℕ) (xs : List ℕ) → list_any (λ Q. nat_eq Q P) (filter p xs) ≡ true → p P ≡ true
filter_passes p P [] h = absurd (true≢false (sym h))
filter_passes p P (x ∷ xs) h = elim (cases_Bool (p x)) [
  | inl on ↦
      let some : (nat_eq x P || list_any (λ Q. nat_eq Q P) (filter p xs)) ≡ true = rw on at h in
      elim (or_cases (nat_eq x P) (list_any (λ Q. nat_eq Q P) (filter p xs)) some) [
        | inl here ↦ ap p (sym (eqb-true x P here)) ∙ on
        | inr later ↦ filter_passes p P xs later
      ]
  | inr off ↦ filter_passes p P xs (rw off at h)
]

any_numbers : (P : ℕ) (pools : List PoolId) → is_listed pools P ≡ list_any (λ Q. nat_eq Q P) (numbers_of_pools pools)
any_numbers P [] = refl
any_numbers P (Q ∷ Qs) = ap (λ (b : Bool). nat_eq Q.0 P || b) (any_numbers P Qs)

-- the list of the pools that Q feeds has just these
fed_listed : (market : Market) → IsWellFormed market → (Q P : ℕ) (pools : List PoolId) → numbers_of_pools pools ≡ fed_by market Q → feeds market Q P ≡ true → is_listed pools P ≡ true
fed_listed market ok Q P pools is feed =
    let within = feeds_in market ok Q P feed in
    any_numbers P pools ∙ ap (λ (ns : List ℕ). list_any (λ R. nat_eq R P) ns) is ∙ among_filter (λ R. feeds market Q R) P 0 (length market.pools) (omega arith) (let P_in = within.1 in omega (arith, P_in)) feed

listed_fed : (market : Market) (Q P : ℕ) (pools : List PoolId) → numbers_of_pools pools ≡ fed_by market Q → is_listed pools P ≡ true → feeds market Q P ≡ true
listed_fed market Q P pools is h = filter_passes (λ R. feeds market Q R) P (pool_numbers market) (sym (ap (λ (ns : List ℕ). list_any (λ R. nat_eq R P) ns) is) ∙ sym (any_numbers P pools) ∙ h)

-- after the pools that Q feeds in both markets were flagged
pub fed_both : (old new : Market) → IsWellFormed old → IsWellFormed new → (flags mid later : List Bool) (todo next last old_fed new_fed : List PoolId) (Q : ℕ)
    → numbers_of_pools old_fed ≡ fed_by old Q → numbers_of_pools new_fed ≡ fed_by new Q
    → AreFlagged mid old_fed → HasGrown flags mid todo next (is_listed old_fed) → AreFlagged later new_fed → HasGrown mid later next last (is_listed new_fed)
    → HasFlaggedFed old new later Q × HasGrown flags later todo last (feeds_in_either old new Q)
fed_both old new old_ok new_ok flags mid later todo next last old_fed new_fed Q old_is new_is old_on first new_on second = (
  (λ P feed. elim (or_cases (feeds old Q P) (feeds new Q P) feed) [
    | inl before ↦ second.kept P (listed_flagged mid old_fed P old_on (fed_listed old old_ok Q P old_fed old_is before))
    | inr after ↦ listed_flagged later new_fed P new_on (fed_listed new new_ok Q P new_fed new_is after)
  ]),
  grown_on flags mid later todo next last (is_listed old_fed) (is_listed new_fed) (feeds_in_either old new Q)
      (λ P h. or_left (feeds old Q P) (feeds new Q P) (listed_fed old Q P old_fed old_is h))
      (λ P h. or_right (feeds old Q P) (feeds new Q P) (listed_fed new Q P new_fed new_is h)) first second,
)

module _ (old new : Market) (old_ok : IsWellFormed old) (new_ok : IsWellFormed new) (amended : IsAmended old new) (touched : List Bool) where
  pub spread_start : (todo : List PoolId) → length touched ≡ length old.pools → AreFlagged touched todo → ((P : ℕ) → is_flagged touched P ≡ true → is_listed todo P ≡ true) → IsSpreading old new touched touched todo
  spread_start todo each flagged listed = record {
    each = each;
    holds = λ P h. h;
    within = λ P h. reached_holds old new old_ok new_ok amended (is_flagged touched) P h;
    listed = flagged;
    spread = λ Q on off. absurd (true≢false (sym (listed Q on) ∙ off));
  }

  -- a pool at the end of the list is flagged
  own_flagged : (flags : List Bool) (rest : List PoolId) (p : PoolId) → AreFlagged flags (rest ++ p ∷ []) → is_flagged flags p.0 ≡ true
  own_flagged flags rest p all = listed_flagged flags (rest ++ p ∷ []) p.0 all (listed_push rest p p.0 ∙ or_right (is_listed rest p.0) (is_listed (p ∷ []) p.0) (one_is p p.0 refl))

  pub last_in : (flags : List Bool) (todo rest : List PoolId) (p : PoolId) → IsSpreading old new touched flags todo → todo ≡ rest ++ p ∷ [] → p.0 < length old.pools
  last_in flags todo rest p way is =
      let own = own_flagged flags rest p (subst (λ (Qs : List PoolId). AreFlagged flags Qs) is way.listed) in
      let within = flagged_in flags p.0 own in
      let each = way.each in
      omega (arith, within, each)

  turned : (flags later : List Bool) (rest next : List PoolId) (p : PoolId) → IsSpreading old new touched flags (rest ++ p ∷ [])
      → HasFlaggedFed old new later p.0 → HasGrown flags later rest next (feeds_in_either old new p.0) → IsSpreading old new touched later next
  turned flags later rest next p before fed grown =
      let own = own_flagged flags rest p before.listed in
      record {
        each = grown.each ∙ before.each;
        holds = λ P h. grown.kept P (before.holds P h);
        within = λ P h. elim (cases_Bool (is_flagged flags P)) [
          | inl was ↦ before.within P was
          | inr new_one ↦ reached_fed old new old_ok new_ok amended (is_flagged touched) p.0 P (before.within p.0 own) (grown.only P h new_one)
        ];
        listed = grown.listed (All-pop (λ Q. is_flagged flags Q.0 ≡ true) (rest ++ p ∷ []) rest (Some p) refl before.listed).0;
        spread = λ Q on off. elim (cases_Bool (is_flagged flags Q)) [
          | inr new_one ↦ absurd (true≢false (sym (grown.joins Q on new_one) ∙ off))
          | inl was ↦ elim (cases_eq p.0 Q) [
            | inl same ↦ λ P feed. fed P (subst (λ (R : ℕ). feeds_in_either old new R P ≡ true) (sym same) feed)
            | inr other ↦
                let not_rest = false_from_ne_true (is_listed rest Q) (λ h. true≢false (sym (grown.stays Q h) ∙ off)) in
                let nowhere = listed_push rest p Q ∙ or_from (is_listed rest Q) (is_listed (p ∷ []) Q) not_rest (or_from (nat_eq p.0 Q) false (ne_eqb p.0 Q other) refl) in
                λ P feed. grown.kept P (before.spread Q was nowhere P feed)
          ]
        ];
      }

  pub spread_turn : (flags later : List Bool) (todo rest next : List PoolId) (p : PoolId) → IsSpreading old new touched flags todo → todo ≡ rest ++ p ∷ []
      → HasFlaggedFed old new later p.0 → HasGrown flags later rest next (feeds_in_either old new p.0) → IsSpreading old new touched later next
  spread_turn flags later todo rest next p way is fed grown = turned flags later rest next p (subst (λ (Qs : List PoolId). IsSpreading old new touched flags Qs) is way) fed grown

  pub spread_end : (flags : List Bool) (todo : List PoolId) → IsSpreading old new touched flags todo → todo ≡ [] → (P : ℕ) → is_flagged flags P ≡ is_reached old new (is_flagged touched) P
  spread_end flags todo way none P = let done = subst (λ (Qs : List PoolId). IsSpreading old new touched flags Qs) none way in elim (cases_Bool (is_flagged flags P)) [
    | inl on ↦ on ∙ sym (done.within P on)
    | inr off ↦ off ∙ sym (false_from_ne_true (is_reached old new (is_flagged touched) P) (λ h.
        true≢false (sym (reached_within old new old_ok new_ok amended (is_flagged touched) (is_flagged flags) done.holds (λ Q R on feed. done.spread Q on refl R feed) P h) ∙ off)))
  ]
