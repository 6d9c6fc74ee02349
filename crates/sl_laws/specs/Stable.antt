-- Stable limits, justified raises, and pools that feed one another.
-- After Biró and Kiselgof (score limits with ties) and Biró and others 2010 (nested common quotas); the exact
-- conditions are this project's own.
use Rattle.std.specs.Prelude.{◌≡◌, ◌⊎◌, ℕ, ◌+◌, ◌-◌, ◌<◌, ◌≤◌, Bool, true, false, ◌&&◌, ◌||◌, not, List, [], ◌∷◌, length, nat_eq, HoldsAt}
use Rattle.std.specs.List.{list_any}
use Rattle.sl_types.specs.declared.kinds.Entry.{Entry}
use Rattle.sl_types.specs.declared.kinds.Rule.{Rule}
use Rattle.sl_types.specs.declared.kinds.Rule.TheVariants.{H, L, Merit}
use Rattle.sl_types.specs.Market.{Market, pool_of, chain_of, lies_in, quota_of, rule_of}
use Rattle.sl_laws.specs.Limits.{Limits, with_limit, greatest_of, effective_limit, count_in, demand, is_full, bar, capped_demand}

-- at the limit x more than the quota would be admitted
abbrev pub IsOverAt : Market → Limits → ℕ → ℕ → Type 0
IsOverAt market t P x = quota_of market P < demand market t P x

-- at the limit x the quota would be reached
abbrev pub IsReachedAt : Market → Limits → ℕ → ℕ → Type 0
IsReachedAt market t P x = quota_of market P ≤ demand market t P x

-- the H condition: no more than the quota are admitted; and the limit is 0, or at one less more than the quota would be
abbrev pub MeetsH : Market → Limits → ℕ → Type 0
MeetsH market l P =
    (demand market l P (l P) ≤ quota_of market P)
    × ((l P ≡ 0) ⊎ IsOverAt market l P (l P - 1))

-- the L condition: no more than the quota are admitted, or at one more the quota would not be reached;
-- and the limit is 0, or at one less there would be more than the quota while at the limit it is reached
abbrev pub MeetsL : Market → Limits → ℕ → Type 0
MeetsL market l P =
    ((demand market l P (l P) ≤ quota_of market P) ⊎ (demand market l P (l P + 1) < quota_of market P))
    × ((l P ≡ 0) ⊎ (IsOverAt market l P (l P - 1) × IsReachedAt market l P (l P)))

-- a pool that admits exactly its quota
abbrev pub IsFull : Market → Limits → ℕ → Type 0
IsFull market l P = is_full market l P ≡ true

-- the merit condition: no more than the quota are admitted, and the limit is the greatest bar of P and the pools
-- round it
abbrev pub MeetsMerit : Market → Limits → ℕ → Type 0
MeetsMerit market l P =
    (count_in market l P ≤ quota_of market P)
    × (l P ≡ greatest_of (bar market l) (chain_of market P))

-- the condition of a rule
abbrev pub Meets : Rule → Market → Limits → ℕ → Type 0
Meets H market l P = MeetsH market l P
Meets L market l P = MeetsL market l P
Meets Merit market l P = MeetsMerit market l P

-- limits that are their own effective limits, and meet each pool's condition
abbrev pub IsStable : Market → Limits → Type 0
IsStable market l =
    (P : ℕ) → P < length market.pools
    → (effective_limit market l P ≡ l P) × Meets (rule_of market P) market l P

-- stable, and at most every stable limits, pool by pool
abbrev pub IsLeastStable : Market → Limits → Type 0
IsLeastStable market l =
    IsStable market l
    × ((m : Limits) → IsStable market m → (P : ℕ) → P < length market.pools → l P ≤ m P)

-- whether the raise of P to x, with x at least 1, is justified by its rule
-- H: at one less, more than the quota would come. L: the same, and at x the quota would be reached
-- Merit: at x the capped demand reaches the quota, P's own number counting as 0
abbrev pub IsJustifiedBy : Rule → Market → Limits → ℕ → ℕ → Type 0
IsJustifiedBy H market t P x = IsOverAt market t P (x - 1)
IsJustifiedBy L market t P x = IsOverAt market t P (x - 1) × IsReachedAt market t P x
IsJustifiedBy Merit market t P x = quota_of market P ≤ capped_demand market (with_limit t P 0) P x

-- a raise to x is justified by the rule of its pool
abbrev pub IsJustified : Market → Limits → ℕ → ℕ → Type 0
IsJustified market t P x = IsJustifiedBy (rule_of market P) market t P x

-- the raise to one above the effective limit isn't justified
abbrev pub IsSettled : Market → Limits → ℕ → Type 0
IsSettled market t P = IsJustified market t P (effective_limit market t P + 1) → ⊥

-- whether a choice is in a pool
abbrev pub is_choice_in : Market → ℕ → Entry → Bool
is_choice_in market P e = lies_in market (pool_of market e) P

-- whether an applicant has a choice in Q, and that or a later one in P
abbrev pub leads : Market → ℕ → ℕ → List Entry → Bool
leads market Q P [] = false
leads market Q P (e ∷ es) =
    (is_choice_in market Q e && list_any (is_choice_in market P) (e ∷ es)) || leads market Q P es

-- whether Q feeds P: Q isn't P, and some applicant has a choice in Q, and that or a later one in P
abbrev pub feeds : Market → ℕ → ℕ → Bool
feeds market Q P = not (nat_eq Q P) && list_any (leads market Q P) market.lists

-- Q feeds P
abbrev pub Feeds : Market → ℕ → ℕ → Type 0
Feeds market Q P = feeds market Q P ≡ true

-- choice i of an applicant is in Q
abbrev pub HasChoiceIn : Market → ℕ → List Entry → ℕ → Type 0
HasChoiceIn market Q choices i = HoldsAt (λ e. is_choice_in market Q e ≡ true) choices i

-- an applicant has choices i and j, i at most j, with choice i in Q and choice j in P
abbrev pub HasInOrder : Market → ℕ → ℕ → List Entry → Type 0
HasInOrder market Q P choices =
    (i : ℕ) × (j : ℕ) × (i ≤ j) × (j < length choices)
    × HasChoiceIn market Q choices i × HasChoiceIn market P choices j
