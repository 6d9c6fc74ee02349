-- Worked examples, by computation: that the definitions say of them what they should. Nothing rests on this file.
use Rattle.std.proofs.Common.{◌≡◌, ◌+◌, ℕ, zero, suc, ◌<◌, List, [], ◌∷◌, get_or, Option, Some, None, refl, lit<, lit≤, arith, inl, inr}
use Rattle.sl_types.specs.declared.kinds.Pool.{Pool}
use Rattle.sl_types.specs.declared.kinds.PoolId.{PoolId}
use Rattle.sl_types.specs.declared.kinds.Entry.{Entry}
use Rattle.sl_types.specs.declared.kinds.Raise.{Raise}
use Rattle.sl_types.specs.declared.kinds.Rule.{Rule}
use Rattle.sl_types.specs.declared.kinds.Rule.TheVariants.{H, L, Merit}
use Rattle.sl_types.specs.declared.kinds.TheConstants.{MAX_SCORE}
use Rattle.sl_types.specs.Market.{Market, pool_at, climb, chain_of}
use Rattle.sl_types.specs.Valid.{IsValid}
use Rattle.sl_laws.specs.Limits.{Limits, effective_limit, count_in, capped_demand}
use Rattle.sl_laws.specs.Stable.{IsStable, IsLeastStable, IsJustified, IsSettled, MeetsL}
use Rattle.sl_laws.specs.Raises.{Proves, zeros, limits_after}
use Rattle.sl_laws.specs.Laws.{IsRelaxedPool, IsRelaxed}

abbrev score_pool : Rule → ℕ → Pool
score_pool rule q = record { quota = q; parent = None; rule = rule }

abbrev merit_pool : ℕ → Option PoolId → Pool
merit_pool q parent = record { quota = q; parent = parent; rule = Merit }

abbrev p : ℕ → PoolId
p n = record { 0 = n }

abbrev choice : ℕ → ℕ → ℕ → Entry
choice place prog score = record { place = place; prog = record { 0 = prog }; score = score }

abbrev raise : ℕ → ℕ → Raise
raise P x = record { pool = record { 0 = P }; limit = x }

abbrev limits : List ℕ → Limits
limits xs P = get_or xs P 0

-- both prefer the first
abbrev both_prefer : Market
both_prefer = record {
  pools = score_pool H 1 ∷ score_pool H 1 ∷ [];
  progs = p 0 ∷ p 1 ∷ [];
  lists = (choice 1 0 10 ∷ choice 2 1 10 ∷ []) ∷ (choice 1 0 8 ∷ choice 2 1 8 ∷ []) ∷ (choice 1 1 9 ∷ []) ∷ [];
}

both_prefer_stable : IsStable both_prefer (limits (9 ∷ 9 ∷ []))
unfolding chain_of
both_prefer_stable zero h = (refl, (lit≤ tt, inr (lit< tt)))
both_prefer_stable (suc zero) h = (refl, (lit≤ tt, inr (lit< tt)))
both_prefer_stable (suc (suc P)) h = absurd (omega arith)

-- displaced twice
abbrev displaced_twice : Market
displaced_twice = record {
  pools = score_pool H 1 ∷ score_pool H 1 ∷ [];
  progs = p 0 ∷ p 1 ∷ [];
  lists = (choice 1 0 10 ∷ choice 2 1 10 ∷ []) ∷ (choice 1 1 9 ∷ choice 2 0 12 ∷ []) ∷ (choice 1 1 11 ∷ []) ∷ [];
}

displaced_twice_proves : Proves displaced_twice (raise 1 10 ∷ raise 0 11 ∷ raise 1 11 ∷ []) (limits (11 ∷ 11 ∷ []))
unfolding chain_of
displaced_twice_proves = ((lit< tt, (lit< tt, lit< tt), (lit< tt, (lit< tt, lit< tt), (lit< tt, (lit< tt, lit< tt), tt))), settled) where
  settled : (P : ℕ) → P < 2 → IsSettled displaced_twice (limits_after (raise 1 10 ∷ raise 0 11 ∷ raise 1 11 ∷ [])) P × (effective_limit displaced_twice (limits_after (raise 1 10 ∷ raise 0 11 ∷ raise 1 11 ∷ [])) P ≡ limits (11 ∷ 11 ∷ []) P)
  settled zero h = ((λ j. omega arith), refl)
  settled (suc zero) h = ((λ j. omega arith), refl)
  settled (suc (suc P)) h = absurd (omega arith)

-- nested pools: R of quota 2, and in it C of quota 1 and D of quota 2
abbrev nested : Market
nested = record {
  pools = merit_pool 2 None ∷ merit_pool 1 (Some (p 0)) ∷ merit_pool 2 (Some (p 0)) ∷ [];
  progs = p 1 ∷ p 2 ∷ [];
  lists = (choice 1 0 9 ∷ []) ∷ (choice 1 0 8 ∷ []) ∷ (choice 1 1 7 ∷ []) ∷ (choice 1 1 6 ∷ []) ∷ [];
}

nested_stable : IsStable nested (limits (7 ∷ 9 ∷ 7 ∷ []))
unfolding chain_of
nested_stable zero h = (refl, (lit≤ tt, refl))
nested_stable (suc zero) h = (refl, (lit≤ tt, refl))
nested_stable (suc (suc zero)) h = (refl, (lit≤ tt, refl))
nested_stable (suc (suc (suc P))) h = absurd (omega arith)

nested_demand : capped_demand nested zeros 0 8 ≡ 1
unfolding capped_demand chain_of
nested_demand = refl

nested_demand' : capped_demand nested zeros 0 7 ≡ 2
unfolding capped_demand chain_of
nested_demand' = refl

-- a crossing tie, by rule H and by rule L
abbrev crossing_tie : Rule → Market
crossing_tie rule = record {
  pools = score_pool rule 1 ∷ [];
  progs = p 0 ∷ [];
  lists = (choice 1 0 10 ∷ []) ∷ (choice 1 0 10 ∷ []) ∷ (choice 1 0 5 ∷ []) ∷ [];
}

tie_proves : Proves (crossing_tie H) (raise 0 11 ∷ []) (limits (11 ∷ []))
unfolding chain_of
tie_proves = ((lit< tt, (lit< tt, lit< tt), tt), settled) where
  settled : (P : ℕ) → P < 1 → IsSettled (crossing_tie H) (limits_after (raise 0 11 ∷ [])) P × (effective_limit (crossing_tie H) (limits_after (raise 0 11 ∷ [])) P ≡ limits (11 ∷ []) P)
  settled zero h = ((λ j. omega arith), refl)
  settled (suc P) h = absurd (omega arith)

tie_counts : count_in (crossing_tie H) (limits (11 ∷ [])) 0 ≡ 0
unfolding chain_of
tie_counts = refl

tie_proves_l : Proves (crossing_tie L) (raise 0 10 ∷ []) (limits (10 ∷ []))
unfolding chain_of
tie_proves_l = ((lit< tt, (lit< tt, (lit< tt, lit≤ tt)), tt), settled) where
  settled : (P : ℕ) → P < 1 → IsSettled (crossing_tie L) (limits_after (raise 0 10 ∷ [])) P × (effective_limit (crossing_tie L) (limits_after (raise 0 10 ∷ [])) P ≡ limits (10 ∷ []) P)
  settled zero h = ((λ j. let k = j.1 in omega arith), refl)
  settled (suc P) h = absurd (omega arith)

tie_counts_l : count_in (crossing_tie L) (limits (10 ∷ [])) 0 ≡ 2
unfolding chain_of
tie_counts_l = refl

-- 11 isn't stable under L
tie_unstable_l : MeetsL (crossing_tie L) (limits (11 ∷ [])) 0 → ⊥
unfolding chain_of
tie_unstable_l (fits, inl z) = absurd (omega (arith, z))
tie_unstable_l (fits, inr j) = absurd (omega (arith, j.1))

-- by rule L it is the instance by rule H relaxed, and its limit is 10 in place of 11
tie_relaxed : IsRelaxed (crossing_tie H) (crossing_tie L)
tie_relaxed = record { progs = refl; lists = refl; each = refl; pools = relaxed } where
  relaxed : (P : ℕ) → P < 1 → IsRelaxedPool (pool_at (crossing_tie H) P) (pool_at (crossing_tie L) P)
  relaxed zero h = record { quota = refl; parent = refl; rule = inr (refl, refl) }
  relaxed (suc P) h = absurd (omega (arith, h))

-- swapped admissions: stable, and not the least
abbrev swapped : Market
swapped = record {
  pools = score_pool H 1 ∷ score_pool H 1 ∷ [];
  progs = p 0 ∷ p 1 ∷ [];
  lists = (choice 1 0 5 ∷ choice 2 1 6 ∷ []) ∷ (choice 1 1 5 ∷ choice 2 0 6 ∷ []) ∷ [];
}

swapped_stable : IsStable swapped (limits (6 ∷ 6 ∷ []))
unfolding chain_of
swapped_stable zero h = (refl, (lit≤ tt, inr (lit< tt)))
swapped_stable (suc zero) h = (refl, (lit≤ tt, inr (lit< tt)))
swapped_stable (suc (suc P)) h = absurd (omega arith)

-- at zeros a raise of B to 11 isn't justified
displaced_unsound : IsJustified displaced_twice zeros 1 11 → ⊥
unfolding chain_of
displaced_unsound j = omega (arith, j)

-- the nested pools are proved by two lists
nested_proves : Proves nested (raise 0 7 ∷ raise 1 9 ∷ []) (limits (7 ∷ 9 ∷ 7 ∷ []))
unfolding chain_of capped_demand
nested_proves = ((lit< tt, (lit< tt, lit≤ tt), (lit< tt, (lit< tt, lit≤ tt), tt)), settled) where
  settled : (P : ℕ) → P < 3 → IsSettled nested (limits_after (raise 0 7 ∷ raise 1 9 ∷ [])) P × (effective_limit nested (limits_after (raise 0 7 ∷ raise 1 9 ∷ [])) P ≡ limits (7 ∷ 9 ∷ 7 ∷ []) P)
  settled zero h = ((λ j. omega (arith, j)), refl)
  settled (suc zero) h = ((λ j. omega (arith, j)), refl)
  settled (suc (suc zero)) h = ((λ j. omega (arith, j)), refl)
  settled (suc (suc (suc P))) h = absurd (omega arith)

nested_proves' : Proves nested (raise 1 9 ∷ raise 2 6 ∷ raise 0 7 ∷ []) (limits (7 ∷ 9 ∷ 7 ∷ []))
unfolding chain_of capped_demand
nested_proves' = ((lit< tt, (lit< tt, lit≤ tt), (lit< tt, (lit< tt, lit≤ tt), (lit< tt, (lit< tt, lit≤ tt), tt))), settled) where
  settled : (P : ℕ) → P < 3 → IsSettled nested (limits_after (raise 1 9 ∷ raise 2 6 ∷ raise 0 7 ∷ [])) P × (effective_limit nested (limits_after (raise 1 9 ∷ raise 2 6 ∷ raise 0 7 ∷ [])) P ≡ limits (7 ∷ 9 ∷ 7 ∷ []) P)
  settled zero h = ((λ j. omega (arith, j)), refl)
  settled (suc zero) h = ((λ j. omega (arith, j)), refl)
  settled (suc (suc zero)) h = ((λ j. omega (arith, j)), refl)
  settled (suc (suc (suc P))) h = absurd (omega arith)

-- and are a valid instance
nested_valid : IsValid nested
unfolding chain_of climb
nested_valid = refl

-- at zeros the swapped applicants are admitted to their first choices
swapped_zeros : IsStable swapped zeros
unfolding chain_of
swapped_zeros zero h = (refl, (lit≤ tt, inl refl))
swapped_zeros (suc zero) h = (refl, (lit≤ tt, inl refl))
swapped_zeros (suc (suc P)) h = absurd (omega arith)

swapped_not_least : IsLeastStable swapped (limits (6 ∷ 6 ∷ [])) → ⊥
swapped_not_least least = let low = least.1 zeros swapped_zeros 0 (lit< tt) in omega (arith, low)

-- two programmes in one pool
abbrev two_programmes : Market
two_programmes = record {
  pools = score_pool H 1 ∷ [];
  progs = p 0 ∷ p 0 ∷ [];
  lists = (choice 1 0 10 ∷ choice 2 1 14 ∷ []) ∷ (choice 1 0 12 ∷ []) ∷ [];
}

two_programmes_prove : Proves two_programmes (raise 0 13 ∷ []) (limits (13 ∷ []))
unfolding chain_of
two_programmes_prove = ((lit< tt, (lit< tt, lit< tt), tt), settled) where
  settled : (P : ℕ) → P < 1 → IsSettled two_programmes (limits_after (raise 0 13 ∷ [])) P × (effective_limit two_programmes (limits_after (raise 0 13 ∷ [])) P ≡ limits (13 ∷ []) P)
  settled zero h = ((λ j. omega arith), refl)
  settled (suc P) h = absurd (omega arith)

-- a tie at the top score: the limit is one point more
abbrev top_tie : Market
top_tie = record {
  pools = score_pool H 1 ∷ [];
  progs = p 0 ∷ [];
  lists = (choice 1 0 MAX_SCORE ∷ []) ∷ (choice 1 0 MAX_SCORE ∷ []) ∷ [];
}

top_tie_proves : Proves top_tie (raise 0 (MAX_SCORE + 1) ∷ []) (limits ((MAX_SCORE + 1) ∷ []))
unfolding chain_of
top_tie_proves = ((lit< tt, (lit< tt, lit< tt), tt), settled) where
  settled : (P : ℕ) → P < 1 → IsSettled top_tie (limits_after (raise 0 (MAX_SCORE + 1) ∷ [])) P × (effective_limit top_tie (limits_after (raise 0 (MAX_SCORE + 1) ∷ [])) P ≡ limits ((MAX_SCORE + 1) ∷ []) P)
  settled zero h = ((λ j. omega arith), refl)
  settled (suc P) h = absurd (omega arith)
