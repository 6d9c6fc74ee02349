-- What limits do: who is eligible, who is admitted, and the demand for a pool.
use Rattle.std.specs.Prelude.{ℕ, zero, suc, slice_index, ◌+◌, Bool, false, cond, ◌&&◌, List, [], ◌∷◌, length, map, min, max, nat_eq, nat_le, find, filter, sum_by, Option, Some, None}
use Rattle.sl_types.specs.declared.kinds.Entry.{Entry}
use Rattle.sl_types.specs.declared.kinds.TheConstants.{MAX_DEPTH}
use Rattle.sl_types.specs.Market.{Market, pool_of, chain_of, lies_in, children_of, quota_of}

-- a number for each pool
abbrev pub Limits : Type 0
Limits = ℕ → ℕ

-- t with P's number y
abbrev pub with_limit : Limits → ℕ → ℕ → Limits
with_limit t P y Q = cond (nat_eq Q P) y (t Q)

-- the limits that a list of numbers has, with P's number y
abbrev pub limits_with : List ℕ → ℕ → ℕ → Limits
limits_with limits P y = with_limit (slice_index limits) P y

-- the greatest of f over a list, 0 over none
abbrev pub greatest_of : (ℕ → ℕ) → List ℕ → ℕ
greatest_of f [] = 0
greatest_of f (Q ∷ Qs) = max (f Q) (greatest_of f Qs)

-- the greatest number of t over P and the pools round P
abbrev pub effective_limit : Market → Limits → ℕ → ℕ
effective_limit market t P = greatest_of t (chain_of market P)

-- a choice whose score is at least the effective limit of its pool
abbrev pub is_eligible : Market → Limits → Entry → Bool
is_eligible market t e = nat_le (effective_limit market t (pool_of market e)) e.score

-- the first eligible choice of an applicant
abbrev pub admitted_choice : Market → Limits → List Entry → Option Entry
admitted_choice market t choices = find (is_eligible market t) choices

-- whether there is a choice, and it passes
abbrev pub passes : (Entry → Bool) → Option Entry → Bool
passes p None = false
passes p (Some e) = p e

-- whether an applicant's admitted programme lies in P or in a pool inside P
abbrev pub is_admitted_in : Market → Limits → ℕ → List Entry → Bool
is_admitted_in market t P choices =
    passes (λ e. lies_in market (pool_of market e) P) (admitted_choice market t choices)

-- the applicants with it
abbrev pub admitted_in : Market → Limits → ℕ → List (List Entry)
admitted_in market t P = filter (is_admitted_in market t P) market.lists

-- how many these are
abbrev pub count_in : Market → Limits → ℕ → ℕ
count_in market t P = length (admitted_in market t P)

-- how many a score pool would admit at the limit y
abbrev pub demand : Market → Limits → ℕ → ℕ → ℕ
demand market t P y = count_in market (with_limit t P y) P

-- the merit with which an applicant is admitted
abbrev pub merit_of : Option Entry → ℕ
merit_of None = 0
merit_of (Some e) = e.score

-- their merits
abbrev pub merits_in : Market → Limits → ℕ → List ℕ
merits_in market t P =
    map (λ choices. merit_of (admitted_choice market t choices)) (admitted_in market t P)

-- the least of x and a list
abbrev pub least_with : ℕ → List ℕ → ℕ
least_with x [] = x
least_with x (y ∷ ys) = min x (least_with y ys)

-- the least of a list, 0 of none
abbrev pub lowest_of : List ℕ → ℕ
lowest_of [] = 0
lowest_of (x ∷ xs) = least_with x xs

-- whether a pool admits exactly its quota
abbrev pub is_full : Market → Limits → ℕ → Bool
is_full market t P = nat_eq (count_in market t P) (quota_of market P)

-- the lowest merit admitted in a full pool, 0 for any other
abbrev pub bar : Market → Limits → ℕ → ℕ
bar market t P = cond (is_full market t P) (lowest_of (merits_in market t P)) 0

-- whether an applicant is admitted to a programme directly in P, with a merit of at least x
abbrev pub is_admitted_directly : Market → Limits → ℕ → ℕ → List Entry → Bool
is_admitted_directly market t P x choices =
    passes (λ e. nat_eq (pool_of market e) P && nat_le x e.score) (admitted_choice market t choices)

-- the applicants of merit at least x whose admitted programme lies directly in P
abbrev pub admitted_directly : Market → Limits → ℕ → ℕ → List (List Entry)
admitted_directly market t P x = filter (is_admitted_directly market t P x) market.lists

-- the capped demand, counted over n levels of pools
unfoldable pub demand_within : Market → Limits → ℕ → ℕ → ℕ → ℕ
demand_within market t x zero P = 0
demand_within market t x (suc n) P =
    sum_by (λ C. min (quota_of market C) (demand_within market t x n C)) (children_of market P)
    + length (admitted_directly market t P x)

-- the demand for a merit pool at the limit x, of which each pool directly inside counts for its quota at most.
unfoldable pub capped_demand : Market → Limits → ℕ → ℕ → ℕ
unfolding demand_within
capped_demand market t P x = demand_within market t x MAX_DEPTH P
