-- The steps of the loops: one pool, one applicant or one level more.
use Rattle.std.proofs.Common.{◌≡◌, ℕ, suc, ◌+◌, ◌-◌, ◌<◌, max, Option, Some, None, refl, sym, arith, ap, ◌∙◌, zero, min, cond, sum_by, ◌++◌, add-one, zero-add, get_or, length, filter, take, ◌≤◌, ◌∷◌, length-take, List, [], IfSome, All, find, Bool, true, false, ◌||◌, nat_eq}
use Rattle.std.specs.List.{range_with_len, list_any}
use Rattle.std.proofs.lemmas.Bool.{cond_both}
use Rattle.std.proofs.lemmas.List.Elements.{filter-append, All-contains}
use Rattle.std.proofs.lemmas.List.Sums.{sum_by-append, count_by-le-length, length-filter}
use Rattle.std.proofs.lemmas.List.{take_all}
use Rattle.std.proofs.lemmas.List.Filters.{length-filter_more}
use Rattle.sl_types.specs.declared.kinds.PoolId.{PoolId}
use Rattle.sl_types.specs.declared.kinds.TheConstants.{MAX_DEPTH}
use Rattle.sl_types.specs.Market.{quota_of, is_parent, Market, parent_of, outward, climb, chain_of, lies_in}
use Rattle.sl_types.specs.declared.kinds.Entry.{Entry}
use Rattle.sl_laws.specs.Limits.{demand_within, capped_demand, admitted_directly, admitted_choice, is_eligible, Limits, greatest_of, effective_limit}
use Rattle.sl_laws.proofs.Lists.{find_is}

-- the greatest number from here outwards, n pools at most
unfoldable pub greatest_from : Market → Limits → ℕ → Option PoolId → ℕ
greatest_from market t n at = greatest_of t (outward (climb market n) at)

-- all levels
pub from_all : (market : Market) (t : Limits) (P : PoolId) → greatest_from market t MAX_DEPTH (Some P) ≡ effective_limit market t P.0
unfolding greatest_from chain_of
from_all market t P = refl

-- past the outermost pool
pub from_none : (market : Market) (t : Limits) (n : ℕ) → greatest_from market t n None ≡ 0
unfolding greatest_from
from_none market t n = refl

from_zero : (market : Market) (t : Limits) (at : Option PoolId) → greatest_from market t 0 at ≡ 0
unfolding greatest_from climb
from_zero market t None = refl
from_zero market t (Some P) = refl

-- no level left
pub from_end : (market : Market) (t : Limits) (n : ℕ) (at : Option PoolId) → n ≡ 0 → greatest_from market t n at ≡ 0
from_end market t n at e = ap (λ m. greatest_from market t m at) e ∙ from_zero market t at

-- one pool more
pub from_more : (market : Market) (t : Limits) (i : ℕ) (P : PoolId) → i < MAX_DEPTH → greatest_from market t (MAX_DEPTH - i) (Some P) ≡ max (t P.0) (greatest_from market t (MAX_DEPTH - (i + 1)) (parent_of market P.0))
unfolding greatest_from climb
from_more market t i P h = let e : MAX_DEPTH - i ≡ suc (MAX_DEPTH - (i + 1)) = omega arith in rw e refl

pub ruleset outward_steps = (from_all, from_none, from_end, from_more)

-- whether P is met from here outwards, n pools at most
unfoldable pub is_met_from : Market → ℕ → ℕ → Option PoolId → Bool
is_met_from market P n at = list_any (λ Q. nat_eq Q P) (outward (climb market n) at)

-- all levels
pub met_all : (market : Market) (P : ℕ) (C : PoolId) → is_met_from market P MAX_DEPTH (Some C) ≡ lies_in market C.0 P
unfolding is_met_from chain_of
met_all market P C = refl

-- past the outermost pool
pub met_none : (market : Market) (P n : ℕ) → is_met_from market P n None ≡ false
unfolding is_met_from
met_none market P n = refl

met_zero : (market : Market) (P : ℕ) (at : Option PoolId) → is_met_from market P 0 at ≡ false
unfolding is_met_from climb
met_zero market P None = refl
met_zero market P (Some C) = refl

-- no level left
pub met_end : (market : Market) (P n : ℕ) (at : Option PoolId) → n ≡ 0 → is_met_from market P n at ≡ false
met_end market P n at e = ap (λ m. is_met_from market P m at) e ∙ met_zero market P at

-- one pool more
pub met_more : (market : Market) (P i : ℕ) (C : PoolId) → i < MAX_DEPTH → is_met_from market P (MAX_DEPTH - i) (Some C) ≡ (nat_eq C.0 P || is_met_from market P (MAX_DEPTH - (i + 1)) (parent_of market C.0))
unfolding is_met_from climb
met_more market P i C h =
    let e : MAX_DEPTH - i ≡ suc (MAX_DEPTH - (i + 1)) = omega arith in
    rw e refl

pub ruleset inside_steps = (met_all, met_none, met_end, met_more)

-- how many of the first n applicants pass
unfoldable pub count_below : (List Entry → Bool) → List (List Entry) → ℕ → ℕ
count_below p lists n = length (filter p (take n lists))

-- no applicant yet
pub count_none : (p : List Entry → Bool) (lists : List (List Entry)) → count_below p lists 0 ≡ 0
unfolding count_below
count_none p lists = refl

-- one more, who passes
pub count_hit : (p : List Entry → Bool) (lists : List (List Entry)) (i : ℕ) → i < length lists → p (get_or lists i []) ≡ true → count_below p lists (i + 1) ≡ count_below p lists i + 1
unfolding count_below
count_hit p lists i h e = length-filter_more p lists i [] h ∙ rw e refl

-- one more, who fails
pub count_miss : (p : List Entry → Bool) (lists : List (List Entry)) (i : ℕ) → i < length lists → p (get_or lists i []) ≡ false → count_below p lists (i + 1) ≡ count_below p lists i
unfolding count_below
count_miss p lists i h e = length-filter_more p lists i [] h ∙ rw e (omega arith)

-- all applicants
pub count_all : (p : List Entry → Bool) (lists : List (List Entry)) (n : ℕ) → length lists ≤ n → count_below p lists n ≡ length (filter p lists)
unfolding count_below
count_all p lists n h = ap (λ ls. length (filter p ls)) (take_all n lists h)

-- no more pass than are counted
pub count_low : (p : List Entry → Bool) (lists : List (List Entry)) (n : ℕ) → count_below p lists n ≤ n
unfolding count_below
count_low p lists n = let a = count_by-le-length p (take n lists) in let b = length-filter p (take n lists) in let c = length-take n lists in omega (arith, a, b, c)

pub ruleset count_steps = (count_none, count_hit, count_miss, count_all, count_low)

-- an admitted choice is of a pool
found : (p : Entry → Bool) (F : Entry → Type 0) (es : List Entry) (o : Option Entry) → o ≡ find p es → All F es → IfSome o F
found p F es None e all = tt
found p F es (Some c) e all = All-contains F es c all (find_is p es c (sym e)).0

-- the admitted choice names a programme where each choice of the list does
pub found_in : (market : Market) (t : Limits) (es : List Entry) (o : Option Entry) → o ≡ admitted_choice market t es → All (λ e. e.prog.0 < length market.progs) es → IfSome o (λ e. e.prog.0 < length market.progs)
found_in market t es o e all = found (is_eligible market t) (λ e. e.prog.0 < length market.progs) es o e all

-- what the first n pools inside P ask for, each for its quota at most
unfoldable pub asks_below : Market → Limits → ℕ → ℕ → ℕ → ℕ → ℕ
asks_below market t x levels P n = sum_by (λ C. min (quota_of market C) (demand_within market t x levels C)) (filter (λ C. is_parent P (parent_of market C)) (range_with_len 0 n))

range_more : (a n : ℕ) → range_with_len a (suc n) ≡ range_with_len a n ++ ((a + n) ∷ [])
range_more a zero = let e : a + 0 ≡ a = omega arith in rw e refl
range_more a (suc n) = let e : a + 1 + n ≡ a + suc n = omega arith in ap (λ xs. a ∷ xs) (rw (← e) (range_more (a + 1) n))

-- no pool yet
pub asks_none : (market : Market) (t : Limits) (x levels P : ℕ) → asks_below market t x levels P 0 ≡ 0
unfolding asks_below
asks_none market t x levels P = refl

asks_more : (market : Market) (t : Limits) (x levels P n : ℕ) → asks_below market t x levels P (n + 1) ≡ asks_below market t x levels P n + cond (is_parent P (parent_of market n)) (min (quota_of market n) (demand_within market t x levels n)) 0
unfolding asks_below
asks_more market t x levels P n =
    let g = λ (C : ℕ). min (quota_of market C) (demand_within market t x levels C) in
    let p = λ (C : ℕ). is_parent P (parent_of market C) in
    let e : range_with_len 0 (n + 1) ≡ range_with_len 0 n ++ (n ∷ []) = ap (range_with_len 0) (add-one n) ∙ (range_more 0 n ∙ ap (λ (m : ℕ). range_with_len 0 n ++ (m ∷ [])) (zero-add n)) in
    let f : sum_by g (filter p (range_with_len 0 (n + 1))) ≡ sum_by g (filter p (range_with_len 0 n)) + sum_by g (filter p (n ∷ [])) = ap (λ xs. sum_by g (filter p xs)) e ∙ (ap (sum_by g) (filter-append p (range_with_len 0 n) (n ∷ [])) ∙ sum_by-append g (filter p (range_with_len 0 n)) (filter p (n ∷ []))) in
    let k : sum_by g (filter p (n ∷ [])) ≡ cond (p n) (g n) 0 = cond_both (p n) (n ∷ []) [] (λ l. sum_by g l ≡ cond (p n) (g n) 0) (λ h. rw h (omega arith)) (λ h. rw h refl) in
    omega (arith, f, k)

-- one more, directly inside
pub asks_hit : (market : Market) (t : Limits) (x levels P n : ℕ) → is_parent P (parent_of market n) ≡ true → asks_below market t x levels P (n + 1) ≡ asks_below market t x levels P n + min (quota_of market n) (demand_within market t x levels n)
asks_hit market t x levels P n h = asks_more market t x levels P n ∙ rw h refl

-- one more, elsewhere
pub asks_miss : (market : Market) (t : Limits) (x levels P n : ℕ) → is_parent P (parent_of market n) ≡ false → asks_below market t x levels P (n + 1) ≡ asks_below market t x levels P n
asks_miss market t x levels P n h = asks_more market t x levels P n ∙ rw h (omega arith)

-- no level
pub level_zero : (market : Market) (t : Limits) (x P n : ℕ) → n ≡ 0 → demand_within market t x n P ≡ 0
unfolding demand_within
level_zero market t x P n e = ap (λ (m : ℕ). demand_within market t x m P) e

-- one level more
pub level_more : (market : Market) (t : Limits) (x P n m : ℕ) → 0 < n → m ≡ length market.pools → demand_within market t x n P ≡ asks_below market t x (n - 1) P m + length (admitted_directly market t P x)
unfolding demand_within asks_below
level_more market t x P n m h e = let k : n ≡ suc (n - 1) = omega arith in ap (λ (i : ℕ). demand_within market t x i P) k ∙ ap (λ (i : ℕ). asks_below market t x (n - 1) P i + length (admitted_directly market t P x)) (sym e)

pub ruleset level_steps = (asks_none, asks_hit, asks_miss, level_zero, level_more)

-- all levels are the capped demand
pub levels_all : (market : Market) (t : Limits) (P x : ℕ) → demand_within market t x MAX_DEPTH P ≡ capped_demand market t P x
unfolding capped_demand
levels_all market t P x = refl
