-- The capped demand is at most the number of applicants.
use Rattle.std.proofs.Common.{◌≤◌, ℕ, min, length, inl, arith}
use Rattle.std.specs.List.{range_with_len}
use Rattle.std.proofs.lemmas.List.Sums.{count_by-le-length, length-filter}
use Rattle.sl_types.specs.Market.{Market, quota_of}
use Rattle.sl_types.specs.WellFormed.{IsWellFormed}
use Rattle.sl_laws.specs.Limits.{Limits, demand_within}
use Rattle.sl_laws.proofs.Lists.{sum_by_filter_le}
use Rattle.sl_laws.proofs.Nest.{is_child}
use Rattle.sl_laws.proofs.Parts.{admitted_within, is_within, parts}
use Rattle.sl_laws.proofs.Cover.{cover_within}
use Rattle.sl_laws.proofs.Steps.{levels_all}

-- counted over any number of levels
pub levels_few : (market : Market) → IsWellFormed market → (t : Limits) (x n P : ℕ) → demand_within market t x n P ≤ length market.lists
levels_few market ok t x n P =
    let g = λ (C : ℕ). length (admitted_within market t C x) in
    let few = cover_within market t x g (λ C. Unit {0})
    (λ C any. let less = sum_by_filter_le (is_child market C) (λ D. min (quota_of market D) (g D)) g (range_with_len 0 (length market.pools)) (λ D e. omega arith) in let all = parts market ok t C x in omega (arith, less, all))
    (λ C D any e. inl tt) n P tt in
    let low = count_by-le-length (is_within market t P x) market.lists in
    let same = length-filter (is_within market t P x) market.lists in
    omega (arith, few, low, same)

pub ruleset capped_steps = (levels_all, levels_few)
