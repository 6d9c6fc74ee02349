-- How many applicants each pool admits, by the choices with which they are admitted.
use Rattle.std.specs.Prelude.{◌≡◌, ◌<◌, ◌+◌, ℕ, Bool, List, length, map, cond, count_by, slice_get, slice_index, Option}
use Rattle.sl_types.specs.declared.kinds.Entry.{Entry}
use Rattle.sl_types.specs.Market.{Market, list_of, pool_of, pool_numbers, lies_in}
use Rattle.sl_types.specs.Valid.{applicant_numbers}
use Rattle.sl_types.specs.declared.kinds.TheConstants.{MAX_APPLICANTS}
use Rattle.sl_laws.specs.Limits.{Limits, passes}
use Rattle.sl_laws.specs.Outcome.{admitted_indexes, counts_in}

-- one where it holds
abbrev pub one_if : Bool → ℕ
one_if holds = cond holds 1 0

-- the choice of an applicant with the index that they are admitted by, where their list has one there
abbrev pub chosen_by : Market → List ℕ → ℕ → Option Entry
chosen_by market admitted a = slice_get (list_of market a) (slice_index admitted a)

-- whether there is a choice, and it lies in P or in a pool inside P
abbrev pub is_in : Market → ℕ → Option Entry → Bool
is_in market P choice = passes (λ e. lies_in market (pool_of market e) P) choice

-- how many applicants have one there
abbrev pub chosen_in : Market → List ℕ → ℕ → ℕ
chosen_in market admitted P = count_by (λ a. is_in market P (chosen_by market admitted a)) (applicant_numbers market)

-- that of each pool
abbrev pub counts_of : Market → List ℕ → List ℕ
counts_of market admitted = map (chosen_in market admitted) (pool_numbers market)

-- each pool's count is below the greatest number of applicants
abbrev pub HaveRoom : Market → List ℕ → Type 0
HaveRoom market counts = (P : ℕ) → P < length market.pools → slice_index counts P < MAX_APPLICANTS

-- one more was counted in a pool and in each pool round it
abbrev pub CountsRound : Market → ℕ → List ℕ → List ℕ → Type 0
CountsRound market pool old new = (P : ℕ) → P < length market.pools
    → slice_index new P ≡ slice_index old P + one_if (lies_in market pool P)

-- one more was counted in each pool that a choice lies in, where there is one
abbrev pub CountsChoice : Market → Option Entry → List ℕ → List ℕ → Type 0
CountsChoice market choice old new = (P : ℕ) → P < length market.pools
    → slice_index new P ≡ slice_index old P + one_if (is_in market P choice)

-- where the admissions are those of limits, so are the counts
abbrev pub AreCountsAtLimits : Market → List ℕ → List ℕ → Type 0
AreCountsAtLimits market admitted counts =
    (t : Limits) → admitted ≡ admitted_indexes market t → counts ≡ counts_in market t
