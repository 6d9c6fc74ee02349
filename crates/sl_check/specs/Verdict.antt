-- What a verdict says of raises, limits, admissions and counts. Each verdict says that all the earlier ones fail.
use Rattle.std.specs.Prelude.{◌≡◌, ◌<◌, ◌≤◌, ◌-◌, ℕ, List, length, take, slice_index, Option, MatchOption}
use Rattle.sl_types.specs.declared.kinds.AppId.{AppId}
use Rattle.sl_types.specs.declared.kinds.PoolId.{PoolId}
use Rattle.sl_types.specs.declared.kinds.Raise.{Raise}
use Rattle.sl_types.specs.Market.{Market}
use Rattle.sl_laws.specs.Limits.{Limits, effective_limit}
use Rattle.sl_laws.specs.Stable.{IsSettled}
use Rattle.sl_laws.specs.Raises.{Replays, Proves, limits_after}
use Rattle.sl_laws.specs.Outcome.{admitted_indexes, counts_in}
use Rattle.sl_check.specs.declared.verdict.Verdict.{Verdict}
use Rattle.sl_check.specs.declared.verdict.Verdict.TheVariants.{Yes, RaiseUnjust, Unsettled, LimitWrong, AdmissionWrong, CountWrong}

-- raise number k, counted from 1, is the first with which the list doesn't replay
pub record IsFirstUnjust (market : Market) (raises : List Raise) (k : ℕ) : Type 0 where
  pub from_one : 1 ≤ k
  pub within : k ≤ length raises
  pub before : Replays market (take (k - 1) raises)
  pub fails : Replays market (take k raises) → ⊥

-- k is the lowest number below n at which F doesn't hold
pub record IsLowestWithout (n : ℕ) (F : ℕ → Type 0) (k : ℕ) : Type 0 where
  pub within : k < n
  pub below : (j : ℕ) → j < k → F j
  pub fails : F k → ⊥

-- each pool is settled
abbrev pub AreSettled : Market → Limits → Type 0
AreSettled market t = (P : ℕ) → P < length market.pools → IsSettled market t P

-- a pool's limit is its effective limit at t
abbrev pub IsLimit : Market → Limits → List ℕ → ℕ → Type 0
IsLimit market t limits P = slice_index limits P ≡ effective_limit market t P

-- an applicant's index is that of the admitted choice at t
abbrev pub IsAdmission : Market → Limits → List ℕ → ℕ → Type 0
IsAdmission market t admitted a = slice_index admitted a ≡ slice_index (admitted_indexes market t) a

-- a pool's count is how many it admits at t
abbrev pub IsCount : Market → Limits → List ℕ → ℕ → Type 0
IsCount market t counts P = slice_index counts P ≡ slice_index (counts_in market t) P

-- the lowest pool of which F doesn't hold, and none where it holds of each
abbrev pub IsLowestPool : Market → (ℕ → Type 0) → Option PoolId → Type 0
IsLowestPool market F found =
    MatchOption found ((P : ℕ) → P < length market.pools → F P) (λ P. IsLowestWithout (length market.pools) F P.0)

-- the same of applicants
abbrev pub IsLowestApplicant : Market → (ℕ → Type 0) → Option AppId → Type 0
IsLowestApplicant market F found =
    MatchOption found ((a : ℕ) → a < length market.lists → F a) (λ a. IsLowestWithout (length market.lists) F a.0)

-- the lowest pool whose count isn't that of these admissions
abbrev pub IsLowestMiscount : Market → List ℕ → List ℕ → Option PoolId → Type 0
IsLowestMiscount market admitted counts found =
    (t : Limits) → admitted ≡ admitted_indexes market t → IsLowestPool market (IsCount market t counts) found

-- the verdict on raises, limits, admissions and counts
abbrev pub IsVerdict : Market → List Raise → List ℕ → List ℕ → List ℕ → Verdict → Type 0
IsVerdict market raises limits admitted counts (RaiseUnjust k) = IsFirstUnjust market raises k
IsVerdict market raises limits admitted counts (Unsettled P) =
    Replays market raises × IsLowestWithout (length market.pools) (IsSettled market (limits_after raises)) P.0
IsVerdict market raises limits admitted counts (LimitWrong P) =
    let t = limits_after raises in
    Replays market raises × AreSettled market t × IsLowestWithout (length market.pools) (IsLimit market t limits) P.0
IsVerdict market raises limits admitted counts (AdmissionWrong a) =
    let t = slice_index limits in
    Proves market raises t × IsLowestWithout (length market.lists) (IsAdmission market t admitted) a.0
IsVerdict market raises limits admitted counts (CountWrong P) =
    let t = slice_index limits in
    Proves market raises t × (admitted ≡ admitted_indexes market t)
    × IsLowestWithout (length market.pools) (IsCount market t counts) P.0
IsVerdict market raises limits admitted counts Yes =
    let t = slice_index limits in
    Proves market raises t × (admitted ≡ admitted_indexes market t) × (counts ≡ counts_in market t)

-- at most one verdict is right
abbrev pub VerdictIsOne : Type 0
VerdictIsOne =
    (market : Market) (raises : List Raise) (limits admitted counts : List ℕ) (v w : Verdict)
    → IsVerdict market raises limits admitted counts v → IsVerdict market raises limits admitted counts w → v ≡ w
