-- Flags of pools, and how they spread from the pools of a list that is worked off.
use Rattle.std.specs.Prelude.{◌≡◌, ℕ, ◌+◌, Bool, true, false, not, List, length, get_or}
use Rattle.std.specs.Prelude.{filter, nat_eq, All, Vec}
use Rattle.std.specs.declared.alloc.Global.{Global}
use Rattle.std.specs.List.{list_any}
use Rattle.sl_types.specs.declared.kinds.PoolId.{PoolId}
use Rattle.sl_types.specs.declared.kinds.Raise.{Raise}
use Rattle.sl_types.specs.Market.{Market}
use Rattle.sl_amend.specs.Cone.{feeds_in_either, is_reached}

-- whether a pool is flagged
abbrev pub is_flagged : List Bool → ℕ → Bool
is_flagged flags P = get_or flags P false

-- whether a pool is on a list
abbrev pub is_listed : List PoolId → ℕ → Bool
is_listed pools P = list_any (λ Q. nat_eq Q.0 P) pools

-- how many pools aren't flagged
abbrev pub count_unflagged : List Bool → ℕ
count_unflagged flags = length (filter not flags)

-- each pool of a list is flagged
abbrev pub AreFlagged : List Bool → List PoolId → Type 0
AreFlagged flags pools = All (λ Q. is_flagged flags Q.0 ≡ true) pools

-- some pools that pass a test were flagged, and those that weren't before are on the list
pub record HasGrown (flags later : List Bool) (todo next : List PoolId) (by : ℕ → Bool)
    : Type 0 where
  pub each : length later ≡ length flags
  pub kept : (P : ℕ) → is_flagged flags P ≡ true → is_flagged later P ≡ true
  pub only : (P : ℕ) → is_flagged later P ≡ true → is_flagged flags P ≡ false → by P ≡ true
  pub stays : (P : ℕ) → is_listed todo P ≡ true → is_listed next P ≡ true
  pub joins : (P : ℕ) → is_flagged later P ≡ true → is_flagged flags P ≡ false
      → is_listed next P ≡ true
  pub listed : AreFlagged flags todo → AreFlagged later next
  pub room : count_unflagged later + length next ≡ count_unflagged flags + length todo

-- the same of vectors
abbrev pub Grew : List Bool → List Bool → Vec PoolId Global → Vec PoolId Global
    → (ℕ → Bool) → Type 0
Grew flags later todo next by = HasGrown flags later todo.items next.items by

-- each pool that Q feeds is flagged
abbrev pub HasFlaggedFed : Market → Market → List Bool → ℕ → Type 0
HasFlaggedFed old new flags Q =
    (P : ℕ) → feeds_in_either old new Q P ≡ true → is_flagged flags P ≡ true

-- on the way: what is flagged is reached, and has flagged what it feeds unless it is on the list
pub record IsSpreading (old new : Market) (touched flags : List Bool) (todo : List PoolId)
    : Type 0 where
  pub each : length flags ≡ length old.pools
  pub holds : (P : ℕ) → is_flagged touched P ≡ true → is_flagged flags P ≡ true
  pub within : (P : ℕ) → is_flagged flags P ≡ true
      → is_reached old new (is_flagged touched) P ≡ true
  pub listed : AreFlagged flags todo
  pub spread : (Q : ℕ) → is_flagged flags Q ≡ true → is_listed todo Q ≡ false
      → HasFlaggedFed old new flags Q

-- each flagged pool is on a list
abbrev pub AreListed : List Bool → List PoolId → Type 0
AreListed flags pools = (P : ℕ) → is_flagged flags P ≡ true → is_listed pools P ≡ true

-- just what is reached from the flagged pools is flagged later
abbrev pub IsSpread : Market → Market → List Bool → List Bool → Type 0
IsSpread old new flags later =
    (P : ℕ) → is_flagged later P ≡ is_reached old new (is_flagged flags) P

-- whether a raise is of a pool that isn't flagged
abbrev pub is_kept : List Bool → Raise → Bool
is_kept flags r = not (is_flagged flags r.pool.0)
