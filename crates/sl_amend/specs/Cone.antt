-- The cone of an amendment, and the raises that are kept.
use Rattle.std.specs.Prelude.{◌≡◌, ℕ, zero, suc, Bool, true, ◌&&◌, ◌||◌, not, List, length, filter, Option}
use Rattle.std.specs.List.{list_any}
use Rattle.sl_types.specs.declared.kinds.AppId.{AppId}
use Rattle.sl_types.specs.declared.kinds.Raise.{Raise}
use Rattle.sl_types.specs.Market.{Market, pool_numbers}
use Rattle.sl_laws.specs.Stable.{feeds}
use Rattle.sl_amend.specs.Amended.{Origins, origins_of, is_touched}

-- whether Q feeds P in the old market or in the amended one
abbrev pub feeds_in_either : Market → Market → ℕ → ℕ → Bool
feeds_in_either old new Q P = feeds old Q P || feeds new Q P

-- a set that holds the touched pools and, with each pool in it, every pool that this one feeds
pub record IsShut (old new : Market) (was : Origins) (S : ℕ → Bool) : Type 0 where
  pub touched : (P : ℕ) → is_touched old new was P ≡ true → S P ≡ true
  pub fed : (Q P : ℕ) → S Q ≡ true → feeds_in_either old new Q P ≡ true → S P ≡ true

-- the least such set
pub record IsCone (old new : Market) (was : Origins) (S : ℕ → Bool) : Type 0 where
  pub shut : IsShut old new was S
  pub least : (T : ℕ → Bool) → IsShut old new was T → (P : ℕ) → S P ≡ true → T P ≡ true

-- a set of pools with every pool that one of it leads to
abbrev pub spread : (ℕ → ℕ → Bool) → List ℕ → (ℕ → Bool) → ℕ → Bool
spread leads pools S P = S P || list_any (λ Q. S Q && leads Q P) pools

-- the same, n times
unfoldable pub spread_times : (ℕ → ℕ → Bool) → List ℕ → (ℕ → Bool) → ℕ → ℕ → Bool
spread_times leads pools S zero P = S P
spread_times leads pools S (suc n) P = spread leads pools (spread_times leads pools S n) P

-- whether P is reached from a set, in as many steps as there are pools
unfoldable pub is_reached : Market → Market → (ℕ → Bool) → ℕ → Bool
is_reached old new S P =
    spread_times (feeds_in_either old new) (pool_numbers old) S (length old.pools) P

-- whether P is in the cone: reached from the touched pools
abbrev pub is_in_cone : Market → Market → Origins → ℕ → Bool
is_in_cone old new was P = is_reached old new (is_touched old new was) P

-- the raises of pools outside the cone, in order
abbrev pub kept_raises : Market → Market → Origins → List Raise → List Raise
kept_raises old new was c = filter (λ r. not (is_in_cone old new was r.pool.0)) c

-- the kept raises, by a list of origins
abbrev pub kept_by : Market → Market → List (Option AppId) → List Raise → List Raise
kept_by old new origins c = kept_raises old new (origins_of origins) c
