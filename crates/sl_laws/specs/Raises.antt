-- Lists of raises.
use Rattle.std.specs.Prelude.{◌≡◌, ◌⊎◌, ℕ, ◌<◌, ◌≤◌, max, nat_le, cond, List, [], ◌∷◌, length}
use Rattle.sl_types.specs.declared.kinds.Raise.{Raise}
use Rattle.sl_types.specs.Market.{Market}
use Rattle.sl_laws.specs.Limits.{Limits, with_limit, effective_limit}
use Rattle.sl_laws.specs.Stable.{IsJustified, IsSettled}

-- where each list of raises starts
abbrev pub zeros : Limits
zeros P = 0

-- t after a raise: the pool's number is the greater of itself and the raise's limit
abbrev pub after_raise : Limits → Raise → Limits
after_raise t r = with_limit t r.pool.0 (max (t r.pool.0) r.limit)

-- t after a list of raises
abbrev pub after_raises : Limits → List Raise → Limits
after_raises t [] = t
after_raises t (r ∷ rs) = after_raises (after_raise t r) rs

-- a raise that changes no effective limit
abbrev pub IsVoid : Market → Limits → Raise → Type 0
IsVoid market t r = r.limit ≤ effective_limit market t r.pool.0

-- a list from t on, without its void raises
abbrev pub without_void_from : Market → Limits → List Raise → List Raise
without_void_from market t [] = []
without_void_from market t (r ∷ rs) =
    let rest = without_void_from market (after_raise t r) rs in
    cond (nat_le r.limit (effective_limit market t r.pool.0)) rest (r ∷ rest)

-- each raise of the list, from t on, is of a pool and is F where it stands
abbrev pub EachRaise : Market → (Limits → Raise → Type 0) → Limits → List Raise → Type 0
EachRaise market F t [] = Unit {0}
EachRaise market F t (r ∷ rs) =
    (r.pool.0 < length market.pools) × F t r × EachRaise market F (after_raise t r) rs

-- a raise that is justified at t
abbrev pub IsJust : Market → Limits → Raise → Type 0
IsJust market t r = IsJustified market t r.pool.0 r.limit

-- a raise that may come next in a list that replays: it is above its pool's effective limit, and justified
abbrev pub MayCome : Market → Limits → Raise → Type 0
MayCome market t r = (effective_limit market t r.pool.0 < r.limit) × IsJust market t r

-- each raise is void or justified where it stands
abbrev pub IsSound : Market → List Raise → Type 0
IsSound market c = EachRaise market (λ t r. IsVoid market t r ⊎ IsJust market t r) zeros c

-- the limits that a list reaches
abbrev pub limits_after : List Raise → Limits
limits_after c = after_raises zeros c

-- a list without its void raises
abbrev pub without_void : Market → List Raise → List Raise
without_void market c = without_void_from market zeros c

-- sound, with no void raise
abbrev pub Replays : Market → List Raise → Type 0
Replays market c = EachRaise market (MayCome market) zeros c

-- it replays to limits at which each pool is settled, and l is their effective limits
abbrev pub Proves : Market → List Raise → Limits → Type 0
Proves market c l =
    let t = limits_after c in
    Replays market c
    × ((P : ℕ) → P < length market.pools
    → IsSettled market t P × (effective_limit market t P ≡ l P))
