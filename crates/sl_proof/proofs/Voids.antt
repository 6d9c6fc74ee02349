-- Lists without void raises, raise by raise.
use Rattle.std.proofs.Common.{◌≡◌, ◌<◌, ◌≤◌, ◌∙◌, ℕ, true, false, List, [], ◌∷◌, ◌++◌, length, refl, sym, ap, append_assoc}
use Rattle.std.specs.Prelude.{All, slice_index, max, nat_le, set, replicate}
use Rattle.std.proofs.lemmas.Bool.{le-leb, lt-leb}
use Rattle.std.proofs.lemmas.List.Elements.{All-nil, All-cons, All-append, All-map}
use Rattle.std.proofs.lemmas.List.Sorted.{All-permutation}
use Rattle.sl_types.specs.declared.kinds.Raise.{Raise}
use Rattle.sl_types.specs.declared.kinds.Logged.{Logged}
use Rattle.sl_types.specs.Market.{Market}
use Rattle.sl_laws.specs.Limits.{Limits, with_limit, effective_limit}
use Rattle.sl_laws.specs.Raises.{after_raise, without_void, without_void_from, zeros, EachRaise, Replays}
use Rattle.sl_laws.proofs.Slices.{set_replaces, same_limits}
use Rattle.sl_proof.specs.Merging.{IsByTicket, AreOfPools, raises_of}
use Rattle.sl_proof.proofs.Adding.{all_zero}

-- one raise more, in a vector of limits
pub raise_moves : (limits : List ℕ) (r : Raise) (word : ℕ) → r.pool.0 < length limits → word ≡ max (slice_index limits r.pool.0) r.limit → slice_index (set limits r.pool.0 word) ≡ after_raise (slice_index limits) r
raise_moves limits r word h is =
    same_limits (slice_index (set limits r.pool.0 word)) (after_raise (slice_index limits) r) (λ Q. set_replaces limits r.pool.0 word h Q ∙ ap (λ (m : ℕ). with_limit (slice_index limits) r.pool.0 m Q) is)

-- a raise above the effective limit is one of the list without void ones
pub step_new : (market : Market) (t : Limits) (r : Raise) (rest done whole : List Raise) → effective_limit market t r.pool.0 < r.limit
    → done ++ without_void_from market t (r ∷ rest) ≡ whole → (done ++ r ∷ []) ++ without_void_from market (after_raise t r) rest ≡ whole
step_new market t r rest done whole above is =
    let new : nat_le r.limit (effective_limit market t r.pool.0) ≡ false = lt-leb r.limit (effective_limit market t r.pool.0) above in
    let front : without_void_from market t (r ∷ rest) ≡ r ∷ without_void_from market (after_raise t r) rest = rw new refl in
    append_assoc done (r ∷ []) (without_void_from market (after_raise t r) rest) ∙ (ap (λ (l : List Raise). done ++ l) (sym front) ∙ is)

-- another isn't
pub step_void : (market : Market) (t : Limits) (r : Raise) (rest done whole : List Raise) → r.limit ≤ effective_limit market t r.pool.0
    → done ++ without_void_from market t (r ∷ rest) ≡ whole → done ++ without_void_from market (after_raise t r) rest ≡ whole
step_void market t r rest done whole low is =
    let void : nat_le r.limit (effective_limit market t r.pool.0) ≡ true = le-leb r.limit (effective_limit market t r.pool.0) low in
    let same : without_void_from market t (r ∷ rest) ≡ without_void_from market (after_raise t r) rest = rw void refl in
    ap (λ (l : List Raise). done ++ l) (sym same) ∙ is

-- before the first raise
pub none_yet : (market : Market) (c : List Raise) (n : ℕ) → without_void_from market (slice_index (replicate n 0)) c ≡ without_void market c
none_yet market c n = ap (λ (t : Limits). without_void_from market t c) (same_limits (slice_index (replicate n 0)) zeros (λ P. all_zero n P))

-- the raises of a list that replays are of pools
within_from : (market : Market) (F : Limits → Raise → Type 0) (t : Limits) (c : List Raise) → EachRaise market F t c → All (λ r. r.pool.0 < length market.pools) c
within_from market F t [] each = All-nil (λ (r : Raise). r.pool.0 < length market.pools)
within_from market F t (r ∷ c) each = All-cons (λ (x : Raise). x.pool.0 < length market.pools) r c each.0 (within_from market F (after_raise t r) c each.2)

-- so are those of kept and sorted ones
pub all_within : (market : Market) (kept : List Raise) (log sorted : List Logged) → Replays market kept → AreOfPools market log → IsByTicket log sorted
    → All (λ r. r.pool.0 < length market.pools) (kept ++ raises_of sorted)
all_within market kept log sorted replays within in_order =
    let moved = All-permutation (λ (e : Logged). e.pool.0 < length market.pools) log sorted in_order.same within in
    All-append (λ (r : Raise). r.pool.0 < length market.pools) kept (raises_of sorted) (within_from market _ zeros kept replays)
    (All-map (λ (r : Raise). r.pool.0 < length market.pools) (λ (e : Logged). record { pool = e.pool; limit = e.limit }) sorted moved)
