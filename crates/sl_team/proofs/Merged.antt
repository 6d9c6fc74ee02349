-- The whole log of a floor that is closed, and the merged raises.
use Rattle.std.proofs.Common.{◌≡◌, ◌∙◌, ℕ, zero, suc, ◌<◌, false, List, [], ◌∷◌, ◌++◌, All, Some, length, refl, sym, ap, subst}
use Rattle.std.specs.Prelude.{slice_get, nat_le}
use Rattle.std.proofs.lemmas.Bool.{lt-leb}
use Rattle.std.proofs.lemmas.List.Elements.{All-tail}
use Rattle.sl_types.specs.declared.kinds.Raise.{Raise}
use Rattle.sl_types.specs.declared.kinds.Logged.{Logged}
use Rattle.sl_types.specs.Market.{Market}
use Rattle.sl_laws.specs.Limits.{Limits, effective_limit}
use Rattle.sl_laws.specs.Stable.{IsJustified}
use Rattle.sl_laws.specs.Raises.{EachRaise, Replays, IsSound, Proves, zeros, after_raise, after_raises, without_void, without_void_from}
use Rattle.sl_core.specs.State.{logged_from}
use Rattle.sl_core.specs.Parts.{BeginsWith}
use Rattle.sl_floor.specs.Ending.{IsOrdered}
use Rattle.sl_proof.specs.Merging.{IsMerged}
use Rattle.sl_team.proofs.Tickets.{sorted_is}

all_back : {A : Type 0} (P : A → Type 0) (xs ys : List A) → All P (xs ++ ys) → All P ys
all_back P [] ys all = all
all_back P (x ∷ xs) ys all = all_back P xs ys (All-tail P x (xs ++ ys) all)

pool_within : (market : Market) (F : Limits → Raise → Type 0) (t : Limits) (c : List Raise) (n : ℕ) (r : Raise) → EachRaise market F t c → slice_get c n ≡ Some r → r.pool.0 < length market.pools
pool_within market F t [] n r each at = cc
pool_within market F t (q ∷ c) zero r each at = let same : q ≡ r = cc in subst (λ (x : Raise). x.pool.0 < length market.pools) same each.0
pool_within market F t (q ∷ c) (suc n) r each at = pool_within market F (after_raise t q) c n r each.2 at

-- the logged raises are of pools
pub gathered_within : (market : Market) (c kept : List Raise) (log gathered : List Logged) → IsSound market c → IsOrdered log c → log ≡ logged_from 0 kept ++ gathered → All (λ e. e.pool.0 < length market.pools) gathered
gathered_within market c kept log gathered sound o is =
    let all : All (λ e. e.pool.0 < length market.pools) log = λ k d h. pool_within market _ zeros c _ _ sound (o.placed k d h) in
    all_back (λ (e : Logged). e.pool.0 < length market.pools) (logged_from 0 kept) gathered (subst (λ (l : List Logged). All (λ e. e.pool.0 < length market.pools) l) is all)

-- so the merged raises are the list without its void raises
pub merged_is : (market : Market) (c kept merged : List Raise) (log gathered : List Logged) → IsOrdered log c → log ≡ logged_from 0 kept ++ gathered → IsMerged market kept gathered merged → merged ≡ without_void market c
merged_is market c kept merged log gathered o is m =
    m.merged_is ∙ ap (without_void market) (sorted_is kept gathered m.sorted m.in_order c (subst (λ (l : List Logged). IsOrdered l c) is o))

kept_front : (market : Market) (t : Limits) (kept rest : List Raise) → EachRaise market (λ u r. (effective_limit market u r.pool.0 < r.limit) × IsJustified market u r.pool.0 r.limit) t kept
    → without_void_from market t (kept ++ rest) ≡ kept ++ without_void_from market (after_raises t kept) rest
kept_front market t [] rest each = refl
kept_front market t (r ∷ kept) rest each =
    let new : nat_le r.limit (effective_limit market t r.pool.0) ≡ false = lt-leb r.limit (effective_limit market t r.pool.0) each.1.0 in
    let more = kept_front market (after_raise t r) kept rest each.2 in
    rw new (ap (λ (l : List Raise). r ∷ l) more)

-- kept raises that replay stay at the front
pub begins : (market : Market) (kept c : List Raise) → Replays market kept → BeginsWith kept c → BeginsWith kept (without_void market c)
begins market kept c replays front = (
  without_void_from market (after_raises zeros kept) front.0,
  ap (without_void market) front.1 ∙ kept_front market zeros kept front.0 replays,
)

-- what proves limits proves the same numbers in a vector
pub proves_same : (market : Market) (c : List Raise) (l m : Limits) → Proves market c l → ((P : ℕ) → P < length market.pools → m P ≡ l P) → Proves market c m
proves_same market c l m proves same = (proves.0, λ P h. ((proves.1 P h).0, (proves.1 P h).1 ∙ sym (same P h)))
