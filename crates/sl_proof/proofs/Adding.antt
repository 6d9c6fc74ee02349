-- A list of raises with one raise more.
use Rattle.std.proofs.Common.{◌≡◌, ◌<◌, ◌≤◌, ◌∙◌, ℕ, zero, suc, List, [], ◌∷◌, ◌++◌, length, set, max, replicate, refl, sym, ap, arith, subst, slice_index, length-set}
use Rattle.std.proofs.lemmas.List.{length-replicate}
use Rattle.sl_types.specs.declared.kinds.Raise.{Raise}
use Rattle.sl_laws.specs.Limits.{Limits, with_limit, effective_limit}
use Rattle.sl_laws.specs.Raises.{MayCome, limits_after, zeros, Replays}
use Rattle.sl_laws.proofs.Nest.{le_limit, lies_own}
use Rattle.sl_laws.proofs.Slices.{set_replaces, same_limits}
use Rattle.sl_laws.proofs.Ends.{after_raises-push, EachRaise-push, EachRaise-last}
use Rattle.sl_proof.specs.Progress.{Progress, HasReplayed}

pub all_zero : (n P : ℕ) → slice_index (replicate n 0) P ≡ 0
all_zero zero P = refl
all_zero (suc n) zero = refl
all_zero (suc n) (suc P) = all_zero n P

-- before the first raise
pub begun : (progress : Progress) → progress.limits ≡ replicate (length progress.instance.pools) 0 → HasReplayed progress []
begun progress zeros_at = record {
  each = ap length zeros_at ∙ length-replicate (length progress.instance.pools) 0;
  replays = tt;
  reach = λ P. ap (λ (l : List ℕ). slice_index l P) zeros_at ∙ all_zero (length progress.instance.pools) P;
}

-- the limits that are kept are those that the raises reach
pub kept_limits : (progress : Progress) (c : List Raise) → HasReplayed progress c → slice_index progress.limits ≡ limits_after c
kept_limits progress c h = same_limits (slice_index progress.limits) (limits_after c) h.reach

-- a raise that may come is added to what has replayed
pub replays_more : (old new : Progress) (c : List Raise) (r : Raise) → r.pool.0 < length old.instance.pools → MayCome old.instance (slice_index old.limits) r
    → new ≡ record old { limits = set old.limits r.pool.0 r.limit } → HasReplayed old c → HasReplayed new (c ++ r ∷ [])
replays_more old new c r within may is h =
    let market = old.instance in
    let P = r.pool.0 in
    let x = r.limit in
    let same = kept_limits old c h in
    let fair : MayCome market (limits_after c) r = subst (λ (t : Limits). MayCome market t r) same may in
    let own : limits_after c P ≤ effective_limit market (limits_after c) P = le_limit market (limits_after c) P P (lies_own market P) in
    let top : x ≡ max (limits_after c P) x = omega (arith, own, fair) in
    let sizes = h.each in
    let inside : P < length old.limits = omega (arith, within, sizes) in
    rw is (record {
      each = length-set old.limits P x ∙ h.each;
      replays = EachRaise-push market _ zeros c r h.replays within fair;
      reach = λ Q. set_replaces old.limits P x inside Q ∙ ap (λ (t : Limits). with_limit t P x Q) same ∙ ap (λ (m : ℕ). with_limit (limits_after c) P m Q) top ∙ sym (ap (λ (t : Limits). t Q) (after_raises-push zeros c r));
    })

-- with a raise that may not come the list doesn't replay
pub replays_no_more : (progress : Progress) (c : List Raise) (r : Raise) → (MayCome progress.instance (slice_index progress.limits) r → ⊥) → HasReplayed progress c → Replays progress.instance (c ++ r ∷ []) → ⊥
replays_no_more progress c r never h all =
    never (subst (λ (t : Limits). MayCome progress.instance t r) (sym (kept_limits progress c h)) (EachRaise-last progress.instance _ zeros c r all).1)
