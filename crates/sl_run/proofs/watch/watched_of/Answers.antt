use Rattle.std.proofs.Common.{◌≡◌, ◌∙◌, ℕ, List, length, slice_index, ap, sym, subst}
use Rattle.sl_types.specs.declared.kinds.Raise.{Raise}
use Rattle.sl_laws.specs.Outcome.{admitted_indexes}
use Rattle.sl_laws.specs.Raises.{Proves}
use Rattle.sl_laws.specs.Stable.{IsLeastStable}
use Rattle.sl_team.specs.Clearing.{ClearedValue}
use Rattle.sl_run.specs.Run.{AreLooks}
use Rattle.sl_run.proofs.watch.watched_of.Goals as goal

pub returns-clause-result : goal.returns-clause-result
returns-clause-result g c =
    let market = c.args.instance.now in
    let told = c.in_ok-cleared.ensures in
    let limits = c.cleared.inside.limits.items in
    let same : limits ≡ c.in_ok-cleared.cleared.limits = ap (λ (v : ClearedValue). v.limits) c.cleared.view_is in
    let raises : c.cleared.inside.raises.items ≡ c.in_ok-cleared.cleared.raises = ap (λ (v : ClearedValue). v.raises) c.cleared.view_is in
    let admitted = subst (λ (l : List ℕ). c.in_ok-admitted.admitted.items ≡ admitted_indexes market (slice_index l)) c.deref.ensures.value c.in_ok-admitted.ensures in
    record {
      each = ap length same ∙ told.each;
      least = subst (λ (l : List ℕ). IsLeastStable market (slice_index l)) (sym same) told.least;
      proved = subst (λ (l : List ℕ). Proves market c.cleared.inside.raises.items (slice_index l)) (sym same)
          (subst (λ (r : List Raise). Proves market r (slice_index c.in_ok-cleared.cleared.limits)) (sym raises) told.proves);
      admitted = admitted;
      counts = c.in_ok-counts.ensures.of_limits (slice_index limits) (c.deref-2.ensures.value ∙ admitted);
    }

pub returns-clause-looks : goal.returns-clause-looks
returns-clause-looks g c =
    let told = c.in_ok-cleared.ensures in
    subst (λ (v : ClearedValue). AreLooks c.args.looks v.limits v.seen) (sym c.cleared.view_is)
    (record { count = told.looks; rising = told.rising; low = told.seen })
