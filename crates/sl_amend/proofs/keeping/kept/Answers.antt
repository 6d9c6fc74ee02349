use Rattle.std.proofs.Common.{◌≡◌, length, List, sym, ap, subst, arith}
use Rattle.sl_types.specs.declared.kinds.Raise.{Raise}
use Rattle.sl_laws.specs.Raises.{Replays, zeros}
use Rattle.sl_amend.proofs.Replayed.{kept_replays}
use Rattle.sl_amend.specs.Amended.{origins_of}
use Rattle.sl_amend.proofs.Whole.{raises_in, kept_is}
use Rattle.sl_amend.proofs.keeping.kept.Goals as goal

pub keep-requires : goal.keep-requires
keep-requires c = record {
  within = λ k d k_in.
      let low = raises_in c.args.old.now _ zeros c.args.raises.now c.requires.replays k d k_in in
      let same : length c.deref.result.now ≡ length c.in_ok-flags.flags.items = ap length c.deref.ensures.value in
      let each = c.in_ok-flags.ensures.each in
      omega (arith, low, same, each);
}

pub returns-clause-replays : goal.returns-clause-replays
returns-clause-replays c =
    let old = c.args.old.now in
    let new = c.args.new.now in
    let was = origins_of c.args.origins.now in
    let is = kept_is old new was c.in_ok-flags.flags.items c.deref.result.now c.args.raises.now c.in_ok-kept.kept.items c.in_ok-flags.ensures.cone c.deref.ensures.value c.in_ok-kept.ensures in
    subst (λ (rs : List Raise). Replays new rs) (sym is) (kept_replays old new c.pools-old_pools.ensures.well_formed c.pools-new_pools.ensures.well_formed c.requires.amended was c.args.raises.now c.requires.replays)
