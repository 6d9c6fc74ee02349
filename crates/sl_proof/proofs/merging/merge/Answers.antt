use Rattle.std.proofs.Common.{◌≡◌, ◌<◌, ◌∙◌, ◌++◌, List, All, length, sym, ap, subst}
use Rattle.sl_types.specs.declared.kinds.Raise.{Raise}
use Rattle.sl_proof.specs.Merging.{raises_of}
use Rattle.sl_proof.proofs.Voids.{all_within}
use Rattle.sl_proof.proofs.merging.merge.Goals as goal

pub without_void-requires : goal.without_void-requires
without_void-requires c =
    let market = c.args.instance.now in
    let kept = c.args.kept.now in
    let sorted = c.by_ticket-sorted.result.items in
    let all = all_within market kept c.args.logged.items sorted c.requires.kept c.requires.within c.by_ticket-sorted.ensures in
    let is : c.deref-2.result.now ≡ kept ++ raises_of sorted = c.deref-2.ensures.value ∙ (c.in_ok-raises.ensures ∙ ap (λ l. kept ++ raises_of l) c.deref.ensures.value) in
    subst (λ (l : List Raise). All (λ r. r.pool.0 < length market.pools) l) (sym is) all
