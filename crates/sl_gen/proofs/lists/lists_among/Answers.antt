use Rattle.std.proofs.Common.{refl, arith}
use Rattle.sl_gen.proofs.Between.{one_more, none_between}
use Rattle.sl_gen.proofs.lists.lists_among.Goals as goal

pub loop-app-init : goal.loop-app-init
loop-app-init c = rw c.in_ok-lists.ensures (none_between c.args.progs c.args.first)

pub loop-app-preserved : goal.loop-app-preserved
loop-app-preserved c =
    let more = one_more c.args.progs c.args.first c.loop-app.app (omega arith) in
    rw (c.in_ok-push.ensures, c.loop-app.invariant, c.as_slice.ensures.value, c.in_ok-choose.ensures, more) refl
