use Rattle.std.proofs.Common.{◌<◌, length, sym, ap, subst, arith}
use Rattle.std.specs.Prelude.{slice_index}
use Rattle.sl_laws.specs.Stable.{IsStable}
use Rattle.sl_core.proofs.Running.{number_at}
use Rattle.sl_floor.specs.Floor.{SeatValue}
use Rattle.sl_floor.proofs.seat.Seat.known.Goals as goal

pub returns-clause-low : goal.returns-clause-low
returns-clause-low c = λ l stable.
    let s = c.self.inside in
    let h = c.self.invariant.1 in
    let within = subst (λ (z : SeatValue). c.args.pool.0 < length z.view.market.pools) (sym c.self.view_is) c.requires in
    let long = h.seated.sizes.known in let same = ap length h.known_is in
    let number = number_at s.known.items c.args.pool.0 c.index.result.now (omega (arith, within, long, same)) c.index.ensures in
    let known = ap (λ ns. slice_index ns c.args.pool.0) h.known_is in
    let low = h.seated.low l (subst (λ (z : SeatValue). IsStable z.view.market l) (sym c.self.view_is) stable) c.args.pool.0 in
    omega (arith, number, known, low)
