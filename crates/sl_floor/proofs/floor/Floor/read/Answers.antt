use Rattle.std.proofs.Common.{◌≡◌, ℕ, ◌≤◌, true, refl, set, sym, ◌∙◌, subst, arith}
use Rattle.std.specs.Prelude.{slice_index}
use Rattle.sl_types.specs.Market.{Market}
use Rattle.sl_core.specs.Machine.{may_read}
use Rattle.sl_core.proofs.Running.{read_within}
use Rattle.sl_floor.specs.Floor.{Sitting, FloorValue, SeatValue, IsOf, CanRead}
use Rattle.sl_floor.specs.Held.{IsSeated, Holds}
use Rattle.sl_floor.proofs.Keeps.{reads}
use Rattle.sl_floor.proofs.Hands.{read_holds, read_rises}
use Rattle.sl_floor.proofs.Inside.{of_inside}
use Rattle.sl_floor.proofs.floor.Floor.read.Goals as goal

-- what may be read, by the fields
may_inside : (f g : FloorValue) (y z : SeatValue) (Q : ℕ) → f ≡ g → y ≡ z → IsOf f y → CanRead g z Q → may_read y.view.market y.view.actor.phase y.view.actor Q ≡ true
may_inside f g y z Q same also of may =
    subst (λ (m : Market). may_read m y.view.actor.phase y.view.actor Q ≡ true) (sym of.market)
    (subst (λ (h : FloorValue). CanRead h y Q) (sym same) (subst (λ (x : SeatValue). CanRead g x Q) (sym also) may))

pub load-found-requires : goal.load-found-requires
load-found-requires c =
    let of = of_inside _ _ _ _ c.self.view_is c.seat.view_is c.requires.seat in
    let own = may_inside _ _ _ _ c.args.pool.0 c.self.view_is c.seat.view_is of c.requires.may in
    let market : Market = c.self.inside.table.shared.key.instance.value in
    let may = subst (λ (m : Market). may_read m c.seat.inside.token.me.0.actor.phase c.seat.inside.token.me.0.actor c.args.pool.0 ≡ true) of.market own in
    let within = read_within market _ _ c.args.pool.0 may in
    let words = c.self.invariant.1 in
    (of.table, omega (arith, within, words), reads market c.self.inside.table.shared.key.kept.value.items c.self.inside.table.shared.table_id.slots c.seat.inside.token.id c.seat.inside.token.me of.shares of.market c.args.pool.0 may)

pub overflow_cast-found : goal.overflow_cast-found
overflow_cast-found c = let top = (c.load-found.ensures.2.1 c.args.pool.0 refl).1.top in omega (arith, top)

pub invariant_of-seat : goal.invariant_of-seat
invariant_of-seat c =
    let of = of_inside _ _ _ _ c.self.view_is c.seat.view_is c.requires.seat in
    let own = may_inside _ _ _ _ c.args.pool.0 c.self.view_is c.seat.view_is of c.requires.may in
    let told = c.load-found.ensures.2 in
    let view = (told.1 c.args.pool.0 refl).0 in
    let s = c.seat.inside in (
      told.0.slots ∙ c.seat.invariant.0,
      subst (λ (v : Sitting). Holds v (set s.known.items c.args.pool.0 c.load-found.result) s.left s.share s.allowance s.pool s.limit) (sym view)
          (read_holds s.token.me.0 s.known.items s.left s.share s.allowance s.pool s.limit c.seat.invariant.1 c.args.pool.0 c.load-found.result own (subst IsSeated view told.0.seated)),
      c.seat.invariant.2,
      c.seat.invariant.3,
    )

pub returns-clause-rises : goal.returns-clause-rises
returns-clause-rises c = λ Q.
    let of = of_inside _ _ _ _ c.self.view_is c.seat.view_is c.requires.seat in
    let own = may_inside _ _ _ _ c.args.pool.0 c.self.view_is c.seat.view_is of c.requires.may in
    let told = c.load-found.ensures.2.1 c.args.pool.0 refl in
    let s = c.seat.inside in
    subst (λ (z : SeatValue). slice_index z.view.actor.known Q ≤ slice_index c.load-found.new.seat.me.0.actor.known Q) c.seat.view_is
    (subst (λ (u : Sitting). slice_index s.token.me.0.actor.known Q ≤ slice_index u.actor.known Q) (sym told.0)
    (read_rises s.token.me.0 s.known.items s.left s.share s.allowance s.pool s.limit c.seat.invariant.1 c.args.pool.0 c.load-found.result own told.1.rises Q))
