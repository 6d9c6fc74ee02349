use Rattle.std.proofs.Common.{◌≡◌, ◌<◌, Bool, true, List, length, sym, ap, ◌∙◌, subst, arith}
use Rattle.sl_types.specs.Market.{Market}
use Rattle.sl_core.specs.Machine.{may_claim}
use Rattle.sl_floor.specs.Floor.{Sitting, SeatValue, claim_view, flag_place, is_up}
use Rattle.sl_floor.specs.Held.{IsSeated, Holds}
use Rattle.sl_floor.proofs.Keeps.{claims}
use Rattle.sl_floor.proofs.Hands.{claim_within, claim_holds}
use Rattle.sl_floor.proofs.Inside.{of_inside}
use Rattle.sl_floor.proofs.floor.Floor.claim.Goals as goal

pub swap-found-requires : goal.swap-found-requires
swap-found-requires c =
    let of = of_inside _ _ _ _ c.self.view_is c.seat.view_is c.requires.seat in
    let may = subst (λ (z : SeatValue). may_claim z.view.actor c.args.pool.0 ≡ true) (sym c.seat.view_is) c.requires.may in
    let inner = claim_within _ _ _ _ _ _ _ c.seat.invariant.1 c.args.pool.0 may in
    let market : Market = c.self.inside.table.shared.key.instance.value in
    let within : c.args.pool.0 < length market.pools = subst (λ (m : Market). c.args.pool.0 < length m.pools) of.market inner in
    let place : c.flag_place-place.result ≡ flag_place market c.args.pool.0 = c.flag_place-place.ensures market c.self.invariant.0 in
    let words = c.self.invariant.1 in
    (of.table, omega (arith, within, place, words), claims market c.self.inside.table.shared.key.kept.value.items c.self.inside.table.shared.table_id.slots c.seat.inside.token.id c.seat.inside.token.me of.shares of.market c.flag_place-place.result c.args.pool place may within)

pub invariant_of-seat : goal.invariant_of-seat
invariant_of-seat c =
    let of = of_inside _ _ _ _ c.self.view_is c.seat.view_is c.requires.seat in
    let may = subst (λ (z : SeatValue). may_claim z.view.actor c.args.pool.0 ≡ true) (sym c.seat.view_is) c.requires.may in
    let there = c.flag_place-place.ensures c.seat.inside.token.me.0.market (ap (λ (m : Market). length m.pools) of.market ∙ c.self.invariant.0) in
    let told = c.swap-found.ensures.2 in
    let view = told.1 c.args.pool there in
    let s = c.seat.inside in (
      told.0.slots ∙ c.seat.invariant.0,
      subst (λ (v : Sitting). Holds v s.known.items c.put.new.self s.share s.allowance c.args.pool s.limit) (sym view)
          (subst (λ (l : List Bool). Holds (claim_view s.token.me.0 c.args.pool (is_up c.swap-found.result)) s.known.items l s.share s.allowance c.args.pool s.limit) (sym c.put.ensures)
          (claim_holds s.token.me.0 s.known.items s.left s.share s.allowance s.pool s.limit c.seat.invariant.1 c.args.pool (is_up c.swap-found.result) may (subst IsSeated view told.0.seated))),
      c.seat.invariant.2,
      c.seat.invariant.3,
    )
