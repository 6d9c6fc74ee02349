use Rattle.std.proofs.Common.{◌≡◌, ℕ, ◌-◌, ◌/◌, ◌≤◌, Bool, List, length, sym, ap, ◌∙◌, subst, arith}
use Rattle.sl_types.specs.Market.{Market}
use Rattle.sl_floor.specs.Floor.{Sitting, FloorValue, BlankValue, SeatValue, go_view}
use Rattle.sl_floor.specs.Held.{Holds}
use Rattle.sl_floor.proofs.Ends.{splits}
use Rattle.sl_floor.proofs.Hands.{stay_holds, go_holds}
use Rattle.sl_floor.proofs.Inside.{of_inside}
use Rattle.sl_floor.proofs.floor.Floor.split.Goals as goal

pub split_token-token-requires-clause-splits : goal.split_token-token-requires-clause-splits
split_token-token-requires-clause-splits c =
    let of = of_inside _ _ _ _ c.self.view_is c.seat.view_is c.requires.seat in
    let two = subst (λ (z : SeatValue). 2 ≤ z.view.share) (sym c.seat.view_is) c.requires.share in
    splits c.self.inside.table.shared.key.instance.value c.self.inside.table.shared.key.kept.value.items c.seat.inside.token.id c.seat.inside.token.me.0 c.args.bare of.market two

pub invariant_of-seat : goal.invariant_of-seat
invariant_of-seat c =
    let s = c.seat.inside in
    let told = c.split_token-token.ensures in (
      told.slots ∙ c.seat.invariant.0,
      subst (λ (v : Sitting). Holds v s.known.items s.left (s.share - s.share / 2) (s.allowance - s.allowance / 2) s.pool s.limit) (sym told.stays)
          (stay_holds s.token.me.0 s.known.items s.left s.share s.allowance s.pool s.limit c.seat.invariant.1),
      c.seat.invariant.2,
      c.seat.invariant.3,
    )

pub invariant_of-result : goal.invariant_of-result
invariant_of-result c =
    let of = of_inside _ _ _ _ c.self.view_is c.seat.view_is c.requires.seat in
    let s = c.seat.inside in
    let told = c.split_token-token.ensures.goes in
    let blank = ap (λ (b : BlankValue). b.pools) c.blank.view_is in
    let floor = ap (λ (f : FloorValue). length f.market.pools) c.self.view_is in
    let own = ap (λ (m : Market). length m.pools) of.market in
    let fits = c.requires.blank in let flags = c.blank.invariant.0 in
    let pools : length c.blank.inside.left ≡ length s.token.me.0.market.pools = omega (arith, blank, floor, own, fits, flags) in
    let known : c.copy_of-known.result.items ≡ s.known.items = c.copy_of-known.ensures ∙ c.deref.ensures.value in
    let empty = ap length c.blank.invariant.1 in (
      told.1,
      subst (λ (v : Sitting). Holds v c.copy_of-known.result.items c.copy_from.new.self (s.share / 2) (s.allowance / 2) (record { 0 = 0 }) 0) (sym told.0)
          (subst (λ (l : List ℕ). Holds (go_view c.args.bare s.token.me.0) l c.copy_from.new.self (s.share / 2) (s.allowance / 2) (record { 0 = 0 }) 0) (sym known)
          (subst (λ (l : List Bool). Holds (go_view c.args.bare s.token.me.0) s.known.items l (s.share / 2) (s.allowance / 2) (record { 0 = 0 }) 0) (sym c.copy_from.ensures)
          (go_holds s.token.me.0 s.known.items s.left s.share s.allowance s.pool s.limit c.seat.invariant.1 c.args.bare (length c.blank.inside.left) pools))),
      omega (arith, empty),
      c.blank.invariant.2,
    )
