use Rattle.std.proofs.Common.{rules, ◌≡◌, ℕ, ◌<◌, ◌≤◌, true, length, set, sym, ap, ◌∙◌, subst, arith}
use Rattle.std.specs.Prelude.{slice_index}
use Rattle.sl_types.specs.Market.{Market}
use Rattle.sl_laws.specs.Stable.{IsStable}
use Rattle.sl_core.specs.declared.kinds.Phase.TheVariants.{Drawn}
use Rattle.sl_core.specs.Machine.{may_raise}
use Rattle.sl_floor.specs.Floor.{Sitting, FloorValue, SeatValue, raise_view}
use Rattle.sl_floor.specs.Held.{IsSeated, Holds}
use Rattle.sl_floor.proofs.Keeps.{raises}
use Rattle.sl_floor.proofs.Hands.{raise_hand, raise_holds, raise_rises}
use Rattle.sl_floor.proofs.Inside.{of_inside}
use Rattle.sl_floor.proofs.floor.Floor.raise.Goals as goal

pub fetch_max-found-requires : goal.fetch_max-found-requires
fetch_max-found-requires c =
    let of = of_inside _ _ _ _ c.self.view_is c.seat.view_is c.requires.seat in
    let may = subst (λ (z : SeatValue). may_raise z.view.actor.phase ≡ true) (sym c.seat.view_is) c.requires.may in
    let s = c.seat.inside in
    let hand = raise_hand (length s.token.me.0.market.pools) s.token.me.0.actor.phase s.pool s.limit c.seat.invariant.1.in_hand may in
    let words = c.self.invariant.1 in
    let within = subst (λ m. s.pool.0 < length m.pools) of.market hand.1 in
    (of.table, omega (arith, words, within), raises c.self.inside.table.shared.key.instance.value c.self.inside.table.shared.key.kept.value.items c.self.inside.table.shared.table_id.slots s.token.id s.token.me of.shares of.market s.pool s.limit hand.0)

pub overflow_cast-found : goal.overflow_cast-found
overflow_cast-found c =
    let may = subst (λ (z : SeatValue). may_raise z.view.actor.phase ≡ true) (sym c.seat.view_is) c.requires.may in
    let s = c.seat.inside in
    let hand = raise_hand (length s.token.me.0.market.pools) s.token.me.0.actor.phase s.pool s.limit c.seat.invariant.1.in_hand may in
    let top = (c.fetch_max-found.ensures.2.1 s.pool s.limit hand.0).1.top in omega (arith, top)

pub index_mut-requires : goal.index_mut-requires
index_mut-requires c =
    let may = subst (λ (z : SeatValue). may_raise z.view.actor.phase ≡ true) (sym c.seat.view_is) c.requires.may in
    let s = c.seat.inside in
    let hand = raise_hand (length s.token.me.0.market.pools) s.token.me.0.actor.phase s.pool s.limit c.seat.invariant.1.in_hand may in
    let within = hand.1 in let long = c.seat.invariant.1.seated.sizes.known in let same = ap length c.seat.invariant.1.known_is in
    let bound : s.pool.0 < length s.known.items = omega (arith, within, long, same) in search rules

pub invariant_of-seat : goal.invariant_of-seat
invariant_of-seat c =
    let may = subst (λ (z : SeatValue). may_raise z.view.actor.phase ≡ true) (sym c.seat.view_is) c.requires.may in
    let s = c.seat.inside in
    let hand = raise_hand (length s.token.me.0.market.pools) s.token.me.0.actor.phase s.pool s.limit c.seat.invariant.1.in_hand may in
    let told = c.fetch_max-found.ensures.2 in
    let view = (told.1 s.pool s.limit hand.0).0 in (
      told.0.slots ∙ c.seat.invariant.0,
      subst (λ (v : Sitting). Holds v (set s.known.items s.pool.0 c.max.result) s.left s.share s.allowance s.pool s.limit) (sym view)
          (subst (λ (y : ℕ). Holds (raise_view s.token.me.0 s.pool s.limit c.fetch_max-found.result) (set s.known.items s.pool.0 y) s.left s.share s.allowance s.pool s.limit) (sym c.max.ensures)
          (raise_holds s.token.me.0 s.known.items s.left s.share s.allowance s.pool s.limit c.seat.invariant.1 s.pool s.limit c.fetch_max-found.result (subst IsSeated view told.0.seated))),
      c.seat.invariant.2,
      c.seat.invariant.3,
    )

pub returns-clause-top : goal.returns-clause-top
returns-clause-top c =
    let may = subst (λ (z : SeatValue). may_raise z.view.actor.phase ≡ true) (sym c.seat.view_is) c.requires.may in
    let s = c.seat.inside in
    let hand = raise_hand (length s.token.me.0.market.pools) s.token.me.0.actor.phase s.pool s.limit c.seat.invariant.1.in_hand may in
    let top = (c.fetch_max-found.ensures.2.1 s.pool s.limit hand.0).1.top in omega (arith, top)

pub returns-clause-rises : goal.returns-clause-rises
returns-clause-rises c = λ Q.
    let may = subst (λ (z : SeatValue). may_raise z.view.actor.phase ≡ true) (sym c.seat.view_is) c.requires.may in
    let s = c.seat.inside in
    let hand = raise_hand (length s.token.me.0.market.pools) s.token.me.0.actor.phase s.pool s.limit c.seat.invariant.1.in_hand may in
    let told = c.fetch_max-found.ensures.2.1 s.pool s.limit hand.0 in
    subst (λ (z : SeatValue). slice_index z.view.actor.known Q ≤ slice_index c.fetch_max-found.new.seat.me.0.actor.known Q) c.seat.view_is
    (subst (λ (u : Sitting). slice_index s.token.me.0.actor.known Q ≤ slice_index u.actor.known Q) (sym told.0)
    (raise_rises s.token.me.0 s.known.items s.left s.share s.allowance s.pool s.limit c.seat.invariant.1 s.pool s.limit c.fetch_max-found.result told.1.rises Q))

pub returns-clause-low : goal.returns-clause-low
returns-clause-low c = λ P x drawn l stable.
    let may = subst (λ (z : SeatValue). may_raise z.view.actor.phase ≡ true) (sym c.seat.view_is) c.requires.may in
    let of = of_inside _ _ _ _ c.self.view_is c.seat.view_is c.requires.seat in
    let s = c.seat.inside in
    let here : s.token.me.0.actor.phase ≡ Drawn P x = subst (λ (z : SeatValue). z.view.actor.phase ≡ Drawn P x) (sym c.seat.view_is) drawn in
    (c.fetch_max-found.ensures.2.1 P x here).1.low l (subst (λ (m : Market). IsStable m l) (sym of.market) (subst (λ (f : FloorValue). IsStable f.market l) (sym c.self.view_is) stable))
