use Rattle.std.proofs.Common.{rules, ◌≡◌, ℕ, ◌+◌, ◌≤◌, min, Bool, true, List, [], sym, ◌∙◌, subst, arith}
use Rattle.std.specs.Prelude.{slice_index}
use Rattle.std.proofs.lemmas.Grind.{common_steps}
use Rattle.sl_core.specs.State.{is_idle}
use Rattle.sl_core.specs.Dividing.{greater_of, either_of}
use Rattle.sl_floor.specs.declared.shares.TheConstants.{WHOLE_SHARE}
use Rattle.sl_floor.specs.Floor.{SeatValue, Sitting, both_view}
use Rattle.sl_floor.specs.Held.{Holds}
use Rattle.sl_floor.proofs.Ends.{joins}
use Rattle.sl_floor.proofs.Both.{both_holds, both_rises}
use Rattle.sl_floor.proofs.Inside.{of_inside}
use Rattle.sl_floor.proofs.floor.Floor.join.Goals as goal

pub join_seat-requires : goal.join_seat-requires
join_seat-requires c =
    let of = of_inside _ _ _ _ c.self.view_is c.into.view_is c.requires.into in
    let its = of_inside _ _ _ _ c.self.view_is c.other.view_is c.requires.other in
    let words = c.self.invariant.1 in
    let idle = subst (λ (z : SeatValue). is_idle z.view.actor.phase ≡ true) (sym c.into.view_is) c.requires.idle in
    let its_idle = subst (λ (z : SeatValue). is_idle z.view.actor.phase ≡ true) (sym c.other.view_is) c.requires.other_idle in (
      of.table,
      its.table,
      c.other.invariant.0,
      omega (arith, words),
      joins c.self.inside.table.shared.key.instance.value c.self.inside.table.shared.key.kept.value.items c.into.inside.token.id c.other.inside.token.id c.into.inside.token.me.0 c.other.inside.token.me.0 of.market its.market of.shares its.shares idle its_idle,
    )

pub invariant_of-into : goal.invariant_of-into
invariant_of-into c =
    let of = of_inside _ _ _ _ c.self.view_is c.into.view_is c.requires.into in
    let its = of_inside _ _ _ _ c.self.view_is c.other.view_is c.requires.other in
    let v = c.into.inside in let w = c.other.inside in
    let known : c.swap.new.x.items ≡ greater_of v.known.items w.known.items = grind (arith, common_steps) in
    let left : c.swap-2.new.x ≡ either_of v.left w.left = search rules in
    let view : c.join_seat.new.seat.me.0 ≡ both_view v.token.me.0 w.token.me.0 = search rules in
    let empty : c.join_seat.new.seat.me.1 ≡ [] = search rules in
    let share = c.min-into-inside.ensures in let allowance = c.min-into-inside-2.ensures in
    let both = both_view v.token.me.0 w.token.me.0 in (
      empty,
      subst (λ (s : Sitting). Holds s c.swap.new.x.items c.swap-2.new.x c.min-into-inside.result c.min-into-inside-2.result v.pool v.limit) (sym view)
          (subst (λ (l : List ℕ). Holds both l c.swap-2.new.x c.min-into-inside.result c.min-into-inside-2.result v.pool v.limit) (sym known)
          (subst (λ (l : List Bool). Holds both (greater_of v.known.items w.known.items) l c.min-into-inside.result c.min-into-inside-2.result v.pool v.limit) (sym left)
          (subst (λ (n : ℕ). Holds both (greater_of v.known.items w.known.items) (either_of v.left w.left) n c.min-into-inside-2.result v.pool v.limit) (sym share)
          (subst (λ (n : ℕ). Holds both (greater_of v.known.items w.known.items) (either_of v.left w.left) (min (v.share + w.share) WHOLE_SHARE) n v.pool v.limit) (sym allowance)
          (both_holds v.token.me.0 w.token.me.0 v.known.items w.known.items v.left w.left v.share w.share v.allowance w.allowance v.pool w.pool v.limit w.limit c.into.invariant.1 c.other.invariant.1 (its.market ∙ sym of.market)))))),
      c.into.invariant.2,
      c.into.invariant.3,
    )

pub returns-clause-rises : goal.returns-clause-rises
returns-clause-rises c = λ Q.
    let of = of_inside _ _ _ _ c.self.view_is c.into.view_is c.requires.into in
    let its = of_inside _ _ _ _ c.self.view_is c.other.view_is c.requires.other in
    let v = c.into.inside.token.me.0 in let w = c.other.inside.token.me.0 in
    let view : c.join_seat.new.seat.me.0 ≡ both_view v w = search rules in
    let both = both_rises v w c.into.invariant.1.seated c.other.invariant.1.seated (its.market ∙ sym of.market) in
    subst (λ (z : SeatValue). slice_index z.view.actor.known Q ≤ slice_index c.join_seat.new.seat.me.0.actor.known Q) c.into.view_is
    (subst (λ (u : Sitting). slice_index v.actor.known Q ≤ slice_index u.actor.known Q) (sym view) (both.0 Q))

pub returns-clause-gathers : goal.returns-clause-gathers
returns-clause-gathers c = λ Q.
    let of = of_inside _ _ _ _ c.self.view_is c.into.view_is c.requires.into in
    let its = of_inside _ _ _ _ c.self.view_is c.other.view_is c.requires.other in
    let v = c.into.inside.token.me.0 in let w = c.other.inside.token.me.0 in
    let view : c.join_seat.new.seat.me.0 ≡ both_view v w = search rules in
    let both = both_rises v w c.into.invariant.1.seated c.other.invariant.1.seated (its.market ∙ sym of.market) in
    subst (λ (z : SeatValue). slice_index z.view.actor.known Q ≤ slice_index c.join_seat.new.seat.me.0.actor.known Q) c.other.view_is
    (subst (λ (u : Sitting). slice_index w.actor.known Q ≤ slice_index u.actor.known Q) (sym view) (both.1 Q))
