use Rattle.std.proofs.Common.{◌≡◌, true, length, sym, ap, ◌∙◌, subst, arith}
use Rattle.std.specs.Slots.{slots_items}
use Rattle.sl_core.specs.State.{is_idle}
use Rattle.sl_floor.specs.declared.shares.TheConstants.{WHOLE_SHARE}
use Rattle.sl_floor.specs.Floor.{FloorValue, SeatValue}
use Rattle.sl_floor.proofs.Last.{final_low, closing}
use Rattle.sl_floor.proofs.Inside.{of_inside, closes_inside}
use Rattle.sl_floor.proofs.floor.Floor.close.Goals as goal

pub write_limits-requires-clause-low : goal.write_limits-requires-clause-low
write_limits-requires-clause-low c = λ k h.
    let of = of_inside _ _ _ _ c.self.view_is c.seat.view_is c.requires.seat in
    let whole = subst (λ (z : SeatValue). z.view.share ≡ WHOLE_SHARE) (sym c.seat.view_is) c.requires.whole in
    let idle = subst (λ (z : SeatValue). is_idle z.view.actor.phase ≡ true) (sym c.seat.view_is) c.requires.idle in
    let out = subst (λ (f : FloorValue). length c.args.out.now ≡ length f.market.pools) (sym c.self.view_is) c.requires.out in
    final_low c.self.inside.table.shared.key.instance.value c.self.inside.table.shared.key.kept.value.items c.seat.inside.token.id c.seat.inside.token.me.0 of.market whole idle (slots_items c.close_with-closed.result.words) (slots_items c.close_with-closed.result.slots) c.close_with-closed.ensures.values.2 k (omega (arith, h, out))

pub returns-clause-ordered : goal.returns-clause-ordered
returns-clause-ordered c =
    let of = of_inside _ _ _ _ c.self.view_is c.seat.view_is c.requires.seat in
    let whole = subst (λ (z : SeatValue). z.view.share ≡ WHOLE_SHARE) (sym c.seat.view_is) c.requires.whole in
    let idle = subst (λ (z : SeatValue). is_idle z.view.actor.phase ≡ true) (sym c.seat.view_is) c.requires.idle in
    let out = subst (λ (f : FloorValue). length c.args.out.now ≡ length f.market.pools) (sym c.self.view_is) c.requires.out in
    let long = c.write_limits.ensures.length in
    let closes = closing c.self.inside.table.shared.key.instance.value c.self.inside.table.shared.key.kept.value.items c.seat.inside.token.id c.seat.inside.token.me.0 of.market whole idle (slots_items c.close_with-closed.result.words) (slots_items c.close_with-closed.result.slots) c.close_with-closed.ensures.values.2 c.write_limits.new.out (long ∙ out) (λ k h. c.write_limits.ensures.each k (omega (arith, h, long))) in
    (closes_inside c.self.inside.table.shared.key.instance.value c.self.inside.table.shared.key.kept.value.items _ _ c.of-shown.result.value c.write_limits.new.out c.of.result.value.items of.market of.kept c.seat.view_is c.of-shown.ensures (ap (λ v. v.items) c.of.ensures ∙ c.copy_of-known.ensures) closes).whole

pub returns-clause-settled : goal.returns-clause-settled
returns-clause-settled c =
    let of = of_inside _ _ _ _ c.self.view_is c.seat.view_is c.requires.seat in
    let whole = subst (λ (z : SeatValue). z.view.share ≡ WHOLE_SHARE) (sym c.seat.view_is) c.requires.whole in
    let idle = subst (λ (z : SeatValue). is_idle z.view.actor.phase ≡ true) (sym c.seat.view_is) c.requires.idle in
    let out = subst (λ (f : FloorValue). length c.args.out.now ≡ length f.market.pools) (sym c.self.view_is) c.requires.out in
    let long = c.write_limits.ensures.length in
    let closes = closing c.self.inside.table.shared.key.instance.value c.self.inside.table.shared.key.kept.value.items c.seat.inside.token.id c.seat.inside.token.me.0 of.market whole idle (slots_items c.close_with-closed.result.words) (slots_items c.close_with-closed.result.slots) c.close_with-closed.ensures.values.2 c.write_limits.new.out (long ∙ out) (λ k h. c.write_limits.ensures.each k (omega (arith, h, long))) in
    (closes_inside c.self.inside.table.shared.key.instance.value c.self.inside.table.shared.key.kept.value.items _ _ c.of-shown.result.value c.write_limits.new.out c.of.result.value.items of.market of.kept c.seat.view_is c.of-shown.ensures (ap (λ v. v.items) c.of.ensures ∙ c.copy_of-known.ensures) closes).settled

pub returns-clause-least : goal.returns-clause-least
returns-clause-least c =
    let of = of_inside _ _ _ _ c.self.view_is c.seat.view_is c.requires.seat in
    let whole = subst (λ (z : SeatValue). z.view.share ≡ WHOLE_SHARE) (sym c.seat.view_is) c.requires.whole in
    let idle = subst (λ (z : SeatValue). is_idle z.view.actor.phase ≡ true) (sym c.seat.view_is) c.requires.idle in
    let out = subst (λ (f : FloorValue). length c.args.out.now ≡ length f.market.pools) (sym c.self.view_is) c.requires.out in
    let long = c.write_limits.ensures.length in
    let closes = closing c.self.inside.table.shared.key.instance.value c.self.inside.table.shared.key.kept.value.items c.seat.inside.token.id c.seat.inside.token.me.0 of.market whole idle (slots_items c.close_with-closed.result.words) (slots_items c.close_with-closed.result.slots) c.close_with-closed.ensures.values.2 c.write_limits.new.out (long ∙ out) (λ k h. c.write_limits.ensures.each k (omega (arith, h, long))) in
    (closes_inside c.self.inside.table.shared.key.instance.value c.self.inside.table.shared.key.kept.value.items _ _ c.of-shown.result.value c.write_limits.new.out c.of.result.value.items of.market of.kept c.seat.view_is c.of-shown.ensures (ap (λ v. v.items) c.of.ensures ∙ c.copy_of-known.ensures) closes).least

pub returns-clause-proves : goal.returns-clause-proves
returns-clause-proves c =
    let of = of_inside _ _ _ _ c.self.view_is c.seat.view_is c.requires.seat in
    let whole = subst (λ (z : SeatValue). z.view.share ≡ WHOLE_SHARE) (sym c.seat.view_is) c.requires.whole in
    let idle = subst (λ (z : SeatValue). is_idle z.view.actor.phase ≡ true) (sym c.seat.view_is) c.requires.idle in
    let out = subst (λ (f : FloorValue). length c.args.out.now ≡ length f.market.pools) (sym c.self.view_is) c.requires.out in
    let long = c.write_limits.ensures.length in
    let closes = closing c.self.inside.table.shared.key.instance.value c.self.inside.table.shared.key.kept.value.items c.seat.inside.token.id c.seat.inside.token.me.0 of.market whole idle (slots_items c.close_with-closed.result.words) (slots_items c.close_with-closed.result.slots) c.close_with-closed.ensures.values.2 c.write_limits.new.out (long ∙ out) (λ k h. c.write_limits.ensures.each k (omega (arith, h, long))) in
    (closes_inside c.self.inside.table.shared.key.instance.value c.self.inside.table.shared.key.kept.value.items _ _ c.of-shown.result.value c.write_limits.new.out c.of.result.value.items of.market of.kept c.seat.view_is c.of-shown.ensures (ap (λ v. v.items) c.of.ensures ∙ c.copy_of-known.ensures) closes).proves
