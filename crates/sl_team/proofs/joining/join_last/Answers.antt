use Rattle.std.proofs.Common.{◌≡◌, ◌∙◌, ◌++◌, ◌∷◌, [], List, All, length, set, get_or, ap, sym, subst, arith, refl, length-append}
use Rattle.std.proofs.lemmas.List.Elements.{All-push}
use Rattle.sl_floor.specs.Floor.{SeatValue, Sitting, both_view}
use Rattle.sl_types.specs.Market.{Market}
use Rattle.sl_desk.specs.Desks.{IsFor}
use Rattle.sl_team.specs.Seats.{SpareValue, IsSpare, IsAtRest}
use Rattle.sl_team.proofs.Joined.{all_front}
use Rattle.sl_team.proofs.joining.join_last.Goals as goal

pub returns-clause-joined : goal.returns-clause-joined
returns-clause-joined c =
    let rest = c.pop.new.self.items in
    let first : SeatValue = c.behind-crew.inside.seat in
    let last : SeatValue = c.in-Some.place in
    let crew_is = c.in-Some.ensures.items in
    let long = ap length crew_is ∙ length-append rest (last ∷ []) in
    let two = c.requires.two in
    let last_is : last ≡ c.place.inside.seat = sym c.place.view_is in
    let first_is : c.index_mut.result.now ≡ first = sym c.behind-crew.view_is in
    let view_is : c.clear_log.new.seat.view ≡ last.view = ap (λ (s : SeatValue). s.view) c.clear_log.ensures ∙ sym (ap (λ (s : SeatValue). s.view) last_is) in (
      last.log,
      record {
        rest = rest;
        first = first;
        last = last;
        crew_is = crew_is;
        some = omega (arith, long, two);
        first_is = subst (λ (s : SeatValue). get_or rest 0 s ≡ s) first_is (sym c.index_mut.ensures.value);
        later_is = ap (λ (s : SeatValue). set rest 0 s) (c.join-blank.ensures.into ∙ ap (λ (v : Sitting). record first { view = both_view first.view v }) view_is);
        more_is = refl;
      },
      c.extend_from_slice.ensures.items ∙ rw c.unwrap.ensures (ap (λ l. c.args.gathered.now.items ++ l) (c.log.ensures ∙ sym (ap (λ (s : SeatValue). s.log) last_is))),
    )

pub returns-clause-spares : goal.returns-clause-spares
returns-clause-spares c =
    let floor = c.args.floor.now in
    let room = c.args.room in
    let seat : SeatValue = c.place.inside.seat in
    let spare : SpareValue = record { blank = c.join-blank.result; desk = c.place.inside.desk } in
    let rests = all_front (IsAtRest floor room) c.pop.new.self.items c.in-Some.place (subst (All (IsAtRest floor room)) c.in-Some.ensures.items c.requires.crew.each) in
    let last : IsAtRest floor room seat = subst (IsAtRest floor room) (sym c.place.view_is) rests.1 in
    let made : IsSpare floor room spare = record {
      pools = c.join-blank.ensures.blank.0;
      room_is = c.join-blank.ensures.blank.1 ∙ (ap (λ (s : SeatValue). s.room) c.clear_log.ensures ∙ last.room_is);
      desk = subst (λ (m : Market). IsFor m c.place.inside.desk) last.of.market c.place.invariant;
    } in
    let pushed : c.push.new.self.items ≡ c.args.spares.now.items ++ spare ∷ [] = c.push.ensures.items ∙ rw c.unwrap-2.ensures refl in
    subst (λ (l : List SpareValue). All (IsSpare floor room) l) (sym pushed) (All-push (IsSpare floor room) c.args.spares.now.items spare c.requires.spares made)
