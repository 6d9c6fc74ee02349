use Rattle.std.proofs.Common.{◌≡◌, ◌∙◌, ◌++◌, ◌∷◌, [], List, All, length, ap, sym, subst, arith, refl, length-append}
use Rattle.std.proofs.lemmas.List.Elements.{All-push}
use Rattle.sl_desk.specs.Desks.{IsFor}
use Rattle.sl_types.specs.Market.{Market}
use Rattle.sl_team.specs.Seats.{SpareValue, IsSpare}
use Rattle.sl_team.proofs.opening.spares_for.Goals as goal

pub loop-worker-preserved : goal.loop-worker-preserved
loop-worker-preserved c =
    let made : SpareValue = record { blank = c.in_ok-blank.blank; desk = c.in_ok-desk.desk } in
    let pushed : c.push.new.self.items ≡ c.loop-worker.spares.items ++ made ∷ [] = c.push.ensures.items ∙ rw c.unwrap.ensures refl in
    let longer = ap length pushed ∙ length-append c.loop-worker.spares.items (made ∷ []) in
    let count = c.loop-worker.invariant.count in
    record {
      count = omega (arith, longer, count);
      capacity = let a = c.loop-worker.invariant.capacity in let b = c.push.ensures.capacity in omega (arith, a, b);
      spares = λ floor is.
          let fits : IsSpare floor c.args.room made = record {
            pools = c.in_ok-blank.ensures.pools ∙ sym (ap (λ (m : Market). length m.pools) is);
            room_is = c.in_ok-blank.ensures.room;
            desk = subst (λ (m : Market). IsFor m c.in_ok-desk.desk) (sym is) c.in_ok-desk.ensures.desk;
          } in
          subst (λ (l : List SpareValue). All (IsSpare floor c.args.room) l) (sym pushed) (All-push (IsSpare floor c.args.room) c.loop-worker.spares.items made (c.loop-worker.invariant.spares floor is) fits);
    }
