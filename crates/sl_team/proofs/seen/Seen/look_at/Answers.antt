use Rattle.std.proofs.Common.{◌∙◌, ◌<◌, List, ℕ, [], length, map, set, sym, ap, subst, arith}
use Rattle.std.proofs.lemmas.List.{length-map, map-set, get_or-map}
use Rattle.sl_team.specs.Watching.{AreLong}
use Rattle.sl_team.proofs.seen.Seen.look_at.Goals as goal

pub look_into-requires-clause-long : goal.look_into-requires-clause-long
look_into-requires-clause-long c =
    let market = c.args.floor.now.market in
    let looks = c.self.inside.looks.items in
    let all : AreLong market (map (λ look. look.items) looks) = subst (AreLong market) (sym c.self.view_is) c.requires.long in
    let size = length-map looks (λ look. look.items) in
    let same = ap length c.self.view_is in
    let within = c.requires.within in
    let inside : c.args.at < length looks = omega (arith, within, size, same) in
    let at = get_or-map (λ look. look.items) looks c.args.at c.index_mut.result.now [] inside in
    let value = c.index_mut.ensures.value in
    let long = all c.args.at [] (omega (arith, within, same)) in
    ap (λ look. length look.items) value ∙ (sym (ap length at) ∙ long)

pub returns-clause-seen : goal.returns-clause-seen
returns-clause-seen c =
    map-set (λ look. look.items) c.self.inside.looks.items c.args.at c.look_into.new.numbers ∙ (ap (λ (l : List (List ℕ)). set l c.args.at c.look_into.new.numbers.items) c.self.view_is
    ∙ ap (set c.args.self.now c.args.at) c.look_into.ensures.numbers)
