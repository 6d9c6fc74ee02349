use Rattle.std.proofs.Common.{◌≡◌, ◌+◌, arith, ap, length, ◌∷◌, [], get_or, length-append}
use Rattle.std.proofs.lemmas.List.{get_or_read}
use Rattle.sl_choices.proofs.Links.{linked_row}
use Rattle.sl_choices.proofs.chains.Chains.add_row.Goals as goal

pub returns-clause-linked : goal.returns-clause-linked
returns-clause-linked c =
    let self = c.args.self.now in
    let row = c.args.row in
    let link : c.index.result.now ≡ get_or self.last.items row.app.0 0 = get_or_read self.last.items row.app.0 _ c.requires.known c.index.ensures 0 in
    let longer = ap length c.in_ok-push-2.ensures.items in
    let count : c.len.result ≡ length self.rows.items + 1 = omega (arith, c.len.ensures, c.push-2.new.self.ok.0, longer, length-append self.rows.items (row ∷ [])) in
    rw (c.in_ok-push-2.ensures.items, c.in_ok-push.ensures.items, link, count) (linked_row self.rows.items self.last.items self.before.items row c.requires.linked c.requires.known)
