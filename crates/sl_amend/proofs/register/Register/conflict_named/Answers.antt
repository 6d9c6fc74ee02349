use Rattle.std.proofs.Common.{◌∙◌, sym}
use Rattle.sl_amend.specs.Parts.{record_of}
use Rattle.sl_amend.proofs.Named.{differs_named, ties_named}
use Rattle.sl_amend.proofs.register.Register.conflict_named.Goals as goal

pub returns-in-Some-clause-differs : goal.returns-in-Some-clause-differs
returns-in-Some-clause-differs c =
    let named = sym c.in-Some.ensures.choice in
    c.is_contradicted.ensures
    ∙ rw (c.deref.ensures.value, c.own-own.ensures)
    (differs_named c.args.self.now c.requires (record_of c.args.row) c.in-Some.app.0 c.in-Some.choice named c.in-Some.ensures.number)

pub returns-in-Some-clause-ties : goal.returns-in-Some-clause-ties
returns-in-Some-clause-ties c =
    let named = sym c.in-Some.ensures.choice in
    c.is_held_beyond.ensures
    ∙ rw c.own-own.ensures
    (ties_named c.args.self.now c.requires (record_of c.args.row) c.in-Some.app.0 c.in-Some.choice named c.in-Some.ensures.number)
