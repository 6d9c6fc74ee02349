use Rattle.std.proofs.Common.{◌≡◌, ap, false, Some, nat_eq, position}
use Rattle.sl_types.specs.declared.kinds.Entry.{Entry}
use Rattle.sl_types.specs.Rules.{has_prog_twice}
use Rattle.sl_choices.specs.Choices.{number_among}
use Rattle.sl_amend.specs.Applied.{with_list}
use Rattle.sl_amend.specs.Change.{choices_of}
use Rattle.sl_amend.specs.Register.{draft_of}
use Rattle.sl_amend.proofs.Chosen.{removed_is}
use Rattle.sl_amend.proofs.Counted.{fine_at}
use Rattle.sl_amend.proofs.Fine.{fine_parts}
use Rattle.sl_amend.proofs.register.Register.drop_row.Goals as goal

pub returns-clause-done : goal.returns-clause-done
returns-clause-done c =
    let draft = draft_of c.args.self.now in
    let a = c.in_ok-app.app.0 in
    let own = choices_of draft a in
    let g = number_among c.args.self.now.prog_codes c.args.row.programme.now in
    let number = c.in_ok-app.ensures.number in
    let known = c.in_ok-app.ensures.member.known in
    let once : has_prog_twice own ≡ false = (fine_parts _ own (fine_at _ _ _ _ _ a c.requires.roll known)).once in
    let index : position (λ (e : Entry). nat_eq e.prog.0 g) own ≡ Some c.in_ok-at.at = rw c.own-own.ensures at c.in_ok-at.ensures.index in
    rw number (ap (with_list draft a) (removed_is g own c.in_ok-at.at once index))
