use Rattle.sl_amend.specs.Applied.{with_choice}
use Rattle.sl_amend.proofs.Counted.{always_err}
use Rattle.sl_amend.proofs.Written.{list_written, list_kept}
use Rattle.sl_amend.proofs.roll.insert_at.Goals as goal

pub returns-clause-ok : goal.returns-clause-ok
returns-clause-ok c =
    let lists = c.args.lists.now in
    let app = c.args.app in
    list_written lists app c.insert_choice.new.list c.index-lists-app.result (with_choice c.args.choice) c.requires.known c.in_ok-insert_choice.ensures.ok

pub returns-in_err-insert_choice-clause-err : goal.returns-in_err-insert_choice-clause-err
returns-in_err-insert_choice-clause-err c =
    let lists = c.args.lists.now in
    let app = c.args.app in
    always_err _ _ (list_kept lists app c.insert_choice.new.list c.index-lists-app.result c.requires.known c.in_err-insert_choice.ensures.err)
