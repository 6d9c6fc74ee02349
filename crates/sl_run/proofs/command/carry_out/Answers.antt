use Rattle.std.proofs.Common.{refl}
use Rattle.sl_check.specs.declared.verdict.Verdict.TheVariants.{Yes}
use Rattle.sl_run.proofs.Accepting.{nothing_read}
use Rattle.sl_run.proofs.command.carry_out.Goals as goal

pub returns-in-Ok-clause-done : goal.returns-in-Ok-clause-done
returns-in-Ok-clause-done g c = rw (c.in-Clear.is, c.with_receipt.ensures) (nothing_read, Yes, refl)

pub returns-in-Ok-clause-floor : goal.returns-in-Ok-clause-floor
returns-in-Ok-clause-floor g c = rw (c.in-Clear.is, c.with_receipt.ensures) c.in-Ok.ensures.floor

pub returns-in-Err-clause-left : goal.returns-in-Err-clause-left
returns-in-Err-clause-left g c = rw c.in-Clear.is c.in-Err.ensures.left

pub returns-in-Err-clause-cause : goal.returns-in-Err-clause-cause
returns-in-Err-clause-cause g c = rw c.in-Clear.is c.in-Err.ensures.cause

pub returns-in-Err-check_to-clause-left : goal.returns-in-Err-check_to-clause-left
returns-in-Err-check_to-clause-left g c = rw c.in-Check.is c.in-Err-check_to.ensures.left

pub returns-in-Err-check_to-clause-cause : goal.returns-in-Err-check_to-clause-cause
returns-in-Err-check_to-clause-cause g c = rw c.in-Check.is c.in-Err-check_to.ensures.cause

pub returns-in-Ok-demo_to-clause-done : goal.returns-in-Ok-demo_to-clause-done
returns-in-Ok-demo_to-clause-done g c = rw (c.in-Demo.is, c.with_receipt-in-Ok-demo_to.ensures) (nothing_read, Yes, refl)

pub returns-in-Ok-demo_to-clause-floor : goal.returns-in-Ok-demo_to-clause-floor
returns-in-Ok-demo_to-clause-floor g c = rw (c.in-Demo.is, c.with_receipt-in-Ok-demo_to.ensures) c.in-Ok-demo_to.ensures.floor

pub returns-in-Err-demo_to-clause-left : goal.returns-in-Err-demo_to-clause-left
returns-in-Err-demo_to-clause-left g c = rw c.in-Demo.is (c.in-Err-demo_to.ensures.left (g.S.Shelf.files c.args.shelf.now))

pub returns-in-Err-demo_to-clause-cause : goal.returns-in-Err-demo_to-clause-cause
returns-in-Err-demo_to-clause-cause g c =
    rw c.in-Demo.is (c.in-Err-demo_to.ensures.cause (g.S.Shelf.files c.args.shelf.now) (g.S.Shelf.files c.args.shelf.now))

pub returns-in-Ok-watch_to-clause-done : goal.returns-in-Ok-watch_to-clause-done
returns-in-Ok-watch_to-clause-done g c = rw (c.in-Watch.is, c.with_receipt-in-Ok-watch_to.ensures) (nothing_read, Yes, refl)

pub returns-in-Ok-watch_to-clause-floor : goal.returns-in-Ok-watch_to-clause-floor
returns-in-Ok-watch_to-clause-floor g c = rw (c.in-Watch.is, c.with_receipt-in-Ok-watch_to.ensures) c.in-Ok-watch_to.ensures.floor

pub returns-in-Err-watch_to-clause-left : goal.returns-in-Err-watch_to-clause-left
returns-in-Err-watch_to-clause-left g c = rw c.in-Watch.is c.in-Err-watch_to.ensures.left

pub returns-in-Err-watch_to-clause-cause : goal.returns-in-Err-watch_to-clause-cause
returns-in-Err-watch_to-clause-cause g c = rw c.in-Watch.is c.in-Err-watch_to.ensures.cause

pub returns-in-Amend-clause-left : goal.returns-in-Amend-clause-left
returns-in-Amend-clause-left g c = rw c.in-Amend.is c.amend_to.ensures.left

pub returns-in-Amend-clause-cause : goal.returns-in-Amend-clause-cause
returns-in-Amend-clause-cause g c = rw c.in-Amend.is c.amend_to.ensures.cause

pub returns-in-Ok-table_to-clause-done : goal.returns-in-Ok-table_to-clause-done
returns-in-Ok-table_to-clause-done g c = rw (c.in-Table.is, c.without_receipt-in-Ok-table_to.ensures) (nothing_read, Yes, refl)

pub returns-in-Err-table_to-clause-left : goal.returns-in-Err-table_to-clause-left
returns-in-Err-table_to-clause-left g c = rw c.in-Table.is c.in-Err-table_to.ensures.left

pub returns-in-Err-table_to-clause-cause : goal.returns-in-Err-table_to-clause-cause
returns-in-Err-table_to-clause-cause g c = rw c.in-Table.is c.in-Err-table_to.ensures.cause
