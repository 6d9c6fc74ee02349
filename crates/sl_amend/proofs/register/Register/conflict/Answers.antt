use Rattle.std.proofs.Common.{◌∙◌, sym}
use Rattle.sl_amend.proofs.Leaving.{join_conflict, add_conflict, score_conflict, drop_conflict, withdraw_conflict, quota_conflict}
use Rattle.sl_amend.proofs.register.Register.conflict.Goals as goal

pub returns-in-Join : goal.returns-in-Join
returns-in-Join c =
    let fits = rw c.in-Join.is at c.requires.fits in
    rw c.in-Join.is (c.conflict.ensures ∙ join_conflict c.args.self.now c.requires.register c.requires.free c.in-Join.field-0.now c.in-Join.choice fits.choice)

pub returns-in-Add : goal.returns-in-Add
returns-in-Add c =
    let fits = rw c.in-Add.is at c.requires.fits in
    rw c.in-Add.is
    (c.conflict-in-Add.ensures ∙ rw c.own.ensures (add_conflict c.args.self.now c.requires.register c.requires.free c.in-Add.app.0 c.in-Add.choice fits))

pub returns-in-Score : goal.returns-in-Score
returns-in-Score c =
    let fits = rw c.in-Score.is at c.requires.fits in
    rw c.in-Score.is
    (c.conflict-in-Score.ensures ∙ rw c.own-own.ensures (score_conflict c.args.self.now c.requires.register c.requires.free c.in-Score.app.0 c.in-Score.at c.in-Score.score fits.0 fits.1))

pub returns-in-Quota : goal.returns-in-Quota
returns-in-Quota c =
    let fits = rw c.in-Quota.is at c.requires.fits in
    rw c.in-Quota.is (sym (quota_conflict c.args.self.now c.requires.register c.requires.free c.in-Quota.field-0.0 c.in-Quota.field-1 fits))

pub returns-in-Drop : goal.returns-in-Drop
returns-in-Drop c =
    let fits = rw c.in-Drop.is at c.requires.fits in
    rw c.in-Drop.is (sym (drop_conflict c.args.self.now c.requires.register c.requires.free c.in-Drop.field-0.0 c.in-Drop.field-1 fits))

pub returns-in-Withdraw : goal.returns-in-Withdraw
returns-in-Withdraw c =
    let fits = rw c.in-Withdraw.is at c.requires.fits in
    rw c.in-Withdraw.is (sym (withdraw_conflict c.args.self.now c.requires.register c.requires.free c.in-Withdraw.field-0.0 fits))
