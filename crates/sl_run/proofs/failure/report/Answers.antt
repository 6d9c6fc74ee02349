use Rattle.std.proofs.Common.{◌∙◌, List, ℕ, sym, ap, subst}
use Rattle.std.specs.Prelude.{◌++◌, codes}
use Rattle.sl_run.specs.Failures.{line_of}
use Rattle.sl_run.specs.Ending.{Reports}
use Rattle.sl_run.proofs.Lines.{one_piece, two_pieces}
use Rattle.sl_run.proofs.failure.report.Goals as goal

pub returns-in-Words : goal.returns-in-Words
returns-in-Words g c = subst (Reports _ _) (one_piece _ ∙ sym (ap line_of c.in-Words.is)) c.put_all.ensures

pub returns-in-TooLong : goal.returns-in-TooLong
returns-in-TooLong g c =
    let word = ap (λ (t : List ℕ). t ++ codes ": longer than 268435456 bytes\n") c.word-in-TooLong.ensures in
    subst (Reports _ _) (two_pieces _ _ ∙ (word ∙ sym (ap line_of c.in-TooLong.is))) c.put_all-in-TooLong.ensures

pub returns-in-Unreadable : goal.returns-in-Unreadable
returns-in-Unreadable g c =
    let word = ap (λ (t : List ℕ). t ++ codes ": cannot be read\n") c.word-in-Unreadable.ensures in
    subst (Reports _ _) (two_pieces _ _ ∙ (word ∙ sym (ap line_of c.in-Unreadable.is))) c.put_all-in-Unreadable.ensures

pub returns-in-Unwritable : goal.returns-in-Unwritable
returns-in-Unwritable g c = subst (Reports _ _) (one_piece _ ∙ sym (ap line_of c.in-Unwritable.is)) c.put_all-in-Unwritable.ensures

pub returns-in-OutOfMemory : goal.returns-in-OutOfMemory
returns-in-OutOfMemory g c = subst (Reports _ _) (one_piece _ ∙ sym (ap line_of c.in-OutOfMemory.is)) c.put_all-in-OutOfMemory.ensures
