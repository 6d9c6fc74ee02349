-- How a command ends.
use Rattle.std.specs.Prelude.{◌≡◌, ◌⊎◌, ◌++◌, ℕ, List, codes, Option, Some, None, MatchOption, option_map}
use Rattle.sl_check.specs.declared.verdict.Verdict.{Verdict}
use Rattle.sl_check.specs.declared.verdict.Verdict.TheVariants.{Yes}
use Rattle.sl_instance.specs.NamedMarket.{NamedMarket}
use Rattle.sl_codes.specs.RecordText.{text_of_record}
use Rattle.sl_doc.specs.VerdictText.{verdict_record}
use Rattle.sl_io.specs.Sink.{Output, Takes, TakesPart, RoseIn}
use Rattle.sl_run.specs.declared.done.Done.{Done}
use Rattle.sl_run.specs.declared.failure.Failure.{Failure}
use Rattle.sl_run.specs.Failures.{status_of, line_of}
use Rattle.sl_run.specs.Words.{Command, clear, check, watch, amend, print_table, demo}

-- a status, and a line for people, if there is one
pub record Ending : Type 0 where
  pub status : ℕ
  pub line : Option (List ℕ)

abbrev pub quiet : ℕ → Ending
quiet status = record { status = status; line = None }

-- 0 for Yes, 1 for each other verdict
abbrev pub status_of_verdict : Verdict → ℕ
status_of_verdict Yes = 0
status_of_verdict verdict = 1

-- how a command ended that was carried out
abbrev pub ending_in : Done → Ending
ending_in done = record { status = done.status; line = option_map (λ line. line.items) done.line }

-- this is how it ended
abbrev pub IsEnding : Done → Ending → Type 0
IsEnding done ending = ending ≡ ending_in done

-- the line on a document of an instance that isn't proved
abbrev pub unproved_line : NamedMarket → Verdict → List ℕ
unproved_line n verdict = codes "result: " ++ text_of_record (verdict_record n verdict)

-- how an amendment ends whose old document isn't proved
abbrev pub unproved : NamedMarket → Verdict → Ending
unproved n verdict = record { status = 1; line = Some (unproved_line n verdict) }

-- how an amendment ends, by the verdict on the old document
abbrev pub ending_of_amendment : NamedMarket → Verdict → Ending
ending_of_amendment n Yes = quiet 0
ending_of_amendment n verdict = unproved n verdict

-- how a command ends that was carried out, by the verdict on its document over its instance, if it has one
abbrev pub ending_of : Command → NamedMarket → Verdict → Ending
ending_of (clear workers tables) n verdict = quiet 0
ending_of (check tables document) n verdict = quiet (status_of_verdict verdict)
ending_of (watch looks workers tables) n verdict = quiet 0
ending_of (amend workers tables document amendments) n verdict = ending_of_amendment n verdict
ending_of (print_table printed tables amendments) n verdict = quiet 0
ending_of (demo applicants workers) n verdict = quiet 0

-- how a command ends that failed
abbrev pub failed : Failure → Ending
failed failure = record { status = status_of failure; line = Some (line_of failure) }

-- a status with which a command can end that was carried out
abbrev pub IsDone : Command → ℕ → Type 0
IsDone command status =
    (n : NamedMarket) × (verdict : Verdict) × (status ≡ (ending_of command n verdict).status)

-- it can end so
abbrev pub CanEnd : Command → Ending → Type 0
CanEnd command ending = (n : NamedMarket) × (verdict : Verdict) × (ending_of command n verdict ≡ ending)

-- what a sink took of a line: all of it, or the first bytes where the count of faults rose
abbrev pub Reports : Output → Output → List ℕ → Type 0
Reports before after line = Takes before after line ⊎ (TakesPart before after line × RoseIn before after)

-- a command ended so: with this status, and its line was put to `err`; where there is none, nothing was
abbrev pub EndsWith : ℕ → Output → Output → Ending → Type 0
EndsWith status before after ending =
    (status ≡ ending.status) × MatchOption ending.line (after ≡ before) (Reports before after)
