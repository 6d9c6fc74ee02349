-- What a failure leaves of the output.
use Rattle.std.proofs.Common.{◌≡◌, ◌<◌, ℕ, refl, sym, true≢false, inl, inr, arith}
use Rattle.std.specs.Prelude.{◌⊎◌, true}
use Rattle.sl_io.specs.Shelf.{Files}
use Rattle.sl_io.specs.Sink.{Output, RoseIn}
use Rattle.sl_io.specs.declared.sink.WriteError.{WriteError}
use Rattle.sl_instance.specs.NamedMarket.{NamedMarket}
use Rattle.sl_run.specs.declared.failure.Failure.{Failure}
use Rattle.sl_run.specs.declared.failure.Failure.TheVariants.{Unwritable, OutOfMemory}
use Rattle.sl_run.specs.Words.{Inputs}
use Rattle.sl_run.specs.Accepted.{AreReadAs}
use Rattle.sl_run.specs.Causes.{IsCause}
use Rattle.sl_run.specs.Failures.{failure_of_write, status_of}
use Rattle.sl_run.specs.Run.{Leaves, is_of_files, is_of_output}

-- all files had been accepted
pub write_cause : (inputs : Inputs) (before after : Files) (n : NamedMarket) (error : WriteError) → AreReadAs before inputs n → IsCause inputs before after (failure_of_write error)
write_cause inputs before after n WriteError.Fault held = λ t. (n, held t)
write_cause inputs before after n WriteError.OutOfMemory held = tt

-- it is of the output, or of memory
pub write_late : (error : WriteError) → is_of_output (failure_of_write error) ≡ true
write_late WriteError.Fault = refl
write_late WriteError.OutOfMemory = refl

is_less : (n : ℕ) → 4 < n → (n ≡ 2) ⊎ (n ≡ 3) ⊎ (n ≡ 4) → ⊥
is_less n more (inl is) = omega (arith, more, is)
is_less n more (inr (inl is)) = omega (arith, more, is)
is_less n more (inr (inr is)) = omega (arith, more, is)

module _ (Same Part : Type 0) (before after : Output) where
  -- a part of the text was put
  pub write_leaves : (error : WriteError) → (error ≡ WriteError.Fault → RoseIn before after) → Part → Leaves Same Part before after (failure_of_write error)
  write_leaves WriteError.Fault rose part = (rose refl, part)
  write_leaves WriteError.OutOfMemory rose part = inr part

  -- nothing was
  pub files_leave : (failure : Failure) → is_of_files failure ≡ true → Same → Leaves Same Part before after failure
  files_leave Unwritable late same = absurd (true≢false (sym late))
  files_leave OutOfMemory late same = inl same
  files_leave failure late same = same

  -- the same with another word for the part
  pub leaves_on : (Other : Type 0) (failure : Failure) → (Part → Other) → Leaves Same Part before after failure → Leaves Same Other before after failure
  leaves_on Other Unwritable f left = (left.0, f left.1)
  leaves_on Other OutOfMemory f (inl same) = inl same
  leaves_on Other OutOfMemory f (inr part) = inr (f part)
  leaves_on Other failure f left = left

  -- what is left with each status
  pub left_with_5 : (failure : Failure) → Leaves Same Part before after failure → status_of failure ≡ 5 → RoseIn before after × Part
  left_with_5 Unwritable left is = left
  left_with_5 failure left is = absurd (omega (arith, is))

  pub left_with_6 : (failure : Failure) → Leaves Same Part before after failure → status_of failure ≡ 6 → Same ⊎ Part
  left_with_6 OutOfMemory left is = left
  left_with_6 failure left is = absurd (omega (arith, is))

  pub left_with_less : (failure : Failure) → Leaves Same Part before after failure → (status_of failure ≡ 2) ⊎ (status_of failure ≡ 3) ⊎ (status_of failure ≡ 4) → Same
  left_with_less Unwritable left is = absurd (is_less 5 (omega arith) is)
  left_with_less OutOfMemory left is = absurd (is_less 6 (omega arith) is)
  left_with_less failure left is = left
