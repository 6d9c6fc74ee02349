use Rattle.std.proofs.Common.{◌<◌, ◌%◌, ◌∙◌, ℕ, nat_eq, w32, ap, arith, inl, inr}
use Rattle.std.proofs.lemmas.Bool.Decides.{eqb_tells}
use Rattle.std.proofs.lemmas.Nat.Bits.{bit_at_set_same, bit_at_set_other}
use Rattle.sl_choices.proofs.marks.with_bit.Goals as goal

within : (number : ℕ) → number % 32 < 32
within number = omega arith

pub returns-clause-own : goal.returns-clause-own
returns-clause-own c = ap (λ (b : ℕ). nat_eq b 1) (bit_at_set_same w32 c.args.bits (c.args.number % 32) (within c.args.number))

pub returns-clause-kept : goal.returns-clause-kept
returns-clause-kept c = λ other set. elim (eqb_tells (other % 32) (c.args.number % 32)) [
  | inl e ↦ rw e.1 (returns-clause-own c)
  | inr e ↦ ap (λ (b : ℕ). nat_eq b 1) (bit_at_set_other w32 c.args.bits (c.args.number % 32) (within c.args.number) (other % 32) e.1) ∙ set
]
