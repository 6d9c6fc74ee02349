use Rattle.std.proofs.Common.{ℕ, nat_eq, w64, sym, ap, ◌∙◌}
use Rattle.std.proofs.lemmas.Nat.Bits.{bit_at_set_same, bit_at_set_other, bit_at_clear_same, bit_at_clear_other}
use Rattle.sl_floor.proofs.bits.with_bit.Goals as goal

pub returns-then-up-clause-same : goal.returns-then-up-clause-same
returns-then-up-clause-same c = ap (λ (b : ℕ). nat_eq b 1) (bit_at_set_same w64 c.args.word c.args.bit c.requires) ∙ sym c.if-up.true

pub returns-then-up-clause-other : goal.returns-then-up-clause-other
returns-then-up-clause-other c = λ i h apart. ap (λ (b : ℕ). nat_eq b 1) (bit_at_set_other w64 c.args.word c.args.bit c.requires i apart)

pub returns-else-up-clause-same : goal.returns-else-up-clause-same
returns-else-up-clause-same c = ap (λ (b : ℕ). nat_eq b 1) (bit_at_clear_same w64 c.args.word c.args.bit c.requires) ∙ sym c.if-up.false

pub returns-else-up-clause-other : goal.returns-else-up-clause-other
returns-else-up-clause-other c = λ i h apart. ap (λ (b : ℕ). nat_eq b 1) (bit_at_clear_other w64 c.args.word c.args.bit c.requires i h apart)
