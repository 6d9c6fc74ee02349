use Rattle.std.proofs.Common.{◌≡◌, ℕ, ◌*◌, ◌%◌, ◌<◌, ◌^◌, arith}
use Rattle.std.proofs.lemmas.Nat.{and_le_l}
use Rattle.sl_floor.proofs.Sets.{high, none_high, lowest_within, lowest_one, lowest_first}
use Rattle.sl_floor.proofs.bits.first_bit.Goals as goal

pub returns-then-high-eq0-clause-none : goal.returns-then-high-eq0-clause-none
returns-then-high-eq0-clause-none c = none_high c.args.word c.args.from c.requires c.if-high-eq0.true

-- the bits from the place on are a word, and not 0
some_high : (word from : ℕ) (within : from < 64) → (high word from within ≡ 0 → ⊥) → 0 < high word from within
some_high word from within not_none = omega (arith, not_none)

high_fits : (word from : ℕ) (within : from < 64) → word < 2 ^ 64 → high word from within < 2 ^ 64
high_fits word from within fits = let low = and_le_l word (18446744073709551615 * 2 ^ from % 18446744073709551616) in omega (arith, low, fits)

pub returns-clause-bound : goal.returns-clause-bound
returns-clause-bound c = lowest_within c.args.word c.args.from c.requires (some_high c.args.word c.args.from c.requires c.if-high-eq0.false) (high_fits c.args.word c.args.from c.requires c.ranges.word.fits)

pub returns-clause-one : goal.returns-clause-one
returns-clause-one c = lowest_one c.args.word c.args.from c.requires (some_high c.args.word c.args.from c.requires c.if-high-eq0.false) (high_fits c.args.word c.args.from c.requires c.ranges.word.fits)

pub returns-clause-first : goal.returns-clause-first
returns-clause-first c = lowest_first c.args.word c.args.from c.requires (some_high c.args.word c.args.from c.requires c.if-high-eq0.false) (high_fits c.args.word c.args.from c.requires c.ranges.word.fits)
