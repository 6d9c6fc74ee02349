-- No two applicants have one merit.
use Rattle.std.proofs.Common.{◌≡◌, ◌<◌, ℕ, arith}
use Rattle.sl_gen.specs.Choices.{merit_of}

-- 314159 has an inverse modulo 524288, which is 154575
pub merit_once : (a b : ℕ) → a < 524288 → b < 524288 → merit_of a ≡ merit_of b → a ≡ b
merit_once a b low_a low_b same = omega (arith, same)
