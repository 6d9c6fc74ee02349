-- The limits that are published.
use Rattle.std.specs.Prelude.{◌≡◌, ℕ, List, EachIndex, slice_index}
use Rattle.sl_types.specs.Market.{Market}
use Rattle.sl_laws.specs.Limits.{Limits, effective_limit}

-- each number is the effective limit of its pool
abbrev pub ArePublished : Market → Limits → List ℕ → Type 0
ArePublished market t published = EachIndex published (λ P. slice_index published P ≡ effective_limit market t P)
