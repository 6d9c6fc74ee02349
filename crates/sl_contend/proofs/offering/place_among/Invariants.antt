use Rattle.std.proofs.Common.{◌≡◌, ◌<◌, ◌≤◌, ℕ, All, length}
use Rattle.sl_contend.specs.Pieces.{choices_between}
use Rattle.sl_contend.specs.Rows.{placed_in}
use Rattle.sl_contend.proofs.offering.place_among.Given as goal

abbrev pub invariant-loop-number : goal.invariant-loop-number
invariant-loop-number l = record {
  after : l.fn.first ≤ l.number;
  within : All (λ p. p.row.0 < length l.instance.pools) l.placed.items;
  placed : (P : ℕ) → placed_in P l.placed.items ≡ choices_between l.instance P l.fn.first l.number;
}
