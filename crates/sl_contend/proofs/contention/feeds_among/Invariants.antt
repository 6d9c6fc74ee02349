use Rattle.std.proofs.Common.{◌≡◌, ◌≤◌, ◌-◌, length, vec_len}
use Rattle.sl_laws.specs.Stable.{feeds}
use Rattle.sl_contend.specs.Entering.{rows_of}
use Rattle.sl_contend.proofs.Growing.{rows_from}
use Rattle.sl_contend.proofs.contention.feeds_among.Given as goal

abbrev pub invariant-loop-number : goal.invariant-loop-number
invariant-loop-number l = record {
  after : l.fn.first ≤ l.number;
  each : vec_len l.rows.last ≡ length l.instance.pools;
  rows : rows_of (λ p. p.0) l.rows ≡ rows_from (feeds l.instance) (length l.instance.pools) l.fn.first (l.number - l.fn.first);
}
