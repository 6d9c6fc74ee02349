use Rattle.std.proofs.Common.{◌≡◌, ◌<◌, length, nat_eq, vec_len, All}
use Rattle.std.specs.List.{list_any}
use Rattle.sl_types.specs.Market.{lies_in}
use Rattle.sl_contend.specs.Entering.{rows_of, enter_others}
use Rattle.sl_contend.proofs.entering.enter_round.Given as goal

abbrev pub invariant-loop-here : goal.invariant-loop-here
invariant-loop-here g l = record {
  each : vec_len l.rows.last ≡ vec_len l.fn.rows.last;
  within : All (λ P. P < length l.instance.pools) l.here-iterator;
  rows : enter_others (g.T.Numbered.owns l.item) (λ Q. list_any (λ R. nat_eq R Q) l.here-iterator) (rows_of g.T.Numbered.number l.rows) (g.T.Numbered.number l.item)
      ≡ enter_others (g.T.Numbered.owns l.fn.item) (lies_in l.instance l.fn.pool.0) (rows_of g.T.Numbered.number l.fn.rows) (g.T.Numbered.number l.fn.item);
}
