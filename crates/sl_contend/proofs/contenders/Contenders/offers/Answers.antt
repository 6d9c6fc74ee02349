use Rattle.std.proofs.Common.{ℕ, ◌<◌, ◌∙◌, List, slice_get, Some, sym, ap, subst}
use Rattle.sl_contend.specs.Contention.{Contention}
use Rattle.sl_contend.specs.declared.offer.Offer.{Offer}
use Rattle.sl_contend.specs.Rows.{row_of}
use Rattle.sl_contend.proofs.Tables.{row_got}
use Rattle.sl_contend.proofs.Offered.{row_moves, row_sorted, row_choices}
use Rattle.sl_contend.proofs.contenders.Contenders.offers.Goals as goal

pub row-requires-clause-within : goal.row-requires-clause-within
row-requires-clause-within c = subst (λ (t : Contention). c.args.pool.0 < t.pools) (sym c.self.view_is) c.requires

pub returns-clause-value : goal.returns-clause-value
returns-clause-value c =
    let s = c.self.inside in
    let P : ℕ = c.args.pool.0 in
    let P_in : P < s.pools = subst (λ (t : Contention). P < t.pools) (sym c.self.view_is) c.requires in
    ap (λ (t : Contention). slice_get t.offers P) (sym c.self.view_is)
    ∙ (row_got (row_of s.offers.items.items s.offers.starts.items) s.pools P P_in ∙ ap (λ (row : List Offer). Some row) (sym c.row.ensures))

pub returns-clause-each : goal.returns-clause-each
returns-clause-each c = λ market is. row_moves c.args.self.now c.args.pool.0 c.row.result.now c.requires (returns-clause-value c) market is

pub returns-clause-falling : goal.returns-clause-falling
returns-clause-falling c = λ market is. row_sorted c.args.self.now c.args.pool.0 c.row.result.now c.requires (returns-clause-value c) market is

pub returns-clause-within : goal.returns-clause-within
returns-clause-within c = λ market is. row_choices c.args.self.now c.args.pool.0 c.row.result.now c.requires (returns-clause-value c) market is
