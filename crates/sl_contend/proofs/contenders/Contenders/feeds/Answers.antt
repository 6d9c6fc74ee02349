use Rattle.std.proofs.Common.{ℕ, ◌≡◌, ◌<◌, ◌∙◌, List, length, slice_get, Some, map, sym, ap, subst}
use Rattle.sl_types.specs.declared.kinds.PoolId.{PoolId}
use Rattle.sl_types.specs.Market.{Market}
use Rattle.sl_laws.specs.Stable.{feeds}
use Rattle.sl_contend.specs.Contention.{Contention, contention_of, feeding, numbers_of_pools}
use Rattle.sl_contend.specs.Rows.{row_of}
use Rattle.sl_contend.proofs.Tables.{row_got, row_told, below, no_pool_id}
use Rattle.sl_contend.proofs.contenders.Contenders.feeds.Goals as goal

numbers : (s : Contention) (market : Market) (P : ℕ) (row : List PoolId) → P < s.pools → slice_get s.feeds P ≡ Some (numbers_of_pools row) → s ≡ contention_of market → numbers_of_pools row ≡ feeding market P
numbers s market P row h got is = row_told (feeding market) market s.feeds P (numbers_of_pools row) (ap (λ (t : Contention). t.feeds) is) (subst (λ (t : Contention). P < t.pools) is h) got

pub row-requires-clause-within : goal.row-requires-clause-within
row-requires-clause-within c = subst (λ (t : Contention). c.args.pool.0 < t.pools) (sym c.self.view_is) c.requires

pub returns-clause-value : goal.returns-clause-value
returns-clause-value c =
    let s = c.self.inside in
    let P : ℕ = c.args.pool.0 in
    let number = λ (x : PoolId). x.0 in
    let P_in : P < s.pools = subst (λ (t : Contention). P < t.pools) (sym c.self.view_is) c.requires in
    ap (λ (t : Contention). slice_get t.feeds P) (sym c.self.view_is)
    ∙ (row_got (λ k. map number (row_of s.feeds.items.items s.feeds.starts.items k)) s.pools P P_in ∙ ap (λ (row : List PoolId). Some (map number row)) (sym c.row.ensures))

pub returns-clause-feeding : goal.returns-clause-feeding
returns-clause-feeding c =
    λ market is. numbers c.args.self.now market c.args.pool.0 c.row.result.now c.requires (returns-clause-value c) is

pub returns-clause-within : goal.returns-clause-within
returns-clause-within c =
    λ market is. below (λ (x : PoolId). x.0) no_pool_id c.row.result.now (λ Q. feeds market Q c.args.pool.0) (length market.pools) (numbers c.args.self.now market c.args.pool.0 c.row.result.now c.requires (returns-clause-value c) is)
