use Rattle.std.proofs.Common.{ℕ, ◌≡◌, ◌<◌, ◌∙◌, List, length, slice_get, Some, map, sym, ap, subst}
use Rattle.sl_types.specs.declared.kinds.AppId.{AppId}
use Rattle.sl_types.specs.Market.{Market}
use Rattle.sl_contend.specs.Contention.{Contention, contention_of, contenders_of, numbers_of_apps, contends}
use Rattle.sl_contend.specs.Rows.{row_of}
use Rattle.sl_contend.proofs.Tables.{row_got, row_told, below, no_app}
use Rattle.sl_contend.proofs.contenders.Contenders.of.Goals as goal

numbers : (s : Contention) (market : Market) (P : ℕ) (row : List AppId) → P < s.pools → slice_get s.of P ≡ Some (numbers_of_apps row) → s ≡ contention_of market → numbers_of_apps row ≡ contenders_of market P
numbers s market P row h got is = row_told (contenders_of market) market s.of P (numbers_of_apps row) (ap (λ (t : Contention). t.of) is) (subst (λ (t : Contention). P < t.pools) is h) got

pub row-requires-clause-within : goal.row-requires-clause-within
row-requires-clause-within c = subst (λ (t : Contention). c.args.pool.0 < t.pools) (sym c.self.view_is) c.requires

pub returns-clause-value : goal.returns-clause-value
returns-clause-value c =
    let s = c.self.inside in
    let P : ℕ = c.args.pool.0 in
    let number = λ (x : AppId). x.0 in
    let P_in : P < s.pools = subst (λ (t : Contention). P < t.pools) (sym c.self.view_is) c.requires in
    ap (λ (t : Contention). slice_get t.of P) (sym c.self.view_is)
    ∙ (row_got (λ k. map number (row_of s.of.items.items s.of.starts.items k)) s.pools P P_in ∙ ap (λ (row : List AppId). Some (map number row)) (sym c.row.ensures))

pub returns-clause-contenders : goal.returns-clause-contenders
returns-clause-contenders c =
    λ market is. numbers c.args.self.now market c.args.pool.0 c.row.result.now c.requires (returns-clause-value c) is

pub returns-clause-within : goal.returns-clause-within
returns-clause-within c =
    λ market is. below (λ (x : AppId). x.0) no_app c.row.result.now (λ a. contends market a c.args.pool.0) (length market.lists) (numbers c.args.self.now market c.args.pool.0 c.row.result.now c.requires (returns-clause-value c) is)
