use Rattle.std.proofs.Common.{List, ℕ, subst}
use Rattle.sl_types.specs.declared.kinds.Rule.{Rule}
use Rattle.sl_codes.specs.declared.faults.Table.TheVariants.{Pools}
use Rattle.sl_codes.specs.Faults.{IsFirst}
use Rattle.sl_run.specs.Words.{letter_rule}
use Rattle.sl_run.specs.Accepted.{pool_fault}
use Rattle.sl_run.proofs.Accepting.{read_fails}
use Rattle.sl_run.proofs.files.fetch_pools.Goals as goal

pub returns-clause-cause : goal.returns-clause-cause
returns-clause-cause g c =
    let first = pool_fault (letter_rule c.args.letter) in
    let by_rule = subst (λ (r : Rule). IsFirst (pool_fault r c.deref.result.now) c.in-Err.error) c.rule.ensures.rule c.in-Err.ensures.refused in
    let is = subst (λ (text : List ℕ). IsFirst (first text) c.in-Err.error) c.deref.ensures.value by_rule in
    rw c.from.ensures (read_fails Pools first (g.S.Shelf.files c.args.shelf.now) (g.S.Shelf.files c.fetch.new.shelf) c.args.name.now c.in_ok-bytes.bytes.items c.in-Err.error c.in_ok-bytes.ensures.told is)
