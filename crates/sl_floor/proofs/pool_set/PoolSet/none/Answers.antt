use Rattle.std.proofs.Common.{ℕ, length, sym, ap, ◌∙◌, arith}
use lib.ListN.{length-replicate}
use Rattle.sl_floor.specs.Sets.{flags_in, count_up}
use Rattle.sl_floor.proofs.Sets.{flags_none, count_none}
use Rattle.sl_floor.proofs.pool_set.PoolSet.none.Goals as goal

pub invariant_of-result : goal.invariant_of-result
invariant_of-result c =
    let are = c.in_ok-words.ensures in
    let long = ap length are ∙ length-replicate {A = ℕ} _ _ in
    let few = c.requires in
    let flags = ap (flags_in c.args.pools) are ∙ flags_none c.args.pools in
    let all = ap count_up flags ∙ count_none c.args.pools in (omega (arith, long), omega (arith, long, few), few, sym all)

pub returns : goal.returns
returns c = ap (flags_in c.args.pools) c.in_ok-words.ensures ∙ flags_none c.args.pools
