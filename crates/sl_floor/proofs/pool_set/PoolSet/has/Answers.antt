use Rattle.std.proofs.Common.{ℕ, false, Bool, List, length, get_or, sym, ap, ◌∙◌, arith}
use Rattle.sl_floor.specs.Sets.{has_pool_bit}
use Rattle.sl_floor.proofs.Sets.{flag_in, flags_count}
use Rattle.sl_floor.proofs.pool_set.PoolSet.has.Goals as goal

pub has_pool_bit-requires : goal.has_pool_bit-requires
has_pool_bit-requires c =
    let n = flags_count c.self.inside.pools c.self.inside.words.items in
    let m = ap length c.self.view_is in
    let h = c.requires in
    let fits = c.self.invariant.0 in
    let same = ap length c.deref.ensures.value in
    omega (arith, n, m, h, fits, same)

pub returns : goal.returns
returns c =
    let n = flags_count c.self.inside.pools c.self.inside.words.items in
    let m = ap length c.self.view_is in
    let h = c.requires in
    c.has_pool_bit.ensures ∙ (ap (λ (ws : List ℕ). has_pool_bit ws c.args.pool) c.deref.ensures.value
    ∙ (sym (flag_in c.self.inside.pools c.self.inside.words.items c.args.pool (omega (arith, n, m, h))) ∙ ap (λ (fs : List Bool). get_or fs c.args.pool false) c.self.view_is))
