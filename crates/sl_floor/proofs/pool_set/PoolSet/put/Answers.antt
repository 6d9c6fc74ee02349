use Rattle.std.proofs.Common.{◌≡◌, ℕ, ◌<◌, Bool, false, List, length, get_or, set, sym, ap, ◌∙◌, arith}
use Rattle.sl_core.specs.Parts.{once_if}
use Rattle.sl_floor.specs.Sets.{has_pool_bit, flags_in, count_up}
use Rattle.sl_floor.proofs.Sets.{flag_in, flags_count, flags_put, count_put, count_most, count_least}
use Rattle.sl_floor.proofs.pool_set.PoolSet.put.Goals as goal

pub has_pool_bit-was-requires : goal.has_pool_bit-was-requires
has_pool_bit-was-requires c =
    let n = flags_count c.self.inside.pools c.self.inside.words.items in
    let m = ap length c.self.view_is in let h = c.requires in let fits = c.self.invariant.0 in
    let same = ap length c.deref.ensures.value in omega (arith, n, m, h, fits, same)

pub put_pool-requires : goal.put_pool-requires
put_pool-requires c =
    let n = flags_count c.self.inside.pools c.self.inside.words.items in
    let m = ap length c.self.view_is in let h = c.requires in let fits = c.self.invariant.0 in omega (arith, n, m, h, fits)

pub recount-self-inside-requires : goal.recount-self-inside-requires
recount-self-inside-requires c =
    let words = c.self.inside.words.items in
    let flags = flags_in c.self.inside.pools words in
    let n = flags_count c.self.inside.pools words in
    let m = ap length c.self.view_is in let h = c.requires in
    let within : c.args.pool < c.self.inside.pools = omega (arith, n, m, h) in
    let was : once_if c.has_pool_bit-was.result ≡ once_if (get_or flags c.args.pool false) =
    ap once_if (c.has_pool_bit-was.ensures ∙ (ap (λ (ws : List ℕ). has_pool_bit ws c.args.pool) c.deref.ensures.value ∙ sym (flag_in c.self.inside.pools words c.args.pool within))) in
    let least = count_least flags c.args.pool (omega (arith, n, within)) in
    let most = count_most flags in
    let count = c.self.invariant.3 in let few = c.self.invariant.2 in (omega (arith, was, least, count), omega (arith, most, n, count, few))

pub invariant_of-self : goal.invariant_of-self
invariant_of-self c =
    let words = c.self.inside.words.items in
    let flags = flags_in c.self.inside.pools words in
    let n = flags_count c.self.inside.pools words in
    let m = ap length c.self.view_is in let h = c.requires in
    let within : c.args.pool < c.self.inside.pools = omega (arith, n, m, h) in
    let was : once_if c.has_pool_bit-was.result ≡ once_if (get_or flags c.args.pool false) =
    ap once_if (c.has_pool_bit-was.ensures ∙ (ap (λ (ws : List ℕ). has_pool_bit ws c.args.pool) c.deref.ensures.value ∙ sym (flag_in c.self.inside.pools words c.args.pool within))) in
    let put = ap count_up (flags_put c.self.inside.pools words c.put_pool.new.words.items c.args.pool c.args.up within c.put_pool.ensures.same c.put_pool.ensures.other) in
    let counts = count_put flags c.args.pool c.args.up (omega (arith, n, within)) in
    let long = c.put_pool.ensures.length in
    let now = c.recount-self-inside.ensures in
    let i = c.self.invariant.0 in let j = c.self.invariant.1 in let few = c.self.invariant.2 in let count = c.self.invariant.3 in
    (omega (arith, long, i), omega (arith, long, j), few, omega (arith, was, put, counts, now, count))

pub returns : goal.returns
returns c =
    let words = c.self.inside.words.items in
    let n = flags_count c.self.inside.pools words in
    let m = ap length c.self.view_is in let h = c.requires in
    flags_put c.self.inside.pools words c.put_pool.new.words.items c.args.pool c.args.up (omega (arith, n, m, h)) c.put_pool.ensures.same c.put_pool.ensures.other
    ∙ ap (λ (fs : List Bool). set fs c.args.pool c.args.up) c.self.view_is
