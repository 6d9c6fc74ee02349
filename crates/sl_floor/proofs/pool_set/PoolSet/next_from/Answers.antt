use Rattle.std.proofs.Common.{◌≡◌, ℕ, ◌*◌, ◌<◌, ◌≤◌, false, Bool, List, length, subst, arith}
use Rattle.sl_floor.specs.Sets.{has_pool_bit, AreDownFrom, IsNextUp, IsFirstBit}
use Rattle.sl_floor.proofs.Sets.{next_up, down_past, down_all}
use Rattle.sl_floor.proofs.pool_set.PoolSet.next_from.Goals as goal

pub returns-then-pool-self-clause-some : goal.returns-then-pool-self-clause-some
returns-then-pool-self-clause-some c =
    let hit = subst (λ (ws : List ℕ). IsFirstBit ws c.args.from c.in-Some.pool) c.deref.ensures.value c.in-Some.ensures.some in
    subst (λ (fs : List Bool). IsNextUp fs c.args.from c.in-Some.pool) c.self.view_is (next_up c.self.inside.pools c.self.inside.words.items c.args.from c.in-Some.pool hit c.if-pool-self.true)

pub returns-else-pool-self-clause-none : goal.returns-else-pool-self-clause-none
returns-else-pool-self-clause-none c =
    let hit = subst (λ (ws : List ℕ). IsFirstBit ws c.args.from c.in-Some.pool) c.deref.ensures.value c.in-Some.ensures.some in
    let past = c.if-pool-self.false in
    subst (λ (fs : List Bool). AreDownFrom fs c.args.from) c.self.view_is (down_past c.self.inside.pools c.self.inside.words.items c.args.from c.in-Some.pool hit (omega (arith, past)))

pub returns-in-None-clause-none : goal.returns-in-None-clause-none
returns-in-None-clause-none c =
    let none = subst (λ (ws : List ℕ). (Q : ℕ) → c.args.from ≤ Q → Q < 64 * length ws → has_pool_bit ws Q ≡ false) c.deref.ensures.value c.in-None.ensures.none in
    subst (λ (fs : List Bool). AreDownFrom fs c.args.from) c.self.view_is (down_all c.self.inside.pools c.self.inside.words.items c.args.from none c.self.invariant.0)
