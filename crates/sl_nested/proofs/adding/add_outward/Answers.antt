use Rattle.std.proofs.Common.{◌≡◌, ◌+◌, ◌<◌, ◌≤◌, ◌||◌, ℕ, Bool, true, length, get_or, List, nat_eq, All, refl, sym, ap, subst, ◌∙◌, arith, rules, slice_index, ne_eqb}
use Rattle.std.specs.List.{list_any}
use Rattle.std.proofs.lemmas.Bool.{false_from_ne_true, or_left, or_right}
use Rattle.std.proofs.lemmas.List.Elements.{All-head, All-tail}
use Rattle.sl_types.specs.declared.kinds.Pool.{Pool}
use Rattle.sl_types.specs.Market.{quota_of}
use Rattle.sl_nested.specs.Counting.{one_more}
use Rattle.sl_nested.proofs.Counters.{AreOwedAt, IsWay, way_chain, way_on, owed_chain, owed_first, owed_full, owed_last, owed_on}
use Rattle.sl_nested.proofs.Writes.{set_more, set_else}
use Rattle.sl_nested.proofs.adding.add_outward.Goals as goal

pub loop-here-init : goal.loop-here-init
loop-here-init c =
    let market = c.args.instance.now in
    let ok = c.pools-pools.ensures.well_formed in
    let gives = c.into_iter-here-iterator.ensures.into_iter_gives in
    let pools = gives ∙ c.outward-here-items.ensures.pools in
    let k = slice_index c.args.scratch.now in
    record {
      size = refl;
      within = subst (All (λ (Q : ℕ). Q < length market.pools)) (sym gives) c.outward-here-items.ensures.within;
      way = subst (IsWay market) (sym pools) (way_chain market ok c.args.from.0);
      ahead = ap (list_any (λ Q. nat_eq Q c.args.pool.0)) pools ∙ c.requires.inside;
      round = λ C met. sym (ap (list_any (λ Q. nat_eq Q C)) pools) ∙ met;
      elsewhere = λ C out. refl;
      owed = λ d are. subst (AreOwedAt market c.args.pool.0 (one_more d c.args.from.0) k) (sym pools) (owed_chain market ok c.args.pool.0 (one_more d c.args.from.0) k c.args.from.0 (owed_first market ok c.args.pool.0 d k c.args.from.0 are));
    }

pub returns-then-count-pool-clause-counts : goal.returns-then-count-pool-clause-counts
returns-then-count-pool-clause-counts c = λ d are.
    let market = c.args.instance.now in
    let ok = c.pools-pools.ensures.well_formed in
    let P : ℕ = c.args.pool.0 in
    let R : ℕ = c.in-Some.here.0 in
    let k = slice_index c.loop-here.scratch in
    let d' = one_more d c.args.from.0 in
    let quota : c.pool.result.now.quota ≡ quota_of market R = ap (λ (p : Pool). p.quota) c.pool.ensures.value in
    let full : quota_of market R ≤ k R = let h = c.if-count-pool.true in let n = c.count-count.ensures in omega (arith, h, n, quota) in
    owed_full market ok P d' k R full (subst (AreOwedAt market P d' k) c.in-Some.ensures.steps (c.loop-here.invariant.owed d are))

pub returns-then-here-pool-clause-counts : goal.returns-then-here-pool-clause-counts
returns-then-here-pool-clause-counts c = λ d are.
    let market = c.args.instance.now in
    let ok = c.pools-pools.ensures.well_formed in
    let P : ℕ = c.args.pool.0 in
    let R : ℕ = c.in-Some.here.0 in
    let ks = c.loop-here.scratch in
    let d' = one_more d c.args.from.0 in
    let IsPool : ℕ → Type 0 = λ Q. Q < length market.pools in
    let R_pool = All-head IsPool R c.next.new.self (subst (All IsPool) c.in-Some.ensures.steps c.loop-here.invariant.within) in
    let quota : c.pool.result.now.quota ≡ quota_of market R = ap (λ (p : Pool). p.quota) c.pool.ensures.value in
    let n = c.count-count.ensures in
    let free : slice_index ks R < quota_of market R = let h = c.if-count-pool.false in omega (arith, h, n, quota) in
    let R_in : R < length ks = let s = c.loop-here.invariant.size in let e = c.requires.size in omega (arith, R_pool, s, e) in
    let up = λ (C : ℕ). ap (λ (xs : List ℕ). get_or xs C 0) c.set_count.ensures ∙ set_more ks R (c.count-count.result + 1) R_in (ap (λ (m : ℕ). m + 1) n) C in
    owed_last market ok P d' (slice_index ks) (slice_index c.set_count.new.self) R R_pool up free (subst (AreOwedAt market P d' (slice_index ks)) c.in-Some.ensures.steps (c.loop-here.invariant.owed d are)) c.if-here-pool.true

pub loop-here-preserved : goal.loop-here-preserved
loop-here-preserved c =
    let kept = c.loop-here.invariant in
    let market = c.args.instance.now in
    let ok = c.pools-pools.ensures.well_formed in
    let P : ℕ = c.args.pool.0 in
    let R : ℕ = c.in-Some.here.0 in
    let rest = c.next.new.self in
    let steps = c.in-Some.ensures.steps in
    let ks = c.loop-here.scratch in
    let IsPool : ℕ → Type 0 = λ Q. Q < length market.pools in
    let within = subst (All IsPool) steps kept.within in
    let R_pool = All-head IsPool R rest within in
    let quota : c.pool.result.now.quota ≡ quota_of market R = ap (λ (p : Pool). p.quota) c.pool.ensures.value in
    let n = c.count-count.ensures in
    let free : slice_index ks R < quota_of market R = let h = c.if-count-pool.false in omega (arith, h, n, quota) in
    let R_in : R < length ks = let s = kept.size in let e = c.requires.size in omega (arith, R_pool, s, e) in
    let up = λ (C : ℕ). ap (λ (xs : List ℕ). get_or xs C 0) c.set_count.ensures ∙ set_more ks R (c.count-count.result + 1) R_in (ap (λ (m : ℕ). m + 1) n) C in
    let way : rest ≡ _ = subst (IsWay market) steps kept.way in
    let met = λ (C : ℕ). ap (list_any (λ Q. nat_eq Q C)) steps in
    record {
      size = search rules;
      within = All-tail IsPool R rest within;
      way = way_on market ok R rest way;
      ahead = sym (ap (λ (b : Bool). b || list_any (λ Q. nat_eq Q P) rest) (ne_eqb R P c.if-here-pool.false)) ∙ (sym (met P) ∙ kept.ahead);
      round = λ C later. kept.round C (met C ∙ or_right (nat_eq R C) (list_any (λ Q. nat_eq Q C) rest) later);
      elsewhere = λ C out.
          let miss = false_from_ne_true _ (λ (hit : nat_eq R C ≡ true). out (kept.round C (met C ∙ or_left (nat_eq R C) (list_any (λ Q. nat_eq Q C) rest) hit))) in
          ap (λ (xs : List ℕ). get_or xs C 0) c.set_count.ensures ∙ (set_else ks R C (c.count-count.result + 1) miss ∙ kept.elsewhere C out);
      owed = λ d are. owed_on market ok P (one_more d c.args.from.0) (slice_index ks) (slice_index c.set_count.new.self) R R_pool up free
          (subst (AreOwedAt market P (one_more d c.args.from.0) (slice_index ks)) steps (kept.owed d are)) rest way;
    }
