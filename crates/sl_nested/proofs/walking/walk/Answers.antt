use Rattle.std.proofs.Common.{◌≡◌, ◌∙◌, ◌<◌, ℕ, All, [], get_or, take, refl, sym, ap, arith, slice_index}
use Rattle.sl_types.specs.declared.kinds.Pool.{Pool}
use Rattle.sl_types.specs.declared.kinds.PoolId.{PoolId}
use Rattle.sl_types.specs.Market.{quota_of, lies_in}
use Rattle.sl_laws.specs.Limits.{passes}
use Rattle.sl_laws.specs.Stable.{is_choice_in}
use Rattle.sl_laws.proofs.Nest.{lies_own}
use Rattle.sl_contend.proofs.Tallies.{no_offer, scores_fall}
use Rattle.sl_nested.specs.Counting.{without_own, count_directly}
use Rattle.sl_nested.proofs.Counters.{none_counted}
use Rattle.sl_nested.proofs.Counted.{IsInside, offers_inside}
use Rattle.sl_nested.proofs.Filling.{counted_more, counted_same, untouched_more, never_filled, filled, filling_best, none_best}
use Rattle.sl_nested.proofs.walking.walk.Goals as goal
use Rattle.sl_nested.proofs.walking.walk.Goals.{then-counts+else-count-quota, else-counts}

pub loop-index-init : goal.loop-index-init
loop-index-init c =
    let market = c.args.instance.now in
    let P : ℕ = c.args.pool.0 in
    let k = slice_index c.args.scratch.now in
    record {
      size = c.requires.scratch.size;
      counted = none_counted market P (count_directly market (without_own c.args.reads.now P) []) k (λ C. refl) c.requires.scratch.zeros;
      short = let z = c.requires.scratch.zeros P in let q = c.pool.ensures.quota.0 in omega (arith, z, q);
      touched = λ C none. c.requires.scratch.zeros C;
    }

pub counts-requires-clause-within : goal.counts-requires-clause-within
counts-requires-clause-within c = (c.requires.offers c.loop-index.index no_offer c.loop-index-test.true).app

pub add_outward-requires-clause-inside : goal.add_outward-requires-clause-inside
add_outward-requires-clause-inside c =
    let market = c.args.instance.now in
    let P : ℕ = c.args.pool.0 in
    let inside : All (IsInside market P) c.args.offers.now = offers_inside market P c.args.offers.now c.requires.each in
    ap (λ (C : PoolId). lies_in market C.0 P) c.pool_of.ensures.value ∙ (ap (passes (is_choice_in market P)) (sym c.choice-choice.ensures.value) ∙ inside c.loop-index.index no_offer c.loop-index-test.true)

pub returns-then-count-quota-clause-best : goal.returns-then-count-quota-clause-best
returns-then-count-quota-clause-best c =
    let market = c.args.instance.now in
    let ok = c.pools-pools.ensures.well_formed in
    let P : ℕ = c.args.pool.0 in
    let r = slice_index c.args.reads.now in
    let u = without_own c.args.reads.now P in
    let offers = c.args.offers.now in
    let i : ℕ = c.loop-index.index in
    let h = c.loop-index-test.true in
    let ks = c.loop-index.scratch in
    let js = c.add_outward.new.scratch in
    let quota : c.pool.result.now.quota ≡ quota_of market P = ap (λ (p : Pool). p.quota) c.pool.ensures.value in
    let hit = sym c.counts.ensures ∙ c.if-counts.true in
    let were = c.loop-index.invariant.counted in
    let free : slice_index ks P < quota_of market P = let s = c.loop-index.invariant.short in omega (arith, s, quota) in
    let are = counted_more market u offers i h P c.pool_of.result.0 js c.choice-choice.result hit c.choice-choice.ensures.value (ap (λ (q : PoolId). q.0) c.pool_of.ensures.value) (c.add_outward.ensures.counts (count_directly market u (take i offers)) were) in
    let full : slice_index js P ≡ quota_of market P = let e = c.count.ensures in let f = c.if-count-quota.true in omega (arith, e, f, quota) in
    filling_best market ok r P c.requires.merit (get_or offers i no_offer).score (filled market ok u P offers c.requires.each (scores_fall offers c.requires.falling) i h ks js were free are full)

pub returns-then-count-quota-clause-touched : goal.returns-then-count-quota-clause-touched
returns-then-count-quota-clause-touched c = λ C none.
    let market = c.args.instance.now in
    let u = without_own c.args.reads.now c.args.pool.0 in
    let parts = untouched_more market u c.args.offers.now c.loop-index.index c.loop-index-test.true C none in
    c.add_outward.ensures.elsewhere C (ap (λ (q : PoolId). lies_in market q.0 C) c.pool_of.ensures.value ∙ (ap (passes (is_choice_in market C)) (sym c.choice-choice.ensures.value) ∙ parts.1)) ∙ c.loop-index.invariant.touched C parts.0

pub loop-index-preserved : goal.loop-index-preserved
loop-index-preserved c =
    let market = c.args.instance.now in
    let P : ℕ = c.args.pool.0 in
    let u = without_own c.args.reads.now P in
    let offers = c.args.offers.now in
    let i : ℕ = c.loop-index.index in
    let h = c.loop-index-test.true in
    let were = c.loop-index.invariant.counted in
    elim c.if-counts.branch [
      | then-counts+else-count-quota w ↦
          let js = w.add_outward.new.scratch in
          let quota : c.pool.result.now.quota ≡ quota_of market P = ap (λ (p : Pool). p.quota) c.pool.ensures.value in
          let hit = sym c.counts.ensures ∙ w.if-counts.true in
          let are = counted_more market u offers i h P w.pool_of.result.0 js w.choice-choice.result hit w.choice-choice.ensures.value (ap (λ (q : PoolId). q.0) w.pool_of.ensures.value) (w.add_outward.ensures.counts (count_directly market u (take i offers)) were) in
          rw w.scratch-is record {
            size = w.add_outward.ensures.size ∙ c.loop-index.invariant.size;
            counted = are;
            short = let held = are P (lies_own market P) in let e = w.count.ensures in let f = w.if-count-quota.false in omega (arith, held, e, f, quota);
            touched = λ C none.
                let parts = untouched_more market u offers i h C none in
                w.add_outward.ensures.elsewhere C (ap (λ (q : PoolId). lies_in market q.0 C) w.pool_of.ensures.value ∙ (ap (passes (is_choice_in market C)) (sym w.choice-choice.ensures.value) ∙ parts.1)) ∙ c.loop-index.invariant.touched C parts.0;
          }
      | else-counts w ↦
          let miss = sym c.counts.ensures ∙ w.if-counts.false in
          rw w.scratch-is record {
            size = c.loop-index.invariant.size;
            counted = counted_same market u offers i h P c.loop-index.scratch miss were;
            short = c.loop-index.invariant.short;
            touched = λ C none. c.loop-index.invariant.touched C (untouched_more market u offers i h C none).0;
          }
    ]

pub returns-clause-best : goal.returns-clause-best
returns-clause-best c =
    let market = c.args.instance.now in
    let ok = c.pools-pools.ensures.well_formed in
    let P : ℕ = c.args.pool.0 in
    let r = slice_index c.args.reads.now in
    let quota : c.pool.result.now.quota ≡ quota_of market P = ap (λ (p : Pool). p.quota) c.pool.ensures.value in
    let ks = c.loop-index.scratch in
    let free : slice_index ks P < quota_of market P = let s = c.loop-index.invariant.short in omega (arith, s, quota) in
    none_best market ok r P c.requires.merit (never_filled market ok (without_own c.args.reads.now P) P c.args.offers.now c.requires.each c.loop-index.index ks c.loop-index-test.false c.loop-index.invariant.counted free)
