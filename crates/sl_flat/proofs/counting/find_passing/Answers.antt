use Rattle.std.proofs.Common.{◌≡◌, ◌∙◌, ◌+◌, ℕ, sym, ap, arith, slice_index}
use Rattle.sl_types.specs.declared.kinds.Pool.{Pool}
use Rattle.sl_types.specs.Market.{quota_of}
use Rattle.sl_flat.proofs.Counted.{demand_counted}
use Rattle.sl_contend.proofs.Tallies.{scores_fall, count_end, tally_all, back_low}
use Rattle.sl_flat.specs.Counting.{counts}
use Rattle.sl_flat.proofs.Passed.{count_skips, tally_skips, skips_low, counts_all, counts_reach, counts_short, passes}
use Rattle.sl_flat.proofs.counting.find_passing.Goals as goal
use Rattle.sl_flat.proofs.counting.find_passing.Goals.{then-counts+else-count-quota, else-counts}

pub returns-then-count-quota-clause-some : goal.returns-then-count-quota-clause-some
returns-then-count-quota-clause-some c =
    let market = c.args.instance.now in
    let t = slice_index c.args.reads.now in
    let P : ℕ = c.args.pool.0 in
    let offers = c.offers-offer-items.result.now in
    let i = c.loop-offer.invariant in
    let quota : c.pool.result.now.quota ≡ quota_of market P = ap (λ (p : Pool). p.quota) c.pool.ensures.value in
    let some = c.pool.ensures.quota.0 in
    let full : c.loop-offer.count ≡ quota_of market P = c.if-count-quota.true ∙ quota in
    let reach = i.reach (omega (arith, some, full, quota)) in
    let short = i.short (omega (arith, some, full, quota)) in
    passes market t P offers c.loop-offer.offer-index c.loop-offer-test.true (scores_fall offers (c.offers-offer-items.ensures.falling market c.requires.contenders)) (sym c.counts.ensures ∙ c.if-counts.true) c.loop-offer.last
    (λ y. demand_counted market c.pools-pools.ensures.well_formed t P c.requires.score y offers (c.offers-offer-items.ensures.each market c.requires.contenders))
    (i.all ∙ full) (reach ∙ full) (omega (arith, short, full)) (i.low (omega (arith, some, full, quota)))

pub loop-offer-preserved : goal.loop-offer-preserved
loop-offer-preserved c =
    let market = c.args.instance.now in
    let t = slice_index c.args.reads.now in
    let P : ℕ = c.args.pool.0 in
    let offers = c.offers-offer-items.result.now in
    let k : ℕ = c.loop-offer.offer-index in
    let h = c.loop-offer-test.true in
    let i = c.loop-offer.invariant in
    let fall = scores_fall offers (c.offers-offer-items.ensures.falling market c.requires.contenders) in
    elim c.if-counts.branch [
      | then-counts+else-count-quota w ↦
          let hit = sym c.counts.ensures ∙ w.if-counts.true in
          let one = counts_all market t P offers k h fall hit in
          let short = counts_short market t P offers k h fall hit in
          rw (w.count-is, w.last-is) record {
            few = let f = i.few in let ne = w.if-count-quota.false in omega (arith, f, ne);
            all = one ∙ ap (λ (n : ℕ). n + 1) i.all;
            reach = λ some. counts_reach market t P offers k h fall hit ∙ ap (λ (n : ℕ). n + 1) i.all;
            short = λ some. let a = i.all in omega (arith, short, a);
            low = λ some. back_low offers fall k h (k + 1) (omega arith);
          }
      | else-counts w ↦
          let miss = sym c.counts.ensures ∙ w.if-counts.false in
          rw (w.count-is, w.last-is) record {
            few = i.few;
            all = count_skips market t P offers k h fall miss ∙ i.all;
            reach = λ some. tally_skips market t P offers k h fall miss c.loop-offer.last ∙ i.reach some;
            short = λ some. let s = i.short some in let e = tally_skips market t P offers k h fall miss (c.loop-offer.last + 1) in omega (arith, s, e);
            low = λ some. skips_low market t P offers k h fall c.loop-offer.last (i.low some);
          }
    ]

pub returns-clause-none : goal.returns-clause-none
returns-clause-none c =
    let market = c.args.instance.now in
    let t = slice_index c.args.reads.now in
    let P : ℕ = c.args.pool.0 in
    let offers = c.offers-offer-items.result.now in
    let i = c.loop-offer.invariant in
    let quota : c.pool.result.now.quota ≡ quota_of market P = ap (λ (p : Pool). p.quota) c.pool.ensures.value in
    let are = demand_counted market c.pools-pools.ensures.well_formed t P c.requires.score 0 offers (c.offers-offer-items.ensures.each market c.requires.contenders) in
    let every = tally_all (counts market t P) offers in
    let whole = count_end (counts market t P) c.loop-offer.offer-index offers c.loop-offer-test.false in
    let few = i.few in
    let all = i.all in
    omega (arith, are, every, whole, few, all, quota)
