use Rattle.std.proofs.Common.{◌≡◌, ◌∙◌, ◌<◌, ◌≤◌, ◌+◌, suc, ◌++◌, ◌∷◌, [], ap, sym, arith, List, max, length, drop, slice_index_or, slice_index, length-set, drop-cons}
use Rattle.std.proofs.lemmas.List.{get_or_default}
use Rattle.sl_types.specs.declared.kinds.Raise.{Raise}
use Rattle.sl_laws.specs.Limits.{effective_limit}
use Rattle.sl_laws.specs.Raises.{without_void, without_void_from, after_raise}
use Rattle.sl_proof.proofs.Voids.{raise_moves, step_new, step_void}
use Rattle.sl_proof.proofs.merging.without_void.Goals.{then-plain_eff-raise+in_ok-push, else-plain_eff-raise}
use Rattle.sl_proof.proofs.merging.without_void.Goals as goal

pub loop-at-preserved : goal.loop-at-preserved
loop-at-preserved c =
    let none : Raise = record { pool = record { 0 = 0 }; limit = 0 } in
    let market = c.args.instance.now in
    let raises = c.args.raises.now in
    let limits = c.loop-at.limits.items in
    let r : Raise = slice_index_or raises c.loop-at.at none in
    let rest : List Raise = drop (c.loop-at.at + 1) raises in
    let inside : c.loop-at.at < length raises = omega arith in
    let within : r.pool.0 < length market.pools = c.requires c.loop-at.at none inside in
    let long = c.loop-at.invariant.sizes in
    let bound : r.pool.0 < length limits = omega (arith, within, long) in
    let word : c.index-word.result.now ≡ slice_index limits r.pool.0 = c.index-word.ensures ∙ get_or_default limits r.pool.0 c.index-word.result.now 0 bound in
    let most : c.max.result ≡ max (slice_index limits r.pool.0) r.limit = c.max.ensures ∙ ap (λ w. max w r.limit) word in
    let moved = raise_moves limits r c.max.result bound most in
    let dropped : drop c.loop-at.at raises ≡ r ∷ rest = drop-cons raises c.loop-at.at none inside ∙ (let up : suc c.loop-at.at ≡ c.loop-at.at + 1 = omega arith in ap (λ k. r ∷ drop k raises) up) in
    let was : c.loop-at.rising.items ++ without_void_from market (slice_index limits) (r ∷ rest) ≡ without_void market raises =
    ap (λ l. c.loop-at.rising.items ++ without_void_from market (slice_index limits) l) (sym dropped) ∙ c.loop-at.invariant.rising in
    let eff : c.plain_eff.result ≡ effective_limit market (slice_index limits) r.pool.0 = c.plain_eff.ensures ∙ ap (λ l. effective_limit market (slice_index l) r.pool.0) c.deref.ensures.value in
    record {
      sizes = length-set limits r.pool.0 c.max.result ∙ long;
      rising = ap (λ t. c.if-plain_eff-raise.rising.items ++ without_void_from market t rest) moved ∙ elim c.if-plain_eff-raise.branch [
        | then-plain_eff-raise+in_ok-push w ↦
            let above : effective_limit market (slice_index limits) r.pool.0 < r.limit = omega (arith, eff, w.if-plain_eff-raise) in
            let pushed : c.if-plain_eff-raise.rising.items ≡ c.loop-at.rising.items ++ r ∷ [] = ap (λ v. v.items) w.rising-is ∙ w.in_ok-push.ensures.items in
            ap (λ l. l ++ without_void_from market (after_raise (slice_index limits) r) rest) pushed ∙ step_new market (slice_index limits) r rest c.loop-at.rising.items (without_void market raises) above was
        | else-plain_eff-raise w ↦
            let low : r.limit ≤ effective_limit market (slice_index limits) r.pool.0 = omega (arith, eff, w.if-plain_eff-raise) in
            let stays : c.if-plain_eff-raise.rising.items ≡ c.loop-at.rising.items = ap (λ v. v.items) w.rising-is in
            ap (λ l. l ++ without_void_from market (after_raise (slice_index limits) r) rest) stays ∙ step_void market (slice_index limits) r rest c.loop-at.rising.items (without_void market raises) low was
      ];
    }
