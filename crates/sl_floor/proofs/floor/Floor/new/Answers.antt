use Rattle.std.proofs.Common.{rules, ◌≡◌, true, replicate, length, sym, ap, ◌∙◌, subst, arith}
use Rattle.sl_types.specs.Market.{Market}
use Rattle.sl_floor.specs.declared.shares.TheConstants.{WHOLE_SHARE, FIRST_ALLOWANCE}
use Rattle.sl_floor.specs.Floor.{Sitting, first_view, opening_words, word_count}
use Rattle.sl_floor.specs.Held.{Holds}
use Rattle.sl_floor.proofs.Opens.{opens_at, words_wide, first_holds}
use Rattle.sl_floor.proofs.floor.Floor.new.Goals as goal

pub of_words-requires : goal.of_words-requires
of_words-requires c =
    let same : c.in_ok-copy.copy.items ≡ c.args.kept.now = search rules in
    let told = ap (λ v. v.items) c.of-2.ensures ∙ same in
    opens_at c.args.instance.now c.of.result.value c.args.kept.now c.of-2.result.value.items c.in_ok-known.known.items c.as_slice.result.now c.of.ensures told c.in_ok-known.ensures
    (c.as_slice.ensures.value ∙ (c.in_ok-words.ensures ∙ ap (opening_words (length c.args.kept.now)) c.deref.ensures.value)) c.pools-pools.ensures.valid (let s = c.in_ok-copy.copy.small in let t = c.in_ok-copy.copy.ok in let u = c.in_ok-copy.ensures.len in omega (arith, s, t, u)) c.requires.kept

pub invariant_of-floor : goal.invariant_of-floor
invariant_of-floor c =
    let a = c.in_ok-table.ensures in
    let inst = ap (λ k. k.instance.value) a.5 ∙ c.of.ensures in
    let few = c.pools-pools.ensures.few in (
      ap (λ m. length m.pools) inst ∙ sym c.pools-pools.ensures.count,
      a.0 ∙ (words_wide c.args.instance.now c.args.kept.now c.in_ok-known.known.items c.as_slice.result.now c.in_ok-known.ensures (c.as_slice.ensures.value ∙ (c.in_ok-words.ensures ∙ ap (opening_words (length c.args.kept.now)) c.deref.ensures.value)) ∙ sym (ap word_count inst)),
      a.1,
      omega (arith, few),
    )

pub invariant_of-seat : goal.invariant_of-seat
invariant_of-seat c =
    let a = c.in_ok-table.ensures in
    let same : c.in_ok-copy.copy.items ≡ c.args.kept.now = search rules in
    let told = ap (λ v. v.items) c.of-2.ensures ∙ same in
    let up : c.in_ok-left.left ≡ replicate c.pools-pools.result true = search rules in
    let view : c.in_ok-table.token.me.0 ≡ first_view c.args.instance.now c.args.kept.now =
    ap (λ m. m.0) a.4 ∙ (ap (λ (m : Market). first_view m c.of-2.result.value.items) c.of.ensures ∙ ap (first_view c.args.instance.now) told) in (
      ap (λ m. m.1) a.4,
      subst (λ (v : Sitting). Holds v c.in_ok-known.known.items c.in_ok-left.left WHOLE_SHARE FIRST_ALLOWANCE (record { 0 = 0 }) 0) (sym view)
          (first_holds c.args.instance.now c.args.kept.now c.in_ok-known.known.items c.in_ok-left.left c.pools-pools.result c.in_ok-known.ensures c.pools-pools.ensures.count up c.pools-pools.ensures.valid (let s = c.in_ok-copy.copy.small in let t = c.in_ok-copy.copy.ok in let u = c.in_ok-copy.ensures.len in omega (arith, s, t, u)) c.requires.kept),
      (search rules),
      (search rules),
    )
