use Rattle.std.proofs.Common.{◌≡◌, ◌∙◌, ◌<◌, ◌++◌, length, map, get_or, List, Vec, Option, None, arith, [], ◌∷◌, ap, sym}
use Rattle.std.specs.List.{range_with_len}
use Rattle.std.specs.declared.alloc.Global.{Global}
use Rattle.sl_types.specs.declared.kinds.AppId.{AppId}
use Rattle.sl_amend.specs.Origins.{origin_of}
use Rattle.sl_amend.proofs.Marked.{marked_hit, marked_miss, marked_whole, count_origins, origin_at}
use Rattle.sl_amend.proofs.present.present_origins.Goals as goal
use Rattle.sl_amend.proofs.present.present_origins.Goals.{then-present-number+in_ok-push, else-present-number}

pub loop-number-preserved : goal.loop-number-preserved
loop-number-preserved c =
    let t = c.args.of_tables in
    let marks = c.args.present.now in
    let n = length marks in
    let k = c.loop-number.number in
    let all = map (origin_of t) (range_with_len 0 n) in
    let count : length all ≡ n = count_origins t n in
    let lt : k < length all = omega (arith, count, c.loop-number-test.true) in
    elim c.if-present-number.branch [
      | then-present-number+in_ok-push w ↦
          ap (λ (v : Vec (Option AppId) Global). v.items) w.origins-is ∙ w.in_ok-push.ensures.items
          ∙ ap (λ (o : Option AppId). c.loop-number.origins.items ++ o ∷ []) (w.origin.ensures ∙ sym (origin_at t n k c.loop-number-test.true))
          ∙ ap (λ (before : List (Option AppId)). before ++ get_or all k None ∷ []) c.loop-number.invariant
          ∙ sym (marked_hit marks all k None (sym count) lt w.if-present-number.true)
      | else-present-number w ↦
          ap (λ (v : Vec (Option AppId) Global). v.items) w.origins-is ∙ c.loop-number.invariant
          ∙ sym (marked_miss marks all k None (sym count) lt w.if-present-number.false)
    ]

pub returns : goal.returns
returns c =
    let marks = c.args.present.now in
    let n = length marks in
    let count = count_origins c.args.of_tables n in
    let past = c.loop-number-test.false in
    c.loop-number.invariant ∙ marked_whole marks _ c.loop-number.number (sym count) (omega (arith, count, past))
