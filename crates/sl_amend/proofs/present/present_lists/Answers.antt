use Rattle.std.proofs.Common.{◌≡◌, ◌∙◌, ◌<◌, ◌++◌, length, get_or, false, List, Vec, ap, sym, arith, [], ◌∷◌}
use Rattle.std.specs.declared.alloc.Global.{Global}
use Rattle.sl_types.specs.declared.kinds.Entry.{Entry}
use Rattle.sl_types.proofs.Lists.{get_or_inside}
use Rattle.sl_instance.specs.Lists.{contents, list_at}
use Rattle.sl_amend.specs.Roll.{lists_of}
use Rattle.sl_amend.proofs.Marked.{marked_hit, marked_miss}
use Rattle.sl_amend.proofs.Written.{length-contents, contents_push}
use Rattle.sl_amend.proofs.present.present_lists.Goals as goal
use Rattle.sl_amend.proofs.present.present_lists.Goals.{then-index+in_ok-from_slice+in_ok-push, else-index}

pub loop-app-preserved : goal.loop-app-preserved
loop-app-preserved c =
    let roll = c.args.roll.now in
    let marks = roll.present.items in
    let k = c.loop-app.app in
    let each : length marks ≡ length (lists_of roll) = c.requires.each in
    let lt : k < length (lists_of roll) = omega (arith, length-contents roll.lists.items, c.len-app-end.ensures, c.loop-app-test.true) in
    let here : c.index.result.now ≡ get_or marks k false = c.index.ensures ∙ get_or_inside marks k c.index.result.now false (omega (arith, lt, each)) in
    elim c.if-index.branch [
      | then-index+in_ok-from_slice+in_ok-push w ↦
          let items = w.in_ok-from_slice.ensures.items ∙ w.list_at.ensures ∙ ap (λ (lists : List (Vec Entry Global)). list_at lists k) w.deref.ensures.value in
          ap (λ (v : Vec (Vec Entry Global) Global). contents v.items) w.lists-is
          ∙ ap contents w.in_ok-push.ensures.items ∙ contents_push c.loop-app.lists.items w.in_ok-from_slice.field-0
          ∙ ap (λ (es : List Entry). contents c.loop-app.lists.items ++ es ∷ []) items
          ∙ ap (λ (before : List (List Entry)). before ++ get_or (lists_of roll) k [] ∷ []) c.loop-app.invariant
          ∙ sym (marked_hit marks (lists_of roll) k [] each lt (sym here ∙ w.if-index.true))
      | else-index w ↦
          ap (λ (v : Vec (Vec Entry Global) Global). contents v.items) w.lists-is ∙ c.loop-app.invariant
          ∙ sym (marked_miss marks (lists_of roll) k [] each lt (sym here ∙ w.if-index.false))
    ]
