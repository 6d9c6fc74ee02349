use Rattle.std.proofs.Common.{◌≡◌, ◌+◌, ◌∷◌, ◌++◌, ◌∙◌, [], ℕ, List, length, ap, arith}
use Rattle.sl_types.specs.declared.kinds.Entry.{Entry}
use Rattle.sl_types.specs.Rows.{rows_of}
use Rattle.sl_types.proofs.Added.{rows_added}
use Rattle.sl_types.proofs.choice_lists.add_row.Goals as goal

pub returns-clause-row : goal.returns-clause-row
returns-clause-row c =
    let items = c.args.choices.now.items in
    let starts = c.args.starts.now.items in
    let after = c.extend_from_slice.new.self.items in
    let more = c.in_ok-extend_from_slice.ensures.len in
    let end : c.len.result ≡ length items + length c.args.list.now = omega (arith, c.len.ensures, more) in
    ap (rows_of after) c.in_ok-push.ensures.items
    ∙ ap (λ (before : List ℕ). rows_of after (before ++ c.len.result ∷ [])) c.reserve.ensures.items
    ∙ ap (λ (n : ℕ). rows_of after (starts ++ n ∷ [])) end
    ∙ ap (λ (choices : List Entry). rows_of choices (starts ++ (length items + length c.args.list.now) ∷ [])) c.in_ok-extend_from_slice.ensures.items
    ∙ rows_added items c.args.list.now starts c.requires
