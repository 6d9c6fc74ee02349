use Rattle.std.proofs.Common.{◌∙◌, ℕ, List, ap, nat_lt}
use Rattle.std.specs.List.{insert, position_or_len}
use Rattle.sl_types.specs.declared.kinds.Entry.{Entry}
use Rattle.sl_amend.proofs.Ordered.{insert_is}
use Rattle.sl_amend.proofs.roll.insert_choice.Goals as goal

pub returns-clause-ok : goal.returns-clause-ok
returns-clause-ok c =
    let e = c.args.choice in
    let list = c.args.list.now.items in
    let at = c.place_in-at.ensures.place ∙ ap (λ (es : List Entry). position_or_len (λ (other : Entry). nat_lt e.place other.place) es) c.deref.ensures.value in
    c.in_ok-insert.ensures.items ∙ ap (λ (i : ℕ). insert list i e) at ∙ insert_is e list
