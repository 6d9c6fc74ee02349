use Rattle.std.proofs.Common.{length, List, ap, arith}
use Rattle.sl_types.specs.declared.kinds.Entry.{Entry}
use Rattle.sl_types.proofs.Added.{count_of_rows}
use Rattle.sl_types.proofs.choice_lists.ChoiceLists.len.Goals as goal

pub returns : goal.returns
returns c =
    let count = count_of_rows c.self.inside.choices.items c.self.inside.starts.items in
    let same = ap (λ (rows : List (List Entry)). length rows) c.self.view_is in
    omega (arith, count, same)
