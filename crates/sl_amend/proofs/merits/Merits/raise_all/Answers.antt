use Rattle.std.proofs.Common.{◌≡◌, ◌∙◌, ◌+◌, arith, get_or}
use Rattle.std.proofs.lemmas.List.Sums.{sum_by_more}
use Rattle.sl_amend.specs.Merits.{held_at, count_at}
use Rattle.sl_amend.specs.Roll.{no_choice}
use Rattle.sl_amend.proofs.merits.Merits.raise_all.Goals as goal

pub choices-preserved : goal.choices-preserved
choices-preserved c =
    let inv = c.choices.invariant in
    let ok = c.in_ok-raise.ensures in
    let trees = c.args.self.now.trees.items in
    let choices = c.args.choices.now in
    let at = c.choices.choice-index in (
      ok.trees ∙ inv.0,
      λ key. let more = sum_by_more (count_at trees key) choices at no_choice c.choices-test.true in
          let here : held_at c.raise.new.self key ≡ held_at c.choices.self key + count_at trees key (get_or choices at no_choice) = rw inv.0 at (ok.ok key) in
          let before = inv.1 key in
          omega (arith, here, before, more),
    )
