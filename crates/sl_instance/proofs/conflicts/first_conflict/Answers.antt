use Rattle.std.proofs.Common.{◌≡◌, ◌<◌, ◌+◌, ◌∙◌, ◌++◌, ◌∷◌, ℕ, List, [], length, get_or, take, map, nat_eq, sym, ap, arith, below_more, subst, false, Option, None}
use Rattle.std.proofs.lemmas.List.{take_more, get_or-map, length-map}
use Rattle.std.specs.HashMap.{get}
use Rattle.sl_choices.specs.declared.choices.ChoiceRow.{ChoiceRow}
use Rattle.sl_types.proofs.Firsts.{first_number, no_number}
use Rattle.sl_instance.specs.Conflicts.{Keyed, is_conflicted, known_with, differs_from_known}
use Rattle.sl_instance.specs.Causes.{keyed_row}
use Rattle.sl_instance.proofs.Keys.{AllAgree, first_value, first_value_more, known_tells, agree_more}
use Rattle.sl_instance.proofs.conflicts.first_conflict.Goals as goal

pub returns-then-branch-clause-first : goal.returns-then-branch-clause-first
returns-then-branch-clause-first c =
    let f : ChoiceRow → Keyed = keyed_row c.args.agreement c.args.trees.now in
    let rows : List Keyed = map f c.args.rows.now in
    let at = c.loop-at.at in
    let row : c.keyed_row.result ≡ get_or rows at None = c.keyed_row.ensures ∙ sym (get_or-map f c.args.rows.now at _ None c.loop-at-test.true) in
    let here : c.in_ok-take_row.field-0 ≡ is_conflicted rows at =
    c.in_ok-take_row.ensures.differs ∙ ap (differs_from_known (get nat_eq c.loop-at.values)) row ∙ known_tells (take at rows) (get_or rows at None) (get nat_eq c.loop-at.values) c.loop-at.invariant.agree c.loop-at.invariant.known in
    let lt : at < length rows = let same = length-map c.args.rows.now f in omega (arith, same) in
    sym (first_number (is_conflicted rows) (length rows) at lt c.loop-at.invariant.clear (sym here ∙ c.if-branch.true))

pub loop-at-preserved : goal.loop-at-preserved
loop-at-preserved c =
    let f : ChoiceRow → Keyed = keyed_row c.args.agreement c.args.trees.now in
    let rows : List Keyed = map f c.args.rows.now in
    let at = c.loop-at.at in
    let row : c.keyed_row.result ≡ get_or rows at None = c.keyed_row.ensures ∙ sym (get_or-map f c.args.rows.now at _ None c.loop-at-test.true) in
    let here : c.in_ok-take_row.field-0 ≡ is_conflicted rows at =
    c.in_ok-take_row.ensures.differs ∙ ap (differs_from_known (get nat_eq c.loop-at.values)) row ∙ known_tells (take at rows) (get_or rows at None) (get nat_eq c.loop-at.values) c.loop-at.invariant.agree c.loop-at.invariant.known in
    let free : is_conflicted rows at ≡ false = sym here ∙ c.if-branch.false in
    let lt : at < length rows = let same = length-map c.args.rows.now f in omega (arith, same) in
    let more : take (at + 1) rows ≡ take at rows ++ get_or rows at None ∷ [] = take_more rows at None lt in
    record {
      clear = below_more (λ (k : ℕ). is_conflicted rows k ≡ false) at c.loop-at.invariant.clear free;
      known = λ q. c.in_ok-take_row.ensures.kept q ∙ ap (known_with q (get nat_eq c.loop-at.values q)) row
          ∙ ap (λ (o : Option ℕ). known_with q o (get_or rows at None)) (c.loop-at.invariant.known q)
          ∙ sym (first_value_more q (take at rows) (get_or rows at None)) ∙ ap (first_value q) (sym more);
      agree = subst (λ (ks : List Keyed). AllAgree ks) (sym more) (agree_more (take at rows) (get_or rows at None) c.loop-at.invariant.agree free);
    }

pub returns-clause-first : goal.returns-clause-first
returns-clause-first c =
    let f : ChoiceRow → Keyed = keyed_row c.args.agreement c.args.trees.now in
    let rows : List Keyed = map f c.args.rows.now in
    let same = length-map c.args.rows.now f in
    sym (no_number (is_conflicted rows) (length rows) (λ j low. c.loop-at.invariant.clear j (omega (arith, low, same))))
