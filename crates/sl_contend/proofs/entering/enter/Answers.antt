use Rattle.std.proofs.Common.{ℕ, ◌<◌, ◌∙◌, ◌∷◌, ◌++◌, [], length, vec_len, List, Option, None, sym, ap, arith}
use Rattle.std.specs.Option.{option_map}
use Rattle.std.proofs.lemmas.List.{get_or_read}
use Rattle.std.proofs.lemmas.List.Elements.{All-push, All-same}
use Rattle.sl_contend.specs.declared.rows.Placed.{Placed}
use Rattle.sl_contend.specs.Rows.{placed_in, last_of}
use Rattle.sl_contend.specs.Entering.{rows_of, is_number}
use Rattle.sl_contend.proofs.Rising.{at_own}
use Rattle.sl_contend.proofs.Entered.{filled, ends_map, pushed, kept, lasts_more}
use Rattle.sl_contend.proofs.entering.enter.Goals as goal

pub returns-then-owns-clause-rows : goal.returns-then-owns-clause-rows
returns-then-owns-clause-rows g c = sym (at_own (g.T.Numbered.owns c.args.item) c.args.at.0 (rows_of g.T.Numbered.number c.args.rows.now) (g.T.Numbered.number c.args.item) (sym c.owns.ensures ∙ c.if-owns.true))

pub returns-then-is_item-clause-rows : goal.returns-then-is_item-clause-rows
returns-then-is_item-clause-rows g c =
    let number = g.T.Numbered.number in
    let rows = c.args.rows.now in
    let j : ℕ = c.args.at.0 in
    let x = number c.args.item in
    let in_rows : j < length rows.last.items = omega (arith, c.requires) in
    let value = get_or_read rows.last.items j c.index.result.now in_rows c.index.ensures None in
    let there = ends_map number (placed_in j rows.placed.items) x ∙ (ap (λ (o : Option g.row.T.Denot). is_number (option_map number o) x) (sym (value ∙ rows.lasts j c.requires)) ∙ (sym c.is_item.ensures ∙ c.if-is_item.true)) in
    kept number (g.T.Numbered.owns c.args.item) (vec_len rows.last) rows.placed.items (record { row = c.args.at; item = c.args.item }) (sym c.owns.ensures ∙ c.if-owns.false) there

pub invariant_of-rows-2 : goal.invariant_of-rows-2
invariant_of-rows-2 g c =
    let rows = c.args.rows.now in
    let old = rows.placed.items in
    let p : Placed g.row.T.Denot = record { row = c.args.at; item = c.args.item } in
    let in_rows : c.args.at.0 < length rows.last.items = omega (arith, c.requires) in
    record {
      within = All-same (λ (q : Placed g.row.T.Denot). q.row.0 < vec_len rows.last) c.push.new.self.items (old ++ p ∷ []) c.in_ok-push.ensures.items (All-push (λ (q : Placed g.row.T.Denot). q.row.0 < vec_len rows.last) old p rows.within c.requires);
      lasts = λ Q Q_in. lasts_more old p rows.last.items in_rows (λ R R_in. rows.lasts R (omega (arith, R_in))) Q (omega (arith, Q_in)) ∙ sym (ap (λ (ps : List (Placed g.row.T.Denot)). last_of (placed_in Q ps)) c.in_ok-push.ensures.items);
    }

pub returns-clause-rows : goal.returns-clause-rows
returns-clause-rows g c =
    let number = g.T.Numbered.number in
    let rows = c.args.rows.now in
    let j : ℕ = c.args.at.0 in
    let x = number c.args.item in
    let in_rows : j < length rows.last.items = omega (arith, c.requires) in
    let value = get_or_read rows.last.items j c.index.result.now in_rows c.index.ensures None in
    let fresh = ends_map number (placed_in j rows.placed.items) x ∙ (ap (λ (o : Option g.row.T.Denot). is_number (option_map number o) x) (sym (value ∙ rows.lasts j c.requires)) ∙ (sym c.is_item.ensures ∙ c.if-is_item.false)) in
    ap (λ (ps : List (Placed g.row.T.Denot)). filled number (vec_len rows.last) ps) c.in_ok-push.ensures.items
    ∙ pushed number (g.T.Numbered.owns c.args.item) (vec_len rows.last) rows.placed.items (record { row = c.args.at; item = c.args.item }) (sym c.owns.ensures ∙ c.if-owns.false) fresh
