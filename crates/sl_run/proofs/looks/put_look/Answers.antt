use Rattle.std.proofs.Common.{◌≡◌, ◌∙◌, ◌+◌, ◌∷◌, ℕ, List, [], length, map, get_or, ap, subst, arith}
use Rattle.std.specs.Prelude.{OnOk, OnErr}
use Rattle.std.proofs.lemmas.List.{length-map}
use Rattle.sl_io.specs.Sink.{Takes, TakesPart}
use Rattle.sl_doc.specs.SeenText.{seen_lines}
use Rattle.sl_run.specs.Looks.{seen_before, look_lines}
use Rattle.sl_run.proofs.looks.put_look.Goals as goal

pub seen_text-requires-clause-each : goal.seen_text-requires-clause-each
seen_text-requires-clause-each g c =
    let inside = c.requires.within in
    let size = length-map c.args.seen.now (λ v. v.items) in
    ap length c.look_at-now.ensures ∙ c.requires.long c.args.number [] (omega (arith, inside, size))

pub returns-clause-text : goal.returns-clause-text
returns-clause-text g c =
    let n = c.args.named.now in
    let k = c.args.number in
    let seen : List (List ℕ) = map (λ v. v.items) c.args.seen.now in
    let before : c.look_before-before.result.now ≡ seen_before n seen k = c.look_before-before.ensures ∙ ap (λ (zeros : List ℕ). get_or (zeros ∷ seen) k []) c.requires.zeros in
    let same : seen_lines n (k + 1) c.look_before-before.result.now c.look_at-now.result.now ≡ look_lines n seen k =
    ap (λ (b : List ℕ). seen_lines n (k + 1) b c.look_at-now.result.now) before ∙ ap (seen_lines n (k + 1) (seen_before n seen k)) c.look_at-now.ensures in
    subst (λ (t : List ℕ). OnOk c.seen_text.result (Takes (g.O.Sink.output c.args.out.now) (g.O.Sink.output c.seen_text.new.out) t)) same c.seen_text.ensures.text

pub returns-clause-part : goal.returns-clause-part
returns-clause-part g c =
    let n = c.args.named.now in
    let k = c.args.number in
    let seen : List (List ℕ) = map (λ v. v.items) c.args.seen.now in
    let before : c.look_before-before.result.now ≡ seen_before n seen k = c.look_before-before.ensures ∙ ap (λ (zeros : List ℕ). get_or (zeros ∷ seen) k []) c.requires.zeros in
    let same : seen_lines n (k + 1) c.look_before-before.result.now c.look_at-now.result.now ≡ look_lines n seen k =
    ap (λ (b : List ℕ). seen_lines n (k + 1) b c.look_at-now.result.now) before ∙ ap (seen_lines n (k + 1) (seen_before n seen k)) c.look_at-now.ensures in
    subst (λ (t : List ℕ). OnErr c.seen_text.result (TakesPart (g.O.Sink.output c.args.out.now) (g.O.Sink.output c.seen_text.new.out) t)) same c.seen_text.ensures.part
