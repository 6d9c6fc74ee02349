use Rattle.std.proofs.Common.{◌≡◌, ◌∙◌, ℕ, List, length, slice_index, ap, arith}
use Rattle.std.proofs.lemmas.List.{get_or_read}
use Rattle.sl_doc.specs.Document.{Document}
use Rattle.sl_run.proofs.Admitted.{admitted_length, choice_at}
use Rattle.sl_run.proofs.summary.admitted_choice.Goals as goal

pub returns : goal.returns
returns c =
    let market = c.args.instance.now in
    let doc = c.args.doc.now in
    let a = c.args.app.0 in
    let same : c.doc.inside.admitted.items ≡ doc.admitted = ap (λ (d : Document). d.admitted) c.doc.view_is in
    let each = admitted_length market doc c.requires.result in
    let long = ap length same in
    let read = get_or_read c.doc.inside.admitted.items a _ (omega (arith, long, each, c.requires.within)) c.index.ensures 0 in
    c.choice_at.ensures ∙ choice_at market doc a _ c.requires.result c.requires.within (read ∙ ap (λ (l : List ℕ). slice_index l a) same)
