use Rattle.std.proofs.Common.{◌<◌, ◌≤◌, ◌∙◌, List, ℕ, length, map, ap, subst, arith, rules}
use Rattle.std.specs.List.{concat}
use Rattle.std.specs.Io.KnownBytes.{Appends}
use Rattle.std.proofs.KnownBytes.{Appends-trans, Appends-nil}
use Rattle.std.proofs.lemmas.List.{length-map, take_all}
use Rattle.std.proofs.lemmas.Result.{err_from_is_err_and}
use Rattle.sl_io.specs.Sink.{AppendsPart}
use Rattle.sl_run.proofs.Lines.{concat_more, part_of_line}
use Rattle.sl_run.proofs.Looked.{lines_of_looks, looks_long, lines_at, looks_are_text}
use Rattle.sl_run.proofs.looks.put_looks.Goals as goal

pub loop-number-init : goal.loop-number-init
loop-number-init g c = record { never_falls = omega arith; taken = Appends-nil (g.O.Sink.output c.args.out.now).taken }

pub returns-in_err-put_look-clause-part : goal.returns-in_err-put_look-clause-part
returns-in_err-put_look-clause-part g c =
    let n = c.args.named.now in
    let seen : List (List ℕ) = map (λ v. v.items) c.args.seen.now in
    let lines = lines_of_looks n seen in
    let k = c.loop-number.number in
    let before = (g.O.Sink.output c.args.out.now).taken in
    let mid = (g.O.Sink.output c.loop-number.out).taken in
    let after = (g.O.Sink.output c.put_look.new.out).taken in
    let inside : k < length c.args.seen.now = search rules in
    let each = length-map c.args.seen.now (λ v. v.items) in
    let long = looks_long n seen in
    let within : k < length lines = omega (arith, inside, each, long) in
    let part = subst (AppendsPart mid after) (lines_at n seen k (omega (arith, inside, each))) c.in_err-put_look.ensures.part in
    let error = err_from_is_err_and c.from_residual-in_err-put_look.result c.from_residual-in_err-put_look.ensures.1 in
    rw error.1 (subst (AppendsPart before after) (looks_are_text n seen) (part_of_line before mid after lines k within c.loop-number.invariant.taken part))

pub returns-in_err-put_look-clause-cause : goal.returns-in_err-put_look-clause-cause
returns-in_err-put_look-clause-cause g c =
    let error = err_from_is_err_and c.from_residual-in_err-put_look.result c.from_residual-in_err-put_look.ensures.1 in
    let later = c.loop-number.invariant.never_falls in
    let cause = c.in_err-put_look.ensures.cause in
    rw (error.1, error.2) (λ fault. let rose = cause fault in omega (arith, later, rose))

pub loop-number-preserved : goal.loop-number-preserved
loop-number-preserved g c =
    let n = c.args.named.now in
    let seen : List (List ℕ) = map (λ v. v.items) c.args.seen.now in
    let lines = lines_of_looks n seen in
    let k = c.loop-number.number in
    let before = (g.O.Sink.output c.args.out.now).taken in
    let mid = (g.O.Sink.output c.loop-number.out).taken in
    let after = (g.O.Sink.output c.put_look.new.out).taken in
    let inside : k < length c.args.seen.now = search rules in
    let each = length-map c.args.seen.now (λ v. v.items) in
    let long = looks_long n seen in
    let within : k < length lines = omega (arith, inside, each, long) in
    let whole = subst (Appends mid after) (lines_at n seen k (omega (arith, inside, each))) c.in_ok-put_look.ensures.text in
    let low = c.loop-number.invariant.never_falls in
    let later = c.put_look.ensures.later in
    record {
      never_falls = omega (arith, low, later);
      taken = subst (Appends before after) (concat_more lines k within) (Appends-trans before mid after _ _ c.loop-number.invariant.taken whole);
    }

pub returns-clause-text : goal.returns-clause-text
returns-clause-text g c =
    let n = c.args.named.now in
    let seen : List (List ℕ) = map (λ v. v.items) c.args.seen.now in
    let lines = lines_of_looks n seen in
    let k = c.loop-number.number in
    let past : length c.args.seen.now ≤ k = search rules in
    let each = length-map c.args.seen.now (λ v. v.items) in
    let long = looks_long n seen in
    let before = (g.O.Sink.output c.args.out.now).taken in
    let now = (g.O.Sink.output c.loop-number.out).taken in
    subst (Appends before now) (ap concat (take_all k lines (omega (arith, past, each, long))) ∙ looks_are_text n seen) c.loop-number.invariant.taken
