use Rattle.sl_run.proofs.check.judge.Goals as goal

pub returns-in-Ok-clause-judged : goal.returns-in-Ok-clause-judged
returns-in-Ok-clause-judged g c = λ told. record {
  valid = c.in_ok-named.ensures.valid;
  named = c.in_ok-named.ensures.named;
  doc = c.in_ok-named.doc;
  read = c.in_ok-named.ensures.document told;
  right = c.in-Ok.ensures.verdict;
}
