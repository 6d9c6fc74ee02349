use Rattle.std.proofs.Common.{◌∙◌, sym, not, get_or, arith}
use Rattle.std.proofs.lemmas.Bool.{and_from, not_from_false}
use Rattle.sl_core.specs.Machine.{is_asked}
use Rattle.sl_core.proofs.Ranges.{lacks_here, lacks_none}
use Rattle.sl_core.proofs.search.lacks_read.Goals as goal

pub returns-then-not-has_pool : goal.returns-then-not-has_pool
returns-then-not-has_pool c =
    sym (lacks_here c.args.instance.now c.args.at.0 c.loop-number.number c.args.made.now (omega arith)
    (and_from (is_asked c.args.instance.now c.args.at.0 c.loop-number.number) (not (get_or c.args.made.now c.loop-number.number _))
    (sym c.is_asked.ensures ∙ c.if-is_asked.true) (not_from_false (get_or c.args.made.now c.loop-number.number _) (sym c.has_pool.ensures ∙ c.if-not-has_pool.true))))

pub returns : goal.returns
returns c = sym (lacks_none c.args.instance.now c.args.at.0 c.loop-number.number c.args.made.now (omega arith) c.loop-number.invariant)
