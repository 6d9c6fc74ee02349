use Rattle.std.proofs.Common.{arith}
use Rattle.sl_desk.proofs.Asked.{within, may_now, next_is, own_read, all_read, whole_list}
use Rattle.sl_desk.proofs.reading.read_asked.Goals as goal

pub loop-at-init : goal.loop-at-init
loop-at-init c =
    own_read c.args.floor.now c.args.pool c.args.seat.now c.read-own.new.seat c.args.reads.now c.read-own.result c.requires.of c.requires.sized c.requires.within c.requires.phase
    c.requires.made c.requires.none c.requires.reads c.read-own.ensures.seat c.read-own.ensures.rises c.read-own.ensures.top

pub read-word-requires-clause-may : goal.read-word-requires-clause-may
read-word-requires-clause-may c = may_now c.args.floor.now c.args.pool c.args.seat.now c.loop-at.seat c.loop-at.reads c.loop-at.at c.args.feeds.now c.requires.feeds c.loop-at-test.true c.requires.of c.requires.sized c.loop-at.invariant

pub bounds-reads-from : goal.bounds-reads-from
bounds-reads-from c =
    let low = within c.args.floor.now c.args.pool c.args.seat.now c.loop-at.seat c.loop-at.reads c.loop-at.at c.args.feeds.now c.requires.feeds c.loop-at-test.true c.requires.of c.requires.sized c.loop-at.invariant in
    let long = c.loop-at.invariant.each in omega (arith, low, long)

pub loop-at-preserved : goal.loop-at-preserved
loop-at-preserved c =
    next_is c.args.floor.now c.args.pool c.args.seat.now c.loop-at.seat c.loop-at.reads c.loop-at.at c.args.feeds.now c.requires.feeds c.loop-at-test.true c.requires.of c.requires.sized c.loop-at.invariant
    c.read-word.new.seat c.read-word.result c.read-word.ensures.seat c.read-word.ensures.rises c.read-word.ensures.top

pub returns-clause-found : goal.returns-clause-found
returns-clause-found c =
    all_read c.args.floor.now.market c.args.pool c.args.seat.now c.loop-at.seat c.loop-at.reads
    (whole_list c.args.floor.now.market c.args.pool c.args.seat.now c.loop-at.seat c.loop-at.reads c.loop-at.at c.args.feeds.now c.requires.feeds (omega arith) c.loop-at.invariant)
