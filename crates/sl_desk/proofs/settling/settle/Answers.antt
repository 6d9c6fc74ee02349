use Rattle.std.proofs.Common.{◌<◌, false, length, sym, subst, arith}
use Rattle.sl_types.specs.Market.{Market}
use Rattle.sl_core.proofs.Actors.{up_within}
use Rattle.sl_floor.specs.Floor.{SeatValue}
use Rattle.sl_desk.specs.Seats.{Stepped}
use Rattle.sl_desk.specs.Settling.{Settles, Claims, ReadsAll, steps_of}
use Rattle.sl_desk.proofs.Settled.{settled_down, settled_quiet, steps_quiet, asked_quiet, settled_raised, steps_raised, asked_raised, claims_flag, claim_quiet, claim_raised}
use Rattle.sl_desk.proofs.Numbers.{stepped_none}
use Rattle.sl_desk.proofs.settling.settle.Goals as goal
use Rattle.sl_desk.proofs.settling.settle.Goals.{in-Some, in_default}

pub returns-then-not-claim-clause-settles : goal.returns-then-not-claim-clause-settles
returns-then-not-claim-clause-settles g c = settled_down c.args.seat.now c.claim.new.seat c.args.pool c.fit.ensures.limits c.requires.left c.if-not-claim.ensures

pub returns-clause-settles : goal.returns-clause-settles
returns-clause-settles g c =
    let within = let up = up_within c.args.seat.now.view.actor.left c.args.pool.0 c.requires.left in let n = c.fit.ensures.left in (let low : c.args.pool.0 < length c.args.floor.now.market.pools = omega (arith, up, n) in low) in
    elim c.match-limit.branch [
      | in-Some w ↦ subst (λ (z : SeatValue). Settles c.args.pool.0 c.args.seat.now z) (sym w.seat-is) (settled_raised c.args.floor.now.market c.args.pool c.args.seat.now c.claim.new.seat c.search-limit.new.seat c.search-limit.new.seat.view.actor.reads
          c.fit.ensures.limits c.requires.left c.if-not-claim.ensures c.search-limit.ensures.read w.raise_to.new.seat within w.raise_to.ensures.raised)
      | in_default w ↦ subst (λ (z : SeatValue). Settles c.args.pool.0 c.args.seat.now z) (sym w.seat-is) (settled_quiet c.args.floor.now.market c.args.pool c.args.seat.now c.claim.new.seat c.search-limit.new.seat c.search-limit.new.seat.view.actor.reads
          c.fit.ensures.limits c.requires.left c.if-not-claim.ensures c.search-limit.ensures.read)
    ]

pub returns-clause-steps : goal.returns-clause-steps
returns-clause-steps g c =
    let within = let up = up_within c.args.seat.now.view.actor.left c.args.pool.0 c.requires.left in let n = c.fit.ensures.left in (let low : c.args.pool.0 < length c.args.floor.now.market.pools = omega (arith, up, n) in low) in
    subst (λ (m : Market). Stepped c.args.seat.now.view c.match-limit.seat.view (steps_of m c.args.pool.0)) (sym c.requires.instance) (elim c.match-limit.branch [
      | in-Some w ↦ subst (λ (z : SeatValue). Stepped c.args.seat.now.view z.view (steps_of c.args.floor.now.market c.args.pool.0)) (sym w.seat-is) (steps_raised c.args.floor.now.market c.args.pool c.args.seat.now c.claim.new.seat c.search-limit.new.seat c.search-limit.new.seat.view.actor.reads
          c.fit.ensures.limits c.requires.left c.if-not-claim.ensures c.search-limit.ensures.read w.raise_to.new.seat within w.raise_to.ensures.raised)
      | in_default w ↦ subst (λ (z : SeatValue). Stepped c.args.seat.now.view z.view (steps_of c.args.floor.now.market c.args.pool.0)) (sym w.seat-is) (steps_quiet c.args.floor.now.market c.args.pool c.args.seat.now c.claim.new.seat c.search-limit.new.seat c.search-limit.new.seat.view.actor.reads
          c.fit.ensures.limits c.requires.left c.if-not-claim.ensures c.search-limit.ensures.read)
    ])

pub returns-clause-asked : goal.returns-clause-asked
returns-clause-asked g c =
    let within = let up = up_within c.args.seat.now.view.actor.left c.args.pool.0 c.requires.left in let n = c.fit.ensures.left in (let low : c.args.pool.0 < length c.args.floor.now.market.pools = omega (arith, up, n) in low) in
    subst (λ (m : Market). ReadsAll m c.args.pool.0 c.args.seat.now.view c.match-limit.seat.view) (sym c.requires.instance) (elim c.match-limit.branch [
      | in-Some w ↦ subst (λ (z : SeatValue). ReadsAll c.args.floor.now.market c.args.pool.0 c.args.seat.now.view z.view) (sym w.seat-is) (asked_raised c.args.floor.now.market c.args.pool c.args.seat.now c.claim.new.seat c.search-limit.new.seat c.search-limit.new.seat.view.actor.reads
          c.fit.ensures.limits c.requires.left c.if-not-claim.ensures c.search-limit.ensures.read w.raise_to.new.seat within w.raise_to.ensures.raised)
      | in_default w ↦ subst (λ (z : SeatValue). ReadsAll c.args.floor.now.market c.args.pool.0 c.args.seat.now.view z.view) (sym w.seat-is) (asked_quiet c.args.floor.now.market c.args.pool c.args.seat.now c.claim.new.seat c.search-limit.new.seat c.search-limit.new.seat.view.actor.reads
          c.fit.ensures.limits c.requires.left c.if-not-claim.ensures c.search-limit.ensures.read)
    ])

pub returns-then-not-claim-clause-claim : goal.returns-then-not-claim-clause-claim
returns-then-not-claim-clause-claim g c =
    let within = let up = up_within c.args.seat.now.view.actor.left c.args.pool.0 c.requires.left in let n = c.fit.ensures.left in (let low : c.args.pool.0 < length c.args.floor.now.market.pools = omega (arith, up, n) in low) in
    subst (λ (m : Market). Claims m c.args.pool.0 c.args.seat.now.view c.claim.new.seat.view) (sym c.requires.instance)
    (claims_flag c.args.floor.now.market c.args.seat.now c.claim.new.seat c.claim.new.seat c.args.pool false 0 c.requires.seat.market c.fit.ensures.steps within c.if-not-claim.ensures (stepped_none c.claim.new.seat.view))

pub returns-clause-claim : goal.returns-clause-claim
returns-clause-claim g c =
    let within = let up = up_within c.args.seat.now.view.actor.left c.args.pool.0 c.requires.left in let n = c.fit.ensures.left in (let low : c.args.pool.0 < length c.args.floor.now.market.pools = omega (arith, up, n) in low) in
    subst (λ (m : Market). Claims m c.args.pool.0 c.args.seat.now.view c.match-limit.seat.view) (sym c.requires.instance) (elim c.match-limit.branch [
      | in-Some w ↦ subst (λ (z : SeatValue). Claims c.args.floor.now.market c.args.pool.0 c.args.seat.now.view z.view) (sym w.seat-is) (claim_raised c.args.floor.now.market c.args.pool c.args.seat.now c.claim.new.seat c.search-limit.new.seat c.search-limit.new.seat.view.actor.reads
          c.fit.ensures.limits c.requires.left c.if-not-claim.ensures c.search-limit.ensures.read w.raise_to.new.seat within w.raise_to.ensures.raised c.requires.seat.market c.fit.ensures.steps)
      | in_default w ↦ subst (λ (z : SeatValue). Claims c.args.floor.now.market c.args.pool.0 c.args.seat.now.view z.view) (sym w.seat-is) (claim_quiet c.args.floor.now.market c.args.pool c.args.seat.now c.claim.new.seat c.search-limit.new.seat c.search-limit.new.seat.view.actor.reads
          c.fit.ensures.limits c.requires.left c.if-not-claim.ensures c.search-limit.ensures.read c.requires.seat.market c.fit.ensures.steps within)
    ])
