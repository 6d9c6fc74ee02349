-- What a seat gains, one span after another.
use Rattle.std.proofs.Common.{ℕ, List, [], ◌++◌, length, refl, sym, ap, ◌∙◌, subst, arith, append-nil, append_assoc, length-append}
use Rattle.sl_types.specs.declared.kinds.Logged.{Logged}
use Rattle.sl_types.specs.Market.{Market}
use Rattle.sl_floor.specs.Floor.{FloorValue, SeatValue, IsOf}
use Rattle.sl_floor.specs.Held.{AreLimits, IsSized}
use Rattle.sl_desk.specs.Turns.{RisesBy}
use Rattle.sl_desk.proofs.Falls.{knows_on}
use Rattle.sl_desk.specs.Seats.{FitsMarket, Gains, Stepped}
use Rattle.sl_desk.proofs.Numbers.{knows_none}

-- nothing
pub gains_none : (seat : SeatValue) → AreLimits seat.view.actor.known → Gains seat seat []
gains_none seat limits = record {
  table = refl;
  room = refl;
  market = refl;
  kept = refl;
  share = refl;
  allowance = omega arith;
  log = sym (append-nil seat.log);
  whole = sym (append-nil seat.view.actor.log);
  knows = knows_none seat.view.actor.known limits;
  left = refl;
}

-- one span and then another
pub gains_then : (a b c : SeatValue) (first second : List Logged) → Gains a b first → Gains b c second → Gains a c (first ++ second)
gains_then a b c first second p q =
    let long = length-append first second in record {
      table = q.table ∙ p.table;
      room = q.room ∙ p.room;
      market = q.market ∙ p.market;
      kept = q.kept ∙ p.kept;
      share = q.share ∙ p.share;
      allowance = let x = p.allowance in let y = q.allowance in omega (arith, x, y, long);
      log = q.log ∙ (ap (λ l. l ++ second) p.log ∙ append_assoc a.log first second);
      whole = q.whole ∙ (ap (λ l. l ++ second) p.whole ∙ append_assoc a.view.actor.log first second);
      knows = subst (RisesBy a.view.actor.known c.view.actor.known) (sym long) (knows_on a.view.actor.known b.view.actor.known c.view.actor.known (length first) (length second) p.knows q.knows);
      left = q.left ∙ p.left;
    }

-- a seat of the floor stays one
pub of_after : (floor : FloorValue) (a b : SeatValue) (raises : List Logged) → IsOf floor a → Gains a b raises → IsOf floor b
of_after floor a b raises of g = record {
  table = g.table ∙ of.table;
  market = g.market ∙ of.market;
  kept = g.kept ∙ of.kept;
  shares = let s = of.shares in let e = g.share in omega (arith, s, e);
}

-- and has an item for each pool
pub fits_market : (floor : FloorValue) (seat : SeatValue) → IsOf floor seat → IsSized seat.view → FitsMarket floor.market seat.view
fits_market floor seat of sized = let here : FitsMarket seat.view.market seat.view = record {
  known = sized.lists.known;
  limits = sized.limits;
  left = sized.lists.left;
  steps = sized.steps;
} in subst (λ (m : Market). FitsMarket m seat.view) of.market here

-- and does so later
pub sized_after : (market : Market) (a b : SeatValue) (raises : List Logged) (n : ℕ) → FitsMarket market a.view → Gains a b raises → Stepped a.view b.view n → FitsMarket market b.view
sized_after market a b raises n sized g s = record {
  known = g.knows.each ∙ sized.known;
  limits = g.knows.limits;
  left = g.left ∙ sized.left;
  steps = s.each ∙ sized.steps;
}
