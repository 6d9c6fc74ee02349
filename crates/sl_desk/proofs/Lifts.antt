-- A draw and a raise.
use Rattle.std.proofs.Common.{◌≡◌, ℕ, ◌+◌, ◌<◌, ◌≤◌, Bool, false, max, nat_lt, List, [], ◌∷◌, length, get_or, refl, sym, ap, ◌∙◌, subst, inl, inr, arith}
use Rattle.std.specs.Prelude.{slice_index}
use Rattle.std.proofs.lemmas.Bool.{cases_lt}
use Rattle.sl_types.specs.declared.kinds.PoolId.{PoolId}
use Rattle.sl_types.specs.declared.kinds.Logged.{Logged}
use Rattle.sl_types.specs.declared.kinds.TheConstants.{MAX_SCORE}
use Rattle.sl_types.specs.Market.{Market}
use Rattle.sl_core.specs.declared.kinds.Phase.{Phase}
use Rattle.sl_core.specs.declared.kinds.Phase.TheVariants.{Ready}
use Rattle.sl_core.specs.Machine.{actor_after_draw, phase_after_raise, fed_pools}
use Rattle.sl_contend.specs.Contention.{fed_by}
use Rattle.sl_floor.specs.Floor.{Sitting, SeatValue, limit_place, draw_view, log_with, raise_in_hand}
use Rattle.sl_desk.specs.Seats.{FitsMarket}
use Rattle.sl_desk.specs.Marking.{HasMarked}
use Rattle.sl_desk.specs.Raising.{HasLifted, HasRaised}
use Rattle.sl_desk.proofs.Numbers.{stepped_on, stepped_none, stepped_then, stepped_within, knows_set}
use Rattle.sl_desk.proofs.Gaining.{gains_then}

-- a seat after a draw, and after a raise
abbrev pub drawn_seat : Phase → SeatValue → ℕ → SeatValue
drawn_seat phase seat ticket = record seat { view = record (draw_view seat.view ticket) { actor = actor_after_draw phase seat.view.actor ticket }; log = log_with phase ticket seat.log }

abbrev pub raised_seat : SeatValue → ℕ → SeatValue
raised_seat seat word = record seat { view = raise_in_hand seat.view.actor.phase seat.view word }

module _ (market : Market) (P : PoolId) (x : ℕ) (seat : SeatValue) (ticket word : ℕ) (same : seat.view.market ≡ market) (sized : FitsMarket market seat.view) (within : P.0 < length market.pools)
    (some : 0 < seat.view.allowance) (above : slice_index seat.view.actor.known P.0 < x) (top : x ≤ MAX_SCORE + 1) (low : word ≤ MAX_SCORE + 1) where
  abbrev e : Logged
  e = record { ticket = ticket; pool = P; limit = x }

  abbrev now : SeatValue
  now = raised_seat (drawn_seat (Ready P x) seat ticket) word

  abbrev between : Sitting
  between = (drawn_seat (Ready P x) seat ticket).view

  up : slice_index seat.view.actor.known P.0 + 1 ≤ max word x
  up = elim (cases_lt word x) [ inl less ↦ omega (arith, above, less) | inr more ↦ omega (arith, above, more) ]

  fits : max word x ≤ MAX_SCORE + 1
  fits = elim (cases_lt word x) [ inl less ↦ omega (arith, top, less) | inr more ↦ omega (arith, low, more) ]

  pub lifted : HasLifted market P seat now (nat_lt word x)
  lifted = record {
    entry = e;
    gains = record {
      table = refl;
      room = refl;
      market = refl;
      kept = refl;
      share = refl;
      left = refl;
      log = refl;
      whole = refl;
      allowance = omega (arith, some);
      knows = knows_set seat.view.actor.known P.0 (max word x) 1 sized.limits (let n = sized.known in omega (arith, n, within)) up fits;
    };
    left = refl;
    steps = stepped_on seat.view between now.view (limit_place P.0) 1 refl (stepped_on seat.view seat.view between 0 0 refl (stepped_none seat.view));
    phase = ap (λ (m : Market). phase_after_raise m P (nat_lt word x)) same;
    owed = ap (λ (m : Market). fed_pools m P.0) same;
  }

-- by what the calls answer
pub lifts : (market : Market) (P : PoolId) (x : ℕ) (seat one two : SeatValue) (ticket word : ℕ) → seat.view.market ≡ market → FitsMarket market seat.view → P.0 < length market.pools
    → 0 < seat.view.allowance → slice_index seat.view.actor.known P.0 < x → x ≤ MAX_SCORE + 1 → word ≤ MAX_SCORE + 1 → seat.view.actor.phase ≡ Ready P x
    → one ≡ drawn_seat seat.view.actor.phase seat ticket → two ≡ raised_seat one word → HasLifted market P seat two (nat_lt word x)
lifts market P x seat one two ticket word same sized within some above top low phase first second =
    let is : two ≡ raised_seat (drawn_seat (Ready P x) seat ticket) word =
    second ∙ ap (λ (z : SeatValue). raised_seat z word) (first ∙ ap (λ (ph : Phase). drawn_seat ph seat ticket) phase) in
    subst (λ (z : SeatValue). HasLifted market P seat z (nat_lt word x)) (sym is) (lifted market P x seat ticket word same sized within some above top low)

-- where the word didn't rise, nothing is marked
pub raised_alone : (market : Market) (P : PoolId) (seat two : SeatValue) (rose : Bool) → HasLifted market P seat two rose → HasRaised market P.0 seat two
raised_alone market P seat two rose l = record {
  entry = l.entry;
  gains = l.gains;
  left = λ Q miss. ap (λ (f : List Bool). get_or f Q false) l.left;
  steps = stepped_within seat.view two.view 2 (2 + length (fed_by market P.0)) (omega arith) l.steps;
}

-- where it rose, the pools that P feeds are
pub raised_marked : (market : Market) (P : PoolId) (seat two three : SeatValue) (rose : Bool) → HasLifted market P seat two rose → HasMarked market P two three (fed_by market P.0) → HasRaised market P.0 seat three
raised_marked market P seat two three rose l m = record {
  entry = l.entry;
  gains = gains_then seat two three (l.entry ∷ []) [] l.gains m.gains;
  left = λ Q miss. m.left Q miss ∙ ap (λ (f : List Bool). get_or f Q false) l.left;
  steps = stepped_then seat.view two.view three.view 2 (length (fed_by market P.0)) l.steps m.steps;
}
