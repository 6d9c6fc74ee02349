-- One more turn.
use Rattle.std.proofs.Common.{◌≡◌, ℕ, ◌+◌, ◌-◌, ◌*◌, ◌<◌, ◌≤◌, Bool, true, false, true≢false, List, [], ◌∷◌, ◌++◌, length, get_or, set, refl, sym, ap, ◌∙◌, subst, inl, inr, arith, length-append, length-set, get_or-set_other, ◌^◌}
use Rattle.std.proofs.Math.Nat.{mul-le-mul_right}
use Rattle.std.proofs.lemmas.Bool.{cases_eq}
use Rattle.std.proofs.lemmas.Grind.{get_or-set_at}
use Rattle.std.proofs.lemmas.List.Folds.{list_any_at}
use Rattle.std.proofs.lemmas.List.Sums.{sum_by-le, count_by-le-length, length-filter}
use Rattle.sl_types.specs.declared.kinds.Logged.{Logged}
use Rattle.sl_types.specs.declared.kinds.TheConstants.{MAX_SCORE, MAX_POOLS}
use Rattle.sl_types.specs.Market.{Market}
use Rattle.sl_core.specs.Machine.{has_any}
use Rattle.sl_core.proofs.Actors.{up_within}
use Rattle.sl_floor.specs.Floor.{Sitting, FloorValue, SeatValue, IsOf, IsIdle, flag_place}
use Rattle.sl_floor.specs.Held.{AreLimits}
use Rattle.sl_desk.specs.Turns.{room_above, count_left, IsScanned}
use Rattle.sl_desk.proofs.Falls.{quiet_turn_falls, raising_turn_falls}
use Rattle.sl_desk.specs.Seats.{FitsMarket, Gains, Stepped}
use Rattle.sl_desk.specs.Settling.{IsLeft, Settles, Claims}
use Rattle.sl_desk.specs.Scanning.{number_after}
use Rattle.sl_desk.specs.Desks.{DeskValue, IsFor}
use Rattle.sl_desk.specs.Working.{turns_left, IsAtWork}
use Rattle.sl_desk.proofs.Gaining.{gains_none, gains_then}

scanned : (left : List Bool) (P : ℕ) → get_or left P false ≡ true → IsScanned left (set left P false) P
scanned left P up = record {
  each = length-set left P false;
  before = up;
  done = get_or-set_at left P P false false refl (up_within left P up);
  none_joined = λ Q hit. elim (cases_eq Q P) [
    | inl same ↦ absurd (true≢false (sym hit ∙ get_or-set_at left P Q false false same (up_within left P up)))
    | inr other ↦ sym (get_or-set_other left P Q false false other) ∙ hit
  ];
}

falls_by : (now next : SeatValue) (P : ℕ) (raises : List Logged) → AreLimits now.view.actor.known → IsLeft now P → length raises ≤ 1 → Gains now next raises
    → (raises ≡ [] → next.view.actor.left ≡ set now.view.actor.left P false) → turns_left next.view < turns_left now.view
falls_by now next P [] limits left one gains quiet =
    let scan = subst (λ (l : List Bool). IsScanned now.view.actor.left l P) (sym (quiet refl)) (scanned now.view.actor.left P left) in
    quiet_turn_falls now.view.actor.known next.view.actor.known now.view.actor.left next.view.actor.left P limits (gains.knows, scan)
falls_by now next P (e ∷ []) limits left one gains quiet = raising_turn_falls now.view.actor.known next.view.actor.known now.view.actor.left next.view.actor.left limits (gains.knows, gains.left)
falls_by now next P (e ∷ f ∷ rest) limits left one gains quiet = absurd (omega (arith, one))

-- with each turn fewer are to come
pub turn_falls : (market : Market) (now next : SeatValue) (P : ℕ) → FitsMarket market now.view → IsLeft now P → Settles P now next → turns_left next.view < turns_left now.view
turn_falls market now next P fits left s = falls_by now next P s.raises fits.limits left s.one s.gains s.quiet

-- a worker before its first turn
pub begins : (floor : FloorValue) (seat : SeatValue) (desk : DeskValue) → IsOf floor seat → IsIdle seat → FitsMarket floor.market seat.view → IsFor floor.market desk → seat.room ≤ seat.view.allowance → IsAtWork floor seat seat desk.cursor desk 0
begins floor seat desk of idle fits for enough = record {
  seat = of;
  idle = idle;
  works = record { raises = []; gains = gains_none seat fits.limits; steps = λ i. omega arith };
  cursor = inl (refl, refl);
  for = for;
  enough = omega (arith, enough);
  turns = omega arith;
}

-- and after one more
pub goes_on : (floor : FloorValue) (before now next : SeatValue) (start : ℕ) (old new : DeskValue) (turn P n : ℕ) → IsAtWork floor before now start old turn → FitsMarket floor.market now.view → IsLeft now P → IsOf floor next → IsIdle next → Settles P now next
    → Stepped now.view next.view n → Claims floor.market P now.view next.view → IsFor floor.market new → new.cursor ≡ number_after (length floor.market.pools) P
    → IsAtWork floor before next start new (turn + 1)
goes_on floor before now next start old new turn P n w fits left of idle s steps claims for cursor = record {
  seat = of;
  idle = idle;
  works = record {
    raises = w.works.raises ++ s.raises;
    gains = gains_then before now next w.works.raises s.raises w.works.gains s.gains;
    steps = λ i. let a = w.works.steps i in let b = steps.rises i in omega (arith, a, b);
  };
  cursor = inr (
    P,
    record {
      within = let up = up_within now.view.actor.left P left in let each = fits.left in omega (arith, up, each);
      claimed = let a = w.works.steps (flag_place floor.market P) in omega (arith, a, claims);
      done = s.done;
      next = cursor;
    },
  );
  for = for;
  enough =
      let g = s.gains in let long : length next.log ≡ length now.log + length s.raises = ap length g.log ∙ length-append now.log s.raises in
      let room = g.room in let allowance = g.allowance in let was = w.enough in omega (arith, long, room, allowance, was);
  turns = let falls = turn_falls floor.market now next P fits left s in let was = w.turns in omega (arith, falls, was);
}

-- turns are too few for their number not to fit
pub turns_fit : (view : Sitting) (market : Market) → FitsMarket market view → length market.pools ≤ MAX_POOLS → turns_left view < 2 ^ 63
turns_fit view market sized few =
    let known = view.actor.known in let left = view.actor.left in
    let low : room_above known ≤ length known * (MAX_SCORE + 1) = sum_by-le (λ (y : ℕ). MAX_SCORE + 1 - y) (MAX_SCORE + 1) known (λ k d h. omega arith) in
    let pools = sized.known in let flags = sized.left in
    let most : room_above known ≤ 20000 * (MAX_SCORE + 1) = omega (arith, low, pools, few) in
    let times = mul-le-mul_right (length left + 1) most in
    let count : count_left left ≤ length left = (let a = length-filter (λ (b : Bool). b) left in let b = count_by-le-length (λ (b : Bool). b) left in omega (arith, a, b)) in
    omega (arith, times, count, flags, few)

-- a pool that is left
pub some_left : (seat : SeatValue) (P : ℕ) → IsLeft seat P → has_any seat.view.actor.left ≡ true
some_left seat P left = list_any_at (λ flag. flag) seat.view.actor.left P false (up_within seat.view.actor.left P left) left
