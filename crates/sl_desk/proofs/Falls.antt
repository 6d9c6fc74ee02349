-- A worker's turns end.
use Rattle.std.proofs.Common.{◌≡◌, ℕ, zero, suc, ◌+◌, ◌-◌, ◌*◌, ◌<◌, ◌≤◌, Bool, true, false, List, [], ◌∷◌, length, get_or, sum, sym, ap, ◌∙◌, arith, inl, inr, true≢false}
use Rattle.std.proofs.Math.Nat.{mul-le-mul_right}
use Rattle.std.proofs.lemmas.Bool.{cases_Bool}
use Rattle.std.proofs.lemmas.List.Elements.{All-head, All-tail}
use Rattle.std.proofs.lemmas.List.Sums.{sum_by-cons}
use Rattle.sl_types.specs.declared.kinds.TheConstants.{MAX_SCORE}
use Rattle.sl_floor.specs.Held.{AreLimits}
use Rattle.sl_desk.specs.Turns.{room_above, count_left}
use Rattle.sl_desk.specs.TurnLaws.{ScanFalls, RoomFalls, RaisesHaveTop, TurnsFall, QuietTurnFalls, RaisingTurnFalls, KnowsOn}

-- what is known and the room above it
room_and_sum : (known : List ℕ) → AreLimits known → room_above known + sum known ≡ length known * (MAX_SCORE + 1)
room_and_sum [] all = omega arith
room_and_sum (y ∷ ys) all =
    let here = All-head (λ y. y ≤ MAX_SCORE + 1) y ys all in
    let rest = room_and_sum ys (All-tail (λ y. y ≤ MAX_SCORE + 1) y ys all) in
    omega (arith, here, rest, sum_by-cons (λ y. MAX_SCORE + 1 - y) y ys, sum_by-cons (λ (y : ℕ). y) y ys)

-- each raise takes from the room above what is known
pub room_falls : RoomFalls
room_falls known later n limits more =
    let a = room_and_sum known limits in
    let b = room_and_sum later more.limits in
    let each = ap (λ (k : ℕ). k * (MAX_SCORE + 1)) more.each in
    let up = more.more in
    omega (arith, a, b, each, up)

pub raises_have_top : RaisesHaveTop
raises_have_top known later n limits more =
    let a = room_and_sum known limits in
    let b = room_falls known later n limits more in
    omega (arith, a, b)

-- pools left: fewer where none joined and one is done
count_up : (left after : List Bool) → length after ≡ length left → ((Q : ℕ) → get_or after Q false ≡ true → get_or left Q false ≡ true) → count_left after ≤ count_left left
count_up [] [] each up = omega arith
count_up [] (b ∷ bs) each up = absurd (omega (arith, each))
count_up (a ∷ as') [] each up = absurd (omega (arith, each))
count_up (a ∷ as') (b ∷ bs) each up =
    let rest = count_up as' bs (omega (arith, each)) (λ Q. up (suc Q)) in
    elim (cases_Bool b) [
      | inl hit ↦ let also : a ≡ true = up 0 hit in rw (hit, also) (omega (arith, rest))
      | inr miss ↦ elim (cases_Bool a) [
        | inl here ↦ rw (miss, here) (omega (arith, rest))
        | inr none ↦ rw (miss, none) rest
      ]
    ]

count_falls : (left after : List Bool) (P : ℕ) → length after ≡ length left → ((Q : ℕ) → get_or after Q false ≡ true → get_or left Q false ≡ true)
    → get_or left P false ≡ true → get_or after P false ≡ false → count_left after < count_left left
count_falls [] after P each up before done = absurd (true≢false (sym before))
count_falls (a ∷ as') [] P each up before done = absurd (omega (arith, each))
count_falls (a ∷ as') (b ∷ bs) zero each up before done =
    let rest = count_up as' bs (omega (arith, each)) (λ Q. up (suc Q)) in
    rw (before, done) (omega (arith, rest))
count_falls (a ∷ as') (b ∷ bs) (suc P) each up before done =
    let rest = count_falls as' bs P (omega (arith, each)) (λ Q. up (suc Q)) before done in
    elim (cases_Bool b) [
      | inl hit ↦ let also : a ≡ true = up 0 hit in rw (hit, also) (omega (arith, rest))
      | inr miss ↦ elim (cases_Bool a) [
        | inl here ↦ rw (miss, here) (omega (arith, rest))
        | inr none ↦ rw (miss, none) rest
      ]
    ]

pub scan_falls : ScanFalls
scan_falls left after P scan = count_falls left after P scan.each scan.none_joined scan.before scan.done

count_low : (left : List Bool) → count_left left ≤ length left
count_low [] = omega arith
count_low (b ∷ bs) = let rest = count_low bs in elim (cases_Bool b) [
  | inl hit ↦ rw hit (omega (arith, rest))
  | inr miss ↦ rw miss (omega (arith, rest))
]

pub turns_fall : TurnsFall
turns_fall a b left after each (inl fewer) =
    let low = count_low after in
    let times = mul-le-mul_right (length left + 1) fewer in
    let same = ap (λ (n : ℕ). b * (n + 1)) each in
    omega (arith, low, times, same, each)
turns_fall a b left after each (inr same_or_fewer) =
    let times = mul-le-mul_right (length left + 1) same_or_fewer.0 in
    let same = ap (λ (n : ℕ). b * (n + 1)) each in
    let falls = same_or_fewer.1 in
    omega (arith, times, same, falls)

pub quiet_turn_falls : QuietTurnFalls
quiet_turn_falls known later left after P limits turn =
    let room = room_falls known later 0 limits turn.0 in
    turns_fall (room_above known) (room_above later) left after turn.1.each (inr (omega (arith, room), scan_falls left after P turn.1))

pub raising_turn_falls : RaisingTurnFalls
raising_turn_falls known later left after limits turn =
    let room = room_falls known later 1 limits turn.0 in
    turns_fall (room_above known) (room_above later) left after turn.1 (inl (omega (arith, room)))

pub knows_on : KnowsOn
knows_on known later last m n first second = record {
  each = second.each ∙ first.each;
  limits = second.limits;
  rises = λ P. let a = first.rises P in let b = second.rises P in omega (arith, a, b);
  more = let a = first.more in let b = second.more in omega (arith, a, b);
}
