-- A round of a crew.
use Rattle.std.proofs.Common.{◌≡◌, ◌∙◌, ℕ, suc, ◌+◌, ◌*◌, ◌<◌, ◌≤◌, true, List, [], ◌∷◌, ◌++◌, All, length, get_or, sum, sum_by, refl, sym, ap, subst, arith, inl, inr, append-nil, append_assoc}
use Rattle.std.proofs.Math.Nat.{mul-le-mul_right}
use Rattle.std.proofs.lemmas.Bool.{cases_Bool}
use Rattle.std.proofs.lemmas.List.Elements.{All-head, All-tail, All-cons, All-nil}
use Rattle.std.proofs.lemmas.List.Sums.{sum_by-cons, sum_by-le}
use Rattle.sl_types.specs.declared.kinds.Logged.{Logged}
use Rattle.sl_types.specs.declared.kinds.TheConstants.{MAX_SCORE, MAX_POOLS}
use Rattle.sl_core.specs.State.{logged_from}
use Rattle.sl_core.specs.Parts.{once_if}
use Rattle.sl_floor.specs.declared.shares.TheConstants.{FIRST_ALLOWANCE}
use Rattle.sl_floor.specs.Floor.{FloorValue, SeatValue}
use Rattle.sl_team.specs.Seats.{SpareValue, MayWork, HasWorked, IsFresh, IsBack, HasAtLeast, IsSpare}
use Rattle.sl_desk.specs.Turns.{RisesBy}
use Rattle.sl_floor.specs.Held.{AreLimits}
use Rattle.sl_team.specs.Rounds.{halved, IsBetween, HasRounded, round_top, rounds_within}
use Rattle.sl_team.specs.Crew.{IsTeam, AreBack, IsFreshTeam, AreLogged, AreAtRest, first_known, first_log, first_memory, first_has_left, total_of}
use Rattle.sl_desk.proofs.Falls.{room_falls}

-- what each seat of a crew may draw is enough
pub enough : (total pools : ℕ) (known : List ℕ) → AreLimits known → length known ≡ pools → pools ≤ MAX_POOLS → FIRST_ALLOWANCE ≤ total + round_top * sum known → 131072 ≤ halved 7 total
enough total pools known limits long few lasts =
    let low = sum_by-le (λ (y : ℕ). y) (MAX_SCORE + 1) known limits in
    let pools' : length known ≤ MAX_POOLS = omega (arith, long, few) in
    let most = mul-le-mul_right (MAX_SCORE + 1) pools' in
    omega (arith, low, most, lasts)

pub may_work : (floor : FloorValue) (room : ℕ) (known : List ℕ) (share allowance : ℕ) (crew : List SeatValue) → AreLimits known → room ≤ 65536 → 65536 ≤ allowance → All (IsFresh floor room known) crew
    → All (HasAtLeast share allowance) crew → All (MayWork floor) crew
may_work floor room known share allowance crew limits small large fresh low = λ k d h.
    let f = fresh k d h in
    let l = (low k d h).1 in
    let r = f.room_is in
    record { of = f.of; idle = f.idle; lasts = omega (arith, small, large, l, r) }

-- a seat that worked
module _ (floor : FloorValue) (room : ℕ) (known : List ℕ) (old new : SeatValue) (f : IsFresh floor room known old) (w : HasWorked floor old new) where
  logged_is : new.log ≡ w.works.raises
  logged_is = w.works.gains.log ∙ ap (λ (l : List Logged). l ++ w.works.raises) f.log

  few_more : length w.works.raises ≤ room
  few_more =
      let same = ap length logged_is in
      let fits = w.fits in
      let r = w.works.gains.room in
      let r' = f.room_is in
      omega (arith, same, fits, r, r')

  back_of : 1 ≤ room → IsBack floor room known new
  back_of some = record {
    of = w.of;
    idle = w.idle;
    room_is = w.works.gains.room ∙ f.room_is;
    fits = let fits = w.fits in let r = w.works.gains.room in let r' = f.room_is in omega (arith, fits, r, r');
    knows = less 0 (omega arith);
    more = λ left.
        let full = w.full left in
        let same = ap length logged_is in
        let r = w.works.gains.room in
        let r' = f.room_is in
        less 1 (omega (arith, full, same, r, r', some));
  }
    where
      less : (n : ℕ) → n ≤ length w.works.raises → RisesBy known new.view.actor.known n
      less n few = subst (λ (l : List ℕ). RisesBy l new.view.actor.known n) f.knows (record { each = w.works.gains.knows.each; limits = w.works.gains.knows.limits; rises = w.works.gains.knows.rises; more = let m = w.works.gains.knows.more in omega (arith, m, few) })

module _ (floor : FloorValue) (room : ℕ) (known : List ℕ) where
  abbrev Worked : List SeatValue → List SeatValue → Type 0
  Worked old new = (i : ℕ) (d : SeatValue) → i < length old → HasWorked floor (get_or old i d) (get_or new i d)

  worked_back : (old new : List SeatValue) → 1 ≤ room → length new ≡ length old → All (IsFresh floor room known) old → Worked old new → All (IsBack floor room known) new
  worked_back old new some same fresh each = λ i d h.
      let inside : i < length old = omega (arith, h, same) in
      back_of floor room known (get_or old i d) (get_or new i d) (fresh i d inside) (each i d inside) some

  worked_sums : (old new : List SeatValue) → length new ≡ length old → All (IsFresh floor room known) old → Worked old new
      → (sum_by (λ s. s.view.share) new ≡ sum_by (λ s. s.view.share) old) × (total_of old ≤ total_of new + length old * room) × (total_of new ≤ total_of old)
  worked_sums [] [] same fresh each = (refl, omega arith, omega arith)
  worked_sums [] (t ∷ ts) same fresh each = absurd (omega (arith, same))
  worked_sums (s ∷ ss) [] same fresh each = absurd (omega (arith, same))
  worked_sums (s ∷ ss) (t ∷ ts) same fresh each =
      let rest = worked_sums ss ts (omega (arith, same)) (All-tail (IsFresh floor room known) s ss fresh) (λ i d h. each (suc i) d (omega (arith, h))) in
      let f = All-head (IsFresh floor room known) s ss fresh in
      let w : HasWorked floor s t = each 0 s (omega arith) in
      let few = few_more floor room known s t f w in
      let share = w.works.gains.share in
      let allowance = w.works.gains.allowance in
      let a = sum_by-cons (λ (x : SeatValue). x.view.share) s ss in let b = sum_by-cons (λ (x : SeatValue). x.view.share) t ts in
      let m = sum_by-cons (λ (x : SeatValue). x.view.allowance) s ss in let n = sum_by-cons (λ (x : SeatValue). x.view.allowance) t ts in
      let r = rest.0 in let p = rest.1 in let q = rest.2 in
      (omega (arith, share, a, b, r), omega (arith, allowance, few, m, n, p), omega (arith, allowance, m, n, q))

  own_logs : (old new : List SeatValue) → length new ≡ length old → All (IsFresh floor room known) old → Worked old new → All (λ s. s.view.actor.log ≡ s.log) old → All (λ s. s.view.actor.log ≡ s.log) new
  own_logs old new same fresh each logs = λ i d h.
      let inside : i < length old = omega (arith, h, same) in
      let w = each i d inside in
      w.works.gains.whole ∙ (ap (λ (l : List Logged). l ++ w.works.raises) (logs i d inside) ∙ sym w.works.gains.log)

  worked_logs : (before : List Logged) (old new : List SeatValue) → length new ≡ length old → All (IsFresh floor room known) old → Worked old new → AreLogged before old → AreLogged before new
  worked_logs before [] new same fresh each logs = absurd logs
  worked_logs before (s ∷ ss) [] same fresh each logs = absurd (omega (arith, same))
  worked_logs before (s ∷ ss) (t ∷ ts) same fresh each logs =
      let w : HasWorked floor s t = each 0 s (omega arith) in (
        w.works.gains.whole ∙ (ap (λ (l : List Logged). l ++ w.works.raises) logs.0 ∙ (append_assoc before s.log w.works.raises ∙ ap (λ (l : List Logged). before ++ l) (sym w.works.gains.log))),
        own_logs ss ts (omega (arith, same)) (All-tail (IsFresh floor room known) s ss fresh) (λ i d h. each (suc i) d (omega (arith, h))) logs.1,
      )

  -- a crew that worked
  pub worked_team : (before : List Logged) (total : ℕ) (old new : List SeatValue) → 1 ≤ room → length new ≡ length old → IsTeam (IsFresh floor room known) before total old → Worked old new
      → AreBack floor room known before (total_of new) new × (total ≤ total_of new + length old * room) × (total_of new ≤ total)
  worked_team before total old new some same team each =
      let sums = worked_sums old new same team.each each in
      let is = team.total_is in let p = sums.1 in let q = sums.2 in (
        record {
          each = worked_back old new some same team.each each;
          shares = sums.0 ∙ team.shares;
          total_is = refl;
          logs = worked_logs before old new same team.each each team.logs;
        },
        omega (arith, is, p),
        omega (arith, is, q),
      )

pub back_rests : (floor : FloorValue) (room : ℕ) (known : List ℕ) (before : List Logged) (total : ℕ) (crew : List SeatValue) → AreBack floor room known before total crew → total ≤ FIRST_ALLOWANCE → AreAtRest floor room crew
back_rests floor room known before total crew team few = record {
  each = λ k d h. let b = team.each k d h in record { of = b.of; idle = b.idle; room_is = b.room_is; fits = b.fits };
  shares = team.shares;
  total = let is = team.total_is in omega (arith, is, few);
}

pub between : (floor : FloorValue) (room : ℕ) (gathered gathered' : List Logged) (crew later : List SeatValue) (spares spares' : List SpareValue) (total : ℕ)
    → IsBetween floor room gathered crew spares → FIRST_ALLOWANCE ≤ total_of crew + round_top * sum (first_known crew) → length later ≡ 1 → first_memory later ≡ [] → All (IsSpare floor room) spares' → length spares' ≡ length spares
    → total_of crew ≤ total + round_top → total ≤ total_of crew → AreBack floor room (first_known crew) (logged_from 0 floor.kept ++ gathered') total later
    → IsBetween floor room gathered' later spares' × HasRounded crew later
between floor room gathered gathered' crew [] spares spares' total was lasts one memory fits same low high team = absurd team.logs
between floor room gathered gathered' crew (s ∷ []) spares spares' total was lasts one memory fits same low high team =
    let b = All-head (IsBack floor room (first_known crew)) s [] team.each in
    let log : s.view.actor.log ≡ logged_from 0 floor.kept ++ gathered' = team.logs.0 ∙ (ap (λ (l : List Logged). (logged_from 0 floor.kept ++ gathered') ++ l) memory ∙ append-nil (logged_from 0 floor.kept ++ gathered')) in
    let total_is = team.total_is in
    let few = was.few in
    let top = was.top in (
      record {
        one = one;
        team = record {
          each = All-cons (IsFresh floor room s.view.actor.known) s [] (record { of = b.of; idle = b.idle; room_is = b.room_is; log = memory; knows = refl }) (All-nil (IsFresh floor room s.view.actor.known));
          shares = team.shares;
          total_is = refl;
          logs = (sym (append-nil s.view.actor.log) ∙ ap (λ (l : List Logged). s.view.actor.log ++ l) (sym memory), λ k d h. absurd (omega (arith, h)));
        };
        log = log;
        limits = b.knows.limits;
        long = b.knows.each ∙ was.long;
        fit = fits;
        few = omega (arith, few, same);
        top = omega (arith, total_is, top, high);
        lasts = λ more. let up = (b.more more).more in omega (arith, lasts, up, low, total_is);
      },
      record { knows = b.knows; more = b.more },
    )
between floor room gathered gathered' crew (s ∷ (t ∷ ts)) spares spares' total was lasts one memory fits same low high team = absurd (omega (arith, one))

-- with each round fewer are to come
pub rounds_fall : (crew later : List SeatValue) → AreLimits (first_known crew) → first_has_left crew ≡ true → HasRounded crew later → rounds_within later < rounds_within crew
rounds_fall crew later limits left round = elim (cases_Bool (first_has_left later)) [
  | inl more ↦
      let falls = room_falls (first_known crew) (first_known later) 1 limits (round.more more) in
      let a = ap once_if left in let b = ap once_if more in omega (arith, falls, a, b)
  | inr none ↦
      let stays = room_falls (first_known crew) (first_known later) 0 limits round.knows in
      let a = ap once_if left in let b = ap once_if none in omega (arith, stays, a, b)
]

module _ (floor : FloorValue) (room : ℕ) (gathered : List Logged) (crew split worked : List SeatValue) (spares : List SpareValue) (some : 1 ≤ room) (small : room ≤ 65536) (was : IsBetween floor room gathered crew spares)
    (team : IsFreshTeam floor room crew split) (count : length split ≡ 1 + length spares) (same : length worked ≡ length split)
    (each : (i : ℕ) (d : SeatValue) → i < length split → HasWorked floor (get_or split i d) (get_or worked i d)) where
  its : AreBack floor room (first_known crew) (first_log crew) (total_of worked) worked × (total_of crew ≤ total_of worked + length split * room) × (total_of worked ≤ total_of crew)
  its = worked_team floor room (first_known crew) (first_log crew) (total_of crew) split worked some same team each

  pub round_rests : AreAtRest floor room worked
  round_rests = let high = its.2 in let top = was.top in back_rests floor room (first_known crew) (first_log crew) (total_of worked) worked its.0 (omega (arith, high, top))

  pub round_keeps : (gathered' : List Logged) (later : List SeatValue) (left spares' : List SpareValue) → first_has_left crew ≡ true → length left ≡ 0 → length later ≡ 1 → first_memory later ≡ [] → All (IsSpare floor room) spares'
      → length spares' + 1 ≡ length left + length worked
      → ((known : List ℕ) (before : List Logged) (total : ℕ) → AreBack floor room known (before ++ gathered) total worked → AreBack floor room known (before ++ gathered') total later)
      → IsBetween floor room gathered' later spares' × HasRounded crew later
  round_keeps gathered' later left spares' any none one memory fits back joined =
      let high = its.2 in
      let low = its.1 in
      let few = was.few in
      let split_few : length split ≤ 65 = omega (arith, count, few) in
      let most = mul-le-mul_right room split_few in
      let before : AreBack floor room (first_known crew) (logged_from 0 floor.kept ++ gathered) (total_of worked) worked = subst (λ (l : List Logged). AreBack floor room (first_known crew) l (total_of worked) worked) was.log its.0 in
      between floor room gathered gathered' crew later spares spares' (total_of worked) was (was.lasts any) one memory fits (omega (arith, back, none, count, same)) (omega (arith, low, most, small)) high
      (joined (first_known crew) (logged_from 0 floor.kept) (total_of worked) before)
