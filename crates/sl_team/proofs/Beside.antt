-- A round of a crew with a reader beside it, whose seat comes last.
use Rattle.std.proofs.Common.{◌≡◌, ◌∙◌, ℕ, ◌+◌, ◌*◌, ◌/◌, ◌<◌, ◌≤◌, true, List, [], ◌∷◌, ◌++◌, All, length, get_or, sum, refl, sym, ap, subst, arith, inl, inr, append-nil, length-append}
use Rattle.std.proofs.Math.ListN.{get_or-append}
use Rattle.std.proofs.Math.Nat.{mul-le-mul_right}
use Rattle.std.proofs.lemmas.Bool.{cases_lt}
use Rattle.std.proofs.lemmas.List.Elements.{All-weaker}
use Rattle.sl_types.specs.declared.kinds.Logged.{Logged}
use Rattle.sl_types.specs.declared.kinds.TheConstants.{MAX_POOLS}
use Rattle.sl_core.specs.State.{logged_from}
use Rattle.sl_floor.specs.declared.shares.TheConstants.{WHOLE_SHARE, FIRST_ALLOWANCE}
use Rattle.sl_floor.specs.Floor.{FloorValue, SeatValue, HasNoneLeft}
use Rattle.sl_team.specs.Seats.{SpareValue, MayWork, HasWorked, IsFresh, IsBack, HasAtLeast, IsSpare}
use Rattle.sl_team.specs.Crew.{AreBack, IsFreshTeam, AreAtRest, IsSplitAt, HasJoined, first_known, first_log, first_memory, total_of}
use Rattle.sl_team.specs.Rounds.{halved, IsBetween, round_top}
use Rattle.sl_team.specs.Watching.{HasWatched}
use Rattle.sl_team.proofs.Splits.{split_keeps, level_keeps, split_long}
use Rattle.sl_team.proofs.Joined.{all_front, bare_joins}
use Rattle.sl_team.proofs.Worked.{enough, may_work, worked_team, back_rests, between}
use Rattle.sl_team.proofs.Watched.{watched_works}

-- seats of which each is so, and one more at the end
at_last : (xs : List SeatValue) (x d : SeatValue) → get_or (xs ++ x ∷ []) (length xs) d ≡ x
at_last [] x d = refl
at_last (y ∷ xs) x d = at_last xs x d

module _ (floor : FloorValue) (room : ℕ) (gathered : List Logged) (crew split : List SeatValue) (spares : List SpareValue) (some : 1 ≤ room) (small : room ≤ 65536) (pools : length floor.market.pools ≤ MAX_POOLS)
    (was : IsBetween floor room gathered crew spares) (undrawn : total_of crew ≡ FIRST_ALLOWANCE) (team : IsFreshTeam floor room crew split)
    (low : All (HasAtLeast (halved 7 WHOLE_SHARE) (halved 7 (total_of crew))) split) (others : List SeatValue) (reader : SeatValue) (bare : IsSplitAt room 0 true split (others ++ reader ∷ [])) (some_split : 0 < length split) where
  abbrev whole : List SeatValue
  whole = others ++ reader ∷ []

  pub lasts : FIRST_ALLOWANCE ≤ total_of crew + round_top * sum (first_known crew)
  lasts = omega (arith, undrawn)

  fresh : IsFreshTeam floor room crew whole
  fresh = split_keeps floor room (first_known crew) (first_log crew) (total_of crew) true split whole 0 team some_split (λ d. let l = (low 0 d some_split).0 in omega (arith, l)) bare

  halves : All (HasAtLeast (halved 7 WHOLE_SHARE / 2) (halved 7 (total_of crew) / 2)) whole
  halves = (level_keeps (halved 7 WHOLE_SHARE) (halved 7 (total_of crew)) room 0 (length split) true split whole some_split (omega arith) bare
      (All-weaker (HasAtLeast (halved 7 WHOLE_SHARE) (halved 7 (total_of crew))) (HasAtLeast (halved 7 WHOLE_SHARE / 2) (halved 7 (total_of crew) / 2))
      (λ s has. (let a = has.0 in omega (arith, a), let b = has.1 in omega (arith, b))) split low) (λ j d above below. low j d below)).0

  all_may : All (MayWork floor) whole
  all_may =
      let large = enough (total_of crew) (length floor.market.pools) (first_known crew) was.limits was.long pools lasts in
      may_work floor room (first_known crew) (halved 7 WHOLE_SHARE / 2) (halved 7 (total_of crew) / 2) whole was.limits small (omega (arith, large)) fresh.each halves

  pub others_may : All (MayWork floor) others
  others_may = (all_front (MayWork floor) others reader all_may).0

  pub reader_fresh : IsFresh floor room (first_known crew) reader
  reader_fresh = (all_front (IsFresh floor room (first_known crew)) others reader fresh.each).1

  pub as_many : length others ≡ length split
  as_many = let a = split_long room 0 true split whole bare in let b = length-append others (reader ∷ []) in omega (arith, a, b)

  module _ (worked : List SeatValue) (seat : SeatValue) (none : HasNoneLeft reader) (same : length worked ≡ length others)
      (each : (i : ℕ) (d : SeatValue) → i < length others → HasWorked floor (get_or others i d) (get_or worked i d)) (watched : HasWatched floor reader seat) where
    abbrev back : List SeatValue
    back = worked ++ seat ∷ []

    pub no_log : seat.log ≡ []
    no_log = watched.gains.log ∙ (append-nil reader.log ∙ reader_fresh.log)

    all_worked : (i : ℕ) (d : SeatValue) → i < length whole → HasWorked floor (get_or whole i d) (get_or back i d)
    all_worked i d h = elim (cases_lt i (length others)) [
      | inl less ↦
          subst (λ (s : SeatValue). HasWorked floor s (get_or back i d)) (sym (get_or-append others (reader ∷ []) d i less))
          (subst (HasWorked floor (get_or others i d)) (sym (get_or-append worked (seat ∷ []) d i (omega (arith, less, same)))) (each i d less))
      | inr high ↦
          let long = length-append others (reader ∷ []) in
          let is : i ≡ length others = omega (arith, h, long, high) in
          let one : get_or whole i d ≡ reader = ap (λ (j : ℕ). get_or whole j d) is ∙ at_last others reader d in
          let two : get_or back i d ≡ seat = ap (λ (j : ℕ). get_or back j d) (is ∙ sym same) ∙ at_last worked seat d in
          let empty = ap length reader_fresh.log in
          subst (λ (s : SeatValue). HasWorked floor s (get_or back i d)) (sym one) (subst (HasWorked floor reader) (sym two) (watched_works floor reader seat none (omega (arith, empty)) watched))
    ]

    its : AreBack floor room (first_known crew) (first_log crew) (total_of back) back × (total_of crew ≤ total_of back + length whole * room) × (total_of back ≤ total_of crew)
    its =
        let a = length-append others (reader ∷ []) in let b = length-append worked (seat ∷ []) in
        worked_team floor room (first_known crew) (first_log crew) (total_of crew) whole back some (omega (arith, a, b, same)) fresh all_worked

    pub worked_back : All (IsBack floor room (first_known crew)) worked
    worked_back = (all_front (IsBack floor room (first_known crew)) worked seat its.0.each).0

    -- the reader's seat is joined
    module _ (joined : List SeatValue) (one : HasJoined back joined []) where
      both : AreBack floor room (first_known crew) (first_log crew) (total_of back) joined × (length joined + 1 ≡ length back)
      both = let high = its.2 in bare_joins floor room (first_known crew) (first_log crew) (total_of back) back joined one (omega (arith, high, undrawn)) its.0

      pub joined_rests : AreAtRest floor room joined
      joined_rests = let high = its.2 in back_rests floor room (first_known crew) (first_log crew) (total_of back) joined both.0 (omega (arith, high, undrawn))

      pub joined_long : length joined ≡ length split
      joined_long = let a = both.1 in let b = length-append worked (seat ∷ []) in let c = as_many in omega (arith, a, b, c, same)

      -- and then all others
      pub watched_keeps : (gathered' : List Logged) (later : List SeatValue) (left spares' : List SpareValue) → length split ≡ 1 + length spares → length spares < 64 → length left ≡ 0 → length later ≡ 1 → first_memory later ≡ []
          → All (IsSpare floor room) spares' → length spares' + 1 ≡ length left + length joined
          → ((known : List ℕ) (before : List Logged) (total : ℕ) → AreBack floor room known (before ++ gathered) total joined → AreBack floor room known (before ++ gathered') total later)
          → IsBetween floor room gathered' later spares'
      watched_keeps gathered' later left spares' count few none_left alone memory fits more all =
          let high = its.2 in
          let low_total = its.1 in
          let long = length-append others (reader ∷ []) in
          let split_is = as_many in
          let seats : length whole ≤ 65 = omega (arith, long, split_is, count, few) in
          let most = mul-le-mul_right room seats in
          let size = joined_long in
          let before : AreBack floor room (first_known crew) (logged_from 0 floor.kept ++ gathered) (total_of back) joined = subst (λ (l : List Logged). AreBack floor room (first_known crew) l (total_of back) joined) was.log both.0 in
          (between floor room gathered gathered' crew later spares spares' (total_of back) was lasts alone memory fits (omega (arith, more, none_left, size, count)) (omega (arith, low_total, most, small)) high
          (all (first_known crew) (logged_from 0 floor.kept) (total_of back) before)).0
