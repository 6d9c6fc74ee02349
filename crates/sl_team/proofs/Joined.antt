-- The last seat of a crew joined into the first.
use Rattle.std.proofs.Common.{◌≡◌, ◌∙◌, ◌⊎◌, ℕ, zero, suc, ◌+◌, ◌<◌, ◌≤◌, Bool, true, false, max, List, [], ◌∷◌, ◌++◌, All, length, get_or, set, sum_by, refl, sym, ap, subst, arith, inl, inr, length-set, append-nil, length-append}
use Rattle.std.proofs.Math.Nat.{suc-mul, mul-le-mul_right}
use Rattle.std.specs.Prelude.{slice_index, sum, ◌*◌}
use Rattle.std.proofs.lemmas.List.Elements.{All-set, All-head, All-tail, All-cons}
use Rattle.std.proofs.lemmas.List.Sums.{sum_by-set, sum_by_push, sum_by-cons}
use Rattle.sl_types.specs.declared.kinds.Logged.{Logged}
use Rattle.sl_types.specs.declared.kinds.TheConstants.{MAX_SCORE}
use Rattle.sl_core.specs.Machine.{has_any}
use Rattle.sl_core.specs.Dividing.{greater_of, either_of}
use Rattle.sl_floor.specs.declared.shares.TheConstants.{WHOLE_SHARE, FIRST_ALLOWANCE}
use Rattle.sl_floor.specs.Floor.{FloorValue, SeatValue, both_view, spent_view}
use Rattle.sl_desk.specs.Turns.{RisesBy}
use Rattle.sl_floor.specs.Held.{AreLimits}
use Rattle.sl_team.specs.Crew.{IsTeam, AreBack, AreLogged, HasJoined, AreAtRest, first_memory, total_of}
use Rattle.sl_team.specs.Seats.{IsBack, IsAtRest, cleared}

-- where a pool is left to scan in either of two, it is in one of them
any_of : (a b : List Bool) → has_any (either_of a b) ≡ true → (has_any a ≡ true) ⊎ (has_any b ≡ true)
any_of [] ys any = inl any
any_of (x ∷ xs) [] any = inl any
any_of (true ∷ xs) (y ∷ ys) any = inl refl
any_of (false ∷ xs) (true ∷ ys) any = inr refl
any_of (false ∷ xs) (false ∷ ys) any = any_of xs ys any

-- the greater of two is at least each
greater_up : (a b : List ℕ) (P : ℕ) → length a ≡ length b → (slice_index a P ≤ slice_index (greater_of a b) P) × (slice_index b P ≤ slice_index (greater_of a b) P)
greater_up [] [] P same = (omega arith, omega arith)
greater_up [] (y ∷ ys) P same = absurd (omega (arith, same))
greater_up (x ∷ xs) [] P same = absurd (omega (arith, same))
greater_up (x ∷ xs) (y ∷ ys) zero same = (omega arith, omega arith)
greater_up (x ∷ xs) (y ∷ ys) (suc P) same = greater_up xs ys P (omega (arith, same))

greater_long : (a b : List ℕ) → length a ≡ length b → length (greater_of a b) ≡ length a
greater_long [] [] same = refl
greater_long [] (y ∷ ys) same = absurd (omega (arith, same))
greater_long (x ∷ xs) [] same = absurd (omega (arith, same))
greater_long (x ∷ xs) (y ∷ ys) same = let rest = greater_long xs ys (omega (arith, same)) in omega (arith, rest)

greater_sum : (a b : List ℕ) → length a ≡ length b → (sum a ≤ sum (greater_of a b)) × (sum b ≤ sum (greater_of a b))
greater_sum [] [] same = (omega arith, omega arith)
greater_sum [] (y ∷ ys) same = absurd (omega (arith, same))
greater_sum (x ∷ xs) [] same = absurd (omega (arith, same))
greater_sum (x ∷ xs) (y ∷ ys) same =
    let rest = greater_sum xs ys (omega (arith, same)) in
    let one = sum_by-cons (λ (n : ℕ). n) x xs in let two = sum_by-cons (λ (n : ℕ). n) y ys in let both = sum_by-cons (λ (n : ℕ). n) (max x y) (greater_of xs ys) in
    let a = rest.0 in let b = rest.1 in (omega (arith, one, both, a), omega (arith, two, both, b))

greater_limits : (a b : List ℕ) → AreLimits a → AreLimits b → AreLimits (greater_of a b)
greater_limits [] ys one two = one
greater_limits (x ∷ xs) [] one two = one
greater_limits (x ∷ xs) (y ∷ ys) one two =
    let here = All-head (λ (z : ℕ). z ≤ MAX_SCORE + 1) x xs one in let there = All-head (λ (z : ℕ). z ≤ MAX_SCORE + 1) y ys two in
    All-cons (λ (z : ℕ). z ≤ MAX_SCORE + 1) (max x y) (greater_of xs ys) (omega (arith, here, there)) (greater_limits xs ys (All-tail (λ (z : ℕ). z ≤ MAX_SCORE + 1) x xs one) (All-tail (λ (z : ℕ). z ≤ MAX_SCORE + 1) y ys two))

-- a joined seat knows as much more as each
know_first : (known a b : List ℕ) (m n : ℕ) → RisesBy known a m → RisesBy known b n → RisesBy known (greater_of a b) m
know_first known a b m n one two =
    let same : length a ≡ length b = one.each ∙ sym two.each in
    record {
      each = greater_long a b same ∙ one.each;
      limits = greater_limits a b one.limits two.limits;
      rises = λ P. let x = one.rises P in let y = (greater_up a b P same).0 in omega (arith, x, y);
      more = let x = one.more in let y = (greater_sum a b same).0 in omega (arith, x, y);
    }

know_last : (known a b : List ℕ) (m n : ℕ) → RisesBy known a m → RisesBy known b n → RisesBy known (greater_of a b) n
know_last known a b m n one two =
    let same : length a ≡ length b = one.each ∙ sym two.each in
    record {
      each = greater_long a b same ∙ one.each;
      limits = greater_limits a b one.limits two.limits;
      rises = λ P. let x = two.rises P in let y = (greater_up a b P same).1 in omega (arith, x, y);
      more = let x = two.more in let y = (greater_sum a b same).1 in omega (arith, x, y);
    }

back_both : (floor : FloorValue) (room : ℕ) (known : List ℕ) (s t : SeatValue) → IsBack floor room known s → IsBack floor room known t → IsBack floor room known (record s { view = both_view s.view t.view })
back_both floor room known s t b c = record {
  of = record { table = b.of.table; market = b.of.market; kept = b.of.kept; shares = let n = b.of.shares in omega (arith, n) };
  idle = b.idle;
  room_is = b.room_is;
  fits = b.fits;
  knows = know_first known s.view.actor.known t.view.actor.known 0 0 b.knows c.knows;
  more = λ any. elim (any_of s.view.actor.left t.view.actor.left any) [
    | inl one ↦ know_first known s.view.actor.known t.view.actor.known 1 0 (b.more one) c.knows
    | inr two ↦ know_last known s.view.actor.known t.view.actor.known 0 1 b.knows (c.more two)
  ];
}

rest_both : (floor : FloorValue) (room : ℕ) (s t : SeatValue) → IsAtRest floor room s → IsAtRest floor room (record s { view = both_view s.view t.view })
rest_both floor room s t b = record { of = record { table = b.of.table; market = b.of.market; kept = b.of.kept; shares = let n = b.of.shares in omega (arith, n) }; idle = b.idle; room_is = b.room_is; fits = b.fits }

pub all_front : {A : Type 0} (P : A → Type 0) (xs : List A) (x : A) → All P (xs ++ x ∷ []) → All P xs × P x
all_front P [] x all = (λ k d h. absurd (omega (arith, h)), All-head P x [] all)
all_front P (y ∷ xs) x all = let rest = all_front P xs x (All-tail P y (xs ++ x ∷ []) all) in (All-cons P y xs (All-head P y (xs ++ x ∷ []) all) rest.0, rest.1)

sum_joined : (f : SeatValue → ℕ) (rest : List SeatValue) (first last both : SeatValue) → 0 < length rest → get_or rest 0 first ≡ first → f both ≡ f first + f last → sum_by f (set rest 0 both) ≡ sum_by f (rest ++ last ∷ [])
sum_joined f rest first last both some is adds =
    let a = sum_by-set f rest 0 both first some in let b = sum_by_push f rest last in let e = ap f is in omega (arith, a, b, e, adds)

-- the rooms of a crew with one seat fewer, and of two seats
pub one_fewer : (m n room : ℕ) → m + 1 ≡ n → n * room ≡ m * room + room
one_fewer m n room is = let next : n ≡ suc m = omega (arith, is) in ap (λ (k : ℕ). k * room) next ∙ suc-mul m room

pub two_rooms : (n room : ℕ) → 1 < n → room + room ≤ n * room
two_rooms n room two = let most : 2 * room ≤ n * room = mul-le-mul_right room two in omega (arith, most)

-- two of a crew have no more than all
two_within : (f : SeatValue → ℕ) (rest : List SeatValue) (first last : SeatValue) → 0 < length rest → get_or rest 0 first ≡ first → f first + f last ≤ sum_by f (rest ++ last ∷ [])
two_within f [] first last some is = absurd (omega (arith, some))
two_within f (s ∷ others) first last some is =
    let a = sum_by-cons f s others in let b = sum_by_push f (s ∷ others) last in let e = ap f is in omega (arith, a, b, e)

-- so the lesser of their sum and the whole is their sum
share_both : (s t : SeatValue) → s.view.share + t.view.share ≤ WHOLE_SHARE → (both_view s.view t.view).share ≡ s.view.share + t.view.share
share_both s t low = omega (arith, low)

allowance_both : (s t : SeatValue) → s.view.allowance + t.view.allowance ≤ FIRST_ALLOWANCE → (both_view s.view t.view).allowance ≡ s.view.allowance + t.view.allowance
allowance_both s t low = omega (arith, low)

logs_joined : (before : List Logged) (rest : List SeatValue) (first last : SeatValue) → 0 < length rest → get_or rest 0 first ≡ first → first_memory rest ≡ [] → AreLogged before (rest ++ last ∷ [])
    → AreLogged (before ++ last.log) (set rest 0 (record first { view = both_view first.view last.view }))
logs_joined before [] first last some is none logs = absurd (omega (arith, some))
logs_joined before (s ∷ others) first last some is none logs =
    let split = all_front (λ (x : SeatValue). x.view.actor.log ≡ x.log) others last logs.1 in
    let empty : first.log ≡ [] = sym (ap (λ (x : SeatValue). x.log) is) ∙ none in
    let whole : first.view.actor.log ≡ before ++ first.log = subst (λ (x : SeatValue). x.view.actor.log ≡ before ++ x.log) is logs.0 in
    let plain : first.view.actor.log ≡ before = whole ∙ (ap (λ (l : List Logged). before ++ l) empty ∙ append-nil before) in (
      ap (λ (l : List Logged). l ++ last.view.actor.log) plain ∙ (ap (λ (l : List Logged). before ++ l) split.1 ∙ (sym (append-nil (before ++ last.log)) ∙ ap (λ (l : List Logged). (before ++ last.log) ++ l) (sym empty))),
      split.0,
    )

memory_front : (xs : List SeatValue) (x : SeatValue) → 0 < length xs → first_memory xs ≡ first_memory (xs ++ x ∷ [])
memory_front [] x h = absurd (omega (arith, h))
memory_front (y ∷ xs) x h = refl

memory_set : (xs : List SeatValue) (x y : SeatValue) → 0 < length xs → get_or xs 0 x ≡ x → y.log ≡ x.log → first_memory (set xs 0 y) ≡ first_memory xs
memory_set [] x y h is same = absurd (omega (arith, h))
memory_set (z ∷ xs) x y h is same = same ∙ sym (ap (λ (s : SeatValue). s.log) is)

-- what all have together stays, where the logs do
team_joined : (floor : FloorValue) (room : ℕ) (known : List ℕ) (before after : List Logged) (total : ℕ) (crew later : List SeatValue) (more : List Logged) (j : HasJoined crew later more) → total_of crew ≤ FIRST_ALLOWANCE
    → AreBack floor room known before total crew → AreLogged after (set j.rest 0 (record j.first { view = both_view j.first.view j.last.view })) → AreBack floor room known after total later
team_joined floor room known before after total crew later more j few team logs =
    let both : SeatValue = record j.first { view = both_view j.first.view j.last.view } in
    let team' : IsTeam (IsBack floor room known) before total (j.rest ++ j.last ∷ []) = subst (IsTeam (IsBack floor room known) before total) j.crew_is team in
    let parts = all_front (IsBack floor room known) j.rest j.last team'.each in
    let one : IsBack floor room known j.first = subst (IsBack floor room known) j.first_is (parts.0 0 j.first j.some) in
    let all_shares = team'.shares in
    let two_shares = two_within (λ (s : SeatValue). s.view.share) j.rest j.first j.last j.some j.first_is in
    let two_totals = two_within (λ (s : SeatValue). s.view.allowance) j.rest j.first j.last j.some j.first_is in
    let same_total = ap total_of j.crew_is in
    let shares = sum_joined (λ (s : SeatValue). s.view.share) j.rest j.first j.last both j.some j.first_is (share_both j.first j.last (omega (arith, two_shares, all_shares))) in
    let totals = sum_joined (λ (s : SeatValue). s.view.allowance) j.rest j.first j.last both j.some j.first_is (allowance_both j.first j.last (omega (arith, two_totals, same_total, few))) in
    let made : AreBack floor room known after total (set j.rest 0 both) = record {
      each = All-set (IsBack floor room known) j.rest 0 both (back_both floor room known j.first j.last one parts.1) parts.0;
      shares = shares ∙ team'.shares;
      total_is = totals ∙ team'.total_is;
      logs = logs;
    } in
    subst (AreBack floor room known after total) (sym j.later_is) made

pub join_keeps : (floor : FloorValue) (room : ℕ) (known : List ℕ) (before : List Logged) (total : ℕ) (crew later : List SeatValue) (more : List Logged) → HasJoined crew later more → first_memory crew ≡ [] → total_of crew ≤ FIRST_ALLOWANCE
    → AreBack floor room known before total crew → AreBack floor room known (before ++ more) total later
join_keeps floor room known before total crew later more j none few team =
    let team' : IsTeam (IsBack floor room known) before total (j.rest ++ j.last ∷ []) = subst (IsTeam (IsBack floor room known) before total) j.crew_is team in
    let memory : first_memory j.rest ≡ [] = memory_front j.rest j.last j.some ∙ (sym (ap first_memory j.crew_is) ∙ none) in
    let made = team_joined floor room known before (before ++ j.last.log) total crew later more j few team (logs_joined before j.rest j.first j.last j.some j.first_is memory team'.logs) in
    subst (λ (l : List Logged). AreBack floor room known (before ++ l) total later) (sym j.more_is) made

-- the last seat has logged nothing
logs_bare : (before : List Logged) (rest : List SeatValue) (first last : SeatValue) → 0 < length rest → get_or rest 0 first ≡ first → last.log ≡ [] → AreLogged before (rest ++ last ∷ [])
    → AreLogged before (set rest 0 (record first { view = both_view first.view last.view }))
logs_bare before [] first last some is none logs = absurd (omega (arith, some))
logs_bare before (s ∷ others) first last some is none logs =
    let split = all_front (λ (x : SeatValue). x.view.actor.log ≡ x.log) others last logs.1 in
    let whole : first.view.actor.log ≡ before ++ first.log = subst (λ (x : SeatValue). x.view.actor.log ≡ before ++ x.log) is logs.0 in
    (ap (λ (l : List Logged). first.view.actor.log ++ l) (split.1 ∙ none) ∙ (append-nil first.view.actor.log ∙ whole), split.0)

pub bare_joins : (floor : FloorValue) (room : ℕ) (known : List ℕ) (before : List Logged) (total : ℕ) (crew later : List SeatValue) → HasJoined crew later [] → total_of crew ≤ FIRST_ALLOWANCE
    → AreBack floor room known before total crew → AreBack floor room known before total later × (length later + 1 ≡ length crew)
bare_joins floor room known before total crew later j few team =
    let team' : IsTeam (IsBack floor room known) before total (j.rest ++ j.last ∷ []) = subst (IsTeam (IsBack floor room known) before total) j.crew_is team in
    let long = length-set j.rest 0 (record j.first { view = both_view j.first.view j.last.view }) in
    let was = ap length j.crew_is in
    let whole = length-append j.rest (j.last ∷ []) in
    let l = ap length j.later_is in (
      team_joined floor room known before before total crew later [] j few team (logs_bare before j.rest j.first j.last j.some j.first_is (sym j.more_is) team'.logs),
      omega (arith, l, long, was, whole),
    )

pub join_rests : (floor : FloorValue) (room : ℕ) (crew later : List SeatValue) (more : List Logged) → HasJoined crew later more → first_memory crew ≡ [] → AreAtRest floor room crew
    → AreAtRest floor room later × (first_memory later ≡ []) × (length later + 1 ≡ length crew)
join_rests floor room crew later more j none team =
    let few = team.total in
    let both : SeatValue = record j.first { view = both_view j.first.view j.last.view } in
    let team' : AreAtRest floor room (j.rest ++ j.last ∷ []) = subst (AreAtRest floor room) j.crew_is team in
    let parts = all_front (IsAtRest floor room) j.rest j.last team'.each in
    let one : IsAtRest floor room j.first = subst (IsAtRest floor room) j.first_is (parts.0 0 j.first j.some) in
    let all_shares = team'.shares in
    let two_shares = two_within (λ (s : SeatValue). s.view.share) j.rest j.first j.last j.some j.first_is in
    let two_totals = two_within (λ (s : SeatValue). s.view.allowance) j.rest j.first j.last j.some j.first_is in
    let same_total = ap total_of j.crew_is in
    let shares = sum_joined (λ (s : SeatValue). s.view.share) j.rest j.first j.last both j.some j.first_is (share_both j.first j.last (omega (arith, two_shares, all_shares))) in
    let totals = sum_joined (λ (s : SeatValue). s.view.allowance) j.rest j.first j.last both j.some j.first_is (allowance_both j.first j.last (omega (arith, two_totals, same_total, few))) in
    let all = team'.total in
    let memory : first_memory (set j.rest 0 both) ≡ [] = memory_set j.rest j.first both j.some j.first_is refl ∙ (memory_front j.rest j.last j.some ∙ (sym (ap first_memory j.crew_is) ∙ none)) in
    let long = length-set j.rest 0 both in
    let was = ap length j.crew_is in
    let whole = length-append j.rest (j.last ∷ []) in
    let made : AreAtRest floor room (set j.rest 0 both) = record {
      each = All-set (IsAtRest floor room) j.rest 0 both (rest_both floor room j.first j.last one) parts.0;
      shares = shares ∙ team'.shares;
      total = omega (arith, totals, all);
    } in (
      subst (AreAtRest floor room) (sym j.later_is) made,
      ap first_memory j.later_is ∙ memory,
      (let l = ap length j.later_is in omega (arith, l, long, was, whole)),
    )

-- the log of the first seat is moved out of memory
pub empty_keeps : (floor : FloorValue) (room : ℕ) (known : List ℕ) (before : List Logged) (total : ℕ) (crew : List SeatValue) (d : SeatValue) → 0 < length crew
    → AreBack floor room known before total crew → AreBack floor room known (before ++ first_memory crew) total (set crew 0 (cleared (get_or crew 0 d)))
empty_keeps floor room known before total [] d h team = absurd (omega (arith, h))
empty_keeps floor room known before total (s ∷ others) d h team =
    let b = All-head (IsBack floor room known) s others team.each in
    let empty : IsBack floor room known (cleared s) = record { of = record { table = b.of.table; market = b.of.market; kept = b.of.kept; shares = b.of.shares }; idle = b.idle; room_is = b.room_is; fits = omega arith; knows = b.knows; more = b.more } in
    record {
      each = All-cons (IsBack floor room known) (cleared s) others empty (All-tail (IsBack floor room known) s others team.each);
      shares = team.shares;
      total_is = team.total_is;
      logs = (team.logs.0 ∙ sym (append-nil (before ++ s.log)), team.logs.1);
    }

pub empty_rests : (floor : FloorValue) (room : ℕ) (crew : List SeatValue) (d : SeatValue) → 0 < length crew → AreAtRest floor room crew
    → AreAtRest floor room (set crew 0 (cleared (get_or crew 0 d))) × (first_memory (set crew 0 (cleared (get_or crew 0 d))) ≡ [])
empty_rests floor room [] d h team = absurd (omega (arith, h))
empty_rests floor room (s ∷ others) d h team =
    let b = All-head (IsAtRest floor room) s others team.each in
    let empty : IsAtRest floor room (cleared s) = record { of = record { table = b.of.table; market = b.of.market; kept = b.of.kept; shares = b.of.shares }; idle = b.idle; room_is = b.room_is; fits = omega arith } in
    (record { each = All-cons (IsAtRest floor room) (cleared s) others empty (All-tail (IsAtRest floor room) s others team.each); shares = team.shares; total = team.total }, refl)

-- a seat that nobody has
abbrev pub no_seat : SeatValue
no_seat = record { table = record { words = 0; slots = 0; views_name = 0; atom = 0; block = 0; offset = 0; slot_names = [] }; id = 0; view = spent_view; log = []; room = 0 }
