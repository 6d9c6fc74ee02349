-- Levels of a crew that is split.
use Rattle.std.proofs.Common.{◌≡◌, ◌∙◌, ◌⊎◌, ℕ, suc, ◌+◌, ◌*◌, ◌/◌, ◌<◌, ◌≤◌, List, [], ◌∷◌, ◌++◌, All, length, sym, ap, subst, arith, inl, inr, append-nil}
use Rattle.std.proofs.lemmas.List.Elements.{All-head, All-cons, All-nil, All-weaker}
use Rattle.std.proofs.lemmas.List.Sums.{sum_by-cons}
use Rattle.sl_types.specs.declared.kinds.Logged.{Logged}
use Rattle.sl_floor.specs.declared.shares.TheConstants.{WHOLE_SHARE}
use Rattle.sl_floor.specs.Floor.{FloorValue, SeatValue}
use Rattle.sl_team.specs.Rounds.{halved, doubled}
use Rattle.sl_team.specs.Seats.{IsFresh, HasAtLeast}
use Rattle.sl_team.specs.Crew.{IsTeam, IsFreshTeam, AreLogged, first_known, first_log, total_of}
use Rattle.sl_team.proofs.Splits.{wide}

pub some_crew : (before : List Logged) (crew : List SeatValue) → AreLogged before crew → 0 < length crew
some_crew before [] logs = absurd logs
some_crew before (s ∷ others) logs = omega arith

-- what a crew has together, and its first seat knows
same_first : (floor : FloorValue) (room : ℕ) (crew later : List SeatValue) → IsFreshTeam floor room crew later
    → (first_known later ≡ first_known crew) × (first_log later ≡ first_log crew) × (total_of later ≡ total_of crew)
same_first floor room crew [] team = absurd team.logs
same_first floor room crew (s ∷ others) team =
    let f = All-head (IsFresh floor room (first_known crew)) s others team.each in
    (f.knows, team.logs.0 ∙ (ap (λ (l : List Logged). first_log crew ++ l) f.log ∙ append-nil (first_log crew)), team.total_is)

recast : (floor : FloorValue) (room : ℕ) (later : List SeatValue) (k k' : List ℕ) (b b' : List Logged) (t t' : ℕ) → k ≡ k' → b ≡ b' → t ≡ t' → IsTeam (IsFresh floor room k) b t later → IsTeam (IsFresh floor room k') b' t' later
recast floor room later k k' b b' t t' one two three team =
    subst (λ (x : List ℕ). IsTeam (IsFresh floor room x) b' t' later) one (subst (λ (x : List Logged). IsTeam (IsFresh floor room k) x t' later) two (subst (λ (x : ℕ). IsTeam (IsFresh floor room k) b x later) three team))

pub fresh_again : (floor : FloorValue) (room : ℕ) (crew later : List SeatValue) → IsFreshTeam floor room crew later → IsFreshTeam floor room later later
fresh_again floor room crew later team =
    let same = same_first floor room crew later team in
    recast floor room later _ _ _ _ _ _ (sym same.0) (sym same.1) (sym same.2) team

pub fresh_on : (floor : FloorValue) (room : ℕ) (crew later last : List SeatValue) → IsFreshTeam floor room crew later → IsFreshTeam floor room later last → IsFreshTeam floor room crew last
fresh_on floor room crew later last team more =
    let same = same_first floor room crew later team in
    recast floor room last _ _ _ _ _ _ same.0 same.1 same.2 more

-- one seat alone has the whole
pub alone_has : (F : SeatValue → Type 0) (before : List Logged) (total : ℕ) (crew : List SeatValue) → length crew ≡ 1 → IsTeam F before total crew → All (HasAtLeast WHOLE_SHARE total) crew
alone_has F before total [] one team = absurd (omega (arith, one))
alone_has F before total (s ∷ []) one team =
    let a = team.shares in let b = team.total_is in
    let m = sum_by-cons (λ (x : SeatValue). x.view.share) s [] in let n = sum_by-cons (λ (x : SeatValue). x.view.allowance) s [] in
    All-cons (HasAtLeast WHOLE_SHARE total) s [] (omega (arith, a, m), omega (arith, b, n)) (All-nil (HasAtLeast WHOLE_SHARE total))
alone_has F before total (s ∷ (t ∷ others)) one team = absurd (omega (arith, one))

-- at each level the seats may still be split
pub may_halve : (k total : ℕ) (crew : List SeatValue) → k < 7 → All (HasAtLeast (halved k WHOLE_SHARE) (halved k total)) crew → All (HasAtLeast 2 0) crew
may_halve k total crew h low =
    let two = wide k h in
    All-weaker (HasAtLeast (halved k WHOLE_SHARE) (halved k total)) (HasAtLeast 2 0) (λ s has. (let a = has.0 in omega (arith, a, two), omega arith)) crew low

pub next_level : (k total : ℕ) (crew : List SeatValue) → All (HasAtLeast (halved k WHOLE_SHARE / 2) (halved k total / 2)) crew → All (HasAtLeast (halved (k + 1) WHOLE_SHARE) (halved (k + 1) total)) crew
next_level k total crew low =
    let more : suc k ≡ k + 1 = omega arith in
    subst (λ (j : ℕ). All (HasAtLeast (halved j WHOLE_SHARE) (halved j total)) crew) more low

pub next_grown : (k seats spares later left : ℕ) → 0 < seats → later + left ≡ seats + spares → (spares ≡ 0) ⊎ (doubled k ≤ seats) → (left ≡ 0) ⊎ (2 * seats ≤ later) → (left ≡ 0) ⊎ (doubled (k + 1) ≤ later)
next_grown k seats spares later left some same before (inl none) = inl none
next_grown k seats spares later left some same (inl none) (inr more) = inl (omega (arith, some, same, none, more))
next_grown k seats spares later left some same (inr enough) (inr more) =
    let up : k + 1 ≡ suc k = omega arith in
    let is : doubled (k + 1) ≡ doubled k + doubled k = ap doubled up in
    inr (omega (arith, is, enough, more))

pub all_split : (k seats spares before : ℕ) → k ≡ 7 → seats + spares ≡ 1 + before → before < 128 → (spares ≡ 0) ⊎ (doubled k ≤ seats) → spares ≡ 0
all_split k seats spares before is same few (inl none) = none
all_split k seats spares before is same few (inr enough) = let n : doubled k ≡ 128 = ap doubled is in omega (arith, n, same, few, enough)
