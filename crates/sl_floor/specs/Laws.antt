-- The floor's laws: what each call does to the words and the seats is a step of the machine.
use Rattle.std.specs.Prelude.{◌≡◌, ℕ, ◌+◌, ◌<◌, true, max, List, [], ◌∷◌, length, set, slice_get, slice_index, Some}
use Rattle.sl_types.specs.declared.kinds.PoolId.{PoolId}
use Rattle.sl_types.specs.declared.kinds.Raise.{Raise}
use Rattle.sl_types.specs.Market.{Market}
use Rattle.sl_core.specs.declared.kinds.Phase.TheVariants.{Drawn}
use Rattle.sl_core.specs.declared.kinds.EventKind.{EventKind}
use Rattle.sl_core.specs.declared.kinds.EventKind.TheVariants.{Claim, Read, Draw, Mark}
use Rattle.sl_core.specs.declared.kinds.EventKind.TheVariants as does
use Rattle.sl_core.specs.State.{start, words_after}
use Rattle.sl_core.specs.Machine.{may_claim, may_read, may_draw, still_owes, Steps}
use Rattle.sl_floor.specs.Floor.{Sitting, limit_place, flag_place, is_up, opening_words, first_view, read_view, claim_view, draw_view, raise_view, mark_view}
use Rattle.sl_floor.specs.Rule.{Table, state_of, IsFloored}

-- a seat of a table whose rule holds, and what it is
pub record IsSeatIn (market : Market) (kept : List Raise) (s : Table) (id : ℕ) (v : Sitting) : Type 0 where
  pub rule : IsFloored market kept s
  pub here : slice_get s.views id ≡ Some v
  pub share : 0 < v.share

-- The words and the seats after a step of a seat: one word is written, and the seat is another.
-- They make the machine's state after an event of this seat.
abbrev pub IsEvent : Market → Table → ℕ → EventKind → ℕ → ℕ → Sitting → Type 0
IsEvent market s id kind place word view =
    Steps market (state_of market s.words s.views) (record { actor = id; kind = kind })
    (state_of market (set s.words place word) (set s.views id view))

-- a load of a limit word is the machine's read
abbrev pub ReadIsEvent : Market → List Raise → Type 0
ReadIsEvent market kept =
    (s : Table) (id : ℕ) (v : Sitting) (Q : PoolId) → IsSeatIn market kept s id v
    → may_read market v.actor.phase v.actor Q.0 ≡ true
    → let word = slice_index s.words (limit_place Q.0) in
    IsEvent market s id (Read Q) (limit_place Q.0) word (read_view v Q.0 word)

-- a swap of a flag to 0 is the claim
abbrev pub ClaimIsEvent : Market → List Raise → Type 0
ClaimIsEvent market kept =
    (s : Table) (id : ℕ) (v : Sitting) (Q : PoolId) → IsSeatIn market kept s id v
    → may_claim v.actor Q.0 ≡ true
    → let word = slice_index s.words (flag_place market Q.0) in
    IsEvent market s id (Claim Q) (flag_place market Q.0) 0 (claim_view v Q (is_up word))

-- a fetch-add of 1 on the ticket number is the draw
abbrev pub DrawIsEvent : Market → List Raise → Type 0
DrawIsEvent market kept =
    (s : Table) (id x : ℕ) (v : Sitting) → IsSeatIn market kept s id v
    → may_draw v.actor.phase x ≡ true
    → let word = slice_index s.words 0 in
    IsEvent market s id (Draw x) 0 (word + 1) (draw_view v word)

-- a fetch-max on a limit word is the raise
abbrev pub RaiseIsEvent : Market → List Raise → Type 0
RaiseIsEvent market kept =
    (s : Table) (id x : ℕ) (v : Sitting) (P : PoolId) → IsSeatIn market kept s id v
    → v.actor.phase ≡ Drawn P x
    → let word = slice_index s.words (limit_place P.0) in
    IsEvent market s id does.Raise (limit_place P.0) (max word x) (raise_view v P x word)

-- a swap of a flag to 1 is the mark
abbrev pub MarkIsEvent : Market → List Raise → Type 0
MarkIsEvent market kept =
    (s : Table) (id : ℕ) (v : Sitting) (Q : PoolId) → IsSeatIn market kept s id v
    → still_owes v.actor.phase v.actor.owed Q.0 ≡ true
    → IsEvent market s id (Mark Q) (flag_place market Q.0) 1 (mark_view v Q.0)

-- the words that a floor opens with, and its first seat, make the machine's start
abbrev pub OpensAtStart : Market → List Raise → Type 0
OpensAtStart market kept =
    state_of market (opening_words (length kept) (words_after market kept))
    (first_view market kept ∷ [])
    ≡ start market kept 0
