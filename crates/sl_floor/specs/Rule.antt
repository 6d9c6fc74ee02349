-- The rule of the floor's table: its words and seats are a state of the clearing machine, whose
-- parts hold.
use Rattle.std.specs.Prelude.{◌≡◌, ◌⊎◌, ℕ, zero, suc, ◌+◌, ◌^◌, ◌<◌, ◌≤◌, Bool, List, All, length, map, get_or, sum_by, slice_index}
use Rattle.atomic_table.specs.Table.{Me, Step}
use Rattle.atomic_table.specs.Table as table
use Rattle.sl_types.specs.declared.kinds.PoolId.{PoolId}
use Rattle.sl_types.specs.declared.kinds.Raise.{Raise}
use Rattle.sl_types.specs.declared.kinds.TheConstants.{MAX_SCORE}
use Rattle.sl_types.specs.Market.{Market, pool_numbers}
use Rattle.sl_types.specs.Valid.{IsValid}
use Rattle.sl_laws.specs.Limits.{Limits}
use Rattle.sl_laws.specs.Stable.{IsStable}
use Rattle.sl_core.specs.declared.kinds.Phase.TheVariants.{Drawn}
use Rattle.sl_core.specs.State.{Actor, State}
use Rattle.sl_core.specs.Dividing.{spent_actor}
use Rattle.sl_core.specs.Parts.{HasParts}
use Rattle.sl_core.specs.Laws.{AreAtMost}
use Rattle.sl_floor.specs.declared.shares.TheConstants.{WHOLE_SHARE, FIRST_ALLOWANCE}
use Rattle.sl_floor.specs.Floor.{Sitting, word_count, limit_place, flag_place, is_up, flag_of, read_view, claim_view, draw_view, raise_view, mark_view, spent_view}
use Rattle.sl_floor.specs.Held.{IsSeated}

-- the words, and what each seat is; no slot is used
abbrev pub Table : Type 0
Table = table.State (Unit {0}) Sitting

-- the limits and the flags of all pools, among the words of the table
abbrev pub limit_words : Market → List ℕ → List ℕ
limit_words market words = map (λ Q. get_or words (limit_place Q) 0) (pool_numbers market)

abbrev pub flag_words : Market → List ℕ → List Bool
flag_words market words = map (flag_of market words) (pool_numbers market)

-- the actor of a seat; one of share 0 was joined into another, and has nothing left
abbrev pub seated : Market → ℕ → Actor → Actor
seated market zero a = spent_actor market
seated market (suc share) a = a

abbrev pub actor_in : Market → Sitting → Actor
actor_in market v = seated market v.share v.actor

-- the state of the machine that words and seats make
abbrev pub state_of : Market → List ℕ → List Sitting → State
state_of market words views = record {
  limits = limit_words market words;
  flags = flag_words market words;
  ticket = slice_index words 0;
  actors = map (actor_in market) views;
}

-- a seat that has a share holds the floor's instance and its kept raises
pub record HoldsFloor (market : Market) (kept : List Raise) (v : Sitting) : Type 0 where
  pub share : 0 < v.share
  pub instance : v.market ≡ market
  pub raises : v.kept ≡ kept

-- a seat has a share, or was joined into another and has nothing left
abbrev pub IsSeatOf : Market → List Raise → Sitting → Type 0
IsSeatOf market kept v = HoldsFloor market kept v ⊎ (v ≡ spent_view)

-- The parts of the machine hold. The shares add up to the whole, and the ticket number and all
-- allowances to the first allowance and the number of kept raises.
pub record IsFloored (market : Market) (kept : List Raise) (s : Table) : Type 0 where
  pub valid : IsValid market
  pub few : length kept < 2 ^ 61
  pub wide : length s.words ≡ word_count market
  pub parts : HasParts market kept (state_of market s.words s.views)
  pub seats : All (IsSeatOf market kept) s.views
  pub shares : sum_by (λ v. v.share) s.views ≡ WHOLE_SHARE
  pub tickets :
      slice_index s.words 0 + sum_by (λ v. v.allowance) s.views ≡ FIRST_ALLOWANCE + length kept

-- a seat, and a step, of this table
abbrev Sat : Type 0
Sat = Me (Unit {0}) Sitting

abbrev At : Type 0
At = Step (Unit {0})

-- a word that was found: at least what the seat knew, a limit, and above no stable one
pub record IsFound (v : Sitting) (Q word : ℕ) : Type 0 where
  pub rises : slice_index v.actor.known Q ≤ word
  pub top : word ≤ MAX_SCORE + 1
  pub low : (l : Limits) → IsStable v.market l → word ≤ l Q

-- what a step tells a seat: no slot comes or goes, and the seat is one again
pub record Tells (before after : Sat) : Type 0 where
  pub slots : after.1 ≡ before.1
  pub seated : IsSeated after.0

-- what each kind of step tells beside, of a word that was found
abbrev pub Claims : At → Sat → ℕ → Sat → Type 0
Claims st m found m' =
    Tells m m'
    × ((Q : PoolId) → st.word ≡ flag_place m.0.market Q.0 → m'.0 ≡ claim_view m.0 Q (is_up found))

abbrev pub Reads : At → Sat → ℕ → Sat → Type 0
Reads st m found m' =
    Tells m m'
    × ((Q : ℕ) → st.word ≡ limit_place Q → (m'.0 ≡ read_view m.0 Q found) × IsFound m.0 Q found)

abbrev pub Draws : At → Sat → ℕ → Sat → Type 0
Draws st m found m' = Tells m m' × (m'.0 ≡ draw_view m.0 found)

abbrev pub Raises : At → Sat → ℕ → Sat → Type 0
Raises st m found m' =
    Tells m m'
    × ((P : PoolId) (x : ℕ) → m.0.actor.phase ≡ Drawn P x
    → (m'.0 ≡ raise_view m.0 P x found) × IsFound m.0 P.0 found)

abbrev pub Marks : At → Sat → ℕ → Sat → Type 0
Marks st m found m' =
    Tells m m' × ((Q : ℕ) → st.word ≡ flag_place m.0.market Q → m'.0 ≡ mark_view m.0 Q)

-- While the rule holds, no limit word, no known number and no read passes a stable limit.
abbrev pub WordsPassNone : Market → List Raise → Type 0
WordsPassNone market kept =
    (s : Table) → IsFloored market kept s → (l : Limits) → IsStable market l
    → AreAtMost (state_of market s.words s.views) l
