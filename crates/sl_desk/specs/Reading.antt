-- A seat that reads what a pool asks for.
use Rattle.std.specs.Prelude.{◌≡◌, ℕ, Bool, true, false, List, [], ◌∷◌, length, get_or, slice_index, nat_eq, Option, Some, None}
use Rattle.std.specs.List.{list_any}
use Rattle.sl_types.specs.declared.kinds.PoolId.{PoolId}
use Rattle.sl_types.specs.Market.{Market}
use Rattle.sl_core.specs.declared.kinds.Phase.{Phase}
use Rattle.sl_core.specs.declared.kinds.Phase.TheVariants.{Idle, Ready}
use Rattle.sl_core.specs.Machine.{phase_after_read}
use Rattle.sl_contend.specs.Contention.{feeding}
use Rattle.sl_floor.specs.Floor.{SeatValue, limit_place}
use Rattle.sl_desk.specs.Seats.{Gains, Stepped, HasStepped}

-- whether a number stands in a list
abbrev pub is_in : ℕ → List ℕ → Bool
is_in Q pools = list_any (nat_eq Q) pools

-- the pools whose words P asks for: its own, and those that feed it
abbrev pub asked_pools : Market → ℕ → List ℕ
asked_pools market P = P ∷ feeding market P

-- reads that are 0 but at these pools
abbrev pub OnlyAt : List ℕ → List ℕ → Type 0
OnlyAt reads pools = (Q : ℕ) → is_in Q pools ≡ false → slice_index reads Q ≡ 0

-- a seat at work on P that has read the words of these pools, each once
pub record HasRead (market : Market) (P : PoolId) (before after : SeatValue) (read reads : List ℕ)
    : Type 0 where
  pub gains : Gains before after []
  pub left : after.view.actor.left ≡ before.view.actor.left
  pub steps : Stepped before.view after.view (length read)
  pub stepped : (Q : ℕ) → is_in Q read ≡ true → HasStepped before.view after.view (limit_place Q)
  pub phase :
      after.view.actor.phase
      ≡ phase_after_read market P after.view.actor.reads after.view.actor.made
  pub desk : after.view.actor.reads ≡ reads
  pub each : length reads ≡ length market.pools
  pub all : length after.view.actor.made ≡ length market.pools
  pub made : (Q : ℕ) → get_or after.view.actor.made Q false ≡ is_in Q read
  pub unread : OnlyAt reads read
  pub seen : (Q : ℕ) → is_in Q read ≡ true
      → slice_index after.view.actor.known Q ≡ slice_index reads Q

-- what comes after the reads: a raise of P that is ready, or nothing
abbrev pub after_reads : PoolId → Option ℕ → Phase
after_reads P None = Idle
after_reads P (Some x) = Ready P x

-- a seat that has read all that P asks for
abbrev pub HasReadAll : Market → PoolId → SeatValue → SeatValue → List ℕ → Type 0
HasReadAll market P before after reads =
    HasRead market P before after (asked_pools market P.0) reads

abbrev pub HasSearched : Market → PoolId → SeatValue → SeatValue → Type 0
HasSearched market P before after = HasReadAll market P before after after.view.actor.reads
