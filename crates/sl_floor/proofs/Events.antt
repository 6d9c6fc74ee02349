-- Each call's step of the table is an event of the machine.
use Rattle.std.proofs.Common.{◌≡◌, ◌<◌, ℕ, ◌+◌, true, false, true≢false, max, Bool, List, [], ◌∷◌, length, get_or, zero, suc, refl, sym, ap, subst, inl, inr, arith}
use Rattle.std.specs.Prelude.{slice_index, ◌&&◌, nat_lt}
use Rattle.std.proofs.lemmas.Bool.{lt-ltb, and_parts}
use Rattle.std.proofs.lemmas.Option.{slice_get_within, get_or_from_slice_get}
use mathlib.Core.Option.{some}
use lib.ListN.{get_elem?}
use Rattle.sl_types.specs.declared.kinds.PoolId.{PoolId}
use Rattle.sl_types.specs.declared.kinds.Raise.{Raise}
use Rattle.sl_types.specs.Market.{Market}
use Rattle.sl_core.specs.declared.kinds.EventKind.{EventKind}
use Rattle.sl_core.specs.declared.kinds.EventKind.TheVariants as does
use Rattle.sl_core.specs.declared.kinds.Phase.{Phase}
use Rattle.sl_core.specs.declared.kinds.Phase.TheVariants.{Idle, Working, Ready, Drawn, Owing}
use Rattle.sl_core.specs.State.{Actor, State, actor_at, is_idle}
use Rattle.sl_core.specs.Machine.{may_raise, still_owes, may_do, may_come}
use Rattle.sl_core.specs.Parts.{HasSizes}
use Rattle.sl_core.proofs.Actors.{up_within}
use Rattle.sl_floor.specs.Floor.{Sitting}
use Rattle.sl_floor.specs.Rule.{Table, state_of, HoldsFloor, IsSeatOf}
use Rattle.sl_floor.specs.Laws.{IsSeatIn, ReadIsEvent, ClaimIsEvent, DrawIsEvent, RaiseIsEvent, MarkIsEvent, OpensAtStart}
use Rattle.sl_floor.proofs.Words.{at_within, at_get}
use Rattle.sl_floor.proofs.Told.{here, inside}
use Rattle.sl_floor.proofs.Keeps.{read_state, claim_state, draw_state, raise_state, mark_state}
use Rattle.sl_floor.proofs.Opens.{opens_start}

there : (xs : List Sitting) (i : ℕ) (v : Sitting) → i < length xs → get_or xs i v ≡ v → get_elem? xs i ≡ some v
there [] i v h e = absurd (omega (arith, h))
there (x ∷ xs) zero v h e = ap some e
there (x ∷ xs) (suc i) v h e = there xs i v (omega (arith, h)) e

module _ (market : Market) (kept : List Raise) (s : Table) (id : ℕ) (v : Sitting) (in_seat : IsSeatIn market kept s id v) where
  abbrev state : State
  state = state_of market s.words s.views

  at : get_elem? s.views id ≡ some v
  at = there s.views id v (slice_get_within s.views id v in_seat.here) (get_or_from_slice_get s.views id v v in_seat.here)

  same : v.market ≡ market
  same = elim (subst (IsSeatOf market kept) (at_get s.views id v v at) (in_seat.rule.seats id v (at_within s.views id v at))) [
    | inl holds ↦ holds.instance
    | inr spent ↦ absurd (let none = ap (λ (u : Sitting). u.share) spent in let some = in_seat.share in omega (arith, none, some))
  ]

  is_here : actor_at state id ≡ v.actor
  is_here = here market kept id v in_seat.share same s in_seat.rule at

  is_inside : id < length state.actors
  is_inside = inside market kept id v in_seat.share same s in_seat.rule at

  -- the actor's lists have an item for each pool
  sizes : HasSizes market v.actor
  sizes = subst (HasSizes market) is_here (in_seat.rule.parts.sized.actors id is_inside)

  -- the machine has the event
  may : (kind : EventKind) → may_do market v.actor kind ≡ true → may_come market state (record { actor = id; kind = kind }) ≡ true
  may kind h =
      let low = lt-ltb id (length state.actors) is_inside in
      let can : may_do market (actor_at state id) kind ≡ true = subst (λ (a : Actor). may_do market a kind ≡ true) (sym is_here) h in
      rw (low, can) refl

owed_up : (ph : Phase) (owed : List Bool) (Q : ℕ) → still_owes ph owed Q ≡ true → get_or owed Q false ≡ true
owed_up Idle owed Q h = absurd (true≢false (sym h))
owed_up (Working P) owed Q h = absurd (true≢false (sym h))
owed_up (Ready P x) owed Q h = absurd (true≢false (sym h))
owed_up (Drawn P x) owed Q h = absurd (true≢false (sym h))
owed_up (Owing P) owed Q h = h

pub reads_are : (market : Market) (kept : List Raise) → ReadIsEvent market kept
reads_are market kept s id v Q in_seat can = record {
  may = may market kept s id v in_seat (does.Read Q) can;
  leads = read_state market kept id v in_seat.share (same market kept s id v in_seat) s in_seat.rule (at market kept s id v in_seat) Q.0 can;
}

pub claims_are : (market : Market) (kept : List Raise) → ClaimIsEvent market kept
claims_are market kept s id v Q in_seat can =
    let up = up_within v.actor.left Q.0 (and_parts (is_idle v.actor.phase) (get_or v.actor.left Q.0 false) can).1 in
    let long = (sizes market kept s id v in_seat).left in record {
      may = may market kept s id v in_seat (does.Claim Q) can;
      leads = claim_state market kept id v in_seat.share (same market kept s id v in_seat) s in_seat.rule (at market kept s id v in_seat) Q can (omega (arith, up, long));
    }

pub draws_are : (market : Market) (kept : List Raise) → DrawIsEvent market kept
draws_are market kept s id x v in_seat can = record {
  may = may market kept s id v in_seat (does.Draw x) can;
  leads = draw_state market kept id v in_seat.share (same market kept s id v in_seat) s in_seat.rule (at market kept s id v in_seat) x can;
}

pub raises_are : (market : Market) (kept : List Raise) → RaiseIsEvent market kept
raises_are market kept s id x v P in_seat drawn = record {
  may = may market kept s id v in_seat does.Raise (ap may_raise drawn);
  leads = raise_state market kept id v in_seat.share (same market kept s id v in_seat) s in_seat.rule (at market kept s id v in_seat) P x drawn;
}

pub marks_are : (market : Market) (kept : List Raise) → MarkIsEvent market kept
marks_are market kept s id v Q in_seat can =
    let up = up_within v.actor.owed Q.0 (owed_up v.actor.phase v.actor.owed Q.0 can) in
    let long = (sizes market kept s id v in_seat).owed in record {
      may = may market kept s id v in_seat (does.Mark Q) can;
      leads = mark_state market kept id v in_seat.share (same market kept s id v in_seat) s in_seat.rule (at market kept s id v in_seat) Q.0 can (omega (arith, up, long));
    }

pub opens_are : (market : Market) (kept : List Raise) → OpensAtStart market kept
opens_are market kept = opens_start market kept _ refl
