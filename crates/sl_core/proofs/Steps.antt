-- Every step keeps the parts, and lowers no word.
use Rattle.std.proofs.Common.{◌≡◌, ℕ, ◌<◌, ◌≤◌, true, max, nat_lt, List, [], length, refl, sym, subst, arith}
use Rattle.std.specs.Prelude.{slice_index}
use Rattle.std.proofs.lemmas.Bool.{and_parts, ltb-true}
use Rattle.sl_types.specs.declared.kinds.Raise.{Raise}
use Rattle.sl_types.specs.Market.{Market}
use Rattle.sl_types.specs.WellFormed.{IsWellFormed}
use Rattle.sl_laws.specs.Limits.{Limits}
use Rattle.sl_laws.specs.Stable.{IsStable}
use Rattle.sl_core.specs.declared.kinds.Event.{Event}
use Rattle.sl_core.specs.declared.kinds.EventKind.{EventKind}
use Rattle.sl_core.specs.declared.kinds.EventKind.TheVariants as does
use Rattle.sl_core.specs.declared.kinds.Phase.{Phase}
use Rattle.sl_core.specs.declared.kinds.Phase.TheVariants.{Idle, Working, Ready, Drawn, Owing}
use Rattle.sl_core.specs.State.{State, Run, actor_at}
use Rattle.sl_core.specs.Machine.{may_do, may_come, after_raising_by, after_kind, after_event, Steps}
use Rattle.sl_core.specs.Parts.{HasParts}
use Rattle.sl_core.specs.Laws.{AreAtMost}
use Rattle.sl_core.proofs.Actors.{set_keeps}
use Rattle.sl_core.proofs.Claims.{claims_keep}
use Rattle.sl_core.proofs.Reading.{reads_keep}
use Rattle.sl_core.proofs.Draws.{draws_keep}
use Rattle.sl_core.proofs.Raises.{raises_keep}
use Rattle.sl_core.proofs.Marks.{marks_keep}
use Rattle.sl_core.proofs.Quiet.{logged_passes_none}

by_kind : (market : Market) → IsWellFormed market → (kept : List Raise) (s : State) (i : ℕ) → HasParts market kept s → i < length s.actors → (kind : EventKind) → may_do market (actor_at s i) kind ≡ true → HasParts market kept (after_kind market s i kind)
by_kind market ok kept s i p inside (does.Claim Q) may = claims_keep market kept s i Q p inside may
by_kind market ok kept s i p inside (does.Read Q) may = reads_keep market ok kept s i Q p inside may
by_kind market ok kept s i p inside (does.Draw x) may = draws_keep market ok kept s i x p inside may
by_kind market ok kept s i p inside does.Raise may = raises_keep market ok kept s i p inside may
by_kind market ok kept s i p inside (does.Mark Q) may = marks_keep market kept s i Q p inside may

pub steps_keep : (market : Market) → IsWellFormed market → (kept : List Raise) (s t : State) (event : Event) → HasParts market kept s → Steps market s event t → HasParts market kept t
steps_keep market ok kept s t event p step =
    let both = and_parts (nat_lt event.actor (length s.actors)) (may_do market (actor_at s event.actor) event.kind) step.may in
    subst (HasParts market kept) (sym step.leads) (by_kind market ok kept s event.actor p (ltb-true event.actor (length s.actors) both.0) event.kind both.1)

-- so does a run that made one
pub run_keeps : (r t : Run) → IsWellFormed r.market → HasParts r.market [] r.state → (event : Event) → may_come r.market r.state event ≡ true → t ≡ record r { state = after_event r.market r.state event } → HasParts t.market [] t.state
run_keeps r t ok p event may is =
    subst (λ (u : Run). HasParts u.market [] u.state) (sym is) (steps_keep r.market ok [] r.state (after_event r.market r.state event) event p (record { may = may; leads = refl }))

raise_rises : (market : Market) (s : State) (i : ℕ) (ph : Phase) (Q : ℕ) → slice_index s.limits Q ≤ slice_index (after_raising_by market ph s i).limits Q
raise_rises market s i Idle Q = omega arith
raise_rises market s i (Working P) Q = omega arith
raise_rises market s i (Ready P x) Q = omega arith
raise_rises market s i (Drawn P x) Q = set_keeps s.limits P.0 (max (slice_index s.limits P.0) x) (λ R y. slice_index s.limits R ≤ y) (λ R. omega arith) (omega arith) Q
raise_rises market s i (Owing P) Q = omega arith

kind_rises : (market : Market) (s : State) (i : ℕ) (kind : EventKind) (Q : ℕ) → slice_index s.limits Q ≤ slice_index (after_kind market s i kind).limits Q
kind_rises market s i (does.Claim P) Q = omega arith
kind_rises market s i (does.Read P) Q = omega arith
kind_rises market s i (does.Draw x) Q = omega arith
kind_rises market s i does.Raise Q = raise_rises market s i (actor_at s i).phase Q
kind_rises market s i (does.Mark P) Q = omega arith

pub words_rise : (market : Market) (s t : State) (event : Event) → Steps market s event t → (Q : ℕ) → slice_index s.limits Q ≤ slice_index t.limits Q
words_rise market s t event step Q = subst (λ (u : State). slice_index s.limits Q ≤ slice_index u.limits Q) (sym step.leads) (kind_rises market s event.actor event.kind Q)

pub words_pass_none : (market : Market) → IsWellFormed market → (kept : List Raise) (s : State) → HasParts market kept s → (l : Limits) → IsStable market l → AreAtMost s l
words_pass_none market ok kept s p l stable = record {
  limits = λ Q. logged_passes_none market ok kept s p l stable Q (slice_index s.limits Q) (p.logged.limits Q);
  known = λ i h Q. logged_passes_none market ok kept s p l stable Q (slice_index (actor_at s i).known Q) (p.logged.known i h Q);
  reads = λ i h Q. logged_passes_none market ok kept s p l stable Q (slice_index (actor_at s i).reads Q) (p.logged.reads i h Q);
}
