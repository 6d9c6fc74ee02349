-- What the rule tells of one seat.
use Rattle.std.proofs.Common.{◌≡◌, ℕ, ◌+◌, ◌<◌, ◌≤◌, List, length, map, sym, ap, ◌∙◌, subst, inl, inr, arith}
use Rattle.std.specs.Prelude.{slice_index}
use mathlib.Core.Option.{some}
use lib.ListN.{get_elem?}
use Rattle.std.proofs.lemmas.List.Elements.{All-from_get_or}
use Rattle.sl_types.specs.declared.kinds.Raise.{Raise}
use Rattle.sl_types.specs.Market.{Market}
use Rattle.sl_types.specs.WellFormed.{IsWellFormed}
use Rattle.sl_types.proofs.Faultless.{well_formed}
use Rattle.sl_laws.specs.Limits.{Limits}
use Rattle.sl_laws.specs.Stable.{IsStable}
use Rattle.sl_types.specs.declared.kinds.TheConstants.{MAX_SCORE}
use Rattle.sl_laws.specs.Raises.{zeros}
use Rattle.sl_core.specs.State.{Actor, State, nobody, actor_at}
use Rattle.sl_core.specs.Parts.{HasSizes, IsLogged, HasParts}
use Rattle.sl_core.proofs.Orders.{logged_low}
use Rattle.sl_core.proofs.Quiet.{logged_passes_none}
use Rattle.sl_floor.specs.Floor.{Sitting, spent_view}
use Rattle.sl_floor.specs.Held.{IsSeated}
use Rattle.sl_floor.specs.Rule.{Table, limit_words, flag_words, actor_in, state_of, HoldsFloor, IsSeatOf, IsFloored}
use Rattle.sl_floor.proofs.Words.{map_get, map_within, at_within, at_get, sum_set, seated_is, reached_top, kept_low}

-- the state by the words and the actors
pub state_by : (market : Market) (words : List ℕ) (views : List Sitting) (t : State) → limit_words market words ≡ t.limits → flag_words market words ≡ t.flags → slice_index words 0 ≡ t.ticket
    → map (actor_in market) views ≡ t.actors → state_of market words views ≡ t
state_by market words views t limits flags ticket actors = let same : state_of market words views ≡ record { limits = t.limits; flags = t.flags; ticket = t.ticket; actors = t.actors } = cc in same

-- the parts by them
pub parts_by : (market : Market) (kept : List Raise) (words : List ℕ) (views : List Sitting) (t : State) → limit_words market words ≡ t.limits → flag_words market words ≡ t.flags → slice_index words 0 ≡ t.ticket
    → map (actor_in market) views ≡ t.actors → HasParts market kept t → HasParts market kept (state_of market words views)
parts_by market kept words views t limits flags ticket actors parts = subst (HasParts market kept) (sym (state_by market words views t limits flags ticket actors)) parts

module _ (market : Market) (kept : List Raise) (id : ℕ) (v : Sitting) (some_share : 0 < v.share) (same : v.market ≡ market) (s : Table) (r : IsFloored market kept s) (at : get_elem? s.views id ≡ some v) where
  abbrev pub core : State
  core = state_of market s.words s.views

  pub ok : IsWellFormed market
  ok = well_formed market r.valid

  pub here : actor_at core id ≡ v.actor
  here = map_get (actor_in market) s.views id v nobody at ∙ seated_is market v.share v.actor some_share

  pub inside : id < length core.actors
  inside = map_within (actor_in market) s.views id v at

  -- it holds the floor
  pub holder : HoldsFloor market kept v
  holder = elim (subst (IsSeatOf market kept) (at_get s.views id v v at) (r.seats id v (at_within s.views id v at))) [
    | inl holds ↦ holds
    | inr spent ↦ absurd (let none = ap (λ (u : Sitting). u.share) spent in omega (arith, none, some_share))
  ]

  -- what the seat knows is logged, so it is a limit, and above no stable one
  known_logged : (Q : ℕ) → IsLogged core Q (slice_index v.actor.known Q)
  known_logged Q = subst (λ (a : Actor). IsLogged core Q (slice_index a.known Q)) here (r.parts.logged.known id inside Q)

  pub reached_low : (Q x : ℕ) → IsLogged core Q x → x ≤ MAX_SCORE + 1
  reached_low Q x logged =
      let low = logged_low core r.parts.raises r.parts.in_order Q x logged in
      let top = reached_top market ok zeros r.parts.raises (λ R. omega arith) r.parts.sound Q in omega (arith, low, top)

  pub passes_none : (l : Limits) → IsStable v.market l → (Q x : ℕ) → IsLogged core Q x → x ≤ l Q
  passes_none l stable Q x logged = logged_passes_none market ok kept core r.parts l (subst (λ (m : Market). IsStable m l) same stable) Q x logged

  pub seated_here : IsSeated v
  seated_here = record {
    sizes = subst (λ (m : Market). HasSizes m v.actor) (sym same) (subst (HasSizes market) here (r.parts.sized.actors id inside));
    limits = All-from_get_or (λ x. x ≤ MAX_SCORE + 1) v.actor.known 0 (λ k h. reached_low k (slice_index v.actor.known k) (known_logged k));
    low = λ l stable Q. passes_none l stable Q (slice_index v.actor.known Q) (known_logged Q);
    share = let sums = sum_set (λ u. u.share) s.views id v spent_view at in let all = r.shares in omega (arith, sums, all);
    allowance =
        let sums = sum_set (λ u. u.allowance) s.views id v spent_view at in let all = r.tickets in
        let low = kept_low market kept core r.parts in omega (arith, sums, all, low);
  }
