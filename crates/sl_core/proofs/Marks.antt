-- A mark keeps the parts.
use Rattle.std.proofs.Common.{◌≡◌, ◌≢◌, ℕ, ◌<◌, ◌≤◌, Bool, true, false, true≢false, List, All, length, get_or, set, sym, refl, ◌∙◌, subst, inl, inr, arith, length-set, get_or-set_other}
use Rattle.std.specs.Prelude.{slice_index}
use Rattle.std.proofs.lemmas.Bool.{cases_eq, cond_both}
use Rattle.std.proofs.lemmas.Grind.{get_or-set_at}
use Rattle.std.proofs.lemmas.List.Folds.{list_any_at}
use Rattle.sl_types.specs.declared.kinds.PoolId.{PoolId}
use Rattle.sl_types.specs.declared.kinds.Raise.{Raise}
use Rattle.sl_types.specs.Market.{Market}
use Rattle.sl_core.specs.declared.kinds.Phase.{Phase}
use Rattle.sl_core.specs.declared.kinds.Phase.TheVariants.{Idle, Working, Ready, Drawn, Owing}
use Rattle.sl_core.specs.State.{Actor, State, actor_at}
use Rattle.sl_core.specs.Machine.{has_any, still_owes, actor_after_mark, after_mark}
use Rattle.sl_core.specs.Parts.{done_log, has_in_hand, IsCovered, FitsPhase, HasParts}
use Rattle.sl_core.proofs.Actors.{up_within, some_set, some_here}
use Rattle.sl_core.proofs.Moves.{moved, Brings, keeps}
use Rattle.sl_core.proofs.Covers.{covers_on}

module _ (market : Market) (kept : List Raise) (s : State) (i : ℕ) (Q : ℕ) (p : HasParts market kept s) (inside : i < length s.actors)
    (P : PoolId) (is : (actor_at s i).phase ≡ Owing P) (owes : get_or (actor_at s i).owed Q false ≡ true) where
  abbrev a : Actor
  a = actor_at s i

  abbrev b : Actor
  b = actor_after_mark a Q

  abbrev owed : List Bool
  owed = set a.owed Q false

  abbrev flags : List Bool
  flags = set s.flags Q true

  -- what holds of the phase that is kept and of Idle holds of the phase afterwards
  next : (F : Phase → Type 0) → F (Owing P) → (has_any owed ≡ false → F Idle) → F b.phase
  next F on off = cond_both (has_any owed) a.phase Idle F (λ more. subst F (sym is) on) off

  covered_else : (R : ℕ) → R < length market.pools → R ≢ Q → IsCovered market (moved s i b s.limits flags) R
  covered_else R h other = covers_on market s i inside b s.limits flags R (λ flag. inl (get_or-set_other s.flags Q R true false other ∙ flag))
      (λ owed_before.
      let owed_after : get_or owed R false ≡ true = get_or-set_other a.owed Q R false false other ∙ subst (λ (ph : Phase). still_owes ph a.owed R ≡ true) is owed_before in
      next (λ ph. still_owes ph owed R ≡ true) owed_after (λ none. absurd (true≢false (sym (list_any_at (λ flag. flag) owed R false (up_within owed R owed_after) owed_after) ∙ none))))
      (λ S k feed. refl) (λ fresh. absurd (true≢false (sym (subst (λ (ph : Phase). has_in_hand R ph ≡ true) is fresh.in_hand)))) (λ st. st) (p.covered R h)

  within : Q < length market.pools
  within = let up = up_within a.owed Q owes in omega (arith, up, (p.sized.actors i inside).owed)

  brings : Brings market s i b s.limits flags
  brings = let sizes = p.sized.actors i inside in record {
    log = refl;
    sizes = record { known = sizes.known; reads = sizes.reads; made = sizes.made; left = length-set a.left Q true ∙ sizes.left; owed = length-set a.owed Q false ∙ sizes.owed };
    long = p.sized.limits;
    flagged = length-set s.flags Q true ∙ p.sized.flags;
    rise = λ R. omega arith;
    words = p.logged.limits;
    knows = p.logged.known i inside;
    reads = p.logged.reads i inside;
    raised = let all = subst (λ (ph : Phase). All (λ e. e.limit ≤ slice_index s.limits e.pool.0) (done_log ph a.log)) is (p.raised i inside) in
        next (λ ph. All (λ e. e.limit ≤ slice_index s.limits e.pool.0) (done_log ph a.log)) all (λ none. all);
    known = p.known i inside;
    phase = next (FitsPhase market b) (subst (FitsPhase market a) is (p.in_phase i inside)) (λ none. tt);
    covered = λ R h. elim (cases_eq R Q) [
      | inl same ↦ inl (get_or-set_at s.flags Q R true false same (omega (arith, within, p.sized.flags)))
      | inr other ↦ covered_else R h other
    ];
    left = λ R h flag. elim (cases_eq R Q) [
      | inl same ↦ some_here s.actors i b (λ d. get_or d.left R false ≡ true) inside (get_or-set_at a.left Q R true false same (omega (arith, within, sizes.left)))
      | inr other ↦ some_set s.actors i b (λ d. get_or d.left R false ≡ true) (λ d. get_or d.left R false ≡ true) inside (λ d f. f) (λ f. get_or-set_other a.left Q R true false other ∙ f)
          (p.left R h (sym (get_or-set_other s.flags Q R true false other) ∙ flag))
    ];
  }

  pub kept_by_mark : HasParts market kept (moved s i b s.limits flags)
  kept_by_mark = keeps market kept s i p inside b s.limits flags brings

by_phase : (market : Market) (kept : List Raise) (s : State) (i Q : ℕ) → HasParts market kept s → i < length s.actors → (ph : Phase) → (actor_at s i).phase ≡ ph → still_owes ph (actor_at s i).owed Q ≡ true
    → HasParts market kept (moved s i (actor_after_mark (actor_at s i) Q) s.limits (set s.flags Q true))
by_phase market kept s i Q p inside Idle is may = absurd (true≢false (sym may))
by_phase market kept s i Q p inside (Working P) is may = absurd (true≢false (sym may))
by_phase market kept s i Q p inside (Ready P x) is may = absurd (true≢false (sym may))
by_phase market kept s i Q p inside (Drawn P x) is may = absurd (true≢false (sym may))
by_phase market kept s i Q p inside (Owing P) is may = kept_by_mark market kept s i Q p inside P is may

pub marks_keep : (market : Market) (kept : List Raise) (s : State) (i : ℕ) (Q : PoolId) → HasParts market kept s → i < length s.actors → still_owes (actor_at s i).phase (actor_at s i).owed Q.0 ≡ true
    → HasParts market kept (after_mark s i Q)
marks_keep market kept s i Q p inside may = by_phase market kept s i Q.0 p inside (actor_at s i).phase refl may
