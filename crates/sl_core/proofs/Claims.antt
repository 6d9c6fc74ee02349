-- A claim keeps the parts.
use Rattle.std.proofs.Common.{◌≡◌, ◌≢◌, ℕ, ◌<◌, ◌≤◌, Bool, true, false, true≢false, List, All, length, get_or, set, sym, refl, ap, ◌∙◌, subst, inl, inr, arith, length-set, get_or-set_other}
use Rattle.std.specs.Prelude.{slice_index}
use Rattle.std.proofs.lemmas.Bool.{cases_eq, and_parts, eq-eqb}
use Rattle.std.proofs.lemmas.Grind.{get_or-set_at}
use lib.ListN.{length-replicate}
use Rattle.sl_types.specs.declared.kinds.PoolId.{PoolId}
use Rattle.sl_types.specs.declared.kinds.Raise.{Raise}
use Rattle.sl_types.specs.Market.{Market}
use Rattle.sl_core.specs.declared.kinds.Phase.{Phase}
use Rattle.sl_core.specs.declared.kinds.Phase.TheVariants.{Idle, Working, Ready, Drawn, Owing}
use Rattle.sl_core.specs.State.{Actor, State, actor_at, is_idle}
use Rattle.sl_core.specs.Machine.{may_claim, actor_after_claim, after_claim, still_owes}
use Rattle.sl_core.specs.Parts.{done_log, has_in_hand, IsFresh, IsCovered, AreCovered, AreLeft, FitsPhase, HasParts}
use Rattle.sl_core.proofs.Actors.{replicate_same, up_within, some_set, some_here}
use Rattle.sl_core.proofs.Moves.{moved, Brings, keeps}
use Rattle.sl_core.proofs.Covers.{covers_on}

pub idle_is : (ph : Phase) → is_idle ph ≡ true → ph ≡ Idle
idle_is Idle e = refl
idle_is (Working P) e = absurd (true≢false (sym e))
idle_is (Ready P x) e = absurd (true≢false (sym e))
idle_is (Drawn P x) e = absurd (true≢false (sym e))
idle_is (Owing P) e = absurd (true≢false (sym e))

module _ (market : Market) (kept : List Raise) (s : State) (i : ℕ) (Q : PoolId) (p : HasParts market kept s) (inside : i < length s.actors)
    (is : (actor_at s i).phase ≡ Idle) (left : get_or (actor_at s i).left Q.0 false ≡ true) where
  abbrev a : Actor
  a = actor_at s i

  abbrev flags : List Bool
  flags = set s.flags Q.0 false

  abbrev b : Bool → Actor
  b up = actor_after_claim market up a Q

  owes_none : (R : ℕ) → still_owes a.phase a.owed R ≡ true → ⊥
  owes_none R owes = true≢false (sym (subst (λ (ph : Phase). still_owes ph a.owed R ≡ true) is owes))

  holds_none : (R : ℕ) → IsFresh market s.limits R a → ⊥
  holds_none R fresh = true≢false (sym (subst (λ (ph : Phase). has_in_hand R ph ≡ true) is fresh.in_hand))

  flag_else : (R : ℕ) → R ≢ Q.0 → get_or flags R false ≡ get_or s.flags R false
  flag_else R other = get_or-set_other s.flags Q.0 R false false other

  flag_here : (R : ℕ) → R ≡ Q.0 → get_or flags R false ≡ false
  flag_here R same =
      let within = up_within a.left Q.0 left in
      get_or-set_at s.flags Q.0 R false false same (omega (arith, within, p.sized.flags, (p.sized.actors i inside).left))

  -- a pool other than Q
  covered_else : (up : Bool) (R : ℕ) → R < length market.pools → R ≢ Q.0 → IsCovered market (moved s i (b up) s.limits flags) R
  covered_else up R h other = covers_on market s i inside (b up) s.limits flags R (λ flag. inl (flag_else R other ∙ flag)) (λ owes. absurd (owes_none R owes)) (λ S k feed. refl) (λ fresh. absurd (holds_none R fresh)) (λ st. st) (p.covered R h)

  covered_here : (up : Bool) → get_or s.flags Q.0 false ≡ up → (R : ℕ) → R < length market.pools → R ≡ Q.0 → IsCovered market (moved s i (b up) s.limits flags) R
  covered_here true at R h same = inr (inr (inl (some_here s.actors i (b true) (IsFresh market s.limits R) inside record {
    in_hand = eq-eqb Q.0 R (sym same);
    equal = λ S k feed made. absurd (true≢false (sym made ∙ replicate_same (length market.pools) S false));
  })))
  covered_here false at R h same = covers_on market s i inside (b false) s.limits flags R (λ flag. absurd (true≢false (sym flag ∙ (ap (λ (k : ℕ). get_or s.flags k false) same ∙ at)))) (λ owes. absurd (owes_none R owes)) (λ S k feed. refl)
      (λ fresh. absurd (holds_none R fresh)) (λ st. st) (p.covered R h)

  covered : (up : Bool) → get_or s.flags Q.0 false ≡ up → AreCovered market (moved s i (b up) s.limits flags)
  covered up at R h = elim (cases_eq R Q.0) [
    | inl same ↦ covered_here up at R h same
    | inr other ↦ covered_else up R h other
  ]

  -- what is left to scan is the same, whether the flag was up or not
  left_is : (up : Bool) → (b up).left ≡ set a.left Q.0 false
  left_is true = refl
  left_is false = refl

  still_left : (up : Bool) → AreLeft market (moved s i (b up) s.limits flags)
  still_left up R h flag = elim (cases_eq R Q.0) [
    | inl same ↦ absurd (true≢false (sym flag ∙ flag_here R same))
    | inr other ↦ some_set s.actors i (b up) (λ d. get_or d.left R false ≡ true) (λ d. get_or d.left R false ≡ true) inside (λ d f. f)
        (λ f. ap (λ l. get_or l R false) (left_is up) ∙ (get_or-set_other a.left Q.0 R false false other ∙ f)) (p.left R h (sym (flag_else R other) ∙ flag))
  ]

  log_done : All (λ e. e.limit ≤ slice_index s.limits e.pool.0) a.log
  log_done = subst (λ (ph : Phase). All (λ e. e.limit ≤ slice_index s.limits e.pool.0) (done_log ph a.log)) is (p.raised i inside)

  brings : (up : Bool) → get_or s.flags Q.0 false ≡ up → Brings market s i (b up) s.limits flags
  brings true at = let sizes = p.sized.actors i inside in record {
    log = refl;
    sizes = record { known = sizes.known; reads = length-replicate (length market.pools) 0; made = length-replicate (length market.pools) false; left = length-set a.left Q.0 false ∙ sizes.left; owed = sizes.owed };
    long = p.sized.limits;
    flagged = length-set s.flags Q.0 false ∙ p.sized.flags;
    rise = λ R. omega arith;
    words = p.logged.limits;
    knows = p.logged.known i inside;
    reads = λ R. inl (replicate_same (length market.pools) R 0);
    raised = log_done;
    known = λ R. ((p.known i inside R).0, let none = replicate_same {A = ℕ} (length market.pools) R 0 in omega (arith, none));
    phase = record {
      within = let up = up_within a.left Q.0 left in omega (arith, up, sizes.left);
      asked = λ R made. absurd (true≢false (sym made ∙ replicate_same (length market.pools) R false));
      unread = λ R made. replicate_same (length market.pools) R 0;
    };
    covered = covered true at;
    left = still_left true;
  }
  brings false at = let sizes = p.sized.actors i inside in record {
    log = refl;
    sizes = record { known = sizes.known; reads = sizes.reads; made = sizes.made; left = length-set a.left Q.0 false ∙ sizes.left; owed = sizes.owed };
    long = p.sized.limits;
    flagged = length-set s.flags Q.0 false ∙ p.sized.flags;
    rise = λ R. omega arith;
    words = p.logged.limits;
    knows = p.logged.known i inside;
    reads = p.logged.reads i inside;
    raised = p.raised i inside;
    known = p.known i inside;
    phase = subst (FitsPhase market (b false)) (sym is) tt;
    covered = covered false at;
    left = still_left false;
  }

  kept_by_claim : HasParts market kept (after_claim market s i Q)
  kept_by_claim = keeps market kept s i p inside (b (get_or s.flags Q.0 false)) s.limits flags (brings (get_or s.flags Q.0 false) refl)

pub claims_keep : (market : Market) (kept : List Raise) (s : State) (i : ℕ) (Q : PoolId) → HasParts market kept s → i < length s.actors → may_claim (actor_at s i) Q.0 ≡ true → HasParts market kept (after_claim market s i Q)
claims_keep market kept s i Q p inside may =
    let both = and_parts (is_idle (actor_at s i).phase) (get_or (actor_at s i).left Q.0 false) may in
    kept_by_claim market kept s i Q p inside (idle_is (actor_at s i).phase both.0) both.1
