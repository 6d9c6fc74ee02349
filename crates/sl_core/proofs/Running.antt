-- The machine's fields after a step have the parts.
use Rattle.std.proofs.Common.{◌≡◌, ℕ, zero, suc, ◌+◌, ◌<◌, max, Bool, true, false, true≢false, not, ◌&&◌, nat_lt, List, [], ◌∷◌, length, get_or, set, refl, sym, ◌∙◌, ap, subst, arith}
use Rattle.std.specs.Prelude.{slice_index}
use Rattle.std.proofs.lemmas.Bool.{and_parts, ltb-true}
use Rattle.sl_types.specs.declared.kinds.PoolId.{PoolId}
use Rattle.sl_types.specs.Market.{Market}
use Rattle.sl_types.specs.WellFormed.{IsWellFormed}
use Rattle.sl_core.specs.declared.kinds.Phase.{Phase}
use Rattle.sl_core.specs.declared.kinds.Phase.TheVariants.{Idle, Working, Ready, Drawn, Owing}
use Rattle.sl_core.specs.State.{Actor, State, actor_at, nobody}
use Rattle.sl_core.specs.Machine.{is_asked, may_claim, actor_after_claim, may_read, actor_after_read, may_draw, actor_after_draw, may_raise, actor_after_raise, after_raising_by, still_owes, actor_after_mark}
use Rattle.sl_core.specs.Parts.{FitsPhase, HasParts}
use Rattle.sl_core.proofs.Claims.{claims_keep}
use Rattle.sl_core.proofs.Reading.{reads_keep}
use Rattle.sl_core.proofs.Draws.{draws_keep}
use Rattle.sl_core.proofs.Raises.{raises_keep}
use Rattle.sl_core.proofs.Marks.{marks_keep}

-- what stands in a list is the same for each default
pub other_default : {A : Type 0} (xs : List A) (k : ℕ) (d e : A) → k < length xs → get_or xs k d ≡ get_or xs k e
other_default [] k d e h = absurd (omega (arith, h))
other_default (x ∷ xs) zero d e h = refl
other_default (x ∷ xs) (suc k) d e h = other_default xs k d e (omega (arith, h))

-- an actor that was read at its place
pub actor_is : (actors : List Actor) (at : ℕ) (a : Actor) → at < length actors → a ≡ get_or actors at a → a ≡ get_or actors at nobody
actor_is actors at a inside is = is ∙ other_default actors at a nobody inside

-- a number that was read at its place
pub number_at : (xs : List ℕ) (k w : ℕ) → k < length xs → w ≡ get_or xs k w → w ≡ slice_index xs k
number_at xs k w h is = is ∙ other_default xs k w 0 h

-- what may be read is a pool's
pub read_within : (market : Market) (ph : Phase) (a : Actor) (Q : ℕ) → may_read market ph a Q ≡ true → Q < length market.pools
read_within market Idle a Q may = ltb-true Q (length market.pools) may
read_within market (Working P) a Q may =
    let first = and_parts (nat_lt Q (length market.pools) && is_asked market P.0 Q) (not (get_or a.made Q false)) may in
    ltb-true Q (length market.pools) (and_parts (nat_lt Q (length market.pools)) (is_asked market P.0 Q) first.0).0
read_within market (Ready P x) a Q may = absurd (true≢false (sym may))
read_within market (Drawn P x) a Q may = absurd (true≢false (sym may))
read_within market (Owing P) a Q may = absurd (true≢false (sym may))

module _ (market : Market) (limits : List ℕ) (flags : List Bool) (ticket : ℕ) (actors : List Actor)
    (p : HasParts market [] (record { limits = limits; flags = flags; ticket = ticket; actors = actors })) (at : ℕ) (inside : at < length actors) (old new : Actor) (is : old ≡ get_or actors at old) where
  abbrev s : State
  s = record { limits = limits; flags = flags; ticket = ticket; actors = actors }

  old_is : old ≡ actor_at s at
  old_is = is ∙ other_default actors at old nobody inside

  pub claim_runs : (Q : PoolId) → may_claim (actor_at s at) Q.0 ≡ true → new ≡ actor_after_claim market (get_or flags Q.0 false) old Q
      → HasParts market [] (record { limits = limits; flags = set flags Q.0 false; ticket = ticket; actors = set actors at new })
  claim_runs Q may same =
      let same' : new ≡ actor_after_claim market (get_or flags Q.0 false) (actor_at s at) Q = same ∙ ap (λ (a : Actor). actor_after_claim market (get_or flags Q.0 false) a Q) old_is in
      subst (λ (b : Actor). HasParts market [] (record { limits = limits; flags = set flags Q.0 false; ticket = ticket; actors = set actors at b })) (sym same') (claims_keep market [] s at Q p inside may)

  pub read_runs : IsWellFormed market → (Q : PoolId) → may_read market (actor_at s at).phase (actor_at s at) Q.0 ≡ true → new ≡ actor_after_read market old.phase old Q.0 (slice_index limits Q.0)
      → HasParts market [] (record { limits = limits; flags = flags; ticket = ticket; actors = set actors at new })
  read_runs ok Q may same =
      let same' : new ≡ actor_after_read market (actor_at s at).phase (actor_at s at) Q.0 (slice_index limits Q.0) = same ∙ ap (λ (a : Actor). actor_after_read market a.phase a Q.0 (slice_index limits Q.0)) old_is in
      subst (λ (b : Actor). HasParts market [] (record { limits = limits; flags = flags; ticket = ticket; actors = set actors at b })) (sym same') (reads_keep market ok [] s at Q p inside may)

  pub draw_runs : IsWellFormed market → (x next : ℕ) → may_draw (actor_at s at).phase x ≡ true → next ≡ ticket + 1 → new ≡ actor_after_draw old.phase old ticket
      → HasParts market [] (record { limits = limits; flags = flags; ticket = next; actors = set actors at new })
  draw_runs ok x next may more same =
      let same' : new ≡ actor_after_draw (actor_at s at).phase (actor_at s at) ticket = same ∙ ap (λ (a : Actor). actor_after_draw a.phase a ticket) old_is in
      let after = subst (λ (b : Actor). HasParts market [] (record { limits = limits; flags = flags; ticket = ticket + 1; actors = set actors at b })) (sym same') (draws_keep market ok [] s at x p inside may) in
      subst (λ (n : ℕ). HasParts market [] (record { limits = limits; flags = flags; ticket = n; actors = set actors at new })) (sym more) after

  pub raise_runs : IsWellFormed market → (P : PoolId) (x word : ℕ) → (actor_at s at).phase ≡ Drawn P x → word ≡ max (slice_index limits P.0) x → new ≡ actor_after_raise market P x old (slice_index limits P.0)
      → HasParts market [] (record { limits = set limits P.0 word; flags = flags; ticket = ticket; actors = set actors at new })
  raise_runs ok P x word here most same =
      let may' : may_raise (actor_at s at).phase ≡ true = ap may_raise here in
      let same' : new ≡ actor_after_raise market P x (actor_at s at) (slice_index limits P.0) = same ∙ ap (λ (a : Actor). actor_after_raise market P x a (slice_index limits P.0)) old_is in
      let after : HasParts market [] (after_raising_by market (Drawn P x) s at) = subst (λ (ph : Phase). HasParts market [] (after_raising_by market ph s at)) here (raises_keep market ok [] s at p inside may') in
      let there = subst (λ (b : Actor). HasParts market [] (record { limits = set limits P.0 (max (slice_index limits P.0) x); flags = flags; ticket = ticket; actors = set actors at b })) (sym same') after in
      subst (λ (y : ℕ). HasParts market [] (record { limits = set limits P.0 y; flags = flags; ticket = ticket; actors = set actors at new })) (sym most) there

  pub mark_runs : (Q : PoolId) → still_owes (actor_at s at).phase (actor_at s at).owed Q.0 ≡ true → new ≡ actor_after_mark old Q.0
      → HasParts market [] (record { limits = limits; flags = set flags Q.0 true; ticket = ticket; actors = set actors at new })
  mark_runs Q may same =
      let same' : new ≡ actor_after_mark (actor_at s at) Q.0 = same ∙ ap (λ (a : Actor). actor_after_mark a Q.0) old_is in
      subst (λ (b : Actor). HasParts market [] (record { limits = limits; flags = set flags Q.0 true; ticket = ticket; actors = set actors at b })) (sym same') (marks_keep market [] s at Q p inside may)

  -- the pool of a raise in hand has a word
  pub drawn_within : (P : PoolId) (x : ℕ) → (actor_at s at).phase ≡ Drawn P x → P.0 < length limits
  drawn_within P x here =
      let fits = subst (FitsPhase market (actor_at s at)) here (p.in_phase at inside) in
      let wide = p.sized.limits in
      let within = fits.0.reading.within in
      omega (arith, within, wide)
