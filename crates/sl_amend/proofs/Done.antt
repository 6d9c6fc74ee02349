-- Flags that are put up in order of number, each where a test passes.
use Rattle.std.proofs.Common.{◌≡◌, ◌≢◌, ℕ, ◌+◌, ◌<◌, ◌≤◌, Bool, true, false, ◌||◌, List, length, set, nat_eq, refl, sym, ap, ◌∙◌, arith, inl, inr, lt_irrefl, get_or-set_other}
use Rattle.std.proofs.lemmas.Bool.{cases_eq, eq-eqb, or_right}
use Rattle.sl_amend.specs.Flags.{is_flagged}
use Rattle.sl_amend.specs.Touched.{IsFlaggedBy}
use Rattle.sl_amend.proofs.Flagged.{set_flag, or_none}

-- the flags of the first n pools are done, and the others are as they were
pub record AreDone (p : ℕ → Bool) (n : ℕ) (flags now : List Bool) : Type 0 where
  pub flagged : IsFlaggedBy p n flags now
  pub others : (P : ℕ) → n ≤ P → is_flagged now P ≡ is_flagged flags P

pub done_more : (p : ℕ → Bool) (n : ℕ) (flags mid later : List Bool) → AreDone p n flags mid → ((P : ℕ) → P ≢ n → is_flagged later P ≡ is_flagged mid P) → is_flagged later n ≡ (is_flagged mid n || p n) → AreDone p (n + 1) flags later
done_more p n flags mid later done same here = record {
  flagged = λ P P_in. elim (cases_eq P n) [
    | inl e ↦ ap (is_flagged later) e ∙ here ∙ ap (λ (b : Bool). b || p n) (done.others n (omega arith)) ∙ ap (λ (m : ℕ). is_flagged flags m || p m) (sym e)
    | inr ne ↦ same P ne ∙ done.flagged P (omega (arith, P_in, ne))
  ];
  others = λ P low. same P (λ e. lt_irrefl n (omega (arith, e, low))) ∙ done.others P (omega (arith, low));
}

pub done_hit : (p : ℕ → Bool) (n : ℕ) (flags mid later : List Bool) → AreDone p n flags mid → n < length mid → true ≡ p n → later ≡ set mid n true → AreDone p (n + 1) flags later
done_hit p n flags mid later done n_in hit le = rw le (done_more p n flags mid (set mid n true) done
    (λ P ne. get_or-set_other mid n P true false ne)
    (set_flag mid n n n_in ∙ or_right (is_flagged mid n) (nat_eq n n) (eq-eqb n n refl) ∙ sym (or_right (is_flagged mid n) (p n) (sym hit))))

pub done_miss : (p : ℕ → Bool) (n : ℕ) (flags mid later : List Bool) → AreDone p n flags mid → false ≡ p n → later ≡ mid → AreDone p (n + 1) flags later
done_miss p n flags mid later done miss le = rw le (done_more p n flags mid mid done (λ P ne. refl) (sym (or_none (is_flagged mid n) (p n) (sym miss))))
