-- What it means that a pool feeds another.
use Rattle.std.proofs.Common.{◌≡◌, ◌≢◌, ℕ, zero, suc, ◌<◌, ◌≤◌, Bool, true, false, ◌&&◌, not, List, [], ◌∷◌, length, nat_eq, HoldsAt, sym, ap, ◌∙◌, arith, inl, inr, true≢false, ne_eqb, eq-eqb}
use Rattle.std.proofs.lemmas.Bool.{or_cases, or_left, or_right, and_parts, and_from}
use Rattle.std.proofs.lemmas.List.Folds.{list_any_at}
use Rattle.std.specs.List.{list_any}
use Rattle.sl_types.specs.declared.kinds.Entry.{Entry}
use Rattle.sl_types.specs.Market.{Market, list_of}
use Rattle.sl_laws.specs.Stable.{leads, is_choice_in, HasInOrder}
use Rattle.sl_laws.specs.Laws.{FeedsSays}

-- where a test passes
any_holds : {A : Type 0} (p : A → Bool) (xs : List A) → list_any p xs ≡ true → (k : ℕ) × (k < length xs) × HoldsAt (λ x. p x ≡ true) xs k
any_holds p [] h = absurd (true≢false (sym h))
any_holds p (x ∷ xs) h = elim (or_cases (p x) (list_any p xs) h) [
  | inl here ↦ (0, omega arith, λ d. here)
  | inr later ↦ let t = any_holds p xs later in (suc t.0, (let a = t.1 in omega (arith, a)), t.2)
]

through : (market : Market) (Q P : ℕ) (es : List Entry) → leads market Q P es ≡ true → HasInOrder market Q P es
through market Q P [] h = absurd (true≢false (sym h))
through market Q P (e ∷ es) h = elim (or_cases (is_choice_in market Q e && list_any (is_choice_in market P) (e ∷ es)) (leads market Q P es) h) [
  | inl here ↦
      let b = and_parts (is_choice_in market Q e) (list_any (is_choice_in market P) (e ∷ es)) here in
      let k = any_holds (is_choice_in market P) (e ∷ es) b.1 in
      (0, k.0, omega arith, k.1, (λ d. b.0), k.2)
  | inr later ↦ let t = through market Q P es later in (suc t.0, suc t.1, (let a = t.2 in omega (arith, a)), (let a = t.3 in omega (arith, a)), t.4, t.5)
]

leads_at : (market : Market) (Q P : ℕ) (es : List Entry) (i j : ℕ) → i ≤ j → j < length es → HoldsAt (λ e. is_choice_in market Q e ≡ true) es i → HoldsAt (λ e. is_choice_in market P e ≡ true) es j → leads market Q P es ≡ true
leads_at market Q P [] i j low j_in at_i at_j = absurd (omega (arith, j_in))
leads_at market Q P (e ∷ es) zero j low j_in at_i at_j = or_left (is_choice_in market Q e && list_any (is_choice_in market P) (e ∷ es)) (leads market Q P es)
    (and_from (is_choice_in market Q e) (list_any (is_choice_in market P) (e ∷ es)) (at_i e) (list_any_at (is_choice_in market P) (e ∷ es) j e j_in (at_j e)))
leads_at market Q P (e ∷ es) (suc i) zero low j_in at_i at_j = absurd (omega (arith, low))
leads_at market Q P (e ∷ es) (suc i) (suc j) low j_in at_i at_j = or_right (is_choice_in market Q e && list_any (is_choice_in market P) (e ∷ es)) (leads market Q P es)
    (leads_at market Q P es i j (omega (arith, low)) (omega (arith, j_in)) at_i at_j)

not_eq : (Q P : ℕ) → not (nat_eq Q P) ≡ true → Q ≢ P
not_eq Q P h e = let a : nat_eq Q P ≡ true = eq-eqb Q P e in let b : not (nat_eq Q P) ≡ false = ap not a in true≢false (sym h ∙ b)

-- Q feeds P where some applicant has a choice in Q, and that or a later one in P
pub feeds_says : (market : Market) → FeedsSays market
feeds_says market Q P = (
  (λ f.
      let b = and_parts (not (nat_eq Q P)) (list_any (leads market Q P) market.lists) f in
      let k = any_holds (leads market Q P) market.lists b.1 in
      (not_eq Q P b.0, (k.0, k.1, through market Q P (list_of market k.0) (k.2 [])))),
  (λ s.
      let a = s.1.0 in
      let t = s.1.2 in
      and_from (not (nat_eq Q P)) (list_any (leads market Q P) market.lists) (ap not (ne_eqb Q P s.0))
      (list_any_at (leads market Q P) market.lists a [] s.1.1 (leads_at market Q P (list_of market a) t.0 t.1 t.2 t.3 t.4 t.5))),
)
