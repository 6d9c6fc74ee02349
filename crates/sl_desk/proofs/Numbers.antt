-- Numbers in lists, and numbers that are written into lists.
use Rattle.std.proofs.Common.{◌≡◌, ◌≢◌, ℕ, zero, suc, ◌+◌, ◌<◌, ◌≤◌, true, ◌||◌, nat_eq, List, [], ◌∷◌, ◌++◌, length, get_or, set, sum, refl, ap, ◌∙◌, inl, inr, arith, length-set}
use Rattle.std.specs.Prelude.{slice_index}
use Rattle.std.proofs.lemmas.Bool.{cases_Bool, or_right, eq-eqb, ne_eqb}
use Rattle.std.proofs.lemmas.Grind.{get_or-set_at}
use Rattle.std.proofs.lemmas.List.Sums.{sum_by-cons, sum_by-set}
use Rattle.std.proofs.lemmas.List.Elements.{All-set}
use Rattle.sl_types.specs.declared.kinds.TheConstants.{MAX_SCORE}
use Rattle.sl_core.proofs.Actors.{set_keeps}
use Rattle.sl_floor.specs.Held.{AreLimits}
use Rattle.sl_desk.specs.Turns.{RisesBy}
use Rattle.sl_floor.specs.Floor.{Sitting, step_on}
use Rattle.sl_desk.specs.Seats.{Stepped, HasStepped}
use Rattle.sl_desk.specs.Reading.{is_in}

in_more : (Q R : ℕ) (xs : List ℕ) → is_in Q (xs ++ R ∷ []) ≡ (is_in Q xs || nat_eq Q R)
in_more Q R [] = elim (cases_Bool (nat_eq Q R)) [ inl e ↦ rw e refl | inr e ↦ rw e refl ]
in_more Q R (x ∷ xs) = elim (cases_Bool (nat_eq Q x)) [ inl e ↦ rw e refl | inr e ↦ rw e (in_more Q R xs) ]

-- what is put at the end is in the list
pub in_here : (Q R : ℕ) (xs : List ℕ) → Q ≡ R → is_in Q (xs ++ R ∷ []) ≡ true
in_here Q R xs same = in_more Q R xs ∙ or_right (is_in Q xs) (nat_eq Q R) (eq-eqb Q R same)

-- and for other numbers nothing changes
pub in_else : (Q R : ℕ) (xs : List ℕ) → Q ≢ R → is_in Q (xs ++ R ∷ []) ≡ is_in Q xs
in_else Q R xs other = in_more Q R xs ∙ rw (ne_eqb Q R other) (elim (cases_Bool (is_in Q xs)) [ inl e ↦ rw e refl | inr e ↦ rw e refl ])

-- one more at one place
pub sum_step : (xs : List ℕ) (i : ℕ) → sum (step_on i xs) ≤ sum xs + 1
sum_step [] i = omega arith
sum_step (x ∷ xs) zero = omega (arith, sum_by-cons (λ (y : ℕ). y) x xs, sum_by-cons (λ (y : ℕ). y) (x + 1) xs)
sum_step (x ∷ xs) (suc i) = let rest = sum_step xs i in omega (arith, rest, sum_by-cons (λ (y : ℕ). y) x xs, sum_by-cons (λ (y : ℕ). y) x (step_on i xs))

pub step_up : (xs : List ℕ) (i j : ℕ) → get_or xs j 0 ≤ get_or (step_on i xs) j 0
step_up xs i j = set_keeps xs i (get_or xs i 0 + 1) (λ j y. get_or xs j 0 ≤ y) (λ j. omega arith) (omega arith) j

-- a seat that makes one more step
pub stepped_on : (before now after : Sitting) (i n : ℕ) → after.steps ≡ step_on i now.steps → Stepped before now n → Stepped before after (n + 1)
stepped_on before now after i n is s = record {
  each = ap length is ∙ (length-set now.steps i (get_or now.steps i 0 + 1) ∙ s.each);
  rises = λ j. let a = s.rises j in let b = step_up now.steps i j in let c = ap (λ xs. get_or xs j 0) is in omega (arith, a, b, c);
  few = let a = s.few in let b = sum_step now.steps i in let c = ap sum is in omega (arith, a, b, c);
}

pub has_stepped : (before now after : Sitting) (i n : ℕ) → i < length now.steps → after.steps ≡ step_on i now.steps → Stepped before now n → HasStepped before after i
has_stepped before now after i n within is s =
    let here = get_or-set_at now.steps i i (get_or now.steps i 0 + 1) 0 refl within in
    let up = s.rises i in let c = ap (λ xs. get_or xs i 0) is in omega (arith, here, up, c)

pub stepped_still : (before now after : Sitting) (i j : ℕ) → after.steps ≡ step_on i now.steps → HasStepped before now j → HasStepped before after j
stepped_still before now after i j is had = let b = step_up now.steps i j in let c = ap (λ xs. get_or xs j 0) is in omega (arith, had, b, c)

pub stepped_none : (v : Sitting) → Stepped v v 0
stepped_none v = record { each = refl; rises = λ i. omega arith; few = omega arith }

pub stepped_then : (a b c : Sitting) (m n : ℕ) → Stepped a b m → Stepped b c n → Stepped a c (m + n)
stepped_then a b c m n first second = record {
  each = second.each ∙ first.each;
  rises = λ i. let p = first.rises i in let q = second.rises i in omega (arith, p, q);
  few = let p = first.few in let q = second.few in omega (arith, p, q);
}

pub stepped_within : (a b : Sitting) (m n : ℕ) → m ≤ n → Stepped a b m → Stepped a b n
stepped_within a b m n low s = record { each = s.each; rises = s.rises; few = let p = s.few in omega (arith, p, low) }

-- limits with one more that rose
limits_set : (known : List ℕ) (Q word : ℕ) → AreLimits known → word ≤ MAX_SCORE + 1 → AreLimits (set known Q word)
limits_set known Q word all low = All-set (λ y. y ≤ MAX_SCORE + 1) known Q word low all

pub knows_set : (known : List ℕ) (Q word n : ℕ) → AreLimits known → Q < length known → slice_index known Q + n ≤ word → word ≤ MAX_SCORE + 1 → RisesBy known (set known Q word) n
knows_set known Q word n all within up low = record {
  each = length-set known Q word;
  limits = limits_set known Q word all low;
  rises = set_keeps known Q word (λ j y. get_or known j 0 ≤ y) (λ j. omega arith) (omega (arith, up));
  more = let sums = sum_by-set (λ (y : ℕ). y) known Q word 0 within in omega (arith, sums, up);
}

pub knows_none : (known : List ℕ) → AreLimits known → RisesBy known known 0
knows_none known limits = record { each = refl; limits = limits; rises = λ P. omega arith; more = omega arith }
