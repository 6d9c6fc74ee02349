-- Flags that grow, pool by pool.
use Rattle.std.proofs.Common.{◌≡◌, ℕ, zero, suc, ◌+◌, ◌<◌, Bool, true, false, ◌||◌, List, [], ◌∷◌, ◌++◌, length, get_or, set, take, nat_eq, refl, sym, ap, ◌∙◌, subst, inl, inr, arith, true≢false, eqb-true, eq-eqb, get_or-set_same, get_or-set_other, length-set, length-append}
use Rattle.std.proofs.lemmas.Bool.{cases_Bool, cases_lt, cases_eq, or_cases, or_left, or_right}
use Rattle.std.proofs.lemmas.List.{get_or_past}
use Rattle.std.proofs.lemmas.List.Elements.{All-head, All-tail, All-more, All-push, All-weaker}
use Rattle.std.proofs.lemmas.List.Folds.{list_any-append, list_any_at}
use Rattle.sl_types.specs.declared.kinds.PoolId.{PoolId}
use Rattle.sl_amend.specs.Flags.{is_flagged, is_listed, count_unflagged, AreFlagged, HasGrown}

-- a flagged pool is in range
pub flagged_in : (flags : List Bool) (P : ℕ) → is_flagged flags P ≡ true → P < length flags
flagged_in flags P h = elim (cases_lt P (length flags)) [
  | inl P_in ↦ P_in
  | inr past ↦ absurd (true≢false (sym h ∙ get_or_past flags P false past))
]

-- one pool more is flagged
count_less : (flags : List Bool) (P : ℕ) → P < length flags → is_flagged flags P ≡ false → count_unflagged (set flags P true) + 1 ≡ count_unflagged flags
count_less [] P P_in off = absurd (omega (arith, P_in))
count_less (b ∷ bs) zero P_in off = rw off (omega arith)
count_less (b ∷ bs) (suc P) P_in off =
    let rest = count_less bs P (omega (arith, P_in)) off in
    elim (cases_Bool b) [
      | inl on ↦ rw on rest
      | inr off' ↦ rw off' (omega (arith, rest))
    ]

-- one pool more on a list
pub listed_push : (todo : List PoolId) (p : PoolId) (P : ℕ) → is_listed (todo ++ p ∷ []) P ≡ (is_listed todo P || is_listed (p ∷ []) P)
listed_push todo p P = list_any-append (λ Q. nat_eq Q.0 P) todo (p ∷ [])

-- it is there
pub one_is : (p : PoolId) (P : ℕ) → p.0 ≡ P → is_listed (p ∷ []) P ≡ true
one_is p P e = or_left (nat_eq p.0 P) false (eq-eqb p.0 P e)

-- nothing was flagged
pub grown_not : (flags : List Bool) (todo : List PoolId) (by : ℕ → Bool) → HasGrown flags flags todo todo by
grown_not flags todo by = record {
  each = refl;
  kept = λ P h. h;
  only = λ P on off. absurd (true≢false (sym on ∙ off));
  stays = λ P h. h;
  joins = λ P on off. absurd (true≢false (sym on ∙ off));
  listed = λ all. all;
  room = refl;
}

-- one pool was flagged
pub grown_one : (flags later : List Bool) (todo next : List PoolId) (p : PoolId) → p.0 < length flags → is_flagged flags p.0 ≡ false
    → later ≡ set flags p.0 true → next ≡ todo ++ p ∷ [] → HasGrown flags later todo next (nat_eq p.0)
grown_one flags later todo next p p_in off le ne = rw (le, ne) (record {
  each = length-set flags p.0 true;
  kept = kept;
  only = λ P on was. eq-eqb p.0 P (new P on was);
  stays = λ P h. listed_push todo p P ∙ or_left (is_listed todo P) (is_listed (p ∷ []) P) h;
  joins = λ P on was. listed_push todo p P ∙ or_right (is_listed todo P) (is_listed (p ∷ []) P) (one_is p P (new P on was));
  listed = λ all. All-push (λ Q. is_flagged (set flags p.0 true) Q.0 ≡ true) todo p (All-weaker (λ Q. is_flagged flags Q.0 ≡ true) (λ Q. is_flagged (set flags p.0 true) Q.0 ≡ true) (λ Q. kept Q.0) todo all) (get_or-set_same flags p.0 true false p_in);
  room = let less = count_less flags p.0 p_in off in omega (arith, less, length-append todo (p ∷ []));
}) where
  kept : (P : ℕ) → is_flagged flags P ≡ true → is_flagged (set flags p.0 true) P ≡ true
  kept P on = elim (cases_eq P p.0) [
    | inl same ↦ absurd (true≢false (sym on ∙ ap (is_flagged flags) same ∙ off))
    | inr other ↦ get_or-set_other flags p.0 P true false other ∙ on
  ]

  new : (P : ℕ) → is_flagged (set flags p.0 true) P ≡ true → is_flagged flags P ≡ false → p.0 ≡ P
  new P on was = elim (cases_eq P p.0) [
    | inl same ↦ sym same
    | inr other ↦ absurd (true≢false (sym on ∙ get_or-set_other flags p.0 P true false other ∙ was))
  ]

-- flags that grew twice
pub grown_on : (flags mid later : List Bool) (todo next last : List PoolId) (one two by : ℕ → Bool) → ((P : ℕ) → one P ≡ true → by P ≡ true) → ((P : ℕ) → two P ≡ true → by P ≡ true)
    → HasGrown flags mid todo next one → HasGrown mid later next last two → HasGrown flags later todo last by
grown_on flags mid later todo next last one two by first_by second_by first second = record {
  each = second.each ∙ first.each;
  kept = λ P h. second.kept P (first.kept P h);
  only = λ P on off. elim (cases_Bool (is_flagged mid P)) [
    | inl was ↦ first_by P (first.only P was off)
    | inr not_yet ↦ second_by P (second.only P on not_yet)
  ];
  stays = λ P h. second.stays P (first.stays P h);
  joins = λ P on off. elim (cases_Bool (is_flagged mid P)) [
    | inl was ↦ second.stays P (first.joins P was off)
    | inr not_yet ↦ second.joins P on not_yet
  ];
  listed = λ all. second.listed (first.listed all);
  room = let a = first.room in let b = second.room in omega (arith, a, b);
}

-- each pool of a list is listed there
pub is_listed_at : (pools : List PoolId) (k : ℕ) (d : PoolId) → k < length pools → is_listed pools (get_or pools k d).0 ≡ true
is_listed_at pools k d k_in = list_any_at (λ Q. nat_eq Q.0 (get_or pools k d).0) pools k d k_in (eq-eqb (get_or pools k d).0 (get_or pools k d).0 refl)

-- what is listed among flagged pools is flagged
pub listed_flagged : (flags : List Bool) (pools : List PoolId) (P : ℕ) → AreFlagged flags pools → is_listed pools P ≡ true → is_flagged flags P ≡ true
listed_flagged flags [] P all h = absurd (true≢false (sym h))
listed_flagged flags (Q ∷ Qs) P all h = elim (or_cases (nat_eq Q.0 P) (is_listed Qs P) h) [
  | inl here ↦ ap (is_flagged flags) (sym (eqb-true Q.0 P here)) ∙ All-head (λ Q. is_flagged flags Q.0 ≡ true) Q Qs all
  | inr later ↦ listed_flagged flags Qs P (All-tail (λ Q. is_flagged flags Q.0 ≡ true) Q Qs all) later
]

-- one pool more of a slice
pub each_flagged : (flags later : List Bool) (todo next pools : List PoolId) (i : ℕ) (d : PoolId) → i < length pools → AreFlagged flags (take i pools)
    → is_flagged later (get_or pools i d).0 ≡ true → HasGrown flags later todo next (nat_eq (get_or pools i d).0) → AreFlagged later (take (i + 1) pools)
each_flagged flags later todo next pools i d i_in before on more =
    All-more (λ Q. is_flagged later Q.0 ≡ true) pools i d i_in (All-weaker (λ Q. is_flagged flags Q.0 ≡ true) (λ Q. is_flagged later Q.0 ≡ true) (λ Q. more.kept Q.0) (take i pools) before) on

pub each_grown : (flags mid later : List Bool) (todo next last pools : List PoolId) (i : ℕ) (d : PoolId) → i < length pools
    → HasGrown flags mid todo next (is_listed pools) → HasGrown mid later next last (nat_eq (get_or pools i d).0) → HasGrown flags later todo last (is_listed pools)
each_grown flags mid later todo next last pools i d i_in grown more =
    let p : PoolId = get_or pools i d in
    grown_on flags mid later todo next last (is_listed pools) (nat_eq p.0) (is_listed pools) (λ P h. h)
    (λ P h. subst (λ (n : ℕ). is_listed pools n ≡ true) (eqb-true p.0 P h) (is_listed_at pools i d i_in)) grown more
