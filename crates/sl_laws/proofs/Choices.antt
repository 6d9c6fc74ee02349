-- Who is admitted where, as tests on a list of choices change.
use Rattle.std.proofs.Common.{◌≡◌, ◌≤◌, Bool, true, false, List, [], ◌∷◌, length, find, filter, position, nat_lt, not, slice_get, All, ap, refl, sym, ℕ, ltb-false, ◌∙◌, arith, inl, inr, true≢false}
use Rattle.std.proofs.lemmas.Bool.{cases_Bool, or_parts}
use Rattle.std.proofs.lemmas.List.Elements.{All-head, All-tail}
use Rattle.std.specs.List.{list_any, position_or_len}
use Rattle.std.specs.Option.{unwrap_or}
use Rattle.std.proofs.lemmas.List.Sums.{prefix_len-le-length}
use Rattle.std.proofs.lemmas.List.Folds.{find_at}
use Rattle.sl_types.specs.Market.{Market}
use Rattle.sl_types.specs.declared.kinds.Entry.{Entry}
use Rattle.sl_laws.specs.Limits.{Limits, is_eligible, admitted_choice, passes}

both_ways : {A : Type 0} (b : Bool) → b ≡ true → b ≡ false → A
both_ways b h k = absurd (true≢false (sym h ∙ k))

-- a test that passes more keeps no fewer
pub filter_more : {A : Type 0} (p q : A → Bool) (xs : List A) → All (λ x. p x ≡ true → q x ≡ true) xs → length (filter p xs) ≤ length (filter q xs)
filter_more p q [] all = omega arith
filter_more p q (x ∷ xs) all =
    let rest = filter_more p q xs (All-tail (λ x. p x ≡ true → q x ≡ true) x xs all) in
    elim (cases_Bool (p x)) [
      | inl hit ↦ let also = All-head (λ x. p x ≡ true → q x ≡ true) x xs all hit in rw (hit, also) (omega (arith, rest))
      | inr miss ↦ elim (cases_Bool (q x)) [
        | inl hit ↦ rw (miss, hit) (omega (arith, rest))
        | inr never ↦ rw (miss, never) rest
      ]
    ]

-- tests that agree on a list keep the same of it
pub filter_same : {A : Type 0} (p q : A → Bool) (xs : List A) → All (λ x. p x ≡ q x) xs → filter p xs ≡ filter q xs
filter_same p q [] all = refl
filter_same p q (x ∷ xs) all = rw (All-head (λ x. p x ≡ q x) x xs all, filter_same p q xs (All-tail (λ x. p x ≡ q x) x xs all)) refl

-- where the choices that pass g become easier, and the others harder, whoever was admitted to one that passes g still is
abbrev pub Eases : (Entry → Bool) → (Entry → Bool) → (Entry → Bool) → Entry → Type 0
Eases g p q e = (g e ≡ true → p e ≡ true → q e ≡ true) × (g e ≡ false → q e ≡ true → p e ≡ true)

-- who is admitted where g passes stays so, as choices that pass g get easier and the others harder
pub admits_more : (g p q : Entry → Bool) (es : List Entry) → All (Eases g p q) es → passes g (find p es) ≡ true → passes g (find q es) ≡ true
admits_more g p q [] all h = h
admits_more g p q (e ∷ es) all h = elim (cases_Bool (p e)) [
  | inl hit ↦
      let in_g : g e ≡ true = rw hit at h in
      let also = (All-head (Eases g p q) e es all).0 in_g hit in
      rw also in_g
  | inr miss ↦
      let later : passes g (find p es) ≡ true = rw miss at h in
      elim (cases_Bool (q e)) [
        | inl hit ↦ elim (cases_Bool (g e)) [
          | inl in_g ↦ rw hit in_g
          | inr out ↦ both_ways (p e) ((All-head (Eases g p q) e es all).1 out hit) miss
        ]
        | inr never ↦ rw never (admits_more g p q es (All-tail (Eases g p q) e es all) later)
      ]
]

-- two tests that agree at each choice up to the last that passes g
abbrev pub AgreeUpTo : (Entry → Bool) → (Entry → Bool) → (Entry → Bool) → List Entry → Type 0
AgreeUpTo g p q [] = Unit {0}
AgreeUpTo g p q (e ∷ es) = (list_any g (e ∷ es) ≡ true → p e ≡ q e) × AgreeUpTo g p q es

-- where no choice passes g, no admitted choice passes f
pub none_passes : (f g p : Entry → Bool) → ((e : Entry) → f e ≡ true → g e ≡ true) → (es : List Entry) → list_any g es ≡ false → passes f (find p es) ≡ false
none_passes f g p within [] none = refl
none_passes f g p within (e ∷ es) never = elim (cases_Bool (p e)) [
  | inl hit ↦ rw hit (elim (cases_Bool (f e)) [
    | inl in_f ↦ both_ways (g e) (within e in_f) (or_parts (g e) (list_any g es) never).0
    | inr out ↦ out
  ])
  | inr miss ↦ rw miss (none_passes f g p within es (or_parts (g e) (list_any g es) never).1)
]

-- they admit alike, as far as choices that pass g go
pub admits_alike : (f g p q : Entry → Bool) → ((e : Entry) → f e ≡ true → g e ≡ true) → (es : List Entry) → AgreeUpTo g p q es → passes f (find p es) ≡ passes f (find q es)
admits_alike f g p q within [] all = refl
admits_alike f g p q within (e ∷ es) all = elim (cases_Bool (list_any g (e ∷ es))) [
  | inl ever ↦
      let same = all.0 ever in
      elim (cases_Bool (p e)) [
        | inl hit ↦ let also : q e ≡ true = sym same ∙ hit in rw (hit, also) refl
        | inr miss ↦ let also : q e ≡ false = sym same ∙ miss in rw (miss, also) (admits_alike f g p q within es all.1)
      ]
  | inr never ↦ none_passes f g p within (e ∷ es) never ∙ sym (none_passes f g q within (e ∷ es) never)
]

-- the first place that passes, or the length
pub first_or_len : {A : Type 0} (p : A → Bool) (xs : List A) → unwrap_or (position p xs) (length xs) ≡ position_or_len p xs
first_or_len p xs = elim (cases_Bool (nat_lt (position_or_len p xs) (length xs))) [
  | inl some ↦ rw some refl
  | inr none ↦
      let past = ltb-false (position_or_len p xs) (length xs) none in
      let low = prefix_len-le-length (λ x. not (p x)) xs in
      rw none (omega (arith, past, low))
]

-- what stands at the first place that passes is the first choice that does
pub admitted_at : (market : Market) (t : Limits) (es : List Entry) (n : ℕ) → n ≡ position_or_len (is_eligible market t) es → slice_get es n ≡ admitted_choice market t es
admitted_at market t es n e = ap (slice_get es) e ∙ sym (find_at (is_eligible market t) es)

pub ruleset admit_steps = (first_or_len, admitted_at)
