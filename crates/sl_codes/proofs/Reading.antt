-- Reading record by record gives the records of a text.
use Rattle.std.proofs.Common.{◌≡◌, ◌∙◌, sym, ap, refl, arith, ℕ, zero, suc, ◌+◌, ◌≤◌, ◌==◌, ◌||◌, Bool, true, false, not, true≢false, cond, if◌then◌else◌, List, [], ◌∷◌, length, Option, Some, None, inl, inr, IfSome, Bor, IsSome, is_some, is_none, ◌&&◌, ◌⊎◌}
use Rattle.std.proofs.lemmas.Bool.{cases_Bool}
use Rattle.csv.specs.Machine.{Read, next_record, step, in_field, start_field, start_record, is_end, ends_at_end, fields_after, field_after}
use Rattle.csv.specs.Reading.{Reached, ReadRecord, Ready, records_next, records_from, default_config}
use Rattle.csv.specs.declared.parser.State.{State}
use Rattle.csv.specs.declared.parser.State.TheVariants as st
use Rattle.csv.specs.declared.parser.Action.{Action}
use Rattle.csv.specs.declared.parser.Action.TheVariants as act
use Rattle.csv.specs.declared.reader.Reader.{Reader}
use Rattle.csv.proofs.ReadFacts.{rows-end, rows-more}
use Rattle.sl_codes.specs.Reading.{records_after, records_left, bytes_left, is_ready, IsReading, GivesNext}

-- a step that ends a record leaves a state in which the end of the text ends none
abbrev Ends : State × Action → Type 0
Ends r = is_end r.1 ≡ true → ends_at_end r.0 ≡ false

no_end : (s : State) (a : Action) → is_end a ≡ false → Ends (s, a)
no_end s a e h = absurd (true≢false (sym h ∙ e))

either : (b : Bool) (x y : State × Action) → Ends x → Ends y → Ends (if b then x else y)
either true x y p q = p
either false x y p q = q

after_ends : (b : Bool) → ends_at_end (if b then st.AfterCr else st.StartRecord) ≡ false
after_ends true = refl
after_ends false = refl

in_field_ends : (c : ℕ) → Ends (in_field default_config c)
in_field_ends c = either (c == 44) _ _ (no_end st.StartField act.EndField refl) (either ((c == 13) || (c == 10)) _ _ (λ _. after_ends (c == 13)) (no_end st.InField act.Copy refl))

start_field_ends : (c : ℕ) → Ends (start_field default_config c)
start_field_ends c = either (c == 34) _ _ (no_end st.InQuoted act.Skip refl) (in_field_ends c)

start_record_ends : (c : ℕ) → Ends (start_record default_config c)
start_record_ends c = either ((c == 13) || (c == 10)) _ _ (no_end st.StartRecord act.Skip refl) (start_field_ends c)

step_ends : (s : State) (c : ℕ) → Ends (step default_config s c)
step_ends st.StartRecord c = start_record_ends c
step_ends st.StartField c = start_field_ends c
step_ends st.InField c = in_field_ends c
step_ends st.InQuoted c = either (c == 34) _ _ (no_end st.AfterQuote act.Skip refl) (no_end st.InQuoted act.Copy refl)
step_ends st.InEscape c = no_end st.InQuoted act.Copy refl
step_ends st.AfterQuote c = either (c == 34) _ _ (no_end st.InQuoted act.Copy refl) (in_field_ends c)
step_ends st.InComment c = either (c == 10) _ _ (no_end st.StartRecord act.Skip refl) (no_end st.InComment act.Skip refl)
step_ends st.AfterCr c = either (c == 10) _ _ (no_end st.StartRecord act.Skip refl) (start_record_ends c)

-- how much a text holds, with one for a record that its end would end
abbrev weight : State → List ℕ → ℕ
weight s xs = length xs + cond (ends_at_end s) 1 0

-- a record takes at least one of it
shorter : (s : State) (f : List (List ℕ)) (p : List ℕ) (xs : List ℕ) → IfSome (next_record default_config s f p xs) (λ r. weight r.1 r.2 + 1 ≤ weight s xs)
unfolding next_record
shorter s f p [] = elim (cases_Bool (ends_at_end s)) [
  | inl e ↦ rw e (omega arith)
  | inr e ↦ rw e tt
]
shorter s f p (c ∷ rest) = elim (cases_Bool (is_end (step default_config s c).1)) [
  | inl e ↦ rw (e, step_ends s c e) (omega arith)
  | inr e ↦ rw e (more s c rest (next_record default_config (step default_config s c).0 (fields_after (step default_config s c).1 f p) (field_after (step default_config s c).1 c p) rest)
      (shorter (step default_config s c).0 (fields_after (step default_config s c).1 f p) (field_after (step default_config s c).1 c p) rest))
]
  where
    more : (s : State) (c : ℕ) (rest : List ℕ) (o : Option Read) → IfSome o (λ r. weight r.1 r.2 + 1 ≤ weight (step default_config s c).0 rest) → IfSome o (λ r. weight r.1 r.2 + 1 ≤ weight s (c ∷ rest))
    more s c rest None h = tt
    more s c rest (Some r) h = elim (cases_Bool (ends_at_end (step default_config s c).0)) [
      | inl e ↦ let g = rw e at h in omega (arith, g)
      | inr e ↦ let g = rw e at h in omega (arith, g)
    ]

-- what follows the next record is the same by two functions that agree on texts that hold less
same_next : (f g : State → List ℕ → List (List (List ℕ))) (w : ℕ) (o : Option Read) → ((s : State) (xs : List ℕ) → weight s xs + 1 ≤ w → f s xs ≡ g s xs)
    → IfSome o (λ r. weight r.1 r.2 + 1 ≤ w) → records_next f o ≡ records_next g o
same_next f g w None same h = refl
same_next f g w (Some r) same h = ap (λ rs. r.0 ∷ rs) (same r.1 r.2 h)

-- a bound on the number of records that is above the weight leaves none out
same_records : (n m : ℕ) (s : State) (xs : List ℕ) → weight s xs + 1 ≤ n → weight s xs + 1 ≤ m → records_from default_config n s xs ≡ records_from default_config m s xs
unfolding records_from
same_records zero m s xs h k = absurd (omega (arith, h))
same_records (suc n) zero s xs h k = absurd (omega (arith, k))
same_records (suc n) (suc m) s xs h k =
    same_next (records_from default_config n) (records_from default_config m) (weight s xs) (next_record default_config s [] [] xs)
    (λ t ys l. same_records n m t ys (omega (arith, l, h)) (omega (arith, l, k))) (shorter s [] [] xs)

-- the records from a state are the next one and those after it
records_step : (n m : ℕ) (s : State) (xs : List ℕ) (r : Read) → next_record default_config s [] [] xs ≡ Some r → weight s xs + 1 ≤ n → weight r.1 r.2 + 1 ≤ m
    → records_from default_config n s xs ≡ r.0 ∷ records_from default_config m r.1 r.2
unfolding records_from
records_step zero m s xs r e h k = absurd (omega (arith, h))
records_step (suc n) m s xs r e h k =
    let l = rw e at (shorter s [] [] xs) in
    rw e (ap (λ rs. r.0 ∷ rs) (same_records n m r.1 r.2 (omega (arith, l, h)) k))

-- and none where there is no next one
records_end : (n : ℕ) (s : State) (xs : List ℕ) → next_record default_config s [] [] xs ≡ None → records_from default_config n s xs ≡ []
unfolding records_from
records_end zero s xs e = refl
records_end (suc n) s xs e = rw e refl

light : (s : State) (xs : List ℕ) → weight s xs + 1 ≤ length xs + 2
light s xs = elim (cases_Bool (ends_at_end s)) [
  | inl e ↦ rw e (omega arith)
  | inr e ↦ rw e (omega arith)
]

-- the records of a text from its start
pub records_start : (xs : List ℕ) → records_from default_config (length xs + 2) st.StartRecord xs ≡ records_from default_config (length xs + 1) st.StartRecord xs
records_start xs = same_records (length xs + 2) (length xs + 1) st.StartRecord xs (omega arith) (omega arith)

ready_by : {H : Type 0} (first has : Bool) (headers : Option H) → (first || (not has && is_none headers)) ≡ true
    → (first ≡ true) ⊎ ((has ≡ true) × IsSome headers) ⊎ ((has ≡ false) × (headers ≡ None))
ready_by true has headers h = inl refl
ready_by false true headers h = absurd (true≢false (sym h))
ready_by false false None h = inr (inr (refl, refl))
ready_by false false (Some x) h = absurd (true≢false (sym h))

pub known_bytes : (o : Option (List ℕ)) → is_some o ≡ true → (y : List ℕ) × (o ≡ Some y)
known_bytes None h = absurd (true≢false (sym h))
known_bytes (Some y) h = (y, refl)

records_more : (s t : State) (before after : Option (List ℕ)) (xs ys : List ℕ) (f : List (List ℕ)) (p : Read) → before ≡ Some xs → after ≡ Some ys
    → next_record default_config s [] [] xs ≡ Some p → f ≡ p.0 → p.1 ≡ t → p.2 ≡ ys → records_after s before ≡ f ∷ records_after t after
records_more s t before after xs ys f p b a e field state rest =
    let l = rw e at (shorter s [] [] xs) in
    rw (b, a, field, ← state, ← rest) (records_step (length xs + 2) (length p.2 + 2) s xs p e (light s xs) (light p.1 p.2))

-- a read of a reader gives the next record
pub gives_next : (a b : Reader (Bor (List ℕ))) (found : Bool) (f : List (List ℕ)) → IsReading a → ReadRecord (λ s. Some s.now) a b found f
    → GivesNext (records_left a false) found f (records_left b (not found))
unfolding Reached
gives_next a b false f reading r =
    let known = known_bytes (bytes_left a) reading.known in
    let gone = rows-end (λ (s : Bor (List ℕ)). Some s.now) a b f default_config known.0 reading.default known.1 r in
    rw known.1 (records_end (length known.0 + 2) a.state known.0 gone)
gives_next a b true f reading r =
    let known = known_bytes (bytes_left a) reading.known in
    let m = rows-more (λ (s : Bor (List ℕ)). Some s.now) a b f default_config a.state known.0 known.0 [] reading.default known.1 (refl, refl) r in
    records_more a.state b.state (bytes_left a) (bytes_left b) known.0 m.0 f m.2.0 known.1 m.1 m.2.1 m.2.2 m.2.3.0 m.2.3.1

-- the next read of such a reader is of one record
pub is_ready_Ready : (a : Reader (Bor (List ℕ))) → is_ready a ≡ true → Ready a
is_ready_Ready a h = ready_by a.first a.has_headers a.headers h
