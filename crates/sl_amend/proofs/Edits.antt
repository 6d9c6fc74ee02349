-- The choices of an applicant, with one taken out or given another score.
use Rattle.std.proofs.Common.{◌≡◌, ◌∙◌, ◌≤◌, ◌<◌, ◌+◌, ◌&&◌, ◌||◌, ℕ, zero, suc, Bool, true, false, nat_eq, nat_lt, nat_le, List, [], ◌∷◌, length, get_or, refl, ap, arith, length-set}
use Rattle.std.specs.Prelude.{sum_by, remove}
use Rattle.std.specs.List.{list_all, list_any}
use Rattle.std.proofs.lemmas.Bool.{ltb-true, lt-ltb, and_parts, or_parts, le-leb}
use Rattle.std.proofs.lemmas.List.Edits.{length-remove}
use Rattle.std.proofs.lemmas.List.Sums.{sum_by-cons}
use Rattle.sl_types.specs.declared.kinds.Entry.{Entry}
use Rattle.sl_types.specs.declared.kinds.TheConstants.{MAX_PLACE, MAX_SCORE}
use Rattle.sl_types.specs.Rules.{rises_from, has_prog_twice, names_prog}
use Rattle.sl_amend.specs.Roll.{is_choice, is_list, no_choice, scored_at}
use Rattle.sl_amend.proofs.Fine.{fine_parts, fine_whole}

all-remove : {A : Type 0} (p : A → Bool) (xs : List A) (i : ℕ) → list_all p xs ≡ true → list_all p (remove xs i) ≡ true
all-remove p [] zero h = refl
all-remove p [] (suc i) h = refl
all-remove p (x ∷ xs) zero h = (and_parts (p x) (list_all p xs) h).1
all-remove p (x ∷ xs) (suc i) h =
    let parts = and_parts (p x) (list_all p xs) h in
    let rest = all-remove p xs i parts.1 in
    rw (parts.0, rest) refl

any-remove : {A : Type 0} (p : A → Bool) (xs : List A) (i : ℕ) → list_any p xs ≡ false → list_any p (remove xs i) ≡ false
any-remove p [] zero h = refl
any-remove p [] (suc i) h = refl
any-remove p (x ∷ xs) zero h = (or_parts (p x) (list_any p xs) h).1
any-remove p (x ∷ xs) (suc i) h =
    let parts = or_parts (p x) (list_any p xs) h in
    let rest = any-remove p xs i parts.1 in
    rw (parts.0, rest) refl

rises_lower : (low high : ℕ) (xs : List Entry) → low ≤ high → rises_from high xs ≡ true → rises_from low xs ≡ true
rises_lower low high [] le h = refl
rises_lower low high (x ∷ xs) le h =
    let parts = and_parts (nat_lt high x.place) (rises_from x.place xs) h in
    let above = ltb-true high x.place parts.0 in
    let here = lt-ltb low x.place (omega (arith, le, above)) in
    rw (here, parts.1) refl

rises-remove : (low : ℕ) (xs : List Entry) (i : ℕ) → rises_from low xs ≡ true → rises_from low (remove xs i) ≡ true
rises-remove low [] zero h = refl
rises-remove low [] (suc i) h = refl
rises-remove low (x ∷ xs) zero h =
    let parts = and_parts (nat_lt low x.place) (rises_from x.place xs) h in
    let above = ltb-true low x.place parts.0 in
    rises_lower low x.place xs (omega (arith, above)) parts.1
rises-remove low (x ∷ xs) (suc i) h =
    let parts = and_parts (nat_lt low x.place) (rises_from x.place xs) h in
    let rest = rises-remove x.place xs i parts.1 in
    rw (parts.0, rest) refl

once-remove : (xs : List Entry) (i : ℕ) → has_prog_twice xs ≡ false → has_prog_twice (remove xs i) ≡ false
once-remove [] zero h = refl
once-remove [] (suc i) h = refl
once-remove (x ∷ xs) zero h = (or_parts (names_prog x.prog.0 xs) (has_prog_twice xs) h).1
once-remove (x ∷ xs) (suc i) h =
    let parts = or_parts (names_prog x.prog.0 xs) (has_prog_twice xs) h in
    let own = any-remove (λ (e : Entry). nat_eq e.prog.0 x.prog.0) xs i parts.0 in
    let rest = once-remove xs i parts.1 in
    rw (own, rest) refl

pub sum_by-remove : {A : Type 0} (f : A → ℕ) (xs : List A) (i : ℕ) (d : A) → i < length xs → sum_by f (remove xs i) + f (get_or xs i d) ≡ sum_by f xs
sum_by-remove f [] i d lt = absurd (omega (arith, lt))
sum_by-remove f (x ∷ xs) zero d lt = omega (arith, sum_by-cons f x xs)
sum_by-remove f (x ∷ xs) (suc i) d lt =
    let rest = sum_by-remove f xs i d (omega (arith, lt)) in
    let a = sum_by-cons f x xs in
    let b = sum_by-cons f x (remove xs i) in
    omega (arith, rest, a, b)

pub fine-remove : (progs : ℕ) (xs : List Entry) (i : ℕ) → i < length xs → is_list progs xs ≡ true → is_list progs (remove xs i) ≡ true
fine-remove progs xs i lt h =
    let fine = fine_parts progs xs h in
    fine_whole progs (remove xs i) record {
      short = omega (arith, length-remove xs i lt, fine.short);
      each = all-remove (is_choice progs) xs i fine.each;
      rises = rises-remove 0 xs i fine.rises;
      once = once-remove xs i fine.once;
    }

pub fine-none : (progs : ℕ) → is_list progs [] ≡ true
fine-none progs = refl

scored : Entry → ℕ → Entry
scored e score = record e { score = score }

all-scored : (progs : ℕ) (xs : List Entry) (i score : ℕ) → score ≤ MAX_SCORE → list_all (is_choice progs) xs ≡ true → list_all (is_choice progs) (scored_at xs i score) ≡ true
all-scored progs [] i score low h = refl
all-scored progs (x ∷ xs) zero score low h =
    let parts = and_parts (is_choice progs x) (list_all (is_choice progs) xs) h in
    let a = and_parts (nat_lt x.prog.0 progs) _ parts.0 in
    let b = and_parts (nat_le 1 x.place) _ a.1 in
    let d = and_parts (nat_le x.place MAX_PLACE) (nat_le x.score MAX_SCORE) b.1 in
    let top = le-leb score MAX_SCORE low in
    rw (a.0, b.0, d.0, top, parts.1) refl
all-scored progs (x ∷ xs) (suc i) score low h =
    let parts = and_parts (is_choice progs x) (list_all (is_choice progs) xs) h in
    let rest = all-scored progs xs i score low parts.1 in
    rw (parts.0, rest) refl

rises-scored : (low : ℕ) (xs : List Entry) (i score : ℕ) → rises_from low (scored_at xs i score) ≡ rises_from low xs
rises-scored low [] i score = refl
rises-scored low (x ∷ xs) zero score = refl
rises-scored low (x ∷ xs) (suc i) score = ap (λ b. nat_lt low x.place && b) (rises-scored x.place xs i score)

names-scored : (g : ℕ) (xs : List Entry) (i score : ℕ) → names_prog g (scored_at xs i score) ≡ names_prog g xs
names-scored g [] i score = refl
names-scored g (x ∷ xs) zero score = refl
names-scored g (x ∷ xs) (suc i) score = ap (λ b. nat_eq x.prog.0 g || b) (names-scored g xs i score)

once-scored : (xs : List Entry) (i score : ℕ) → has_prog_twice (scored_at xs i score) ≡ has_prog_twice xs
once-scored [] i score = refl
once-scored (x ∷ xs) zero score = refl
once-scored (x ∷ xs) (suc i) score = rw (names-scored x.prog.0 xs i score, once-scored xs i score) refl

pub fine-scored : (progs : ℕ) (xs : List Entry) (i score : ℕ) → score ≤ MAX_SCORE → is_list progs xs ≡ true → is_list progs (scored_at xs i score) ≡ true
fine-scored progs xs i score low h =
    let fine = fine_parts progs xs h in
    fine_whole progs (scored_at xs i score) record {
      short = omega (arith, length-set xs i (record (get_or xs i no_choice) { score = score }), fine.short);
      each = all-scored progs xs i score low fine.each;
      rises = rises-scored 0 xs i score ∙ fine.rises;
      once = once-scored xs i score ∙ fine.once;
    }
