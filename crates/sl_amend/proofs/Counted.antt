-- What a roll counts, after one list has changed.
use Rattle.std.proofs.Common.{◌≡◌, ◌∙◌, ◌≤◌, ◌<◌, ◌+◌, ◌-◌, ◌++◌, ℕ, zero, suc, Bool, true, false, List, [], ◌∷◌, length, set, get_or, Option, refl, sym, ap, arith, length-set, length-append}
use Rattle.std.specs.Prelude.{sum_by, cond, Result, Ok, Err, OnErr}
use Rattle.std.specs.List.{list_all}
use Rattle.std.proofs.lemmas.Bool.{and_parts}
use Rattle.std.proofs.lemmas.List.Sums.{sum_by_push, sum_by-set, sum_by-cons, get_or-le-sum_by, count_by-le-length, AllPass-from_list_all}
use Rattle.sl_types.specs.declared.kinds.Entry.{Entry}
use Rattle.sl_types.specs.declared.kinds.TheConstants.{MAX_APPLICANTS, MAX_CHOICES}
use Rattle.sl_amend.specs.declared.merits.Merits.{Merits}
use Rattle.sl_amend.specs.Merits.{held_at, has_key, count_in, count_over, SameTrees}
use Rattle.sl_amend.specs.Roll.{IsCounted, is_list, programmes}

pub all_set : {A : Type 0} (p : A → Bool) (xs : List A) (i : ℕ) (y : A) → p y ≡ true → list_all p xs ≡ true → list_all p (set xs i y) ≡ true
all_set p [] i y here h = refl
all_set p (x ∷ xs) zero y here h = let parts = and_parts (p x) (list_all p xs) h in rw (here, parts.1) refl
all_set p (x ∷ xs) (suc i) y here h =
    let parts = and_parts (p x) (list_all p xs) h in
    let rest = all_set p xs i y here parts.1 in
    rw (parts.0, rest) refl

pub sum_mono : {A : Type 0} (f g : A → ℕ) (xs : List A) → ((x : A) → f x ≤ g x) → sum_by f xs ≤ sum_by g xs
sum_mono f g [] h = omega arith
sum_mono f g (x ∷ xs) h =
    let a = sum_by-cons f x xs in
    let b = sum_by-cons g x xs in
    let rest = sum_mono f g xs h in
    omega (arith, a, b, rest, h x)

-- no more choices hold a number than there are
pub held_low : (trees : List (Option ℕ)) (key : ℕ) (lists : List (List Entry)) → count_over trees key lists ≤ sum_by length lists
held_low trees key lists = sum_mono (count_in trees key) length lists (λ l. count_by-le-length (has_key trees key) l)

pub roll_held : (merits : Merits) (lists : List (List Entry)) (present : List Bool) (n m : ℕ) → IsCounted merits lists present n m → (key : ℕ) → held_at merits key ≤ m
roll_held merits lists present n m h key = omega (arith, h.held key, held_low merits.trees.items key lists, h.choice_count)

pub roll_low : (merits : Merits) (lists : List (List Entry)) (present : List Bool) (n m : ℕ) → IsCounted merits lists present n m → (key : ℕ) → held_at merits key < 4294967295
roll_low merits lists present n m h key = omega (arith, h.held key, held_low merits.trees.items key lists, h.choice_count, h.few_applications)

-- one list has changed
pub list_changed : (merits new : Merits) (lists more : List (List Entry)) (present : List Bool) (n m after a : ℕ) (choices : List Entry) → IsCounted merits lists present n m → a < length lists
    → more ≡ set lists a choices → SameTrees merits new → is_list (programmes merits) choices ≡ true → after + length (get_or lists a []) ≡ m + length choices → after ≤ MAX_CHOICES
    → ((key : ℕ) → held_at new key + count_in merits.trees.items key (get_or lists a []) ≡ held_at merits key + count_in merits.trees.items key choices)
    → IsCounted new more present n after
list_changed merits new lists more present n m after a choices h lt written trees fine count few held =
    let progs : programmes new ≡ programmes merits = ap (λ (ts : List (Option ℕ)). length ts) trees in
    let sums = sum_by-set length lists a choices [] lt in
    record {
      each = h.each ∙ sym (ap (λ (ls : List (List Entry)). length ls) written ∙ length-set lists a choices);
      in_order = rw (progs, written) (all_set (is_list (programmes merits)) lists a choices fine h.in_order);
      present_count = h.present_count;
      choice_count = rw written (omega (arith, sums, count, h.choice_count));
      few_applicants = h.few_applicants;
      few_applications = few;
      held = λ key. rw (trees, written) (omega (arith, sum_by-set (count_in merits.trees.items key) lists a choices [] lt, held key, h.held key));
    }

-- the list of each applicant is in order
pub fine_at : (merits : Merits) (lists : List (List Entry)) (present : List Bool) (n m a : ℕ) → IsCounted merits lists present n m → a < length lists → is_list (programmes merits) (get_or lists a []) ≡ true
fine_at merits lists present n m a h lt = AllPass-from_list_all (is_list (programmes merits)) lists h.in_order a [] lt

-- what is counted over one list is within what is counted over all
pub own_counted : (merits : Merits) (lists : List (List Entry)) (present : List Bool) (n m a key : ℕ) → IsCounted merits lists present n m → a < length lists
    → count_in merits.trees.items key (get_or lists a []) ≤ held_at merits key
own_counted merits lists present n m a key h lt = omega (arith, h.held key, get_or-le-sum_by (count_in merits.trees.items key) lists a [] lt)

pub own_short : (merits : Merits) (lists : List (List Entry)) (present : List Bool) (n m a : ℕ) → IsCounted merits lists present n m → a < length lists → length (get_or lists a []) ≤ m
own_short merits lists present n m a h lt = omega (arith, h.choice_count, get_or-le-sum_by length lists a [] lt)

-- one applicant is present no longer
pub one_left : (merits : Merits) (lists : List (List Entry)) (present : List Bool) (n m a : ℕ) → IsCounted merits lists present n m → a < length present → get_or present a false ≡ true
    → IsCounted merits lists (set present a false) (n - 1) m
one_left merits lists present n m a h lt here =
    let sums = sum_by-set (λ (b : Bool). cond b 1 0) present a false false lt in
    let tally : Bool → ℕ = λ b. cond b 1 0 in
    let one : tally (get_or present a false) ≡ 1 = ap tally here in
    let length_same = length-set present a false in
    record {
      each = length_same ∙ h.each;
      in_order = h.in_order;
      choice_count = h.choice_count;
      few_applications = h.few_applications;
      held = h.held;
      present_count = omega (arith, h.present_count, sums, one);
      few_applicants = omega (arith, h.few_applicants);
    }

pub all_push : {A : Type 0} (p : A → Bool) (xs : List A) (y : A) → p y ≡ true → list_all p xs ≡ true → list_all p (xs ++ y ∷ []) ≡ true
all_push p [] y here h = rw here refl
all_push p (x ∷ xs) y here h =
    let parts = and_parts (p x) (list_all p xs) h in
    let rest = all_push p xs y here parts.1 in
    rw (parts.0, rest) refl

-- one more applicant, who is present
pub one_more : (merits new : Merits) (lists : List (List Entry)) (present : List Bool) (n m : ℕ) (choices : List Entry) → IsCounted merits lists present n m → SameTrees merits new
    → is_list (programmes merits) choices ≡ true → n < MAX_APPLICANTS → m + length choices ≤ MAX_CHOICES
    → ((key : ℕ) → held_at new key ≡ held_at merits key + count_in merits.trees.items key choices)
    → IsCounted new (lists ++ choices ∷ []) (present ++ true ∷ []) (n + 1) (m + length choices)
one_more merits new lists present n m choices h trees fine few_applicants few held =
    let progs : programmes new ≡ programmes merits = ap (λ (ts : List (Option ℕ)). length ts) trees in
    let a = length-append lists (choices ∷ []) in
    let b = length-append present (true ∷ []) in
    let sums = sum_by_push length lists choices in
    let tally : Bool → ℕ = λ b. cond b 1 0 in
    let here = sum_by_push tally present true in
    let one : tally true ≡ 1 = refl in
    record {
      each = omega (arith, a, b, h.each);
      in_order = rw progs (all_push (is_list (programmes merits)) lists choices fine h.in_order);
      present_count = omega (arith, here, one, h.present_count);
      choice_count = omega (arith, sums, h.choice_count);
      few_applicants = omega (arith, few_applicants);
      few_applications = few;
      held = λ key. rw trees (omega (arith, sum_by_push (count_in merits.trees.items key) lists choices, held key, h.held key));
    }

-- what holds anyway
pub always_err : {T E : Type 0} (r : Result T E) (P : Type 0) → P → OnErr r P
always_err (Ok x) P p = tt
always_err (Err e) P p = p
