-- The lists of a generated round break no rule of lists.
use Rattle.std.proofs.Common.{◌≡◌, ◌≢◌, ◌<◌, ◌≤◌, ◌+◌, ◌*◌, ◌/◌, ◌%◌, ℕ, zero, suc, true, false, List, map, length, nat_eq, nat_lt, nat_le, refl, arith, inl, inr, lt-ltb}
use Rattle.std.specs.List.{list_any, range_with_len}
use Rattle.std.proofs.Math.Nat.{div-add-mod}
use Rattle.std.proofs.lemmas.Bool.{cases_Bool, and_from}
use Rattle.std.proofs.lemmas.Nat.{mod_below}
use Rattle.sl_types.specs.declared.kinds.Entry.{Entry}
use Rattle.sl_types.specs.declared.kinds.TheConstants.{MAX_LIST, MAX_PLACE, MAX_SCORE}
use Rattle.sl_types.specs.Rules.{is_merit, is_too_long, is_misplaced, rises_from, is_out_of_order, has_score_out, names_prog, has_prog_twice}
use Rattle.sl_gen.specs.Pools.{rule_of_pool, pool_of_prog}
use Rattle.sl_gen.specs.Choices.{choice_count, prog_chosen, score_of, choice_numbered, choices_of}
use Rattle.sl_gen.proofs.Numbered.{any_numbered}
use Rattle.sl_gen.proofs.Sizes.{length-choices_of}
use Rattle.sl_gen.proofs.Failing.{not_below, not_up_to, not_equal}

-- places that count up from one
rising : (f : ℕ → Entry) → ((j : ℕ) → (f j).place ≡ j + 1) → (a n low : ℕ) → low ≤ a → rises_from low (map f (range_with_len a n)) ≡ true
rising f placed a zero low le = refl
rising f placed a (suc n) low le =
    let at_a = placed a in
    let here = lt-ltb low (f a).place (omega (arith, at_a, le)) in
    and_from (nat_lt low (f a).place) (rises_from (f a).place (map f (range_with_len (a + 1) n))) here (rising f placed (a + 1) n (f a).place (omega (arith, at_a)))

-- a programme that none of the choices within a bound names
never_named : (f : ℕ → Entry) (g most : ℕ) (a n : ℕ) → a + n ≤ most → ((j : ℕ) → a ≤ j → j < most → (f j).prog.0 ≢ g) → names_prog g (map f (range_with_len a n)) ≡ false
never_named f g most a zero le other = refl
never_named f g most a (suc n) le other =
    let here : nat_eq (f a).prog.0 g ≡ false = not_equal (f a).prog.0 g (other a (omega arith) (omega (arith, le))) in
    let later = never_named f g most (a + 1) n (omega (arith, le)) (λ j after within. other j (omega (arith, after)) within) in
    rw (here, later) refl

-- choices of which no two name one programme
never_twice : (f : ℕ → Entry) (most : ℕ) → ((i j : ℕ) → i < j → j < most → (f j).prog.0 ≢ (f i).prog.0) → (a n : ℕ) → a + n ≤ most → has_prog_twice (map f (range_with_len a n)) ≡ false
never_twice f most apart a zero le = refl
never_twice f most apart a (suc n) le =
    let here = never_named f (f a).prog.0 most (a + 1) n (omega (arith, le)) (λ j after within. apart a j (omega (arith, after)) within) in
    let later = never_twice f most apart (a + 1) n (omega (arith, le)) in
    rw (here, later) refl

-- numbers with one remainder differ by a multiple of 16, and 113 is odd
remainders_apart : (sixteens base i j p q rest : ℕ) → i < j → j < 6
    → 16 * sixteens * q + rest ≡ base + j * 113 → 16 * sixteens * p + rest ≡ base + i * 113 → ⊥
remainders_apart sixteens base i j p q rest low few at_j at_i = omega (arith, at_j, at_i)

-- so with a multiple of 16 programmes the choices of an applicant differ
prog_apart : (sixteens a i j : ℕ) → i < j → j < 6 → prog_chosen (16 * sixteens) a j ≢ prog_chosen (16 * sixteens) a i
prog_apart sixteens a i j low few same =
    let x : ℕ = a * 37 + j * 113 + (a / 400) * 16 in
    let y : ℕ = a * 37 + i * 113 + (a / 400) * 16 in
    let at_j = div-add-mod x (16 * sixteens) in
    let at_i = div-add-mod y (16 * sixteens) in
    remainders_apart sixteens (a * 37 + (a / 400) * 16) i j (y / (16 * sixteens)) (x / (16 * sixteens)) (x % (16 * sixteens)) low few
    (omega (arith, at_j)) (omega (arith, at_i, same))

-- the list of applicant a
module _ (sixteens a : ℕ) where
  abbrev list : List Entry
  list = choices_of (16 * sixteens) a

  pub not_too_long : is_too_long list ≡ false
  not_too_long = not_below MAX_LIST (length list) (omega (arith, length-choices_of (16 * sixteens) a))

  pub no_prog_out : 0 < sixteens → list_any (λ e. nat_le (16 * sixteens) e.prog.0) list ≡ false
  no_prog_out some = any_numbered (λ e. nat_le (16 * sixteens) e.prog.0) (choice_numbered (16 * sixteens) a) (choice_count a) (λ j lt.
      not_up_to (16 * sixteens) (prog_chosen (16 * sixteens) a j) (let below = mod_below (a * 37 + j * 113 + (a / 400) * 16) (16 * sixteens) (omega (arith, some)) in omega (arith, below)))

  pub in_order : is_out_of_order list ≡ false
  in_order =
      let placed = any_numbered is_misplaced (choice_numbered (16 * sixteens) a) (choice_count a) (λ j lt.
      let low = not_below (j + 1) 1 (omega arith) in
      let high = not_below MAX_PLACE (j + 1) (omega (arith, lt)) in
      rw (low, high) refl) in
      let rises = rising (choice_numbered (16 * sixteens) a) (λ j. refl) 0 (choice_count a) 0 (omega arith) in
      rw (placed, rises) refl

  pub no_prog_twice : has_prog_twice list ≡ false
  no_prog_twice = never_twice (choice_numbered (16 * sixteens) a) 6 (prog_apart sixteens a) 0 (choice_count a) (omega arith)

  score_low : (g : ℕ) → score_of a g ≤ MAX_SCORE
  score_low g = elim (cases_Bool (is_merit (rule_of_pool (pool_of_prog g).0))) [
    | inl merit ↦ rw merit (omega arith)
    | inr points ↦ rw points (omega arith)
  ]

  pub no_score_out : has_score_out list ≡ false
  no_score_out = any_numbered (λ e. nat_lt MAX_SCORE e.score) (choice_numbered (16 * sixteens) a) (choice_count a) (λ j lt.
      not_below MAX_SCORE (score_of a (prog_chosen (16 * sixteens) a j)) (score_low (prog_chosen (16 * sixteens) a j)))
