-- A log whose tickets are the numbers from the first on, once it is sorted.
use Rattle.std.proofs.Common.{◌≡◌, ◌≢◌, ◌<◌, ◌≤◌, ◌∙◌, ◌-◌, ◌+◌, ℕ, zero, suc, List, [], ◌∷◌, ◌++◌, Some, length, map, get_or, nat_eq, nat_lt, sum_by, All, refl, sym, ap, arith, subst, inl, inr}
use Rattle.std.specs.Prelude.{slice_get}
use Rattle.std.proofs.lemmas.Bool.{cases_eq, cases_lt, lt-ltb, le-ltb, eq-eqb, ne_eqb}
use Rattle.std.proofs.lemmas.List.Sums.{sum_by-cons}
use Rattle.std.proofs.lemmas.List.Sorted.{sum_by-IsPermutation, All-permutation, IsPermutation-append_right}
use Rattle.sl_types.specs.declared.kinds.Raise.{Raise}
use Rattle.sl_types.specs.declared.kinds.Logged.{Logged}
use Rattle.sl_core.specs.State.{logged_from}
use Rattle.sl_core.specs.Parts.{once_if, raise_of}
use Rattle.sl_floor.specs.Ending.{IsOrdered}
use Rattle.sl_proof.specs.Merging.{IsByTicket, raises_of}

-- how often a ticket stands in a log
abbrev times_in : ℕ → List Logged → ℕ
times_in n log = sum_by (λ e. once_if (nat_eq e.ticket n)) log

here_once : (e : Logged) (n : ℕ) → e.ticket ≡ n → once_if (nat_eq e.ticket n) ≡ 1
here_once e n is = ap once_if (eq-eqb e.ticket n is)

else_none : (e : Logged) (n : ℕ) → e.ticket ≢ n → once_if (nat_eq e.ticket n) ≡ 0
else_none e n other = ap once_if (ne_eqb e.ticket n other)

-- a ticket of the log stands in it
stands : (s : List Logged) (i : ℕ) (d : Logged) → i < length s → 1 ≤ times_in (get_or s i d).ticket s
stands [] i d h = absurd (omega (arith, h))
stands (e ∷ s) zero d h = let one = here_once e e.ticket refl in let sums = sum_by-cons (λ (x : Logged). once_if (nat_eq x.ticket e.ticket)) e s in omega (arith, one, sums)
stands (e ∷ s) (suc i) d h =
    let t = (get_or s i d).ticket in
    let rest = stands s i d (omega (arith, h)) in let sums = sum_by-cons (λ (x : Logged). once_if (nat_eq x.ticket t)) e s in omega (arith, rest, sums)

-- where all tickets are above k, k doesn't stand
none_above : (k : ℕ) (s : List Logged) (d : Logged) → ((i : ℕ) → i < length s → k < (get_or s i d).ticket) → times_in k s ≡ 0
none_above k [] d above = refl
none_above k (e ∷ s) d above =
    let first = above 0 (omega arith) in
    let here = else_none e k (λ is. omega (arith, is, first)) in
    let rest = none_above k s d (λ i h. above (suc i) (omega (arith, h))) in
    let sums = sum_by-cons (λ (x : Logged). once_if (nat_eq x.ticket k)) e s in omega (arith, here, rest, sums)

-- the tickets of a log are the numbers from k on, as many as the raises of c, and its raises are those of c
record Numbers (k : ℕ) (s : List Logged) (c : List Raise) : Type 0 where
  pub some : (n : ℕ) → k ≤ n → n < k + length c → times_in n s ≡ 1
  pub none : (n : ℕ) → n < k → times_in n s ≡ 0
  pub over : (n : ℕ) → k + length c ≤ n → times_in n s ≡ 0
  pub placed : (i : ℕ) (d : Logged) → i < length s → slice_get c ((get_or s i d).ticket - k) ≡ Some (raise_of (get_or s i d))

step : (k : ℕ) (e : Logged) (s : List Logged) (r : Raise) (c : List Raise) → Numbers k (e ∷ s) (r ∷ c) → e.ticket ≡ k → (raise_of e ≡ r) × Numbers (suc k) s c
step k e s r c all is =
    let sums : (n : ℕ) → times_in n (e ∷ s) ≡ once_if (nat_eq e.ticket n) + times_in n s = λ n. sum_by-cons (λ (x : Logged). once_if (nat_eq x.ticket n)) e s in
    let none_more : times_in k s ≡ 0 =
    let a = all.some k (omega arith) (omega arith) in let b = here_once e k is in let m = sums k in omega (arith, a, b, m) in
    let first : slice_get (r ∷ c) 0 ≡ Some (raise_of e) =
    let zero_is : e.ticket - k ≡ 0 = omega (arith, is) in
    ap (slice_get (r ∷ c)) (sym zero_is) ∙ all.placed 0 e (omega arith) in
    let same : raise_of e ≡ r = cc in (
      same,
      record {
        some = λ n low high. let a = all.some n (omega (arith, low)) (omega (arith, high)) in let b = else_none e n (λ eq. omega (arith, is, eq, low)) in let m = sums n in omega (arith, a, b, m);
        none = λ n low. elim (cases_eq n k) [
          | inl eq ↦ ap (λ (j : ℕ). times_in j s) eq ∙ none_more
          | inr other ↦ let less : n < k = omega (arith, low, other) in let a = all.none n less in let m = sums n in omega (arith, a, m)
        ];
        over = λ n high. let a = all.over n (omega (arith, high)) in let m = sums n in omega (arith, a, m);
        placed = λ i d h.
            let t = (get_or s i d).ticket in
            let has = stands s i d h in
            let more : k < t = elim (cases_eq t k) [
              | inl eq ↦ let n = ap (λ (j : ℕ). times_in j s) eq in absurd (omega (arith, has, n, none_more))
              | inr other ↦ elim (cases_lt t k) [
                | inl less ↦ let a = all.none t less in let m = sums t in absurd (omega (arith, a, m, has))
                | inr at_least ↦ omega (arith, at_least, other)
              ]
            ] in
            let place : t - k ≡ suc (t - suc k) = omega (arith, more) in
            ap (slice_get (r ∷ c)) (sym place) ∙ all.placed (suc i) d (omega (arith, h));
      },
    )

-- a log whose tickets rise has the raises in order
walk : (k : ℕ) (s : List Logged) (c : List Raise) → ((i j : ℕ) (d : Logged) → i ≤ j → j < length s → (get_or s i d).ticket ≤ (get_or s j d).ticket) → Numbers k s c → map raise_of s ≡ c
walk k [] [] up all = refl
walk k [] (r ∷ c) up all = let one = all.some k (omega arith) (omega arith) in absurd (omega (arith, one))
walk k (e ∷ s) [] up all =
    let has = stands (e ∷ s) 0 e (omega arith) in
    elim (cases_lt e.ticket k) [
      | inl less ↦ let a = all.none e.ticket less in absurd (omega (arith, a, has))
      | inr at_least ↦ let a = all.over e.ticket (omega (arith, at_least)) in absurd (omega (arith, a, has))
    ]
walk k (e ∷ s) (r ∷ c) up all =
    let has = stands (e ∷ s) 0 e (omega arith) in
    let one = all.some k (omega arith) (omega arith) in
    let is : e.ticket ≡ k = elim (cases_lt e.ticket k) [
      | inl less ↦ let a = all.none e.ticket less in absurd (omega (arith, a, has))
      | inr at_least ↦ elim (cases_lt k e.ticket) [
        | inl above ↦
            let none' = none_above k (e ∷ s) e (λ i h. let low = up 0 i e (omega arith) h in omega (arith, low, above)) in absurd (omega (arith, none', one))
        | inr at_most ↦ omega (arith, at_least, at_most)
      ]
    ] in
    let next = step k e s r c all is in
    let rest = walk (suc k) s c (λ i j d le h. up (suc i) (suc j) d (omega (arith, le)) (omega (arith, h))) next.1 in
    ap (λ (q : Raise). q ∷ map raise_of s) next.0 ∙ ap (λ (l : List Raise). r ∷ l) rest

-- the kept raises are the front
front : (k : ℕ) (kept : List Raise) (s : List Logged) (c : List Raise) → ((i j : ℕ) (d : Logged) → i ≤ j → j < length s → (get_or s i d).ticket ≤ (get_or s j d).ticket) → Numbers k (logged_from k kept ++ s) c → kept ++ map raise_of s ≡ c
front k [] s c up all = walk k s c up all
front k (q ∷ kept) s [] up all =
    let has = stands (logged_from k (q ∷ kept) ++ s) 0 (record { ticket = k; pool = q.pool; limit = q.limit }) (omega arith) in let a = all.over k (omega arith) in absurd (omega (arith, a, has))
front k (q ∷ kept) s (r ∷ c) up all =
    let next = step k (record { ticket = k; pool = q.pool; limit = q.limit }) (logged_from (k + 1) kept ++ s) r c all refl in
    let more : k + 1 ≡ suc k = omega arith in
    let rest = front (k + 1) kept s c up (subst (λ (j : ℕ). Numbers j (logged_from (k + 1) kept ++ s) c) (sym more) next.1) in
    ap (λ (x : Raise). x ∷ (kept ++ map raise_of s)) next.0 ∙ ap (λ (l : List Raise). r ∷ l) rest

numbers_of : (log : List Logged) (c : List Raise) → ((n : ℕ) → times_in n log ≡ once_if (nat_lt n (length c))) → All (λ e. slice_get c e.ticket ≡ Some (raise_of e)) log → Numbers 0 log c
numbers_of log c once placed = record {
  some = λ n low high. once n ∙ ap once_if (lt-ltb n (length c) (omega (arith, high)));
  none = λ n low. absurd (omega (arith, low));
  over = λ n high. once n ∙ ap once_if (le-ltb n (length c) (omega (arith, high)));
  placed = λ i d h. let same : (get_or log i d).ticket - 0 ≡ (get_or log i d).ticket = omega arith in ap (slice_get c) same ∙ placed i d h;
}

-- kept raises, and then the logged ones in rising order of ticket, are the whole log's list
pub sorted_is : (kept : List Raise) (log s : List Logged) → IsByTicket log s → (c : List Raise) → IsOrdered (logged_from 0 kept ++ log) c → kept ++ raises_of s ≡ c
sorted_is kept log s by c all =
    let whole : List Logged = logged_from 0 kept ++ log in
    let moved = IsPermutation-append_right (logged_from 0 kept) log s by.same in
    front 0 kept s c by.rising (numbers_of (logged_from 0 kept ++ s) c
    (λ n. sum_by-IsPermutation (λ (e : Logged). once_if (nat_eq e.ticket n)) whole (logged_from 0 kept ++ s) moved ∙ all.once n)
    (All-permutation (λ (e : Logged). slice_get c e.ticket ≡ Some (raise_of e)) whole (logged_from 0 kept ++ s) moved all.placed))
