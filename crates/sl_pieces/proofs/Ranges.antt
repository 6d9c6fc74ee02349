-- A range of numbers is two, one after the other.
use Rattle.std.proofs.Common.{◌≡◌, ℕ, zero, suc, ◌+◌, ◌-◌, ◌≤◌, List, ◌∷◌, ◌++◌, refl, ap, ◌∙◌, arith}
use Rattle.std.specs.List.{range_with_len}

range_append : (a m n : ℕ) → range_with_len a (m + n) ≡ range_with_len a m ++ range_with_len (a + m) n
range_append a zero n =
    let e : zero + n ≡ n = omega arith in
    let f : a + zero ≡ a = omega arith in
    rw (e, f) refl
range_append a (suc m) n =
    let e : suc m + n ≡ suc (m + n) = omega arith in
    let f : a + 1 + m ≡ a + suc m = omega arith in
    rw e (ap (λ (xs : List ℕ). a ∷ xs) (rw (← f) (range_append (a + 1) m n)))

pub range_split : (a b c : ℕ) → a ≤ b → b ≤ c → range_with_len a (c - a) ≡ range_with_len a (b - a) ++ range_with_len b (c - b)
range_split a b c low high =
    let e : c - a ≡ b - a + (c - b) = omega (arith, low, high) in
    let f : a + (b - a) ≡ b = omega (arith, low) in
    ap (range_with_len a) e ∙ (range_append a (b - a) (c - b) ∙ ap (λ (x : ℕ). range_with_len a (b - a) ++ range_with_len x (c - b)) f)
