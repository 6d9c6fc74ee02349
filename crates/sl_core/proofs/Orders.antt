-- The list of raises in order of ticket: how high its limits are, and that it can take one more.
use Rattle.std.proofs.Common.{◌≡◌, ℕ, zero, suc, ◌+◌, ◌<◌, ◌≤◌, Bool, true, true≢false, ◌&&◌, max, List, [], ◌∷◌, ◌++◌, Some, length, get_or, nat_lt, nat_eq, sum_by, sym, refl, subst, inl, inr, arith}
use Rattle.std.specs.Prelude.{slice_get}
use Rattle.std.specs.List.{list_any}
use Rattle.std.proofs.lemmas.Bool.{cases_order, or_cases, and_parts, eqb-true, lt-ltb, le-ltb, eq-eqb, ne_eqb}
use Rattle.std.proofs.lemmas.List.Sums.{sum_by-append, sum_by-cons}
use Rattle.sl_types.specs.declared.kinds.Raise.{Raise}
use Rattle.sl_types.specs.declared.kinds.Logged.{Logged}
use Rattle.sl_types.specs.Market.{Market}
use Rattle.sl_laws.specs.Limits.{Limits}
use Rattle.sl_laws.specs.Raises.{EachRaise, after_raise, after_raises, limits_after, zeros}
use Rattle.sl_laws.proofs.Least.{raised_up}
use Rattle.sl_laws.proofs.Effective.{with_limit_here}
use Rattle.sl_core.specs.State.{State, actor_at}
use Rattle.sl_core.specs.Parts.{IsLogged, raise_of, once_if, AreInOrder}

-- no number falls along a list
pub after_up : (t : Limits) (c : List Raise) (Q : ℕ) → t Q ≤ after_raises t c Q
after_up t [] Q = omega arith
after_up t (r ∷ c) Q = let here = raised_up t r Q in let rest = after_up (after_raise t r) c Q in omega (arith, here, rest)

-- each raise of a list is at most what the list reaches
limit_low_from : (t : Limits) (c : List Raise) (n : ℕ) (r : Raise) → slice_get c n ≡ Some r → r.limit ≤ after_raises t c r.pool.0
limit_low_from t [] n r at = cc
limit_low_from t (q ∷ c) zero r at =
    let same : q ≡ r = cc in
    let here = with_limit_here t q.pool.0 (max (t q.pool.0) q.limit) in
    let rest = after_up (after_raise t q) c q.pool.0 in
    subst (λ (d : Raise). d.limit ≤ after_raises t (q ∷ c) d.pool.0) same (omega (arith, here, rest))
limit_low_from t (q ∷ c) (suc n) r at = limit_low_from (after_raise t q) c n r at

pub limit_low : (c : List Raise) (n : ℕ) (r : Raise) → slice_get c n ≡ Some r → r.limit ≤ limits_after c r.pool.0
limit_low c n r at = limit_low_from zeros c n r at

-- where some item passes, there is one
pub any_at : {A : Type 0} (f : A → Bool) (xs : List A) (d : A) → list_any f xs ≡ true → (k : ℕ) × (k < length xs) × (f (get_or xs k d) ≡ true)
any_at f [] d any = absurd (true≢false (sym any))
any_at f (x ∷ xs) d any = elim (or_cases (f x) (list_any f xs) any) [
  | inl here ↦ (0, omega arith, here)
  | inr there ↦ let rest = any_at f xs d there in (suc rest.0, (let h = rest.1 in omega (arith, h)), rest.2)
]

abbrev pub no_entry : Logged
no_entry = record { ticket = 0; pool = record { 0 = 0 }; limit = 0 }

-- a logged limit is at most what the list reaches
pub logged_low : (s : State) (raises : List Raise) → AreInOrder s raises → (Q x : ℕ) → IsLogged s Q x → x ≤ limits_after raises Q
logged_low s raises order Q x (inl none) = omega (arith, none)
logged_low s raises order Q x (inr (j, h, has)) =
    let a = actor_at s j in
    let at = any_at (λ e. nat_eq e.pool.0 Q && nat_eq e.limit x) a.log no_entry has in
    let e : Logged = get_or a.log at.0 no_entry in
    let both = and_parts (nat_eq e.pool.0 Q) (nat_eq e.limit x) at.2 in
    let pool : e.pool.0 ≡ Q = eqb-true e.pool.0 Q both.0 in
    let limit : e.limit ≡ x = eqb-true e.limit x both.1 in
    let low = limit_low raises e.ticket (raise_of e) (order.placed j h at.0 no_entry at.1) in
    subst (λ (y : ℕ). y ≤ limits_after raises Q) limit (subst (λ (R : ℕ). e.limit ≤ limits_after raises R) pool low)

-- a list with one more raise
pub each_snoc : (market : Market) (F : Limits → Raise → Type 0) (t : Limits) (c : List Raise) (r : Raise) → EachRaise market F t c → r.pool.0 < length market.pools → F (after_raises t c) r → EachRaise market F t (c ++ r ∷ [])
each_snoc market F t [] r each within holds = (within, holds, tt)
each_snoc market F t (q ∷ c) r each within holds = (each.0, each.1, each_snoc market F (after_raise t q) c r each.2 within holds)

pub get_longer : {A : Type 0} (xs ys : List A) (n : ℕ) (x : A) → slice_get xs n ≡ Some x → slice_get (xs ++ ys) n ≡ Some x
get_longer [] ys n x at = cc
get_longer (y ∷ xs) ys zero x at = at
get_longer (y ∷ xs) ys (suc n) x at = get_longer xs ys n x at

pub get_last : {A : Type 0} (xs : List A) (x : A) (n : ℕ) → n ≡ length xs → slice_get (xs ++ x ∷ []) n ≡ Some x
get_last [] x zero is = refl
get_last [] x (suc n) is = absurd (omega (arith, is))
get_last (y ∷ xs) x zero is = absurd (omega (arith, is))
get_last (y ∷ xs) x (suc n) is = get_last xs x n (omega (arith, is))

-- how often a ticket stands in a log with one more entry
pub times_snoc : (n : ℕ) (log : List Logged) (e : Logged) → sum_by (λ d. once_if (nat_eq d.ticket n)) (log ++ e ∷ []) ≡ sum_by (λ d. once_if (nat_eq d.ticket n)) log + once_if (nat_eq e.ticket n)
times_snoc n log e =
    let both = sum_by-append (λ (d : Logged). once_if (nat_eq d.ticket n)) log (e ∷ []) in
    let last = sum_by-cons (λ (d : Logged). once_if (nat_eq d.ticket n)) e [] in
    omega (arith, both, last)

pub one_more : (n ticket : ℕ) → once_if (nat_lt n (ticket + 1)) ≡ once_if (nat_lt n ticket) + once_if (nat_eq ticket n)
one_more n ticket = elim (cases_order n ticket) [
  | inl same ↦ rw (lt-ltb n (ticket + 1) (omega (arith, same)), le-ltb n ticket (omega (arith, same)), eq-eqb ticket n (sym same)) refl
  | inr other ↦ elim other [
    | inl less ↦ rw (lt-ltb n (ticket + 1) (omega (arith, less)), lt-ltb n ticket less, ne_eqb ticket n (λ e. omega (arith, e, less))) refl
    | inr more ↦ rw (le-ltb n (ticket + 1) (omega (arith, more)), le-ltb n ticket (omega (arith, more)), ne_eqb ticket n (λ e. omega (arith, e, more))) refl
  ]
]
