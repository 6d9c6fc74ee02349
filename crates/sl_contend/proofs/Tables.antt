-- The rows of a market's pools, once all numbers are entered.
use Rattle.std.proofs.Common.{◌≡◌, ℕ, zero, suc, ◌+◌, ◌<◌, ◌≤◌, Bool, true, false, not, ◌&&◌, ◌||◌, List, [], ◌∷◌, length, map, filter, get_or, nat_eq, slice_get, Some, All, refl, sym, ap, ◌∙◌, arith, inl, inr, subst, eqb-true, eq-eqb, ne_eqb}
use Rattle.std.specs.List.{list_any, range_with_len}
use Rattle.std.proofs.lemmas.Bool.{cases_Bool, eqb-false, or_parts}
use Rattle.std.proofs.lemmas.List.{length-map, get_or-map}
use Rattle.std.proofs.lemmas.Option.{slice_get-get_or}
use Rattle.std.proofs.lemmas.List.Elements.{All-filter, All-from_get_or, All-get_or}
use Rattle.std.proofs.lemmas.List.FromFn.{fill_by_all, length-range_with_len, get_or-map-range_with_len}
use Rattle.sl_types.specs.declared.kinds.AppId.{AppId}
use Rattle.sl_types.specs.declared.kinds.Entry.{Entry}
use Rattle.sl_types.specs.declared.kinds.PoolId.{PoolId}
use Rattle.sl_types.specs.Market.{Market, list_of, pool_numbers}
use Rattle.sl_types.specs.Valid.{applicant_numbers}
use Rattle.sl_laws.specs.Stable.{is_choice_in, leads, feeds}
use Rattle.sl_contend.proofs.Growing.{range_low}
use Rattle.sl_contend.specs.Rows.{row_of, numbers_in}
use Rattle.sl_contend.specs.Contention.{contends, contenders_of, is_lead, fed_by, each_pool}

-- whether P is fed by Q
abbrev pub is_fed : Market → ℕ → ℕ → Bool
is_fed market P Q = feeds market Q P

-- what is read past the end of a list of applicants or of pools
abbrev pub no_app : AppId
no_app = record { 0 = 0 }

abbrev pub no_pool_id : PoolId
no_pool_id = record { 0 = 0 }

-- a list for each pool
pub each_count : (market : Market) (f : ℕ → List ℕ) → length (each_pool market f) ≡ length market.pools
each_count market f = length-map (pool_numbers market) f ∙ length-range_with_len 0 (length market.pools)

pub each_at : (market : Market) (f : ℕ → List ℕ) (P : ℕ) → P < length market.pools → get_or (each_pool market f) P [] ≡ f P
each_at market f P h = get_or-map-range_with_len f 0 (length market.pools) P P [] h (omega arith)

-- row P of so many
pub row_got : {A : Type 0} (f : ℕ → A) (count P : ℕ) → P < count → slice_get (map f (range_with_len 0 count)) P ≡ Some (f P)
row_got {A} f count P h =
    let size = length-map (range_with_len 0 count) f in
    let n = length-range_with_len 0 count in
    slice_get-get_or (map f (range_with_len 0 count)) P (f P) (omega (arith, h, size, n)) ∙ ap (λ (x : A). Some x) (get_or-map-range_with_len f 0 count P P (f P) h (omega arith))

-- what is got of rows that hold f of each pool is f of its pool
pub row_told : {A : Type 0} (f : ℕ → A) (market : Market) (rows : List A) (P : ℕ) (row : A) → rows ≡ map f (pool_numbers market) → P < length market.pools → slice_get rows P ≡ Some row → row ≡ f P
row_told {A} f market rows P row are h got =
    let e : Some row ≡ Some (f P) = sym got ∙ (ap (λ (rs : List A). slice_get rs P) are ∙ row_got f (length market.pools) P h) in
    cc

-- the row of a pool
pub row_at : {T : Type 0} (number : T → ℕ) (items : List T) (starts : List ℕ) (market : Market) (f : ℕ → List ℕ) → numbers_in number (length market.pools) items starts ≡ each_pool market f
    → (P : ℕ) → P < length market.pools → map number (row_of items starts P) ≡ f P
row_at number items starts market f are P h =
    sym (get_or-map-range_with_len (λ k. map number (row_of items starts k)) 0 (length market.pools) P P [] h (omega arith))
    ∙ (ap (λ rs. get_or rs P []) are ∙ each_at market f P h)

-- what is told by its number lies below the end of the range
pub below : {T : Type 0} (number : T → ℕ) (d : T) (xs : List T) (p : ℕ → Bool) (n : ℕ) → map number xs ≡ filter p (range_with_len 0 n) → All (λ x. number x < n) xs
below {T} number d xs p n is = All-from_get_or (λ (x : T). number x < n) xs d (λ i h.
    let all = All-filter p (λ y. y < n) (range_with_len 0 n) (range_low n) in
    let size : length (map number xs) ≡ length xs = length-map xs number in
    let more = subst (λ ys. All (λ y. y < n) ys) (sym is) all in
    subst (λ y. y < n) (get_or-map number xs i d 0 h) (All-get_or (λ y. y < n) (map number xs) i 0 (omega (arith, size, h)) more))

any_map : {A : Type 0} (f : A → ℕ) (p : ℕ → Bool) (q : A → Bool) (xs : List A) → ((x : A) → q x ≡ p (f x)) → list_any q xs ≡ list_any p (map f xs)
any_map f p q [] same = refl
any_map f p q (x ∷ xs) same = rw (same x, any_map f p q xs same) refl

any_filter : (p q : ℕ → Bool) (xs : List ℕ) → ((x : ℕ) → q x ≡ false → p x ≡ false) → list_any p (filter q xs) ≡ list_any p xs
any_filter p q [] out = refl
any_filter p q (x ∷ xs) out = elim (cases_Bool (q x)) [
  | inl hit ↦ rw hit (ap (λ b. p x || b) (any_filter p q xs out))
  | inr miss ↦ rw (miss, out x miss) (any_filter p q xs out)
]

any_index : (p : List Entry → Bool) (lists : List (List Entry)) → list_any (λ a. p (get_or lists a [])) (range_with_len 0 (length lists)) ≡ list_any p lists
any_index p lists =
    any_lists (λ a. get_or lists a []) (range_with_len 0 (length lists))
    ∙ ap (list_any p) (sym (fill_by_all (λ a. get_or lists a []) lists (length lists) [] refl (λ k h. refl)))
  where
    any_lists : (f : ℕ → List Entry) (ns : List ℕ) → list_any (λ a. p (f a)) ns ≡ list_any p (map f ns)
    any_lists f [] = refl
    any_lists f (n ∷ ns) = ap (λ b. p (f n) || b) (any_lists f ns)

-- who has no choice in P leads nowhere to it
no_lead : (market : Market) (Q P : ℕ) (es : List Entry) → list_any (is_choice_in market P) es ≡ false → leads market Q P es ≡ false
no_lead market Q P [] never = refl
no_lead market Q P (e ∷ es) never =
    let parts = or_parts (is_choice_in market P e) (list_any (is_choice_in market P) es) never in
    rw (never, no_lead market Q P es parts.1) (no_and (is_choice_in market Q e))
  where
    no_and : (b : Bool) → ((b && false) || false) ≡ false
    no_and true = refl
    no_and false = refl

-- whether some list leads from Q to P is told by the contenders of P alone
pub contenders_lead : (market : Market) (Q P : ℕ) (apps : List AppId) → map (λ a. a.0) apps ≡ contenders_of market P → list_any (is_lead market P Q) apps ≡ list_any (leads market Q P) market.lists
contenders_lead market Q P apps are =
    let p = λ (a : ℕ). leads market Q P (list_of market a) in
    any_map (λ (a : AppId). a.0) p (is_lead market P Q) apps (λ a. refl)
    ∙ (ap (list_any p) are
    ∙ (any_filter p (λ a. contends market a P) (applicant_numbers market) (λ a never. no_lead market Q P (list_of market a) never)
    ∙ any_index (leads market Q P) market.lists))

any_from : (p : ℕ → Bool) (R k m : ℕ) → k ≤ R → R < k + m → list_any (λ i. nat_eq i R) (filter p (range_with_len k m)) ≡ p R
any_from p R k zero low high = absurd (omega (arith, low, high))
any_from p R k (suc m) low high = elim (cases_Bool (nat_eq k R)) [
  | inl same ↦ elim (cases_Bool (p k)) [
    | inl hit ↦ rw (hit, same) (sym hit ∙ ap p (eqb-true k R same))
    | inr miss ↦ rw miss (none_from (k + 1) m (let e = eqb-true k R same in omega (arith, e)) ∙ (sym miss ∙ ap p (eqb-true k R same)))
  ]
  | inr other ↦
      let ne = eqb-false k R other in
      let rest = any_from p R (k + 1) m (omega (arith, low, ne)) (omega (arith, high)) in
      elim (cases_Bool (p k)) [
        | inl hit ↦ rw (hit, other) rest
        | inr miss ↦ rw miss rest
      ]
]
  where
    none_from : (j n : ℕ) → R < j → list_any (λ i. nat_eq i R) (filter p (range_with_len j n)) ≡ false
    none_from j zero h = refl
    none_from j (suc n) h = elim (cases_Bool (p j)) [
      | inl hit ↦ rw (hit, ne_eqb j R (λ e. omega (arith, e, h))) (none_from (j + 1) n (omega (arith, h)))
      | inr miss ↦ rw miss (none_from (j + 1) n (omega (arith, h)))
    ]

-- R stands in the row of Q where Q feeds R
pub stands_in : (market : Market) (Q R : ℕ) (pools : List PoolId) → map (λ p. p.0) pools ≡ fed_by market Q → R < length market.pools
    → (not (nat_eq R Q) && list_any (λ p. nat_eq p.0 R) pools) ≡ feeds market Q R
stands_in market Q R pools are h =
    let is : list_any (λ (p : PoolId). nat_eq p.0 R) pools ≡ feeds market Q R =
    any_map (λ (p : PoolId). p.0) (λ i. nat_eq i R) (λ p. nat_eq p.0 R) pools (λ p. refl)
    ∙ (ap (list_any (λ i. nat_eq i R)) are ∙ any_from (feeds market Q) R 0 (length market.pools) (omega arith) (omega (arith, h))) in
    ap (λ b. not (nat_eq R Q) && b) is ∙ elim (cases_Bool (nat_eq R Q)) [
      | inl same ↦ let e = eqb-true R Q same in rw (same, eq-eqb Q R (sym e)) refl
      | inr other ↦ rw other refl
    ]
