-- Who is admitted at one vector of limits is admitted at another.
use Rattle.std.proofs.Common.{◌≡◌, ℕ, ◌<◌, ◌≤◌, max, Bool, true, true≢false, ◌&&◌, nat_eq, nat_le, List, [], length, All, Option, Some, None, sym, refl, ap, ◌∙◌, arith}
use Rattle.std.proofs.lemmas.Bool.{eqb-true, leb-true, le-leb, and_parts, and_from}
use Rattle.std.proofs.lemmas.List.Elements.{All-from_get_or, All-contains}
use Rattle.sl_types.specs.declared.kinds.Entry.{Entry}
use Rattle.sl_types.specs.declared.kinds.Rule.TheVariants.{Merit}
use Rattle.sl_types.specs.Market.{Market, list_of, pool_of, rule_of, lies_in}
use Rattle.sl_types.specs.WellFormed.{IsWellFormed}
use Rattle.sl_laws.specs.Limits.{Limits, effective_limit, is_eligible, admitted_choice, admitted_directly, passes}
use Rattle.sl_laws.proofs.Lists.{filter_more, find_is, find_same}

-- a choice that passes is one
pub passes_some : (p : Entry → Bool) (o : Option Entry) → passes p o ≡ true → (c : Entry) × (o ≡ Some c) × (p c ≡ true)
passes_some p None e = absurd (true≢false (sym e))
passes_some p (Some c) e = (c, refl, e)

-- the effective limits s are at most the effective limits t, or inside P at most the greater of these and y
abbrev pub Reaches : Market → ℕ → ℕ → Limits → Limits → Type 0
Reaches market P y s t = (Q z : ℕ) → Q < length market.pools → effective_limit market t Q ≤ z → (lies_in market Q P ≡ true → y ≤ z) → effective_limit market s Q ≤ z

-- the test that the applicants admitted directly in C with a score of at least x pass
abbrev pub is_directly : Market → Limits → ℕ → ℕ → List Entry → Bool
is_directly market t C x choices = passes (λ e. nat_eq (pool_of market e) C && nat_le x e.score) (admitted_choice market t choices)

module _ (market : Market) (ok : IsWellFormed market) (P : ℕ) (merit : rule_of market P ≡ Merit) (y : ℕ) (s t : Limits) (reach : Reaches market P y s t) where
  -- an applicant who is admitted at s inside P with a score of at least y has the same choice at t
  pub stays : (a : ℕ) → a < length market.lists → (c : Entry) → admitted_choice market s (list_of market a) ≡ Some c → lies_in market (pool_of market c) P ≡ true → y ≤ c.score
      → effective_limit market t (pool_of market c) ≤ c.score → admitted_choice market t (list_of market a) ≡ Some c
  stays a a_in c e inside high able = let f = find_is (is_eligible market s) (list_of market a) c e in
      let here : All (λ e. pool_of market e < length market.pools) (list_of market a) = ok.choices a [] a_in in
      find_same (is_eligible market s) (is_eligible market t) (list_of market a) c e (le-leb (effective_limit market t (pool_of market c)) c.score able)
      (λ b i g. le-leb (effective_limit market s (pool_of market b)) b.score (reach (pool_of market b) b.score
      (All-contains (λ e. pool_of market e < length market.pools) (list_of market a) b here i)
      (leb-true (effective_limit market t (pool_of market b)) b.score g)
      (λ l. let same = ok.merits a b c P i f.0 merit l inside in omega (arith, same, high))))

  -- so those admitted directly in C at s are admitted directly in C at t
  pub directly_le : (x C : ℕ) → x ≤ y → lies_in market C P ≡ true → effective_limit market t C ≤ max y (effective_limit market s C)
      → length (admitted_directly market s C y) ≤ length (admitted_directly market t C x)
  directly_le x C low inside able = filter_more (is_directly market s C y) (is_directly market t C x) market.lists
      (All-from_get_or (λ cs. is_directly market s C y cs ≡ true → is_directly market t C x cs ≡ true) market.lists [] (λ a a_in e.
      let w = passes_some (λ (c : Entry). nat_eq (pool_of market c) C && nat_le y c.score) (admitted_choice market s (list_of market a)) e in
      let c : Entry = w.0 in
      let parts = and_parts (nat_eq (pool_of market c) C) (nat_le y c.score) w.2 in
      let home = eqb-true (pool_of market c) C parts.0 in
      let high = leb-true y c.score parts.1 in
      let f = leb-true (effective_limit market s (pool_of market c)) c.score (find_is (is_eligible market s) (list_of market a) c w.1).1 in
      let k : effective_limit market t (pool_of market c) ≡ effective_limit market t C = ap (effective_limit market t) home in
      let l : effective_limit market s (pool_of market c) ≡ effective_limit market s C = ap (effective_limit market s) home in
      let is = stays a a_in c w.1 (ap (λ k. lies_in market k P) home ∙ inside) high (omega (arith, high, f, k, l, able)) in
      ap (passes (λ (c : Entry). nat_eq (pool_of market c) C && nat_le x c.score)) is ∙ and_from (nat_eq (pool_of market c) C) (nat_le x c.score) parts.0 (le-leb x c.score (omega (arith, low, high)))))
