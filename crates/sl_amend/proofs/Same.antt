-- What an amendment leaves as it is: chains of pools, and which choice of a list that stays is admitted.
use Rattle.std.proofs.Common.{◌≡◌, ℕ, zero, suc, ◌≤◌, Bool, true, false, ◌&&◌, List, [], ◌∷◌, length, get_or, nat_eq, nat_le, filter, Option, refl, sym, ap, ◌∙◌, inl, inr, arith, true≢false, eqb-true}
use Rattle.std.proofs.lemmas.Bool.{cases_Bool, cases_lt, and_parts}
use Rattle.std.proofs.lemmas.List.{get_or_past}
use Rattle.std.specs.List.{list_any, range_with_len}
use Rattle.sl_types.specs.declared.kinds.Entry.{Entry}
use Rattle.sl_types.specs.declared.kinds.Pool.{Pool}
use Rattle.sl_types.specs.declared.kinds.PoolId.{PoolId}
use Rattle.sl_types.specs.declared.kinds.TheConstants.{MAX_DEPTH}
use Rattle.sl_types.specs.Market.{Market, no_pool, pool_at, prog_pool, pool_of, rule_of, parent_of, is_parent, climb, outward, chain_of, lies_in, children_of}
use Rattle.sl_laws.specs.Limits.{Limits, greatest_of, effective_limit, is_eligible, admitted_choice, passes}
use Rattle.sl_laws.specs.Stable.{is_choice_in}
use Rattle.sl_amend.specs.Amended.{IsAmended, are_same_choices}

module _ (old new : Market) (amended : IsAmended old new) where
  past_pool : (P : ℕ) → length old.pools ≤ P → pool_at new P ≡ pool_at old P
  past_pool P past = get_or_past new.pools P no_pool (let each = amended.each in omega (arith, past, each)) ∙ sym (get_or_past old.pools P no_pool past)

  pub same_parent : (P : ℕ) → parent_of new P ≡ parent_of old P
  same_parent P = elim (cases_lt P (length old.pools)) [
    | inl P_in ↦ amended.parents P P_in
    | inr past ↦ ap (λ (p : Pool). p.parent) (past_pool P past)
  ]

  pub same_rule : (P : ℕ) → rule_of new P ≡ rule_of old P
  same_rule P = elim (cases_lt P (length old.pools)) [
    | inl P_in ↦ amended.rules P P_in
    | inr past ↦ ap (λ (p : Pool). p.rule) (past_pool P past)
  ]

  same_climb : (n P : ℕ) → climb new n P ≡ climb old n P
  unfolding climb
  same_climb zero P = refl
  same_climb (suc n) P =
      let above : climb new n ≡ climb old n = λ i Q. same_climb n Q i in
      ap (λ (f : ℕ → List ℕ). P ∷ outward f (parent_of new P)) above ∙ ap (λ (o : Option PoolId). P ∷ outward (climb old n) o) (same_parent P)

  -- the pools round each pool
  pub same_chain : chain_of new ≡ chain_of old
  unfolding chain_of
  same_chain = λ i P. same_climb MAX_DEPTH P i

  pub same_effective : (t : Limits) (P : ℕ) → effective_limit new t P ≡ effective_limit old t P
  same_effective t P = ap (λ (chain : ℕ → List ℕ). greatest_of t (chain P)) same_chain

  pub same_children : (P : ℕ) → children_of new P ≡ children_of old P
  same_children P =
      let parents : parent_of new ≡ parent_of old = λ i C. same_parent C i in
      ap (λ (parent : ℕ → Option PoolId). filter (λ C. is_parent P (parent C)) (range_with_len 0 (length new.pools))) parents
      ∙ ap (λ (n : ℕ). filter (λ C. is_parent P (parent_of old C)) (range_with_len 0 n)) amended.each

  pub same_prog_pool : (g : ℕ) → (prog_pool new g).0 ≡ (prog_pool old g).0
  same_prog_pool g = ap (λ (progs : List PoolId). (get_or progs g (record { 0 = 0 })).0) amended.progs

  -- choices of one programme are in one pool
  pub same_pool_of : (e f : Entry) → e.prog.0 ≡ f.prog.0 → pool_of old e ≡ pool_of new f
  same_pool_of e f prog = ap (λ (g : ℕ). (prog_pool old g).0) prog ∙ sym (same_prog_pool f.prog.0)

  pub same_lies : (C P : ℕ) → lies_in new C P ≡ lies_in old C P
  same_lies C P = ap (λ (chain : ℕ → List ℕ). list_any (λ Q. nat_eq Q P) (chain C)) same_chain

  -- so they are in the same pools
  pub same_choice_in : (P : ℕ) (e f : Entry) → e.prog.0 ≡ f.prog.0 → is_choice_in old P e ≡ is_choice_in new P f
  same_choice_in P e f prog = ap (λ (C : ℕ). lies_in old C P) (same_pool_of e f prog) ∙ sym (same_lies (pool_of new f) P)

  same_eligible : (t : Limits) (e f : Entry) → e.prog.0 ≡ f.prog.0 → e.score ≡ f.score → is_eligible old t e ≡ is_eligible new t f
  same_eligible t e f prog score =
      ap (λ (C : ℕ). nat_le (effective_limit old t C) e.score) (same_pool_of e f prog)
      ∙ ap (λ (n : ℕ). nat_le n e.score) (sym (same_effective t (pool_of new f)))
      ∙ ap (nat_le (effective_limit new t (pool_of new f))) score

  -- of the same choices the same one is admitted, as far as tests on programmes and scores go
  pub same_admitted : (g h : Entry → Bool) → ((e f : Entry) → e.prog.0 ≡ f.prog.0 → e.score ≡ f.score → g e ≡ h f)
      → (t : Limits) (es fs : List Entry) → are_same_choices es fs ≡ true → passes g (admitted_choice old t es) ≡ passes h (admitted_choice new t fs)
  same_admitted g h alike t [] [] same = refl
  same_admitted g h alike t [] (f ∷ fs) same = absurd (true≢false (sym same))
  same_admitted g h alike t (e ∷ es) [] same = absurd (true≢false (sym same))
  same_admitted g h alike t (e ∷ es) (f ∷ fs) same =
      let parts = and_parts (nat_eq e.prog.0 f.prog.0 && nat_eq e.score f.score) (are_same_choices es fs) same in
      let both = and_parts (nat_eq e.prog.0 f.prog.0) (nat_eq e.score f.score) parts.0 in
      let prog = eqb-true e.prog.0 f.prog.0 both.0 in
      let score = eqb-true e.score f.score both.1 in
      let able = same_eligible t e f prog score in
      elim (cases_Bool (is_eligible old t e)) [
        | inl hit ↦ let also : is_eligible new t f ≡ true = sym able ∙ hit in rw (hit, also) (alike e f prog score)
        | inr miss ↦ let also : is_eligible new t f ≡ false = sym able ∙ miss in rw (miss, also) (same_admitted g h alike t es fs parts.1)
      ]
