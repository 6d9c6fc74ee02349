-- The laws of score pools.
use Rattle.std.proofs.Common.{◌≡◌, ◌≢◌, true≢false, ℕ, zero, suc, ◌+◌, ◌-◌, ◌<◌, ◌≤◌, Bool, true, ◌&&◌, List, [], ◌∷◌, get_or, length, filter, Option, Some, None, refl, sym, ap, ◌∙◌, arith, inl, inr, nat_eq, nat_le, subst, eqb-true, le-leb, leb-true, min}
use Rattle.std.proofs.lemmas.Bool.{cases_Bool, or_left, or_right, and_from, and_parts, cases_lt}
use Rattle.std.proofs.lemmas.List.Folds.{list_any_at}
use Rattle.std.proofs.lemmas.List.Sums.{sum_by-le-sum_by}
use Rattle.std.specs.List.{list_any}
use Rattle.sl_types.specs.declared.kinds.Entry.{Entry}
use Rattle.sl_types.specs.declared.kinds.Rule.{Rule}
use Rattle.sl_types.specs.declared.kinds.Rule.TheVariants.{H, L, Merit}
use Rattle.sl_types.specs.declared.kinds.TheConstants.{MAX_DEPTH}
use Rattle.sl_types.specs.Market.{Market, pool_of, quota_of, rule_of, children_of, chain_of, lies_in}
use Rattle.sl_types.specs.WellFormed.{IsWellFormed}
use Rattle.sl_laws.specs.Limits.{Limits, with_limit, effective_limit, is_eligible, admitted_choice, demand, demand_within, capped_demand, admitted_directly, passes}
use Rattle.sl_laws.specs.Stable.{IsStable, Meets, IsJustified, IsJustifiedBy, Feeds, leads, is_choice_in}
use Rattle.sl_laws.specs.Laws.{IsScorePool, AtMost, DemandIsMonotone, JustifiedBelow}
use Rattle.sl_laws.proofs.Choices.{filter_more, filter_same, admits_alike, AgreeUpTo}
use Rattle.sl_laws.proofs.Nest.{lies_own}
use Rattle.sl_laws.proofs.Effective.{greatest_same, with_limit_here, effective_outside, effective_alone, inside_alone, count_more}

-- the demand for a score pool doesn't rise with its own limit, and doesn't fall where other limits rise
pub demand_is_monotone : (market : Market) → IsWellFormed market → DemandIsMonotone market
demand_is_monotone market ok P score t u most x y below =
    let t' = with_limit t P x in
    let u' = with_limit u P y in
    count_more market t' u' P ok.choices
    (λ C C_in within.
    let is = inside_alone market ok P score C within in
    let low : effective_limit market u' P ≡ y = effective_alone market ok P score u' ∙ with_limit_here u P y in
    let high : effective_limit market t' P ≡ x = effective_alone market ok P score t' ∙ with_limit_here t P x in
    subst (λ (D : ℕ). effective_limit market u' D ≤ effective_limit market t' D) (sym is) (omega (arith, low, high, below)))
    (λ C C_in out.
    let same_t = effective_outside market t P x C out in
    let same_u = effective_outside market u P y C out in
    let up = most C C_in (λ is. true≢false (sym (subst (λ (D : ℕ). lies_in market D P ≡ true) (sym is) (lies_own market P)) ∙ out)) in
    omega (arith, same_t, same_u, up))

-- the same, where each effective limit rises
demand_more : (market : Market) → IsWellFormed market → (P : ℕ) → IsScorePool market P → (t u : Limits) → AtMost market t u → (x y : ℕ) → y ≤ x → demand market t P x ≤ demand market u P y
demand_more market ok P score t u most x y below = demand_is_monotone market ok P score t u (λ Q Q_in ne. most Q Q_in) x y below

-- smaller x

directly_more : (market : Market) (t : Limits) (P x y : ℕ) → y ≤ x → length (admitted_directly market t P x) ≤ length (admitted_directly market t P y)
directly_more market t P x y below =
    filter_more (λ choices. passes (λ e. nat_eq (pool_of market e) P && nat_le x e.score) (admitted_choice market t choices)) (λ choices. passes (λ e. nat_eq (pool_of market e) P && nat_le y e.score) (admitted_choice market t choices)) market.lists
    (λ a none a_in. passes_more (admitted_choice market t (get_or market.lists a none)))
  where
    passes_more : (o : Option Entry) → passes (λ e. nat_eq (pool_of market e) P && nat_le x e.score) o ≡ true → passes (λ e. nat_eq (pool_of market e) P && nat_le y e.score) o ≡ true
    passes_more None h = h
    passes_more (Some e) h =
        let both = and_parts (nat_eq (pool_of market e) P) (nat_le x e.score) h in
        let low = leb-true x e.score both.1 in
        and_from (nat_eq (pool_of market e) P) (nat_le y e.score) both.0 (le-leb y e.score (omega (arith, low, below)))

min_more : (q a b : ℕ) → a ≤ b → min q a ≤ min q b
min_more q a b h = omega (arith, h)

within_more : (market : Market) (t : Limits) (x y : ℕ) → y ≤ x → (n P : ℕ) → demand_within market t x n P ≤ demand_within market t y n P
unfolding demand_within
within_more market t x y below zero P = omega arith
within_more market t x y below (suc n) P =
    let inner = sum_by-le-sum_by (λ C. min (quota_of market C) (demand_within market t x n C)) (λ C. min (quota_of market C) (demand_within market t y n C)) (children_of market P) (λ C. min_more (quota_of market C) (demand_within market t x n C) (demand_within market t y n C) (within_more market t x y below n C)) in
    let direct = directly_more market t P x y below in
    omega (arith, inner, direct)

-- the capped demand falls as the limit rises
pub capped_demand_falls : (market : Market) (t : Limits) (P x y : ℕ) → y ≤ x → capped_demand market t P x ≤ capped_demand market t P y
unfolding capped_demand
capped_demand_falls market t P x y below = within_more market t x y below MAX_DEPTH P

-- limits are at most themselves
pub at_most_itself : (market : Market) (t : Limits) → AtMost market t t
at_most_itself market t Q Q_in = omega arith

below_by : (market : Market) → IsWellFormed market → (t : Limits) (P x y : ℕ) → y ≤ x → (rule : Rule) → rule_of market P ≡ rule → IsJustifiedBy rule market t P x → IsJustifiedBy rule market t P y
below_by market ok t P x y below H is j =
    let score : IsScorePool market P = λ m. let h : H ≡ Merit = sym is ∙ m in cc in
    let more = demand_more market ok P score t t (at_most_itself market t) (x - 1) (y - 1) (omega arith) in
    omega (arith, more, j)
below_by market ok t P x y below L is j =
    let score : IsScorePool market P = λ m. let h : L ≡ Merit = sym is ∙ m in cc in
    let more = demand_more market ok P score t t (at_most_itself market t) (x - 1) (y - 1) (omega arith) in
    let more' = demand_more market ok P score t t (at_most_itself market t) x y below in
    (omega (arith, more, j.0), omega (arith, more', j.1))
below_by market ok t P x y below Merit is j = let more = capped_demand_falls market (with_limit t P 0) P x y below in omega (arith, more, j)

-- where a raise is justified, so is each smaller one
pub justified_below : (market : Market) → IsWellFormed market → JustifiedBelow market
justified_below market ok t P x y below j = below_by market ok t P x y below (rule_of market P) refl j

-- A justified raise passes no stable limit.

passes_none_by : (market : Market) → IsWellFormed market → (l r : Limits) → AtMost market r l → (P x : ℕ) → IsScorePool market P → (rule : Rule) → rule ≢ Merit → IsJustifiedBy rule market r P x → Meets rule market l P → x ≤ l P
passes_none_by market ok l r most P x score H plain j meets = elim (cases_lt (l P) x) [
  | inl above ↦ let more = demand_more market ok P score r l most (x - 1) (l P) (omega (arith, above)) in let fits = meets.0 in absurd (omega (arith, more, j, fits))
  | inr fine ↦ fine
]
passes_none_by market ok l r most P x score L plain j meets = elim (cases_lt (l P) x) [
  | inl above ↦ elim meets.0 [
    | inl fits ↦ let more = demand_more market ok P score r l most (x - 1) (l P) (omega (arith, above)) in let over = j.0 in absurd (omega (arith, more, over, fits))
    | inr short ↦ let more = demand_more market ok P score r l most x (l P + 1) (omega (arith, above)) in let over = j.1 in absurd (omega (arith, more, over, short))
  ]
  | inr fine ↦ fine
]
passes_none_by market ok l r most P x score Merit plain j meets = absurd (plain refl)

-- a justified raise of a score pool passes no stable limit
pub score_passes_none : (market : Market) → IsWellFormed market → (l r : Limits) → IsStable market l → ((Q : ℕ) → Q < length market.pools → effective_limit market r Q ≤ l Q) → (P x : ℕ) → P < length market.pools → IsScorePool market P → IsJustified market r P x → x ≤ l P
score_passes_none market ok l r stable most P x P_in score j =
    passes_none_by market ok l r (λ Q Q_in. let same = (stable Q Q_in).0 in let low = most Q Q_in in omega (arith, same, low)) P x score (rule_of market P) score j (stable P P_in).1

-- A justified raise stays justified.

-- a justified raise of a score pool stays justified as limits rise
pub stays_by : (market : Market) → IsWellFormed market → (r t : Limits) → AtMost market r t → (P x : ℕ) → IsScorePool market P → (rule : Rule) → rule ≢ Merit → IsJustifiedBy rule market r P x → IsJustifiedBy rule market t P x
stays_by market ok r t most P x score H plain j = let more = demand_more market ok P score r t most (x - 1) (x - 1) (omega arith) in omega (arith, more, j)
stays_by market ok r t most P x score L plain j =
    let more = demand_more market ok P score r t most (x - 1) (x - 1) (omega arith) in
    let more' = demand_more market ok P score r t most x x (omega arith) in
    (omega (arith, more, j.0), omega (arith, more', j.1))
stays_by market ok r t most P x score Merit plain j = absurd (plain refl)

-- Local to the feeding pools.

agree_up_to : (market : Market) (t u : Limits) (P : ℕ) (es : List Entry) → ((Q : ℕ) → leads market Q P es ≡ true → t Q ≡ u Q) → AgreeUpTo (is_choice_in market P) (is_eligible market t) (is_eligible market u) es
agree_up_to market t u P [] agree = tt
agree_up_to market t u P (e ∷ es) agree = (
  (λ ahead. ap (λ m. nat_le m e.score) (greatest_same t u (chain_of market (pool_of market e))
      (λ Q round. agree Q (or_left (is_choice_in market Q e && list_any (is_choice_in market P) (e ∷ es)) (leads market Q P es) (and_from (is_choice_in market Q e) (list_any (is_choice_in market P) (e ∷ es)) round ahead))))),
  agree_up_to market t u P es (λ Q k. agree Q (or_right (is_choice_in market Q e && list_any (is_choice_in market P) (e ∷ es)) (leads market Q P es) k)),
)

-- where the numbers of P and of the pools that feed it are the same, so is who is admitted in P, as far as any test goes
pub admitted_alike : (market : Market) (t u : Limits) (P : ℕ) → t P ≡ u P → ((Q : ℕ) → Feeds market Q P → t Q ≡ u Q)
    → (f : Entry → Bool) → ((e : Entry) → f e ≡ true → is_choice_in market P e ≡ true)
    → filter (λ choices. passes f (admitted_choice market t choices)) market.lists ≡ filter (λ choices. passes f (admitted_choice market u choices)) market.lists
admitted_alike market t u P own fed f within =
    filter_same (λ choices. passes f (admitted_choice market t choices)) (λ choices. passes f (admitted_choice market u choices)) market.lists
    (λ a none a_in. admits_alike f (is_choice_in market P) (is_eligible market t) (is_eligible market u) within (get_or market.lists a none)
    (agree_up_to market t u P (get_or market.lists a none) (λ Q k. elim (cases_Bool (nat_eq Q P)) [
      | inl same ↦ let is : Q ≡ P = eqb-true Q P same in subst (λ (R : ℕ). t R ≡ u R) (sym is) own
      | inr other ↦ fed Q (rw other (list_any_at (leads market Q P) market.lists a none a_in k))
    ])))

-- a replaced number changes no agreement on the feeding pools
pub with_alike : (market : Market) (t u : Limits) (P y : ℕ) → ((Q : ℕ) → Feeds market Q P → t Q ≡ u Q) → (Q : ℕ) → Feeds market Q P → with_limit t P y Q ≡ with_limit u P y Q
with_alike market t u P y fed Q feed = elim (cases_Bool (nat_eq Q P)) [
  | inl same ↦ rw same refl
  | inr other ↦ rw other (fed Q feed)
]

-- the demand depends on the feeding pools alone
pub demand_alike : (market : Market) (t u : Limits) (P y : ℕ) → ((Q : ℕ) → Feeds market Q P → t Q ≡ u Q) → demand market t P y ≡ demand market u P y
demand_alike market t u P y fed = ap length (admitted_alike market (with_limit t P y) (with_limit u P y) P (with_limit_here t P y ∙ sym (with_limit_here u P y)) (with_alike market t u P y fed) (is_choice_in market P) (λ e h. h))

-- so does whether a raise of a score pool is justified
pub local_by : (market : Market) (t u : Limits) (P x : ℕ) → ((Q : ℕ) → Feeds market Q P → t Q ≡ u Q) → (rule : Rule) → rule ≢ Merit → IsJustifiedBy rule market t P x → IsJustifiedBy rule market u P x
local_by market t u P x fed H plain j = let same = demand_alike market t u P (x - 1) fed in omega (arith, same, j)
local_by market t u P x fed L plain j =
    let same = demand_alike market t u P (x - 1) fed in
    let same' = demand_alike market t u P x fed in
    (omega (arith, same, j.0), omega (arith, same', j.1))
local_by market t u P x fed Merit plain j = absurd (plain refl)
