-- A justified raise of a merit pool passes no stable limit.
use Rattle.std.proofs.Common.{◌≡◌, ℕ, ◌+◌, ◌<◌, ◌≤◌, min, max, true, length, sum_by, ap, subst, ⊎_elim, inl, inr, arith}
use Rattle.std.specs.List.{range_with_len}
use Rattle.std.proofs.lemmas.Bool.{cases_lt}
use Rattle.sl_types.specs.declared.kinds.Rule.{Rule}
use Rattle.sl_types.specs.declared.kinds.Rule.TheVariants.{Merit}
use Rattle.sl_types.specs.Market.{Market, quota_of, rule_of, lies_in, children_of, chain_of}
use Rattle.sl_types.specs.WellFormed.{IsWellFormed}
use Rattle.sl_laws.specs.Limits.{Limits, with_limit, greatest_of, admitted_directly, capped_demand, bar}
use Rattle.sl_laws.specs.Stable.{IsStable, Meets, MeetsMerit}
use Rattle.sl_laws.specs.Laws.{AtMost}
use Rattle.sl_laws.proofs.Lists.{sum_by_filter_le}
use Rattle.sl_laws.proofs.Nest.{is_child, without_le, lies_own, lies_child, le_greatest, round_child, merit_child}
use Rattle.sl_laws.proofs.Cover.{cover}
use Rattle.sl_laws.proofs.Direct.{Reaches, directly_le}
use Rattle.sl_laws.proofs.Parts.{admitted_within, parts, child_in}
use Rattle.sl_laws.proofs.Full.{within_le, lowest_within, full_bar, bar_fills}
use Rattle.sl_laws.proofs.Merit.{IsAsked}

module _ (market : Market) (ok : IsWellFormed market) (l : Limits) (stable : IsStable market l) where
  meets : (P : ℕ) → P < length market.pools → rule_of market P ≡ Merit → MeetsMerit market l P
  meets P P_in merit = subst (λ (r : Rule). Meets r market l P) merit (stable P P_in).1

  -- what is admitted inside takes in what is asked, each pool for its quota
  within_takes : (C x : ℕ) → sum_by (λ D. min (quota_of market D) (length (admitted_within market l D x))) (children_of market C) + length (admitted_directly market l C x) ≤ length (admitted_within market l C x)
  within_takes C x = let a = sum_by_filter_le (is_child market C) (λ D. min (quota_of market D) (length (admitted_within market l D x))) (λ D. length (admitted_within market l D x)) (range_with_len 0 (length market.pools)) (λ D e. omega arith) in
      let b = parts market ok l C x in omega (arith, a, b)

  module _ (r : Limits) (most : AtMost market r l) (P : ℕ) (P_in : P < length market.pools) (merit : rule_of market P ≡ Merit) (x : ℕ) (above : l P < x) where
    abbrev v : Limits
    v = with_limit r P 0

    reach : Reaches market P x v l
    reach Q z Q_in h up = let a = without_le market r P Q in let b = most Q Q_in in omega (arith, a, b, h)

    abbrev Low : ℕ → Type 0
    Low C = (lies_in market C P ≡ true) × (C < length market.pools) × (rule_of market C ≡ Merit) × (l C ≤ x)

    filled : (C D : ℕ) → Low C → is_child market C D ≡ true → x < l D → quota_of market D ≤ length (admitted_within market l D x)
    filled C D low e high = let D_in = child_in market C D e in
        let own = (meets D D_in (merit_child market ok C D e)).1 in
        let round : greatest_of (bar market l) (chain_of market D) ≡ max (bar market l D) (greatest_of (bar market l) (chain_of market C)) = ap (greatest_of (bar market l)) (round_child market ok C D e) in
        let outer = (meets C low.1 low.2).1 in let f = low.3 in
        bar_fills market l D x (omega (arith, own, round, outer, f, high)) (omega (arith, own, round, outer, f, high))

    -- what is asked for at r is admitted at l
    pub asked_within : capped_demand market v P x ≤ length (admitted_within market l P x)
    asked_within = cover market v x (λ C. length (admitted_within market l C x)) Low
        (λ C low. let a = within_takes C x in
        let same = (stable C low.1).0 in let f = low.3 in
        let b = directly_le market ok P merit x v l reach x C (omega arith) low.0 (omega (arith, same, f)) in omega (arith, a, b))
        (λ C D low e. ⊎_elim (λ high. inr (filled C D low e high)) (λ small. inl (lies_child market ok C D P e low.0, child_in market C D e, merit_child market ok C D e, small)) (cases_lt x (l D)))
        P (lies_own market P, P_in, merit, omega (arith, above))

    -- a raise that is asked for is at most the stable limit
    pub passed : IsAsked market r P x → x ≤ l P
    passed asked = let k = asked_within in let m = meets P P_in merit in let fits = m.0 in let q = ok.quotas P P_in in
        let w = within_le market l P x in
        let low = lowest_within market l P x (omega (arith, k, asked, w, q)) (omega (arith, k, asked, fits)) in
        let full = full_bar market l P (omega (arith, k, asked, w, fits)) in
        let is = m.1 in
        let own = le_greatest (bar market l) P (chain_of market P) (lies_own market P) in omega (arith, low, full, is, own)

  -- a justified raise passes no stable limit
  pub passes_no_stable : (r : Limits) → AtMost market r l → (P : ℕ) → P < length market.pools → rule_of market P ≡ Merit → (x : ℕ) → IsAsked market r P x → x ≤ l P
  passes_no_stable r most P P_in merit x asked = ⊎_elim (λ above. passed r most P P_in merit x above asked) (λ fine. fine) (cases_lt (l P) x)
