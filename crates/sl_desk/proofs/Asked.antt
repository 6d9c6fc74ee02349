-- The read that comes next, and the last one.
use Rattle.std.proofs.Common.{◌≡◌, ℕ, ◌+◌, ◌<◌, ◌≤◌, Bool, true, false, not, ◌&&◌, ◌||◌, nat_eq, List, [], ◌∷◌, ◌++◌, length, map, get_or, set, take, refl, sym, ap, ◌∙◌, subst, arith}
use Rattle.std.proofs.lemmas.Bool.{or_left, or_right, cond-false, eq-eqb}
use Rattle.std.proofs.lemmas.List.{take_more, take_all}
use Rattle.sl_types.specs.declared.kinds.PoolId.{PoolId}
use Rattle.sl_types.specs.declared.kinds.TheConstants.{MAX_SCORE}
use Rattle.sl_types.specs.Market.{Market}
use Rattle.sl_laws.specs.Stable.{feeds}
use Rattle.sl_core.specs.declared.kinds.Phase.TheVariants.{Working}
use Rattle.sl_core.specs.State.{no_limits, no_pools}
use Rattle.sl_core.specs.Machine.{is_asked, lacks_read, may_read, phase_found}
use Rattle.sl_core.proofs.Ranges.{lacks_none}
use Rattle.sl_contend.specs.Contention.{feeding}
use Rattle.sl_floor.specs.Floor.{FloorValue, SeatValue, IsOf, KnowsMore, read_view}
use Rattle.sl_desk.specs.Seats.{FitsMarket}
use Rattle.sl_desk.specs.Reading.{is_in, asked_pools, HasRead}
use Rattle.sl_desk.proofs.Gaining.{of_after, sized_after}
use Rattle.sl_desk.proofs.Fronts.{new_at, in_filter, passes_at, within_at, number_at, as_many, not_itself}
use Rattle.sl_desk.proofs.Seen.{may, read_more, reads_none}

module _ (floor : FloorValue) (P : PoolId) (before now : SeatValue) (desk : List ℕ) (k : ℕ) (pools : List PoolId) (are : map (λ p. p.0) pools ≡ feeding floor.market P.0) (h : k < length pools)
    (of : IsOf floor before) (sized : FitsMarket floor.market before.view) (r : HasRead floor.market P before now (P.0 ∷ take k (feeding floor.market P.0)) desk) where
  abbrev Q : ℕ
  Q = (get_or pools k (record { 0 = 0 })).0

  abbrev numbers : List ℕ
  numbers = feeding floor.market P.0

  inside : k < length numbers
  inside = let n = as_many pools numbers are in omega (arith, n, h)

  is : get_or numbers k 0 ≡ Q
  is = number_at pools numbers k (record { 0 = 0 }) are h

  fed : feeds floor.market Q P.0 ≡ true
  fed = subst (λ R. feeds floor.market R P.0 ≡ true) is (passes_at (λ R. feeds floor.market R P.0) (length floor.market.pools) k inside)

  asked : is_asked floor.market P.0 Q ≡ true
  asked = or_right (nat_eq Q P.0) (feeds floor.market Q P.0) fed

  pub within : Q < length floor.market.pools
  within = subst (λ R. R < length floor.market.pools) is (within_at (λ R. feeds floor.market R P.0) (length floor.market.pools) k inside)

  new : is_in Q (P.0 ∷ take k numbers) ≡ false
  new = rw (not_itself floor.market Q P.0 fed) (subst (λ R. is_in R (take k numbers) ≡ false) is (new_at (λ R. feeds floor.market R P.0) 0 (length floor.market.pools) k inside))

  of_now : IsOf floor now
  of_now = of_after floor before now [] of r.gains

  sized_now : FitsMarket floor.market now.view
  sized_now = sized_after floor.market before now [] (length (P.0 ∷ take k numbers)) sized r.gains r.steps

  pub may_now : may_read floor.market now.view.actor.phase now.view.actor Q ≡ true
  may_now = may floor.market P before now (P.0 ∷ take k numbers) desk r of_now.market sized_now Q within asked new

  pub next_is : (next : SeatValue) (word : ℕ) → next ≡ record now { view = read_view now.view Q word } → KnowsMore now next → word ≤ MAX_SCORE + 1
      → HasRead floor.market P before next (P.0 ∷ take (k + 1) numbers) (set desk Q word)
  next_is next word same more top =
      let front : take (k + 1) numbers ≡ take k numbers ++ Q ∷ [] = take_more numbers k 0 inside ∙ ap (λ (R : ℕ). take k numbers ++ R ∷ []) is in
      subst (λ (l : List ℕ). HasRead floor.market P before next (P.0 ∷ l) (set desk Q word)) (sym front)
      (read_more floor.market P before now (P.0 ∷ take k numbers) desk r of_now.market sized_now Q within asked new next word same more top)

-- the first read is the pool's own
pub own_read : (floor : FloorValue) (P : PoolId) (before next : SeatValue) (desk : List ℕ) (word : ℕ) → IsOf floor before → FitsMarket floor.market before.view → P.0 < length floor.market.pools
    → before.view.actor.phase ≡ Working P → before.view.actor.made ≡ no_pools floor.market → before.view.actor.reads ≡ no_limits floor.market → desk ≡ no_limits floor.market
    → next ≡ record before { view = read_view before.view P.0 word } → KnowsMore before next → word ≤ MAX_SCORE + 1 → HasRead floor.market P before next (P.0 ∷ []) (set desk P.0 word)
own_read floor P before next desk word of sized within phase made reads nothing is more top =
    read_more floor.market P before before [] desk (reads_none floor.market P before desk sized within phase made reads nothing) of.market sized P.0 within
    (or_left (nat_eq P.0 P.0) (feeds floor.market P.0 P.0) (eq-eqb P.0 P.0 refl)) refl next word is more top

-- after the last read the machine has found what comes
pub all_read : (market : Market) (P : PoolId) (before now : SeatValue) (desk : List ℕ) → HasRead market P before now (asked_pools market P.0) desk → now.view.actor.phase ≡ phase_found market P desk
all_read market P before now desk r =
    let made = now.view.actor.made in
    let none = lacks_none market P.0 (length market.pools) made refl (λ R R_in.
    let is : get_or made R false ≡ is_asked market P.0 R = r.made R ∙ ap (λ b. nat_eq R P.0 || b) (in_filter (λ S. feeds market S P.0) R 0 (length market.pools) (omega arith) (omega (arith, R_in))) in
    rw is (never (is_asked market P.0 R))) in
    r.phase ∙ (cond-false (lacks_read market P.0 made) (Working P) (phase_found market P now.view.actor.reads) none ∙ ap (phase_found market P) r.desk)
  where
    never : (b : Bool) → (b && not b) ≡ false
    never true = refl
    never false = refl

-- the reads at the end of the list are all reads
pub whole_list : (market : Market) (P : PoolId) (before now : SeatValue) (desk : List ℕ) (k : ℕ) (pools : List PoolId) → map (λ p. p.0) pools ≡ feeding market P.0 → length pools ≤ k
    → HasRead market P before now (P.0 ∷ take k (feeding market P.0)) desk → HasRead market P before now (asked_pools market P.0) desk
whole_list market P before now desk k pools are h r =
    let n = as_many pools (feeding market P.0) are in
    subst (λ (l : List ℕ). HasRead market P before now (P.0 ∷ l) desk) (take_all k (feeding market P.0) (omega (arith, n, h))) r
