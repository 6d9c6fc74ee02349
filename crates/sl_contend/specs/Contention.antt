-- Who contends for each pool, and which pools feed which, as lists of numbers.
use Rattle.std.specs.Prelude.{◌≡◌, ℕ, Bool, List, length, map, filter}
use Rattle.std.specs.List.{list_any}
use Rattle.sl_types.specs.declared.kinds.AppId.{AppId}
use Rattle.sl_types.specs.declared.kinds.Entry.{Entry}
use Rattle.sl_types.specs.declared.kinds.PoolId.{PoolId}
use Rattle.sl_types.specs.Market.{Market, list_of, pool_numbers}
use Rattle.sl_types.specs.Valid.{applicant_numbers}
use Rattle.sl_laws.specs.Stable.{is_choice_in, leads, feeds}
use Rattle.sl_contend.specs.declared.offer.Offer.{Offer}
use Rattle.sl_contend.specs.declared.rows.Rows.{Rows}
use Rattle.sl_contend.specs.Rows.{AreCut, numbers_of}
use Rattle.sl_contend.specs.Offers.{offers_in}

-- how many pools there are, and for each: the choices in it, who has one, which pools feed it, and which pools it feeds
pub record Contention : Type 0 where
  pub pools : ℕ
  pub offers : List (List Offer)
  pub of : List (List ℕ)
  pub feeds : List (List ℕ)
  pub fed : List (List ℕ)

-- whether one of these choices is in Q
abbrev pub has_choice_in : Market → List Entry → ℕ → Bool
has_choice_in market choices Q = list_any (is_choice_in market Q) choices

-- whether an applicant has a choice in P
abbrev pub contends : Market → ℕ → ℕ → Bool
contends market a P = has_choice_in market (list_of market a) P

-- the applicants who have a choice in P, in rising order
abbrev pub contenders_of : Market → ℕ → List ℕ
contenders_of market P = filter (λ a. contends market a P) (applicant_numbers market)

-- whether an applicant has a choice in Q, and that or a later one in P
abbrev pub is_lead : Market → ℕ → ℕ → AppId → Bool
is_lead market P Q app = leads market Q P (list_of market app.0)

-- the pools that feed P, in rising order
abbrev pub feeding : Market → ℕ → List ℕ
feeding market P = filter (λ Q. feeds market Q P) (pool_numbers market)

-- the pools that P feeds, in rising order
abbrev pub fed_by : Market → ℕ → List ℕ
fed_by market P = filter (λ Q. feeds market P Q) (pool_numbers market)

-- a list for each pool
abbrev pub each_pool : Market → (ℕ → List ℕ) → List (List ℕ)
each_pool market f = map f (pool_numbers market)

-- the offers of each pool
abbrev pub each_offers : Market → List (List Offer)
each_offers market = map (offers_in market) (pool_numbers market)

-- the whole of a market
abbrev pub contention_of : Market → Contention
contention_of market = record {
  pools = length market.pools;
  offers = each_offers market;
  of = each_pool market (contenders_of market);
  feeds = each_pool market (feeding market);
  fed = each_pool market (fed_by market);
}

-- what holds of contenders that were made for a market
abbrev pub MadeFor : Contention → (Market → Type 0) → Type 0
MadeFor contention Says = (market : Market) → contention ≡ contention_of market → Says market

-- the numbers of applicants
abbrev pub numbers_of_apps : List AppId → List ℕ
numbers_of_apps apps = map (λ a. a.0) apps

-- the numbers of pools
abbrev pub numbers_of_pools : List PoolId → List ℕ
numbers_of_pools pools = map (λ p. p.0) pools

-- the number of an applicant
abbrev pub number_of_app : AppId → ℕ
number_of_app app = app.0

-- the number of a pool
abbrev pub number_of_pool : PoolId → ℕ
number_of_pool pool = pool.0

-- each pool's row holds f of it, by numbers
pub record HoldEach {A : Type 0} (number : A → ℕ) (market : Market) (f : ℕ → List ℕ) (rows : Rows A) : Type 0 where
  pub cut : AreCut (length market.pools) rows
  pub each : numbers_of number (length market.pools) rows ≡ each_pool market f

-- the rows of who contends for each pool, of which pools feed it, and of which it feeds
pub record AreListed (market : Market) (lists : Rows AppId × Rows PoolId × Rows PoolId) : Type 0 where
  pub of : HoldEach number_of_app market (contenders_of market) lists.0
  pub feeds : HoldEach number_of_pool market (feeding market) lists.1
  pub fed : HoldEach number_of_pool market (fed_by market) lists.2
