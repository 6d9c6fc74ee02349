-- The laws of limits, as statements about one instance, or two of which one is the other relaxed. Each is proved of
-- every valid instance.
use Rattle.std.specs.Prelude.{◌≡◌, ◌≢◌, ◌⊎◌, ◌↔◌, ℕ, ◌+◌, ◌<◌, ◌≤◌, true, List, [], ◌∷◌, ◌++◌, length}
use Rattle.sl_types.specs.declared.kinds.Raise.{Raise}
use Rattle.sl_types.specs.declared.kinds.Pool.{Pool}
use Rattle.sl_types.specs.declared.kinds.Rule.TheVariants.{H, L, Merit}
use Rattle.sl_types.specs.declared.kinds.TheConstants.{MAX_SCORE}
use Rattle.sl_types.specs.Market.{Market, pool_at, rule_of, lies_in, list_of}
use Rattle.sl_laws.specs.Limits.{Limits, effective_limit, demand}
use Rattle.sl_laws.specs.Outcome.{admitted_place}
use Rattle.sl_laws.specs.Stable.{IsStable, IsLeastStable, IsJustified, IsSettled, Feeds, HasInOrder}
use Rattle.sl_laws.specs.Raises.{IsSound, MayCome, Replays, Proves, after_raise, limits_after, without_void}
use Rattle.sl_laws.specs.Best.{best_raise}

-- a pool of rule H or L
abbrev pub IsScorePool : Market → ℕ → Type 0
IsScorePool market P = rule_of market P ≢ Merit

-- each pool of the instance is F
abbrev pub EachPool : Market → (ℕ → Type 0) → Type 0
EachPool market F = (Q : ℕ) → Q < length market.pools → F Q

-- each effective limit of t is at most that of u
abbrev pub AtMost : Market → Limits → Limits → Type 0
AtMost market t u = EachPool market (λ Q. effective_limit market t Q ≤ effective_limit market u Q)

-- the effective limits of t and u are the same
abbrev pub HaveSameEffect : Market → Limits → Limits → Type 0
HaveSameEffect market t u = EachPool market (λ Q. effective_limit market t Q ≡ effective_limit market u Q)

-- each pool that feeds P has the same number in t and u
abbrev pub AgreeOnFeeds : Market → ℕ → Limits → Limits → Type 0
AgreeOnFeeds market P t u = (Q : ℕ) → Feeds market Q P → t Q ≡ u Q

-- the demand for a score pool doesn't rise with its own limit, and doesn't fall where other limits rise
abbrev pub DemandIsMonotone : Market → Type 0
DemandIsMonotone market =
    (P : ℕ) → IsScorePool market P → (t u : Limits)
    → EachPool market (λ Q. Q ≢ P → effective_limit market t Q ≤ effective_limit market u Q)
    → (x y : ℕ) → y ≤ x → demand market t P x ≤ demand market u P y

-- where x is justified, so is each smaller x
abbrev pub JustifiedBelow : Market → Type 0
JustifiedBelow market =
    (t : Limits) (P x y : ℕ) → y ≤ x → IsJustified market t P x → IsJustified market t P y

-- no raise to more than one point above the greatest score is justified
abbrev pub JustifiedHasTop : Market → Type 0
JustifiedHasTop market =
    (t : Limits) (P x : ℕ) → P < length market.pools → IsJustified market t P x → x ≤ MAX_SCORE + 1

-- a justified raise passes no stable limit
abbrev pub PassesNoStableLimit : Market → Type 0
PassesNoStableLimit market =
    (l r : Limits) → IsStable market l → EachPool market (λ Q. effective_limit market r Q ≤ l Q)
    → (P x : ℕ) → P < length market.pools → IsJustified market r P x → x ≤ l P

-- a justified raise stays justified until it is overtaken
abbrev pub StaysJustified : Market → Type 0
StaysJustified market =
    (c : List Raise) → IsSound market c → (r : Limits) → AtMost market r (limits_after c)
    → (P x : ℕ) → IsJustified market r P x
    → (x ≤ effective_limit market (limits_after c) P) ⊎ IsJustified market (limits_after c) P x

-- void raises can be dropped
abbrev pub DropsVoid : Market → Type 0
DropsVoid market =
    (c : List Raise) → IsSound market c → let kept = without_void market c in
    Replays market kept × HaveSameEffect market (limits_after kept) (limits_after c)

-- P's own number is above that of each pool round it
abbrev pub IsAboveOuter : Market → Limits → ℕ → Type 0
IsAboveOuter market t P = (Q : ℕ) → lies_in market P Q ≡ true → Q ≢ P → t Q < t P

-- the number that decides a pool's limit is itself justified
abbrev pub DecidingIsJustified : Market → Type 0
DecidingIsJustified market =
    (c : List Raise) → IsSound market c → let t = limits_after c in
    EachPool market (λ P. 1 ≤ t P → IsAboveOuter market t P → IsJustified market t P (t P))

-- whether a raise is justified is local to the feeding pools
abbrev pub IsLocal : Market → Type 0
IsLocal market =
    (t u : Limits) (P x : ℕ) → AgreeOnFeeds market P t u → IsJustified market t P x → IsJustified market u P x

-- a settled pool stays settled where its own number rises and the numbers of its feeding pools stay
abbrev pub StaysSettled : Market → Type 0
StaysSettled market =
    (t u : Limits) (P : ℕ) → P < length market.pools → AgreeOnFeeds market P t u → t P ≤ u P
    → IsSettled market t P → IsSettled market u P

-- no sound list passes a stable limit
abbrev pub SoundPassesNone : Market → Type 0
SoundPassesNone market =
    (c : List Raise) → IsSound market c → (l : Limits) → IsStable market l → (P : ℕ) → limits_after c P ≤ l P

-- a list that proves limits proves them the least
abbrev pub ProvesTheLeast : Market → Type 0
ProvesTheLeast market = (c : List Raise) (l : Limits) → Proves market c l → IsLeastStable market l

-- a raise is justified exactly where it is at most the best
abbrev pub BestDecides : Market → Type 0
BestDecides market =
    (t : Limits) (P x : ℕ) → P < length market.pools → 1 ≤ x
    → IsJustified market t P x ↔ (x ≤ best_raise market t P)

-- whether a pool is settled depends on effective limits alone
abbrev pub SettledAlike : Market → Type 0
SettledAlike market =
    (t u : Limits) → HaveSameEffect market t u
    → EachPool market (λ P. IsSettled market t P → IsSettled market u P)

-- Q feeds P where Q isn't P, and some applicant has a choice in Q, and that or a later one in P
abbrev pub FeedsSays : Market → Type 0
FeedsSays market =
    (Q P : ℕ) → Feeds market Q P
    ↔ ((Q ≢ P) × ((a : ℕ) × (a < length market.lists) × HasInOrder market Q P (list_of market a)))

-- no stable limits admit any applicant earlier on their list than the least do
abbrev pub NoneEarlier : Market → Type 0
NoneEarlier market =
    (l m : Limits) → IsLeastStable market l → IsStable market m
    → (a : ℕ) → a < length market.lists → admitted_place market l a ≤ admitted_place market m a

-- the least stable limits are one vector
abbrev pub LeastIsOne : Market → Type 0
LeastIsOne market =
    (l m : Limits) → IsLeastStable market l → IsLeastStable market m → EachPool market (λ P. l P ≡ m P)

-- a list with a raise at its end replays exactly where its front does, and the raise may come there
abbrev pub ReplaysByEnd : Market → Type 0
ReplaysByEnd market =
    (c : List Raise) (r : Raise) → Replays market (c ++ r ∷ [])
    ↔ (Replays market c × (r.pool.0 < length market.pools) × MayCome market (limits_after c) r)

-- it reaches the limits of its front after that raise
abbrev pub ReachesByEnd : Type 0
ReachesByEnd = (c : List Raise) (r : Raise) → limits_after (c ++ r ∷ []) ≡ after_raise (limits_after c) r

-- a pool with the same quota and parent, and with the same rule, or with L in place of H
pub record IsRelaxedPool (pool relaxed : Pool) : Type 0 where
  pub quota : relaxed.quota ≡ pool.quota
  pub parent : relaxed.parent ≡ pool.parent
  pub rule : (relaxed.rule ≡ pool.rule) ⊎ ((pool.rule ≡ H) × (relaxed.rule ≡ L))

-- an instance that is equal but for pools of rule H that have rule L instead
pub record IsRelaxed (market relaxed : Market) : Type 0 where
  pub progs : relaxed.progs ≡ market.progs
  pub lists : relaxed.lists ≡ market.lists
  pub each : length relaxed.pools ≡ length market.pools
  pub pools : (P : ℕ) → P < length market.pools → IsRelaxedPool (pool_at market P) (pool_at relaxed P)

-- limits under L are at most those under H
abbrev pub UnderLIsLower : Market → Market → Type 0
UnderLIsLower market relaxed =
    IsRelaxed market relaxed → (l m : Limits) → IsLeastStable market l → IsLeastStable relaxed m
    → EachPool market (λ P. m P ≤ l P)
