-- A pool stays covered where a step of one actor takes nothing of its cover away.
use Rattle.std.proofs.Common.{◌≡◌, ℕ, ◌+◌, ◌<◌, ◌≤◌, Bool, true, false, List, length, get_or, sym, ◌∙◌, subst, inl, inr, arith}
use Rattle.std.specs.Prelude.{slice_index}
use Rattle.std.proofs.lemmas.Bool.{cases_eq, cases_lt}
use Rattle.sl_types.specs.Market.{Market}
use Rattle.sl_types.specs.WellFormed.{IsWellFormed}
use Rattle.sl_laws.specs.Limits.{effective_limit}
use Rattle.sl_laws.specs.Stable.{Feeds, IsSettled}
use Rattle.sl_laws.specs.Best.{best_raise}
use Rattle.sl_laws.proofs.Best.{best_decides}
use Rattle.sl_laws.proofs.Local.{is_local}
use Rattle.sl_core.specs.State.{Actor, State, actor_at}
use Rattle.sl_core.specs.Machine.{still_owes}
use Rattle.sl_core.specs.Parts.{Someone, IsFresh, IsCovered}
use Rattle.sl_core.proofs.Actors.{zero_past, some_set, some_else}
use Rattle.sl_core.proofs.Moves.{moved}

-- the words of the pools that feed Q are the same
abbrev pub SameFeeding : Market → ℕ → List ℕ → List ℕ → Type 0
SameFeeding market Q ws us = (R : ℕ) → R < length market.pools → Feeds market R Q → slice_index ws R ≡ slice_index us R

pub fresh_on : (market : Market) (Q : ℕ) (ws us : List ℕ) (d : Actor) → SameFeeding market Q ws us → IsFresh market ws Q d → IsFresh market us Q d
fresh_on market Q ws us d same f = record { in_hand = f.in_hand; equal = λ R h feed made. f.equal R h feed made ∙ same R h feed }

-- and so are those of numbers that are no pool's
pub feeding_all : (market : Market) (Q : ℕ) (ws us : List ℕ) → length ws ≡ length market.pools → length us ≡ length market.pools → SameFeeding market Q ws us
    → (R : ℕ) → Feeds market R Q → slice_index ws R ≡ slice_index us R
feeding_all market Q ws us long wide same R feed = elim (cases_lt R (length market.pools)) [
  | inl h ↦ same R h feed
  | inr past ↦ zero_past ws R (omega (arith, long, past)) ∙ sym (zero_past us R (omega (arith, wide, past)))
]

-- where the reads of the feeding pools equal the words, and the best raise at the reads is no more than the limit, the pool is settled
pub settled_by : (market : Market) → IsWellFormed market → (reads words : List ℕ) (Q : ℕ) → Q < length market.pools → length reads ≡ length market.pools → length words ≡ length market.pools
    → SameFeeding market Q reads words → best_raise market (slice_index reads) Q ≤ effective_limit market (slice_index words) Q → IsSettled market (slice_index words) Q
settled_by market ok reads words Q within long wide same low just =
    let equal : (R : ℕ) → Feeds market R Q → slice_index words R ≡ slice_index reads R = λ R feed. sym (feeding_all market Q reads words long wide same R feed) in
    let x : ℕ = effective_limit market (slice_index words) Q + 1 in
    let there = is_local market ok (slice_index words) (slice_index reads) Q x equal just in
    let best = (best_decides market ok (slice_index reads) Q x within (omega arith)).0 there in
    omega (arith, best, low)

module _ (market : Market) (s : State) (i : ℕ) (inside : i < length s.actors) (b : Actor) (limits : List ℕ) (flags : List Bool) (Q : ℕ) where
  abbrev t : State
  t = moved s i b limits flags

  covers_works : SameFeeding market Q s.limits limits → (IsFresh market s.limits Q (actor_at s i) → IsCovered market t Q) → Someone s (IsFresh market s.limits Q) → IsCovered market t Q
  covers_works same work (j, h, f) = elim (cases_eq j i) [
    | inl mine ↦ work (subst (λ (k : ℕ). IsFresh market s.limits Q (actor_at s k)) mine f)
    | inr other ↦ inr (inr (inl (some_else s.actors i j b (IsFresh market limits Q) other h (fresh_on market Q s.limits limits (actor_at s j) same f))))
  ]

  pub covers_on : (get_or s.flags Q false ≡ true → IsCovered market t Q) → (still_owes (actor_at s i).phase (actor_at s i).owed Q ≡ true → still_owes b.phase b.owed Q ≡ true)
      → SameFeeding market Q s.limits limits → (IsFresh market s.limits Q (actor_at s i) → IsCovered market t Q)
      → (IsSettled market (slice_index s.limits) Q → IsSettled market (slice_index limits) Q) → IsCovered market s Q → IsCovered market t Q
  covers_on up owe same work settled (inl flag) = up flag
  covers_on up owe same work settled (inr (inl owed)) = inr (inl (some_set s.actors i b (λ d. still_owes d.phase d.owed Q ≡ true) (λ d. still_owes d.phase d.owed Q ≡ true) inside (λ d f. f) owe owed))
  covers_on up owe same work settled (inr (inr (inl works))) = covers_works same work works
  covers_on up owe same work settled (inr (inr (inr st))) = inr (inr (inr (settled st)))
