-- What a seat holds in memory after each call.
use Rattle.std.proofs.Common.{◌≡◌, ℕ, ◌-◌, ◌/◌, ◌<◌, ◌≤◌, Bool, true, false, true≢false, cond, max, nat_lt, ◌&&◌, List, length, get_or, set, replicate, refl, sym, ap, ◌∙◌, subst, inl, inr, arith, length-set}
use Rattle.std.specs.Prelude.{slice_index, if◌then◌else◌}
use Rattle.std.proofs.lemmas.Bool.{and_parts, cases_lt, cond_both, eqb-true}
use lib.ListN.{length-replicate}
use Rattle.sl_types.specs.declared.kinds.PoolId.{PoolId}
use Rattle.sl_laws.specs.Limits.{effective_limit}
use Rattle.sl_laws.specs.Best.{best_raise}
use Rattle.sl_core.specs.declared.kinds.Phase.{Phase}
use Rattle.sl_core.specs.declared.kinds.Phase.TheVariants.{Idle, Working, Ready, Drawn, Owing}
use Rattle.sl_core.specs.State.{is_idle, no_pools}
use Rattle.sl_core.specs.Machine.{may_claim, may_read, actor_after_read, phase_found, phase_after_read, lacks_read, may_draw, actor_after_draw, has_any, fed_pools, may_raise, still_owes}
use Rattle.sl_core.proofs.Actors.{up_within, set_keeps}
use Rattle.sl_floor.specs.Floor.{Sitting, word_count, step_on, claim_view, read_view, draw_view, raise_view, mark_view, stay_view, go_view}
use Rattle.sl_floor.specs.Held.{IsSeated, HoldsInHand, Holds}

module _ (v : Sitting) (known : List ℕ) (left : List Bool) (share allowance : ℕ) (pool : PoolId) (limit : ℕ) (h : Holds v known left share allowance pool limit) where
  idle_hand : (ph : Phase) (q : PoolId) → is_idle ph ≡ true → HoldsInHand (length v.market.pools) ph q limit
  idle_hand Idle q idle = tt
  idle_hand (Working P) q idle = absurd (true≢false (sym idle))
  idle_hand (Ready P x) q idle = absurd (true≢false (sym idle))
  idle_hand (Drawn P x) q idle = absurd (true≢false (sym idle))
  idle_hand (Owing P) q idle = absurd (true≢false (sym idle))

  -- a pool that may be claimed is a pool
  pub claim_within : (Q : ℕ) → may_claim v.actor Q ≡ true → Q < length v.market.pools
  claim_within Q may =
      let flag = (and_parts (is_idle v.actor.phase) (get_or v.actor.left Q false) may).1 in
      let up = up_within v.actor.left Q flag in let long = h.seated.sizes.left in omega (arith, up, long)

  claim_by : (Q : PoolId) (up : Bool) → is_idle v.actor.phase ≡ true → Q.0 < length v.market.pools → IsSeated (claim_view v Q up) → Holds (claim_view v Q up) known (set left Q.0 false) share allowance Q limit
  claim_by Q true idle within seated = record { known_is = h.known_is; left_is = ap (λ l. set l Q.0 false) h.left_is; share_is = h.share_is; allowance_is = h.allowance_is; in_hand = (refl, within); seated = seated; steps = length-set v.steps _ _ ∙ h.steps }
  claim_by Q false idle within seated = record { known_is = h.known_is; left_is = ap (λ l. set l Q.0 false) h.left_is; share_is = h.share_is; allowance_is = h.allowance_is; in_hand = idle_hand v.actor.phase Q idle; seated = seated; steps = length-set v.steps _ _ ∙ h.steps }

  pub claim_holds : (Q : PoolId) (up : Bool) → may_claim v.actor Q.0 ≡ true → IsSeated (claim_view v Q up) → Holds (claim_view v Q up) known (set left Q.0 false) share allowance Q limit
  claim_holds Q up may seated = claim_by Q up (and_parts (is_idle v.actor.phase) (get_or v.actor.left Q.0 false) may).0 (claim_within Q.0 may) seated

  next_hand : (P : PoolId) (reads : List ℕ) (made : List Bool) → (P ≡ pool) × (pool.0 < length v.market.pools) → HoldsInHand (length v.market.pools) (phase_after_read v.market P reads made) pool limit
  next_hand P reads made same = cond_both (lacks_read v.market P.0 made) (Working P) (phase_found v.market P reads) (λ (ph : Phase). HoldsInHand (length v.market.pools) ph pool limit) (λ lacks. same)
      (λ all. cond_both (nat_lt (effective_limit v.market (slice_index reads) P.0) (best_raise v.market (slice_index reads) P.0)) (Ready P (best_raise v.market (slice_index reads) P.0)) Idle (λ (ph : Phase). HoldsInHand (length v.market.pools) ph pool limit) (λ more. same) (λ none. tt))

  -- the pool in hand stays after a read
  read_hand : (Q word : ℕ) (ph : Phase) → v.actor.phase ≡ ph → may_read v.market ph v.actor Q ≡ true → HoldsInHand (length v.market.pools) (actor_after_read v.market ph v.actor Q word).phase pool limit
  read_hand Q word Idle is may = subst (λ (ph : Phase). HoldsInHand (length v.market.pools) ph pool limit) (sym is) tt
  read_hand Q word (Working P) is may = next_hand P (set v.actor.reads Q word) (set v.actor.made Q true) (subst (λ (ph : Phase). HoldsInHand (length v.market.pools) ph pool limit) is h.in_hand)
  read_hand Q word (Ready P x) is may = absurd (true≢false (sym may))
  read_hand Q word (Drawn P x) is may = absurd (true≢false (sym may))
  read_hand Q word (Owing P) is may = absurd (true≢false (sym may))

  read_known : (Q word : ℕ) (ph : Phase) → may_read v.market ph v.actor Q ≡ true → (actor_after_read v.market ph v.actor Q word).known ≡ set known Q word
  read_known Q word Idle may = ap (λ l. set l Q word) h.known_is
  read_known Q word (Working P) may = ap (λ l. set l Q word) h.known_is
  read_known Q word (Ready P x) may = absurd (true≢false (sym may))
  read_known Q word (Drawn P x) may = absurd (true≢false (sym may))
  read_known Q word (Owing P) may = absurd (true≢false (sym may))

  read_left : (Q word : ℕ) (ph : Phase) → (actor_after_read v.market ph v.actor Q word).left ≡ v.actor.left
  read_left Q word Idle = refl
  read_left Q word (Working P) = refl
  read_left Q word (Ready P x) = refl
  read_left Q word (Drawn P x) = refl
  read_left Q word (Owing P) = refl

  pub read_holds : (Q word : ℕ) → may_read v.market v.actor.phase v.actor Q ≡ true → IsSeated (read_view v Q word) → Holds (read_view v Q word) (set known Q word) left share allowance pool limit
  read_holds Q word may seated = record {
    known_is = read_known Q word v.actor.phase may;
    left_is = read_left Q word v.actor.phase ∙ h.left_is;
    share_is = h.share_is;
    allowance_is = h.allowance_is;
    in_hand = read_hand Q word v.actor.phase refl may;
    seated = seated;
    steps = length-set v.steps _ _ ∙ h.steps;
  }

  -- what the seat knows doesn't fall
  pub read_rises : (Q word : ℕ) → may_read v.market v.actor.phase v.actor Q ≡ true → slice_index v.actor.known Q ≤ word → (R : ℕ) → slice_index v.actor.known R ≤ slice_index (read_view v Q word).actor.known R
  read_rises Q word may rises R =
      let now = read_known Q word v.actor.phase may ∙ ap (λ l. set l Q word) (sym h.known_is) in
      subst (λ (l : List ℕ). slice_index v.actor.known R ≤ slice_index l R) (sym now) (set_keeps v.actor.known Q word (λ S n. slice_index v.actor.known S ≤ n) (λ S. omega arith) rises R)

  draw_by : (x ticket : ℕ) (ph : Phase) → v.actor.phase ≡ ph → may_draw ph x ≡ true → IsSeated (record v { actor = actor_after_draw ph v.actor ticket; allowance = v.allowance - 1; steps = step_on 0 v.steps })
      → Holds (record v { actor = actor_after_draw ph v.actor ticket; allowance = v.allowance - 1; steps = step_on 0 v.steps }) known left share (allowance - 1) pool x
  draw_by x ticket Idle is may seated = absurd (true≢false (sym may))
  draw_by x ticket (Working P) is may seated = absurd (true≢false (sym may))
  draw_by x ticket (Ready P y) is may seated = record {
    known_is = h.known_is;
    left_is = h.left_is;
    share_is = h.share_is;
    allowance_is = ap (λ (n : ℕ). n - 1) h.allowance_is;
    in_hand = let hand = subst (λ (ph : Phase). HoldsInHand (length v.market.pools) ph pool limit) is h.in_hand in (hand.0, hand.1, eqb-true y x may);
    seated = seated;
    steps = length-set v.steps _ _ ∙ h.steps;
  }
  draw_by x ticket (Drawn P y) is may seated = absurd (true≢false (sym may))
  draw_by x ticket (Owing P) is may seated = absurd (true≢false (sym may))

  pub draw_holds : (x ticket : ℕ) → may_draw v.actor.phase x ≡ true → IsSeated (draw_view v ticket) → Holds (draw_view v ticket) known left share (allowance - 1) pool x
  draw_holds x ticket may seated = draw_by x ticket v.actor.phase refl may seated

  pub raise_holds : (P : PoolId) (x word : ℕ) → IsSeated (raise_view v P x word) → Holds (raise_view v P x word) (set known P.0 (max word x)) left share allowance pool limit
  raise_holds P x word seated = record {
    known_is = ap (λ l. set l P.0 (max word x)) h.known_is;
    left_is = h.left_is;
    share_is = h.share_is;
    allowance_is = h.allowance_is;
    in_hand = cond_both (nat_lt word x && has_any (fed_pools v.market P.0)) (Owing P) Idle (λ (ph : Phase). HoldsInHand (length v.market.pools) ph pool limit) (λ more. tt) (λ none. tt);
    seated = seated;
    steps = length-set v.steps _ _ ∙ h.steps;
  }

  pub raise_rises : (P : PoolId) (x word : ℕ) → slice_index v.actor.known P.0 ≤ word → (R : ℕ) → slice_index v.actor.known R ≤ slice_index (raise_view v P x word).actor.known R
  raise_rises P x word rises R = set_keeps v.actor.known P.0 (max word x) (λ S n. slice_index v.actor.known S ≤ n) (λ S. omega arith) (elim (cases_lt word x) [ inl less ↦ omega (arith, rises, less) | inr more ↦ omega (arith, rises, more) ]) R

  hand_owing : (ph : Phase) (owed : List Bool) (Q : ℕ) → still_owes ph owed Q ≡ true → HoldsInHand (length v.market.pools) ph pool limit
  hand_owing Idle owed Q owes = absurd (true≢false (sym owes))
  hand_owing (Working P) owed Q owes = absurd (true≢false (sym owes))
  hand_owing (Ready P x) owed Q owes = absurd (true≢false (sym owes))
  hand_owing (Drawn P x) owed Q owes = absurd (true≢false (sym owes))
  hand_owing (Owing P) owed Q owes = tt

  -- a pool that is owed a mark is a pool
  owed_by : (ph : Phase) (owed : List Bool) (Q : ℕ) → still_owes ph owed Q ≡ true → get_or owed Q false ≡ true
  owed_by Idle owed Q owes = absurd (true≢false (sym owes))
  owed_by (Working P) owed Q owes = absurd (true≢false (sym owes))
  owed_by (Ready P x) owed Q owes = absurd (true≢false (sym owes))
  owed_by (Drawn P x) owed Q owes = absurd (true≢false (sym owes))
  owed_by (Owing P) owed Q owes = owes

  pub mark_within : (Q : ℕ) → still_owes v.actor.phase v.actor.owed Q ≡ true → Q < length v.market.pools
  mark_within Q owes = let up = up_within v.actor.owed Q (owed_by v.actor.phase v.actor.owed Q owes) in let long = h.seated.sizes.owed in omega (arith, up, long)

  pub mark_holds : (Q : ℕ) → still_owes v.actor.phase v.actor.owed Q ≡ true → IsSeated (mark_view v Q) → Holds (mark_view v Q) known (set left Q true) share allowance pool limit
  mark_holds Q owes seated = record {
    known_is = h.known_is;
    left_is = ap (λ l. set l Q true) h.left_is;
    share_is = h.share_is;
    allowance_is = h.allowance_is;
    in_hand = cond_both (has_any (set v.actor.owed Q false)) v.actor.phase Idle (λ (ph : Phase). HoldsInHand (length v.market.pools) ph pool limit) (λ more. hand_owing v.actor.phase v.actor.owed Q owes) (λ none. tt);
    seated = seated;
    steps = length-set v.steps _ _ ∙ h.steps;
  }

  -- the seat that stays, and the one that goes
  pub stay_holds : Holds (stay_view v) known left (share - share / 2) (allowance - allowance / 2) pool limit
  stay_holds = record {
    known_is = h.known_is;
    left_is = h.left_is;
    share_is = ap (λ (n : ℕ). n - n / 2) h.share_is;
    allowance_is = ap (λ (n : ℕ). n - n / 2) h.allowance_is;
    in_hand = h.in_hand;
    seated = record {
      sizes = h.seated.sizes;
      limits = h.seated.limits;
      low = h.seated.low;
      share = let fits = h.seated.share in omega (arith, fits);
      allowance = let fits = h.seated.allowance in omega (arith, fits);
    };
    steps = length-set v.steps _ _ ∙ h.steps;
  }

  go_left : (bare : Bool) → length (if bare then no_pools v.market else v.actor.left) ≡ length v.market.pools
  go_left true = length-replicate (length v.market.pools) false
  go_left false = h.seated.sizes.left

  go_flags : (bare : Bool) (pools : ℕ) → pools ≡ length v.market.pools → (if bare then no_pools v.market else v.actor.left) ≡ cond bare (replicate pools false) left
  go_flags true pools many = ap (λ (n : ℕ). replicate n false) (sym many)
  go_flags false pools many = h.left_is

  pub go_holds : (bare : Bool) (pools : ℕ) → pools ≡ length v.market.pools → Holds (go_view bare v) known (cond bare (replicate pools false) left) (share / 2) (allowance / 2) (record { 0 = 0 }) 0
  go_holds bare pools many = record {
    known_is = h.known_is;
    left_is = go_flags bare pools many;
    share_is = ap (λ (n : ℕ). n / 2) h.share_is;
    allowance_is = ap (λ (n : ℕ). n / 2) h.allowance_is;
    in_hand = tt;
    seated = record {
      sizes = record {
        known = h.seated.sizes.known;
        reads = length-replicate {A = ℕ} (length v.market.pools) 0;
        made = length-replicate (length v.market.pools) false;
        left = go_left bare;
        owed = length-replicate (length v.market.pools) false;
      };
      limits = h.seated.limits;
      low = h.seated.low;
      share = let fits = h.seated.share in omega (arith, fits);
      allowance = let fits = h.seated.allowance in omega (arith, fits);
    };
    steps = length-replicate {A = ℕ} (word_count v.market) 0;
  }

-- a raise is in hand
pub raise_hand : (pools : ℕ) (ph : Phase) (pool : PoolId) (limit : ℕ) → HoldsInHand pools ph pool limit → may_raise ph ≡ true → (ph ≡ Drawn pool limit) × (pool.0 < pools)
raise_hand pools Idle pool limit h may = absurd (true≢false (sym may))
raise_hand pools (Working P) pool limit h may = absurd (true≢false (sym may))
raise_hand pools (Ready P x) pool limit h may = absurd (true≢false (sym may))
raise_hand pools (Drawn P x) pool limit h may = (let a = h.0 in let b = h.2 in cc, h.1)
raise_hand pools (Owing P) pool limit h may = absurd (true≢false (sym may))
