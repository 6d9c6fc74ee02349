-- A step of the table is a step of the machine, so it keeps the rule.
use Rattle.std.proofs.Common.{◌≡◌, ℕ, ◌+◌, ◌%◌, ◌^◌, ◌<◌, ◌≤◌, true, false, max, List, length, map, get_or, set, refl, sym, ap, ◌∙◌, subst, inl, Bool, arith, length-set, get_or-set_other, get_or-set_same}
use Rattle.std.specs.Prelude.{slice_index}
use Rattle.std.proofs.lemmas.List.{set-get_or}
use mathlib.Core.Option.{none, some}
use lib.ListN.{get_elem?}
use lib.Seq.{map-set}
use Rattle.atomic_table.specs.Table.{Me, step, keeps, Allows}
use Rattle.atomic_table.proofs.Lists.{set_here}
use Rattle.std.proofs.lemmas.List.Elements.{All-set}
use Rattle.sl_types.specs.declared.kinds.PoolId.{PoolId}
use Rattle.sl_types.specs.declared.kinds.Raise.{Raise}
use Rattle.sl_types.specs.Market.{Market}
use Rattle.sl_types.specs.WellFormed.{IsWellFormed}
use Rattle.sl_core.specs.declared.kinds.Phase.{Phase}
use Rattle.sl_core.specs.declared.kinds.Phase.TheVariants.{Drawn}
use Rattle.sl_core.specs.State.{Actor, State, actor_at}
use Rattle.sl_core.specs.Machine.{may_claim, actor_after_claim, after_claim, may_read, actor_after_read, after_read, may_draw, actor_after_draw, after_draw, may_raise, actor_after_raise, after_raising_by, after_raising, still_owes, actor_after_mark, after_mark}
use Rattle.sl_core.specs.Parts.{IsLogged, FitsPhase, HasParts}
use Rattle.sl_core.proofs.Running.{read_within}
use Rattle.sl_core.proofs.Claims.{claims_keep}
use Rattle.sl_core.proofs.Reading.{reads_keep}
use Rattle.sl_core.proofs.Draws.{draws_keep}
use Rattle.sl_core.proofs.Raises.{raises_keep}
use Rattle.sl_core.proofs.Marks.{marks_keep}
use Rattle.sl_floor.specs.Floor.{Sitting, limit_place, flag_place, is_up, read_view, claim_view, draw_view, raise_view, mark_view}
use Rattle.sl_floor.specs.Held.{IsSeated}
use Rattle.sl_floor.specs.Rule.{Table, actor_in, state_of, IsSeatOf, IsFloored, IsFound, Reads, Claims, Draws, Raises, Marks}
use Rattle.sl_floor.proofs.Words.{limit_at, flag_at, limits_else, flags_else, limits_set, flags_set, at_within, sum_set, seated_is}
use Rattle.sl_floor.proofs.Told.{state_by, core, ok, here, inside, holder, reached_low, passes_none, seated_here}

abbrev pub Sat : Type 0
Sat = Me (Unit {0}) Sitting

module _ (market : Market) (kept : List Raise) (id : ℕ) (v : Sitting) (some_share : 0 < v.share) (same : v.market ≡ market) (s : Table) (r : IsFloored market kept s) (at : get_elem? s.views id ≡ some v) where
  abbrev state : State
  state = core market kept id v some_share same s r at

  is_ok : IsWellFormed market
  is_ok = ok market kept id v some_share same s r at

  is_here : actor_at state id ≡ v.actor
  is_here = here market kept id v some_share same s r at

  is_inside : id < length state.actors
  is_inside = inside market kept id v some_share same s r at

  -- the actors with another view
  actors_are : (w : Sitting) → w.share ≡ v.share → map (actor_in market) (set s.views id w) ≡ set state.actors id w.actor
  actors_are w share = map-set (actor_in market) s.views id w ∙ ap (set state.actors id) (seated_is market w.share w.actor (omega (arith, share, some_share)))

  -- the rule after a step of this seat
  floored : (i n : ℕ) (w : Sitting) → w.share ≡ v.share → w.market ≡ v.market → w.kept ≡ v.kept → slice_index (set s.words i n) 0 + w.allowance ≡ slice_index s.words 0 + v.allowance
      → HasParts market kept (state_of market (set s.words i n) (set s.views id w)) → IsFloored market kept record { words = set s.words i n; homes = s.homes; views = set s.views id w }
  floored i n w share held also allowance parts = record {
    valid = r.valid;
    few = r.few;
    wide = length-set s.words i n ∙ r.wide;
    parts = parts;
    seats =
        let holds = holder market kept id v some_share same s r at in
        All-set (IsSeatOf market kept) s.views id w (inl (record { share = omega (arith, share, some_share); instance = held ∙ holds.instance; raises = also ∙ holds.raises })) r.seats;
    shares = let sums = sum_set (λ u. u.share) s.views id v w at in let all = r.shares in omega (arith, sums, all, share);
    tickets = let sums = sum_set (λ u. u.allowance) s.views id v w at in let all = r.tickets in omega (arith, sums, all, allowance);
  }

  -- what is found at the word of a pool
  pub found_at : (Q : ℕ) → Q < length market.pools → IsFound v Q (slice_index s.words (limit_place Q))
  found_at Q h =
      let word : slice_index state.limits Q ≡ slice_index s.words (limit_place Q) = limit_at market s.words r.wide Q h in
      let logged : IsLogged state Q (slice_index s.words (limit_place Q)) = subst (IsLogged state Q) word (r.parts.logged.limits Q) in record {
        rises = let known = (subst (λ (a : Actor). slice_index a.known Q ≤ slice_index state.limits Q) is_here (r.parts.known id is_inside Q).0) in omega (arith, known, word);
        top = reached_low market kept id v some_share same s r at Q _ logged;
        low = λ l stable. passes_none market kept id v some_share same s r at l stable Q _ logged;
      }

  -- what the seat is after a step
  pub seated_after : (i n : ℕ) (w : Sitting) → w.share ≡ v.share → w.market ≡ v.market → IsFloored market kept record { words = set s.words i n; homes = s.homes; views = set s.views id w } → IsSeated w
  seated_after i n w share held after = seated_here market kept id w (omega (arith, share, some_share)) (held ∙ same) _ after (set_here s.views id w (at_within s.views id v at))

  -- after a read the words and the seats make the machine's next state
  pub read_state : (Q : ℕ) → may_read market v.actor.phase v.actor Q ≡ true
      → state_of market (set s.words (limit_place Q) (slice_index s.words (limit_place Q))) (set s.views id (read_view v Q (slice_index s.words (limit_place Q)))) ≡ after_read market state id (record { 0 = Q })
  read_state Q may =
      let x : ℕ = slice_index s.words (limit_place Q) in
      let w : Sitting = read_view v Q x in
      let back = set-get_or s.words (limit_place Q) 0 in
      let within = read_within market v.actor.phase v.actor Q may in
      let actor : w.actor ≡ actor_after_read market (actor_at state id).phase (actor_at state id) Q (slice_index state.limits Q) =
      ap (λ (m : Market). actor_after_read m v.actor.phase v.actor Q x) same ∙ (ap (λ (a : Actor). actor_after_read market a.phase a Q x) (sym is_here) ∙ ap (actor_after_read market (actor_at state id).phase (actor_at state id) Q) (sym (limit_at market s.words r.wide Q within))) in
      subst (λ ws. state_of market ws (set s.views id w) ≡ after_read market state id (record { 0 = Q })) (sym back)
      (state_by market s.words (set s.views id w) (after_read market state id (record { 0 = Q })) refl refl refl (actors_are w refl ∙ ap (set state.actors id) actor))

  pub read_keeps : (Q : ℕ) → may_read market v.actor.phase v.actor Q ≡ true
      → IsFloored market kept record { words = set s.words (limit_place Q) (slice_index s.words (limit_place Q)); homes = s.homes; views = set s.views id (read_view v Q (slice_index s.words (limit_place Q))) }
  read_keeps Q may =
      let x : ℕ = slice_index s.words (limit_place Q) in
      let w : Sitting = read_view v Q x in
      let back = set-get_or s.words (limit_place Q) 0 in
      let kept_parts = reads_keep market is_ok kept state id (record { 0 = Q }) r.parts is_inside (subst (λ (a : Actor). may_read market a.phase a Q ≡ true) (sym is_here) may) in
      floored (limit_place Q) x w refl refl refl (let t : slice_index (set s.words (limit_place Q) x) 0 ≡ slice_index s.words 0 = ap (λ ws. slice_index ws 0) back in omega (arith, t))
      (subst (HasParts market kept) (sym (read_state Q may)) kept_parts)

  -- after a claim
  pub claim_state : (Q : PoolId) → may_claim v.actor Q.0 ≡ true → Q.0 < length market.pools
      → state_of market (set s.words (flag_place market Q.0) 0) (set s.views id (claim_view v Q (is_up (slice_index s.words (flag_place market Q.0))))) ≡ after_claim market state id Q
  claim_state Q may within =
      let x : ℕ = slice_index s.words (flag_place market Q.0) in
      let w : Sitting = claim_view v Q (is_up x) in
      let actor : w.actor ≡ actor_after_claim market (get_or state.flags Q.0 false) (actor_at state id) Q =
      ap (λ (m : Market). actor_after_claim m (is_up x) v.actor Q) same ∙ (ap (λ (a : Actor). actor_after_claim market (is_up x) a Q) (sym is_here) ∙ ap (λ b. actor_after_claim market b (actor_at state id) Q) (sym (flag_at market s.words r.wide Q.0 within))) in
      let ticket : slice_index (set s.words (flag_place market Q.0) 0) 0 ≡ slice_index s.words 0 = get_or-set_other s.words (flag_place market Q.0) 0 0 0 (λ e. omega (arith, e)) in
      state_by market (set s.words (flag_place market Q.0) 0) (set s.views id w) (after_claim market state id Q)
      (limits_else market s.words r.wide (flag_place market Q.0) 0 (λ R h e. omega (arith, h, e)))
      (flags_set market s.words r.wide (flag_place market Q.0) 0 Q.0 within refl) ticket (actors_are w refl ∙ ap (set state.actors id) actor)

  pub claim_keeps : (Q : PoolId) → may_claim v.actor Q.0 ≡ true → Q.0 < length market.pools
      → IsFloored market kept record { words = set s.words (flag_place market Q.0) 0; homes = s.homes; views = set s.views id (claim_view v Q (is_up (slice_index s.words (flag_place market Q.0)))) }
  claim_keeps Q may within =
      let w : Sitting = claim_view v Q (is_up (slice_index s.words (flag_place market Q.0))) in
      let kept_parts = claims_keep market kept state id Q r.parts is_inside (subst (λ (a : Actor). may_claim a Q.0 ≡ true) (sym is_here) may) in
      let ticket : slice_index (set s.words (flag_place market Q.0) 0) 0 ≡ slice_index s.words 0 = get_or-set_other s.words (flag_place market Q.0) 0 0 0 (λ e. omega (arith, e)) in
      floored (flag_place market Q.0) 0 w refl refl refl (omega (arith, ticket))
      (subst (HasParts market kept) (sym (claim_state Q may within)) kept_parts)

  -- the ticket number is far from its end
  pub small : 0 < v.allowance → (slice_index s.words 0 + 1) % 2 ^ 64 ≡ slice_index s.words 0 + 1
  small some_left =
      let sums = sum_set (λ u. u.allowance) s.views id v v at in
      let all = r.tickets in let few = r.few in
      omega (arith, sums, all, few, some_left)

  -- after a draw
  pub draw_state : (x : ℕ) → may_draw v.actor.phase x ≡ true
      → state_of market (set s.words 0 (slice_index s.words 0 + 1)) (set s.views id (draw_view v (slice_index s.words 0))) ≡ after_draw state id
  draw_state x may =
      let n : ℕ = slice_index s.words 0 in
      let w : Sitting = draw_view v n in
      let actor : w.actor ≡ actor_after_draw (actor_at state id).phase (actor_at state id) n = ap (λ (a : Actor). actor_after_draw a.phase a n) (sym is_here) in
      let ticket : slice_index (set s.words 0 (n + 1)) 0 ≡ n + 1 = get_or-set_same s.words 0 (n + 1) 0 (let k = r.wide in omega (arith, k)) in
      state_by market (set s.words 0 (n + 1)) (set s.views id w) (after_draw state id)
      (limits_else market s.words r.wide 0 (n + 1) (λ R h e. omega (arith, e))) (flags_else market s.words r.wide 0 (n + 1) (λ R h e. omega (arith, e))) ticket
      (actors_are w refl ∙ ap (set state.actors id) actor)

  pub draw_keeps : (x : ℕ) → may_draw v.actor.phase x ≡ true → 0 < v.allowance
      → IsFloored market kept record { words = set s.words 0 ((slice_index s.words 0 + 1) % 2 ^ 64); homes = s.homes; views = set s.views id (draw_view v (slice_index s.words 0)) }
  draw_keeps x may some_left =
      let n : ℕ = slice_index s.words 0 in
      let w : Sitting = draw_view v n in
      let kept_parts = draws_keep market is_ok kept state id x r.parts is_inside (subst (λ (a : Actor). may_draw a.phase x ≡ true) (sym is_here) may) in
      let ticket : slice_index (set s.words 0 (n + 1)) 0 ≡ n + 1 = get_or-set_same s.words 0 (n + 1) 0 (let k = r.wide in omega (arith, k)) in
      subst (λ (m : ℕ). IsFloored market kept record { words = set s.words 0 m; homes = s.homes; views = set s.views id w }) (sym (small some_left))
      (floored 0 (n + 1) w refl refl refl (omega (arith, ticket, some_left))
      (subst (HasParts market kept) (sym (draw_state x may)) kept_parts))

  pub drawn_within : (P : PoolId) (x : ℕ) → v.actor.phase ≡ Drawn P x → P.0 < length market.pools
  drawn_within P x is_drawn =
      let phase : (actor_at state id).phase ≡ Drawn P x = ap (λ (a : Actor). a.phase) is_here ∙ is_drawn in
      (subst (FitsPhase market (actor_at state id)) phase (r.parts.in_phase id is_inside)).0.reading.within

  -- after a raise
  pub raise_state : (P : PoolId) (x : ℕ) → v.actor.phase ≡ Drawn P x
      → state_of market (set s.words (limit_place P.0) (max (slice_index s.words (limit_place P.0)) x)) (set s.views id (raise_view v P x (slice_index s.words (limit_place P.0)))) ≡ after_raising market state id
  raise_state P x is_drawn =
      let y : ℕ = slice_index s.words (limit_place P.0) in
      let w : Sitting = raise_view v P x y in
      let phase : (actor_at state id).phase ≡ Drawn P x = ap (λ (a : Actor). a.phase) is_here ∙ is_drawn in
      let within = drawn_within P x is_drawn in
      let word : y ≡ slice_index state.limits P.0 = sym (limit_at market s.words r.wide P.0 within) in
      let actor : w.actor ≡ actor_after_raise market P x (actor_at state id) (slice_index state.limits P.0) =
      ap (λ (m : Market). actor_after_raise m P x v.actor y) same ∙ (ap (λ (a : Actor). actor_after_raise market P x a y) (sym is_here) ∙ ap (actor_after_raise market P x (actor_at state id)) word) in
      let ticket : slice_index (set s.words (limit_place P.0) (max y x)) 0 ≡ slice_index s.words 0 = get_or-set_other s.words (limit_place P.0) 0 (max y x) 0 (λ e. omega (arith, e)) in
      subst (λ (ph : Phase). state_of market (set s.words (limit_place P.0) (max y x)) (set s.views id w) ≡ after_raising_by market ph state id) (sym phase)
      (state_by market (set s.words (limit_place P.0) (max y x)) (set s.views id w) (after_raising_by market (Drawn P x) state id)
      (limits_set market s.words r.wide (limit_place P.0) (max y x) P.0 within refl ∙ ap (λ (z : ℕ). set state.limits P.0 (max z x)) word)
      (flags_else market s.words r.wide (limit_place P.0) (max y x) (λ R h e. omega (arith, e, within))) ticket (actors_are w refl ∙ ap (set state.actors id) actor))

  pub raise_keeps : (P : PoolId) (x : ℕ) → v.actor.phase ≡ Drawn P x
      → IsFloored market kept record { words = set s.words (limit_place P.0) (max (slice_index s.words (limit_place P.0)) x); homes = s.homes; views = set s.views id (raise_view v P x (slice_index s.words (limit_place P.0))) }
  raise_keeps P x is_drawn =
      let y : ℕ = slice_index s.words (limit_place P.0) in
      let w : Sitting = raise_view v P x y in
      let phase : (actor_at state id).phase ≡ Drawn P x = ap (λ (a : Actor). a.phase) is_here ∙ is_drawn in
      let after = raises_keep market is_ok kept state id r.parts is_inside (ap may_raise phase) in
      let ticket : slice_index (set s.words (limit_place P.0) (max y x)) 0 ≡ slice_index s.words 0 = get_or-set_other s.words (limit_place P.0) 0 (max y x) 0 (λ e. omega (arith, e)) in
      floored (limit_place P.0) (max y x) w refl refl refl (omega (arith, ticket))
      (subst (HasParts market kept) (sym (raise_state P x is_drawn)) after)

  -- after a mark
  pub mark_state : (Q : ℕ) → still_owes v.actor.phase v.actor.owed Q ≡ true → Q < length market.pools
      → state_of market (set s.words (flag_place market Q) 1) (set s.views id (mark_view v Q)) ≡ after_mark state id (record { 0 = Q })
  mark_state Q may within =
      let w : Sitting = mark_view v Q in
      let actor : w.actor ≡ actor_after_mark (actor_at state id) Q = ap (λ (a : Actor). actor_after_mark a Q) (sym is_here) in
      let ticket : slice_index (set s.words (flag_place market Q) 1) 0 ≡ slice_index s.words 0 = get_or-set_other s.words (flag_place market Q) 0 1 0 (λ e. omega (arith, e)) in
      state_by market (set s.words (flag_place market Q) 1) (set s.views id w) (after_mark state id (record { 0 = Q }))
      (limits_else market s.words r.wide (flag_place market Q) 1 (λ R h e. omega (arith, h, e)))
      (flags_set market s.words r.wide (flag_place market Q) 1 Q within refl) ticket (actors_are w refl ∙ ap (set state.actors id) actor)

  pub mark_keeps : (Q : ℕ) → still_owes v.actor.phase v.actor.owed Q ≡ true → Q < length market.pools
      → IsFloored market kept record { words = set s.words (flag_place market Q) 1; homes = s.homes; views = set s.views id (mark_view v Q) }
  mark_keeps Q may within =
      let w : Sitting = mark_view v Q in
      let kept_parts = marks_keep market kept state id (record { 0 = Q }) r.parts is_inside (subst (λ (a : Actor). still_owes a.phase a.owed Q ≡ true) (sym is_here) may) in
      let ticket : slice_index (set s.words (flag_place market Q) 1) 0 ≡ slice_index s.words 0 = get_or-set_other s.words (flag_place market Q) 0 1 0 (λ e. omega (arith, e)) in
      floored (flag_place market Q) 1 w refl refl refl (omega (arith, ticket))
      (subst (HasParts market kept) (sym (mark_state Q may within)) kept_parts)

-- what each call asks of the table
module _ (market : Market) (kept : List Raise) (slots id : ℕ) (me : Sat) (some_share : 0 < me.0.share) (same : me.0.market ≡ market) where
  pub reads : (Q : ℕ) → may_read market me.0.actor.phase me.0.actor Q ≡ true → Allows (IsFloored market kept) slots id me (limit_place Q) (λ x. x) (Reads (step slots (limit_place Q) 0 0 none) me)
  reads Q may s r _ at _ =
      let x : ℕ = slice_index s.words (limit_place Q) in
      let found = found_at market kept id me.0 some_share same s r at Q (read_within market me.0.actor.phase me.0.actor Q may) in
      let after = read_keeps market kept id me.0 some_share same s r at Q may in (
        read_view me.0 Q x,
        keeps,
        tt,
        after,
        (
          record { slots = refl; seated = seated_after market kept id me.0 some_share same s r at _ _ (read_view me.0 Q x) refl refl after },
          λ R e. let is : Q ≡ R = omega (arith, e) in subst (λ (S : ℕ). (read_view me.0 Q x ≡ read_view me.0 S x) × IsFound me.0 S x) is (refl, found),
        ),
      )

  pub claims : (i : ℕ) (Q : PoolId) → i ≡ flag_place market Q.0 → may_claim me.0.actor Q.0 ≡ true → Q.0 < length market.pools → Allows (IsFloored market kept) slots id me i (λ _. 0) (Claims (step slots i 0 0 none) me)
  claims i Q place may within = subst (λ (j : ℕ). Allows (IsFloored market kept) slots id me j (λ _. 0) (Claims (step slots j 0 0 none) me)) (sym place) (λ s r _ at _.
      let x : ℕ = slice_index s.words (flag_place market Q.0) in
      let after = claim_keeps market kept id me.0 some_share same s r at Q may within in (
        claim_view me.0 Q (is_up x),
        keeps,
        tt,
        after,
        (
          record { slots = refl; seated = seated_after market kept id me.0 some_share same s r at _ _ (claim_view me.0 Q (is_up x)) (claim_share me.0 Q (is_up x)) refl after },
          λ R e. let is : Q.0 ≡ R.0 = let there : flag_place me.0.market R.0 ≡ flag_place market R.0 = ap (λ (m : Market). flag_place m R.0) same in omega (arith, e, there) in
              ap (λ (n : ℕ). claim_view me.0 (record { 0 = n }) (is_up x)) is,
        ),
      ))
    where
      claim_share : (v : Sitting) (P : PoolId) (up : Bool) → (claim_view v P up).share ≡ v.share
      claim_share v P up = refl

  pub draws : (x : ℕ) → may_draw me.0.actor.phase x ≡ true → 0 < me.0.allowance → Allows (IsFloored market kept) slots id me 0 (λ n. (n + 1) % 2 ^ 64) (Draws (step slots 0 1 0 none) me)
  draws x may some_left s r _ at _ =
      let after = draw_keeps market kept id me.0 some_share same s r at x may some_left in (
        draw_view me.0 (slice_index s.words 0),
        keeps,
        tt,
        after,
        (record { slots = refl; seated = seated_after market kept id me.0 some_share same s r at _ _ (draw_view me.0 (slice_index s.words 0)) refl refl after }, refl),
      )

  pub raises : (P : PoolId) (x : ℕ) → me.0.actor.phase ≡ Drawn P x → Allows (IsFloored market kept) slots id me (limit_place P.0) (λ n. max n x) (Raises (step slots (limit_place P.0) x 0 none) me)
  raises P x is_drawn s r _ at _ =
      let y : ℕ = slice_index s.words (limit_place P.0) in
      let found = found_at market kept id me.0 some_share same s r at P.0 (drawn_within market kept id me.0 some_share same s r at P x is_drawn) in
      let after = raise_keeps market kept id me.0 some_share same s r at P x is_drawn in (
        raise_view me.0 P x y,
        keeps,
        tt,
        after,
        (
          record { slots = refl; seated = seated_after market kept id me.0 some_share same s r at _ _ (raise_view me.0 P x y) refl refl after },
          λ Q z e. let both : Drawn P x ≡ Drawn Q z = sym is_drawn ∙ e in let pool : P ≡ Q = cc in let limit : x ≡ z = cc in
              subst (λ (R : PoolId). (raise_view me.0 P x y ≡ raise_view me.0 R z y) × IsFound me.0 R.0 y) pool (ap (λ (k : ℕ). raise_view me.0 P k y) limit, found),
        ),
      )

  pub marks : (i Q : ℕ) → i ≡ flag_place market Q → still_owes me.0.actor.phase me.0.actor.owed Q ≡ true → Q < length market.pools → Allows (IsFloored market kept) slots id me i (λ _. 1) (Marks (step slots i 1 0 none) me)
  marks i Q place may within = subst (λ (j : ℕ). Allows (IsFloored market kept) slots id me j (λ _. 1) (Marks (step slots j 1 0 none) me)) (sym place) (λ s r _ at _.
      let after = mark_keeps market kept id me.0 some_share same s r at Q may within in (
        mark_view me.0 Q,
        keeps,
        tt,
        after,
        (
          record { slots = refl; seated = seated_after market kept id me.0 some_share same s r at _ _ (mark_view me.0 Q) refl refl after },
          λ R e. let is : Q ≡ R = let there : flag_place me.0.market R ≡ flag_place market R = ap (λ (m : Market). flag_place m R) same in omega (arith, e, there) in ap (mark_view me.0) is,
        ),
      ))
