-- One more read of a seat that is at work.
use Rattle.std.proofs.Common.{◌≡◌, ℕ, ◌+◌, ◌<◌, ◌≤◌, true, false, true≢false, not, ◌&&◌, nat_eq, nat_lt, List, [], ◌∷◌, ◌++◌, length, get_or, set, refl, sym, ap, ◌∙◌, subst, inl, inr, arith, length-set, get_or-set_other}
use Rattle.std.specs.Prelude.{slice_index}
use Rattle.std.proofs.lemmas.Bool.{cases_eq, and_from, lt-ltb, not_from_false, cond-true, or_left, eq-eqb}
use Rattle.std.proofs.lemmas.Grind.{get_or-set_at}
use Rattle.std.proofs.lemmas.List.{length_push}
use Rattle.sl_types.specs.declared.kinds.PoolId.{PoolId}
use Rattle.sl_types.specs.declared.kinds.TheConstants.{MAX_SCORE}
use Rattle.sl_types.specs.Market.{Market}
use Rattle.sl_laws.specs.Stable.{feeds}
use Rattle.sl_core.specs.declared.kinds.Phase.{Phase}
use Rattle.sl_core.specs.declared.kinds.Phase.TheVariants.{Working}
use Rattle.sl_core.specs.State.{Actor, no_limits, no_pools}
use Rattle.sl_core.specs.Machine.{is_asked, lacks_read, may_read, worker_after_read, actor_after_read, phase_found}
use Rattle.sl_core.proofs.Actors.{replicate_same}
use Rattle.sl_core.proofs.Ranges.{lacks_here}
use lib.ListN.{length-replicate}
use Rattle.sl_desk.proofs.Falls.{knows_on}
use Rattle.sl_floor.specs.Floor.{SeatValue, KnowsMore, limit_place, step_on, read_view}
use Rattle.sl_desk.specs.Seats.{FitsMarket, Gains, Stepped, HasStepped}
use Rattle.sl_desk.specs.Reading.{is_in, HasRead}
use Rattle.sl_desk.proofs.Numbers.{in_here, in_else, stepped_on, has_stepped, stepped_still, stepped_none, knows_set}
use Rattle.sl_desk.proofs.Gaining.{gains_none}

module _ (market : Market) (P : PoolId) (before now : SeatValue) (read desk : List ℕ) (r : HasRead market P before now read desk) (same : now.view.market ≡ market) (sized : FitsMarket market now.view)
    (Q : ℕ) (within : Q < length market.pools) (asked : is_asked market P.0 Q ≡ true) (new : is_in Q read ≡ false) where
  abbrev a : Actor
  a = now.view.actor

  lacks : lacks_read market P.0 a.made ≡ true
  lacks = lacks_here market P.0 Q a.made within (and_from (is_asked market P.0 Q) (not (get_or a.made Q false)) asked (not_from_false (get_or a.made Q false) (r.made Q ∙ new)))

  pub working : a.phase ≡ Working P
  working = r.phase ∙ cond-true (lacks_read market P.0 a.made) (Working P) (phase_found market P a.reads) lacks

  -- the machine asks for it
  pub may : may_read market a.phase a Q ≡ true
  may = ap (λ (ph : Phase). may_read market ph a Q) working ∙ and_from (nat_lt Q (length market.pools) && is_asked market P.0 Q) (not (get_or a.made Q false))
      (and_from (nat_lt Q (length market.pools)) (is_asked market P.0 Q) (lt-ltb Q (length market.pools) within) asked) (not_from_false (get_or a.made Q false) (r.made Q ∙ new))

  actor_is : (word : ℕ) → actor_after_read now.view.market a.phase a Q word ≡ worker_after_read market P a Q word
  actor_is word = ap (λ (m : Market). actor_after_read m a.phase a Q word) same ∙ ap (λ (ph : Phase). actor_after_read market ph a Q word) working

  -- the word that was read is at least what was known
  pub word_above : (word : ℕ) (last : SeatValue) → last ≡ record now { view = read_view now.view Q word } → KnowsMore now last → slice_index a.known Q ≤ word
  word_above word last is more =
      let known : last.view.actor.known ≡ set a.known Q word = ap (λ (z : SeatValue). z.view.actor.known) is ∙ ap (λ (b : Actor). b.known) (actor_is word) in
      let at : slice_index (set a.known Q word) Q ≡ word = get_or-set_at a.known Q Q word 0 refl (let n = sized.known in omega (arith, n, within)) in
      let up = more Q in
      let here : slice_index last.view.actor.known Q ≡ word = ap (λ (l : List ℕ). slice_index l Q) known ∙ at in
      omega (arith, up, here)

  module _ (word : ℕ) (rises : slice_index a.known Q ≤ word) (top : word ≤ MAX_SCORE + 1) where
    abbrev next : SeatValue
    next = record now { view = record now.view { actor = worker_after_read market P a Q word; steps = step_on (limit_place Q) now.view.steps } }

    knows_more : Gains before next []
    knows_more =
        let one = knows_set a.known Q word 0 sized.limits (let k = sized.known in omega (arith, k, within)) (omega (arith, rises)) top in
        let g = r.gains in record {
          table = g.table;
          room = g.room;
          market = g.market;
          kept = g.kept;
          share = g.share;
          allowance = g.allowance;
          log = g.log;
          whole = g.whole;
          left = g.left;
          knows = knows_on before.view.actor.known a.known next.view.actor.known 0 0 g.knows one;
        }

    abbrev more_read : List ℕ
    more_read = read ++ Q ∷ []

    on_word : limit_place Q < length now.view.steps
    on_word = let k = sized.steps in omega (arith, k, within)

    stepped : (R : ℕ) → is_in R more_read ≡ true → HasStepped before.view next.view (limit_place R)
    stepped R hit = elim (cases_eq R Q) [
      | inl is ↦ subst (λ S. HasStepped before.view next.view (limit_place S)) (sym is) (has_stepped before.view now.view next.view (limit_place Q) (length read) on_word refl r.steps)
      | inr other ↦ stepped_still before.view now.view next.view (limit_place Q) (limit_place R) refl (r.stepped R (sym (in_else R Q read other) ∙ hit))
    ]

    made : (R : ℕ) → get_or next.view.actor.made R false ≡ is_in R more_read
    made R = elim (cases_eq R Q) [
      | inl is ↦ get_or-set_at a.made Q R true false is (let n = r.all in omega (arith, n, within)) ∙ sym (in_here R Q read is)
      | inr other ↦ get_or-set_other a.made Q R true false other ∙ (r.made R ∙ sym (in_else R Q read other))
    ]

    unread : (R : ℕ) → is_in R more_read ≡ false → slice_index (set desk Q word) R ≡ 0
    unread R miss = elim (cases_eq R Q) [
      | inl is ↦ absurd (true≢false (sym (in_here R Q read is) ∙ miss))
      | inr other ↦ get_or-set_other desk Q R word 0 other ∙ r.unread R (sym (in_else R Q read other) ∙ miss)
    ]

    seen : (R : ℕ) → is_in R more_read ≡ true → slice_index next.view.actor.known R ≡ slice_index (set desk Q word) R
    seen R hit = elim (cases_eq R Q) [
      | inl is ↦ get_or-set_at a.known Q R word 0 is (let n = sized.known in omega (arith, n, within)) ∙ sym (get_or-set_at desk Q R word 0 is (let n = r.each in omega (arith, n, within)))
      | inr other ↦ get_or-set_other a.known Q R word 0 other ∙ (r.seen R (sym (in_else R Q read other) ∙ hit) ∙ sym (get_or-set_other desk Q R word 0 other))
    ]

    has_next : HasRead market P before next more_read (set desk Q word)
    has_next = record {
      gains = knows_more;
      left = r.left;
      steps = subst (Stepped before.view next.view) (sym (length_push read Q)) (stepped_on before.view now.view next.view (limit_place Q) (length read) refl r.steps);
      stepped = stepped;
      phase = refl;
      desk = ap (λ l. set l Q word) r.desk;
      each = length-set desk Q word ∙ r.each;
      all = length-set a.made Q true ∙ r.all;
      made = made;
      unread = unread;
      seen = seen;
    }

    pub reads_more : HasRead market P before (record now { view = read_view now.view Q word }) more_read (set desk Q word)
    reads_more = subst (λ (b : Actor). HasRead market P before (record now { view = record now.view { actor = b; steps = step_on (limit_place Q) now.view.steps } }) more_read (set desk Q word)) (sym (actor_is word)) has_next

-- and by what the call answers
pub read_more : (market : Market) (P : PoolId) (before now : SeatValue) (read desk : List ℕ) → HasRead market P before now read desk → now.view.market ≡ market → FitsMarket market now.view
    → (Q : ℕ) → Q < length market.pools → is_asked market P.0 Q ≡ true → is_in Q read ≡ false → (last : SeatValue) (word : ℕ) → last ≡ record now { view = read_view now.view Q word } → KnowsMore now last
    → word ≤ MAX_SCORE + 1 → HasRead market P before last (read ++ Q ∷ []) (set desk Q word)
read_more market P before now read desk r same sized Q within asked new last word is more top =
    let rises = word_above market P before now read desk r same sized Q within asked new word last is more in
    subst (λ (z : SeatValue). HasRead market P before z (read ++ Q ∷ []) (set desk Q word)) (sym is) (reads_more market P before now read desk r same sized Q within asked new word rises top)

-- a seat that is at work with nothing read
pub reads_none : (market : Market) (P : PoolId) (seat : SeatValue) (desk : List ℕ) → FitsMarket market seat.view → P.0 < length market.pools → seat.view.actor.phase ≡ Working P
    → seat.view.actor.made ≡ no_pools market → seat.view.actor.reads ≡ no_limits market → desk ≡ no_limits market → HasRead market P seat seat [] desk
reads_none market P seat desk sized within phase none unread nothing =
    let made : (Q : ℕ) → get_or seat.view.actor.made Q false ≡ false = λ Q. ap (λ l. get_or l Q false) none ∙ replicate_same (length market.pools) Q false in
    let own : is_asked market P.0 P.0 ≡ true = or_left (nat_eq P.0 P.0) (feeds market P.0 P.0) (eq-eqb P.0 P.0 refl) in
    let lacks = lacks_here market P.0 P.0 seat.view.actor.made within (and_from (is_asked market P.0 P.0) (not (get_or seat.view.actor.made P.0 false)) own (not_from_false (get_or seat.view.actor.made P.0 false) (made P.0))) in
    record {
      gains = gains_none seat sized.limits;
      left = refl;
      steps = stepped_none seat.view;
      stepped = λ Q hit. absurd (true≢false (sym hit));
      phase = phase ∙ sym (cond-true (lacks_read market P.0 seat.view.actor.made) (Working P) (phase_found market P seat.view.actor.reads) lacks);
      desk = unread ∙ sym nothing;
      each = ap length nothing ∙ length-replicate (length market.pools) 0;
      all = ap length none ∙ length-replicate (length market.pools) false;
      made = made;
      unread = λ Q miss. ap (λ l. slice_index l Q) nothing ∙ replicate_same (length market.pools) Q 0;
      seen = λ Q hit. absurd (true≢false (sym hit));
    }
