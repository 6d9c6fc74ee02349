-- A settling, put together.
use Rattle.std.proofs.Common.{◌≡◌, ℕ, ◌+◌, ◌<◌, Bool, true, false, true≢false, List, [], ◌∷◌, length, get_or, set, refl, sym, ap, ◌∙◌, subst, inl, inr, arith, append-nil, length-set, eq-eqb}
use Rattle.std.proofs.lemmas.Bool.{cases_Bool}
use Rattle.std.proofs.lemmas.Grind.{get_or-set_at}
use Rattle.sl_types.specs.declared.kinds.PoolId.{PoolId}
use Rattle.sl_types.specs.Market.{Market}
use Rattle.sl_laws.specs.Stable.{feeds}
use Rattle.sl_core.proofs.Actors.{up_within}
use Rattle.sl_contend.specs.Contention.{feeding, fed_by}
use Rattle.sl_floor.specs.Floor.{Sitting, SeatValue, flag_place, limit_place, word_count, claim_view}
use Rattle.sl_floor.specs.Held.{AreLimits}
use Rattle.sl_desk.specs.Seats.{Gains, Stepped, HasStepped}
use Rattle.sl_desk.specs.Reading.{is_in, asked_pools, HasRead}
use Rattle.sl_desk.specs.Raising.{HasRaised}
use Rattle.sl_desk.specs.Settling.{IsLeft, steps_of, Settles, Claims, ReadsAll}
use Rattle.sl_desk.proofs.Numbers.{has_stepped, stepped_on, stepped_none, stepped_then, stepped_within, knows_none}
use Rattle.sl_desk.proofs.Gaining.{gains_then}
use Rattle.sl_desk.proofs.Fronts.{in_filter, not_itself}

-- a seat after a claim
abbrev pub claimed_seat : SeatValue → PoolId → Bool → SeatValue
claimed_seat seat P up = record seat { view = claim_view seat.view P up }

claim_gains : (seat : SeatValue) (P : PoolId) (up : Bool) → AreLimits seat.view.actor.known → Gains seat (claimed_seat seat P up) []
claim_gains seat P true limits = record {
  table = refl;
  room = refl;
  market = refl;
  kept = refl;
  share = refl;
  allowance = omega arith;
  log = sym (append-nil seat.log);
  whole = sym (append-nil seat.view.actor.log);
  knows = knows_none seat.view.actor.known limits;
  left = length-set seat.view.actor.left P.0 false;
}
claim_gains seat P false limits = record {
  table = refl;
  room = refl;
  market = refl;
  kept = refl;
  share = refl;
  allowance = omega arith;
  log = sym (append-nil seat.log);
  whole = sym (append-nil seat.view.actor.log);
  knows = knows_none seat.view.actor.known limits;
  left = length-set seat.view.actor.left P.0 false;
}

claim_left : (seat : SeatValue) (P : PoolId) (up : Bool) → (claimed_seat seat P up).view.actor.left ≡ set seat.view.actor.left P.0 false
claim_left seat P true = refl
claim_left seat P false = refl

claim_steps : (seat : SeatValue) (P : PoolId) (up : Bool) → Stepped seat.view (claimed_seat seat P up).view 1
claim_steps seat P up = stepped_on seat.view seat.view (claimed_seat seat P up).view (flag_place seat.view.market P.0) 0 refl (stepped_none seat.view)

claim_done : (seat : SeatValue) (P : ℕ) → IsLeft seat P → get_or (set seat.view.actor.left P false) P false ≡ false
claim_done seat P left = get_or-set_at seat.view.actor.left P P false false refl (up_within seat.view.actor.left P left)

-- a step on one word, from before the one to after the other
between : (a b c d : Sitting) (m n i : ℕ) → Stepped a b m → HasStepped b c i → Stepped c d n → HasStepped a d i
between a b c d m n i first had last = let p = first.rises i in let q = last.rises i in omega (arith, p, had, q)

-- the claim steps on the word with the flag
claim_flag : (market : Market) (seat : SeatValue) (P : PoolId) (up : Bool) → seat.view.market ≡ market → length seat.view.steps ≡ word_count market → P.0 < length market.pools
    → Claims market P.0 seat.view (claimed_seat seat P up).view
claim_flag market seat P up same wide within = subst (λ (m : Market). Claims m P.0 seat.view (claimed_seat seat P up).view) same
    (has_stepped seat.view seat.view (claimed_seat seat P up).view (flag_place seat.view.market P.0) 0 (let n = ap (λ (m : Market). length m.pools) same in omega (arith, n, wide, within)) refl (stepped_none seat.view))

pub claims_flag : (market : Market) (seat one after : SeatValue) (P : PoolId) (up : Bool) (n : ℕ) → seat.view.market ≡ market → length seat.view.steps ≡ word_count market → P.0 < length market.pools
    → one ≡ claimed_seat seat P up → Stepped one.view after.view n → Claims market P.0 seat.view after.view
claims_flag market seat one after P up n same wide within is rest =
    let here = subst (λ (z : SeatValue). Claims market P.0 seat.view z.view) (sym is) (claim_flag market seat P up same wide within) in
    between seat.view seat.view one.view after.view 0 n (flag_place market P.0) (stepped_none seat.view) here rest

-- a pool doesn't feed itself
none_fed : (market : Market) (P : ℕ) → P < length market.pools → is_in P (fed_by market P) ≡ false
none_fed market P within = in_filter (λ Q. feeds market P Q) P 0 (length market.pools) (omega arith) (omega (arith, within)) ∙ elim (cases_Bool (feeds market P P)) [
  | inl fed ↦ absurd (true≢false (sym (eq-eqb P P refl) ∙ not_itself market P P fed))
  | inr other ↦ other
]

-- where the flag was down
pub settled_down : (seat after : SeatValue) (P : PoolId) → AreLimits seat.view.actor.known → IsLeft seat P.0 → after ≡ claimed_seat seat P false → Settles P.0 seat after
settled_down seat after P limits left is = subst (λ (z : SeatValue). Settles P.0 seat z) (sym is) (record {
  raises = [];
  one = omega arith;
  gains = claim_gains seat P false limits;
  done = claim_done seat P.0 left;
  quiet = λ none. refl;
})

module _ (market : Market) (P : PoolId) (seat one two : SeatValue) (desk : List ℕ) (limits : AreLimits seat.view.actor.known) (left : IsLeft seat P.0) (claim : one ≡ claimed_seat seat P true)
    (r : HasRead market P one two (asked_pools market P.0) desk) where
  gains_one : Gains seat one []
  gains_one = subst (λ (z : SeatValue). Gains seat z []) (sym claim) (claim_gains seat P true limits)

  steps_one : Stepped seat.view one.view 1
  steps_one = subst (λ (z : SeatValue). Stepped seat.view z.view 1) (sym claim) (claim_steps seat P true)

  left_two : two.view.actor.left ≡ set seat.view.actor.left P.0 false
  left_two = r.left ∙ (ap (λ (z : SeatValue). z.view.actor.left) claim ∙ claim_left seat P true)

  gains_two : Gains seat two []
  gains_two = gains_then seat one two [] [] gains_one r.gains

  steps_two : Stepped seat.view two.view (2 + length (feeding market P.0))
  steps_two = let all = stepped_then seat.view one.view two.view 1 (length (asked_pools market P.0)) steps_one r.steps in stepped_within seat.view two.view (1 + length (asked_pools market P.0)) (2 + length (feeding market P.0)) (omega arith) all

  -- where nothing is to be raised
  pub settled_quiet : Settles P.0 seat two
  settled_quiet = record {
    raises = [];
    one = omega arith;
    gains = gains_two;
    quiet = λ none. left_two;
    done = ap (λ (l : List Bool). get_or l P.0 false) left_two ∙ claim_done seat P.0 left;
  }

  pub steps_quiet : Stepped seat.view two.view (steps_of market P.0)
  steps_quiet = stepped_within seat.view two.view (2 + length (feeding market P.0)) (steps_of market P.0) (omega arith) steps_two

  pub claim_quiet : seat.view.market ≡ market → length seat.view.steps ≡ word_count market → P.0 < length market.pools → Claims market P.0 seat.view two.view
  claim_quiet same wide within = claims_flag market seat one two P true (length (asked_pools market P.0)) same wide within claim r.steps

  pub asked_quiet : ReadsAll market P.0 seat.view two.view
  asked_quiet Q hit = between seat.view one.view two.view two.view 1 0 (limit_place Q) steps_one (r.stepped Q hit) (stepped_none two.view)

  -- where it is raised
  module _ (three : SeatValue) (within : P.0 < length market.pools) (h : HasRaised market P.0 two three) where
    pub settled_raised : Settles P.0 seat three
    settled_raised = record {
      raises = h.entry ∷ [];
      one = omega arith;
      gains = gains_then seat two three [] (h.entry ∷ []) gains_two h.gains;
      quiet = λ none. absurd (let n = ap length none in omega (arith, n));
      done = h.left P.0 (none_fed market P.0 within) ∙ (ap (λ (l : List Bool). get_or l P.0 false) left_two ∙ claim_done seat P.0 left);
    }

    pub steps_raised : Stepped seat.view three.view (steps_of market P.0)
    steps_raised =
        let all = stepped_then seat.view two.view three.view (2 + length (feeding market P.0)) (2 + length (fed_by market P.0)) steps_two h.steps in
        stepped_within seat.view three.view (2 + length (feeding market P.0) + (2 + length (fed_by market P.0))) (steps_of market P.0) (omega arith) all

    pub claim_raised : seat.view.market ≡ market → length seat.view.steps ≡ word_count market → Claims market P.0 seat.view three.view
    claim_raised same wide =
        claims_flag market seat one three P true (length (asked_pools market P.0) + (2 + length (fed_by market P.0))) same wide within claim
        (stepped_then one.view two.view three.view (length (asked_pools market P.0)) (2 + length (fed_by market P.0)) r.steps h.steps)

    pub asked_raised : ReadsAll market P.0 seat.view three.view
    asked_raised Q hit = between seat.view one.view two.view three.view 1 (2 + length (fed_by market P.0)) (limit_place Q) steps_one (r.stepped Q hit) h.steps
