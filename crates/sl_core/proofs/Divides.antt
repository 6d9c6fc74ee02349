-- An actor that divides keeps the parts.
use Rattle.std.proofs.Common.{◌≡◌, ℕ, ◌<◌, ◌≤◌, Bool, true, false, cond, List, [], ◌∷◌, ◌++◌, All, Some, length, get_or, sym, subst, inl, inr, arith, length-append}
use Rattle.std.specs.Prelude.{slice_index, slice_get}
use Rattle.std.proofs.Math.ListN.{get_or-append}
use Rattle.std.proofs.Math.Seq.{get_or-append_seam}
use Rattle.std.proofs.lemmas.Bool.{cases_lt}
use Rattle.std.proofs.lemmas.List.Sums.{sum_by-append, sum_by-cons}
use lib.ListN.{length-replicate}
use Rattle.sl_types.specs.declared.kinds.Raise.{Raise}
use Rattle.sl_types.specs.Market.{Market}
use Rattle.sl_core.specs.State.{Actor, State, actor_at, nobody, no_pools}
use Rattle.sl_core.specs.Machine.{still_owes}
use Rattle.sl_core.specs.Dividing.{actor_divided_off, after_divide}
use Rattle.sl_core.specs.Parts.{HasSizes, IsLogged, raise_of, has_raise, times, done_log, IsFresh, IsCovered, FitsPhase, HasParts}
use Rattle.sl_core.proofs.Actors.{EachOf, SomeOf, replicate_same}

-- of each actor, with one more
each_with : (xs : List Actor) (b : Actor) (F : Actor → Type 0) → F b → EachOf xs F → EachOf (xs ++ b ∷ []) F
each_with xs b F mine each j h = elim (cases_lt j (length xs)) [
  | inl before ↦ subst F (sym (get_or-append xs (b ∷ []) nobody j before)) (each j before)
  | inr after ↦
      let n = length-append xs (b ∷ []) in
      let is : length xs ≡ j = omega (arith, h, after, n) in
      subst (λ (k : ℕ). F (get_or (xs ++ b ∷ []) k nobody)) is (subst F (sym (get_or-append_seam xs b [] nobody)) mine)
]

some_with : (xs : List Actor) (b : Actor) (F : Actor → Type 0) → SomeOf xs F → SomeOf (xs ++ b ∷ []) F
some_with xs b F (j, h, f) = let n = length-append xs (b ∷ []) in (j, omega (arith, h, n), subst F (sym (get_or-append xs (b ∷ []) nobody j h)) f)

each_map : (xs : List Actor) (F G : Actor → Type 0) → ((d : Actor) → F d → G d) → EachOf xs F → EachOf xs G
each_map xs F G f each j h = f (get_or xs j nobody) (each j h)

module _ (market : Market) (kept : List Raise) (s : State) (i : ℕ) (bare : Bool) (p : HasParts market kept s) (inside : i < length s.actors) where
  abbrev a : Actor
  a = actor_at s i

  abbrev b : Actor
  b = actor_divided_off market a bare

  abbrev t : State
  t = after_divide market s i bare

  logged_on : (Q x : ℕ) → IsLogged s Q x → IsLogged t Q x
  logged_on Q x (inl none) = inl none
  logged_on Q x (inr some) = inr (some_with s.actors b (λ d. has_raise Q x d.log ≡ true) some)

  left_length : (bare' : Bool) → length (cond bare' (no_pools market) a.left) ≡ length market.pools
  left_length true = length-replicate (length market.pools) false
  left_length false = (p.sized.actors i inside).left

  covered_on : (Q : ℕ) → IsCovered market s Q → IsCovered market t Q
  covered_on Q (inl flag) = inl flag
  covered_on Q (inr (inl owes)) = inr (inl (some_with s.actors b (λ d. still_owes d.phase d.owed Q ≡ true) owes))
  covered_on Q (inr (inr (inl works))) = inr (inr (inl (some_with s.actors b (IsFresh market s.limits Q) works)))
  covered_on Q (inr (inr (inr st))) = inr (inr (inr st))

  kept_by_divide : HasParts market kept t
  kept_by_divide = let sizes = p.sized.actors i inside in record {
    raises = p.raises;
    sized = record {
      limits = p.sized.limits;
      flags = p.sized.flags;
      actors = each_with s.actors b (HasSizes market)
          record { known = sizes.known; reads = length-replicate (length market.pools) 0; made = length-replicate (length market.pools) false; left = left_length bare; owed = length-replicate (length market.pools) false } p.sized.actors;
    };
    logged = record {
      limits = λ Q. logged_on Q (slice_index s.limits Q) (p.logged.limits Q);
      known = each_with s.actors b (λ d. (Q : ℕ) → IsLogged t Q (slice_index d.known Q)) (λ Q. logged_on Q (slice_index a.known Q) (p.logged.known i inside Q))
          (each_map s.actors (λ d. (Q : ℕ) → IsLogged s Q (slice_index d.known Q)) (λ d. (Q : ℕ) → IsLogged t Q (slice_index d.known Q)) (λ d f Q. logged_on Q (slice_index d.known Q) (f Q)) p.logged.known);
      reads = each_with s.actors b (λ d. (Q : ℕ) → IsLogged t Q (slice_index d.reads Q)) (λ Q. inl (replicate_same (length market.pools) Q 0))
          (each_map s.actors (λ d. (Q : ℕ) → IsLogged s Q (slice_index d.reads Q)) (λ d. (Q : ℕ) → IsLogged t Q (slice_index d.reads Q)) (λ d f Q. logged_on Q (slice_index d.reads Q) (f Q)) p.logged.reads);
    };
    in_order = record {
      count = p.in_order.count;
      once = λ n. let sums = sum_by-append (times n) s.actors (b ∷ []) in let last = sum_by-cons (times n) b [] in let before = p.in_order.once n in omega (arith, sums, last, before);
      placed = each_with s.actors b (λ d. All (λ e. slice_get p.raises e.ticket ≡ Some (raise_of e)) d.log) (λ k d h. absurd (omega (arith, h))) p.in_order.placed;
    };
    sound = p.sound;
    front = p.front;
    raised = each_with s.actors b (λ d. All (λ e. e.limit ≤ slice_index s.limits e.pool.0) (done_log d.phase d.log)) (λ k d h. absurd (omega (arith, h))) p.raised;
    known = each_with s.actors b (λ d. (Q : ℕ) → (slice_index d.known Q ≤ slice_index s.limits Q) × (slice_index d.reads Q ≤ slice_index d.known Q))
        (λ Q. ((p.known i inside Q).0, let none = replicate_same {A = ℕ} (length market.pools) Q 0 in omega (arith, none))) p.known;
    covered = λ Q h. covered_on Q (p.covered Q h);
    left = λ Q h flag. some_with s.actors b (λ d. get_or d.left Q false ≡ true) (p.left Q h flag);
    in_phase = each_with s.actors b (λ d. FitsPhase market d d.phase) tt p.in_phase;
  }

pub divides_keep : (market : Market) (kept : List Raise) (s : State) (i : ℕ) (bare : Bool) → HasParts market kept s → i < length s.actors → HasParts market kept (after_divide market s i bare)
divides_keep market kept s i bare p inside = kept_by_divide market kept s i bare p inside
