-- The opening of the table has the rule.
use Rattle.std.proofs.Common.{◌≡◌, ℕ, zero, suc, ◌+◌, ◌^◌, ◌<◌, ◌≤◌, Bool, true, false, max, List, [], ◌∷◌, ◌++◌, length, get_or, set, replicate, take, refl, sym, ap, ◌∙◌, subst, inl, inr, arith, length-append, length-set, get_or-set_other}
use Rattle.std.proofs.Math.ListN.{get_or-append}
use Rattle.std.proofs.lemmas.Bool.{cases_eq, ne_eqb}
use Rattle.std.proofs.lemmas.Grind.{get_or-set_at}
use Rattle.std.proofs.lemmas.List.{get_or-append-add}
use Rattle.std.proofs.lemmas.List.Elements.{All-nil, All-cons}
use Rattle.std.proofs.lemmas.List.FromFn.{get_or-map-range_with_len}
use lib.ListN.{length-replicate}
use Rattle.atomic_table.specs.Table.{opening}
use Rattle.sl_types.specs.declared.kinds.Raise.{Raise}
use Rattle.sl_types.specs.Market.{Market}
use Rattle.sl_types.specs.Valid.{IsValid}
use Rattle.sl_laws.specs.Limits.{Limits}
use Rattle.sl_laws.specs.Raises.{EachRaise, Replays, after_raise, after_raises, limits_after, zeros}
use Rattle.sl_laws.proofs.Effective.{with_limit_here, with_limit_else}
use Rattle.sl_core.specs.State.{all_pools, words_after, start}
use Rattle.sl_core.specs.Parts.{HasParts}
use Rattle.sl_core.proofs.Actors.{replicate_within}
use Rattle.sl_core.proofs.Filling.{same_by_each}
use Rattle.sl_core.proofs.Starts.{starts_with, words_long}
use Rattle.sl_floor.specs.declared.shares.TheConstants.{WHOLE_SHARE, FIRST_ALLOWANCE}
use Rattle.sl_floor.specs.Floor.{word_count, flag_place, is_up, first_view, opening_words}
use Rattle.sl_floor.specs.Held.{Holds}
use Rattle.sl_floor.specs.Rule.{limit_words, flag_words, state_of, IsSeatOf, IsFloored}
use Rattle.sl_floor.proofs.Words.{limit_at, limits_long, flag_at, flags_long}
use Rattle.sl_floor.proofs.Told.{state_by, seated_here}

later : (t : ℕ) (xs : List ℕ) (k : ℕ) → get_or (t ∷ xs) (k + 1) 0 ≡ get_or xs k 0
later t xs k = let is : k + 1 ≡ suc k = omega arith in ap (λ (j : ℕ). get_or (t ∷ xs) j 0) is

module _ (market : Market) (kept : List Raise) (limits : List ℕ) (reached : limits ≡ words_after market kept) where
  abbrev words : List ℕ
  words = opening_words (length kept) limits

  long : length limits ≡ length market.pools
  long = ap length reached ∙ words_long market kept

  wide : length words ≡ word_count market
  wide = let both = length-append limits (replicate (length limits) 1) in let ones = length-replicate {A = ℕ} (length limits) 1 in omega (arith, both, ones, long)

  limits_are : limit_words market words ≡ limits
  limits_are = same_by_each (limit_words market words) limits 0 (limits_long market words wide ∙ sym long) (λ k h. let n = limits_long market words wide in
      limit_at market words wide k (omega (arith, h, n)) ∙ (later (length kept) (limits ++ replicate (length limits) 1) k ∙ get_or-append limits (replicate (length limits) 1) 0 k (omega (arith, h, n, long))))

  flags_are : flag_words market words ≡ all_pools market
  flags_are = same_by_each (flag_words market words) (all_pools market) false (flags_long market words wide ∙ sym (length-replicate (length market.pools) true)) (λ k h.
      let n = flags_long market words wide in let inside : k < length market.pools = omega (arith, h, n) in
      let place : flag_place market k ≡ length limits + k + 1 = omega (arith, long) in
      let word : get_or words (flag_place market k) 0 ≡ 1 = ap (λ (j : ℕ). get_or words j 0) place ∙ (later (length kept) (limits ++ replicate (length limits) 1) (length limits + k)
      ∙ (get_or-append-add limits (replicate (length limits) 1) k 0 ∙ replicate_within (length limits) k 1 0 (omega (arith, inside, long)))) in
      flag_at market words wide k inside ∙ (ap is_up word ∙ sym (replicate_within (length market.pools) k true false inside)))

  -- they make the machine's start
  pub opens_start : state_of market words (first_view market kept ∷ []) ≡ start market kept 0
  opens_start = state_by market words (first_view market kept ∷ []) (start market kept 0) (limits_are ∙ reached) flags_are refl refl

  pub opens : IsValid market → length kept < 2 ^ 61 → Replays market kept → IsFloored market kept (opening words [] (first_view market kept))
  opens valid few replays = record {
    valid = valid;
    few = few;
    wide = wide;
    seats = All-cons (IsSeatOf market kept) (first_view market kept) [] (inl (record { share = omega arith; instance = refl; raises = refl })) (All-nil (IsSeatOf market kept));
    parts = subst (HasParts market kept) (sym opens_start) (starts_with market kept 0 replays);
    shares = refl;
    tickets = omega arith;
  }

-- the raises of a list, one more at a time
step_more : (t : Limits) (c : List Raise) (i : ℕ) (d : Raise) → i < length c → after_raises t (take (suc i) c) ≡ after_raise (after_raises t (take i c)) (get_or c i d)
step_more t [] i d h = absurd (omega (arith, h))
step_more t (r ∷ c) zero d h = refl
step_more t (r ∷ c) (suc i) d h = step_more (after_raise t r) c i d (omega (arith, h))

within_at : (market : Market) (F : Limits → Raise → Type 0) (t : Limits) (c : List Raise) → EachRaise market F t c → (i : ℕ) (d : Raise) → i < length c → (get_or c i d).pool.0 < length market.pools
within_at market F t [] each i d h = absurd (omega (arith, h))
within_at market F t (r ∷ c) each zero d h = each.0
within_at market F t (r ∷ c) each (suc i) d h = within_at market F (after_raise t r) c each.2 i d (omega (arith, h))

-- the numbers so far are what the first n raises reach
abbrev pub HasReached : Market → List Raise → ℕ → List ℕ → Type 0
HasReached market c n limits = (length limits ≡ length market.pools) × ((Q : ℕ) → Q < length market.pools → get_or limits Q 0 ≡ limits_after (take n c) Q)

pub reached_none : (market : Market) (c : List Raise) → HasReached market c 0 (replicate (length market.pools) 0)
reached_none market c = (length-replicate (length market.pools) 0, λ Q h. replicate_within (length market.pools) Q 0 0 h)

pub raise_within : (market : Market) (c : List Raise) → Replays market c → (i : ℕ) (d : Raise) → i < length c → (get_or c i d).pool.0 < length market.pools
raise_within market c replays = within_at market _ zeros c replays

pub reached_more : (market : Market) (c : List Raise) (n : ℕ) (limits : List ℕ) (r : Raise) → n < length c → r ≡ get_or c n r → r.pool.0 < length market.pools → HasReached market c n limits
    → HasReached market c (n + 1) (set limits r.pool.0 (max (get_or limits r.pool.0 0) r.limit))
reached_more market c n limits r h is within (long, each) = (
  length-set limits r.pool.0 (max (get_or limits r.pool.0 0) r.limit) ∙ long,
  λ Q k.
      let y : ℕ = max (get_or limits r.pool.0 0) r.limit in
      let next : n + 1 ≡ suc n = omega arith in
      let t = limits_after (take n c) in
      let more : limits_after (take (n + 1) c) ≡ after_raise t r = ap (λ (m : ℕ). limits_after (take m c)) next ∙ (step_more zeros c n r h ∙ ap (after_raise t) (sym is)) in
      let at : limits_after (take (n + 1) c) Q ≡ after_raise t r Q = ap (λ (u : Limits). u Q) more in
      let own = each r.pool.0 within in
      elim (cases_eq Q r.pool.0) [
        | inl same ↦
            let left = get_or-set_at limits r.pool.0 Q y 0 same (omega (arith, within, long)) in
            let right : after_raise t r Q ≡ max (t r.pool.0) r.limit = ap (after_raise t r) same ∙ with_limit_here t r.pool.0 (max (t r.pool.0) r.limit) in
            omega (arith, left, right, at, own)
        | inr other ↦
            let left = get_or-set_other limits r.pool.0 Q y 0 other in
            let right = with_limit_else t r.pool.0 (max (t r.pool.0) r.limit) Q (ne_eqb Q r.pool.0 other) in
            let old = each Q k in
            omega (arith, left, right, at, old)
      ],
)

take_all : {A : Type 0} (xs : List A) (n : ℕ) → length xs ≤ n → take n xs ≡ xs
take_all [] zero h = refl
take_all [] (suc n) h = refl
take_all (x ∷ xs) zero h = absurd (omega (arith, h))
take_all (x ∷ xs) (suc n) h = ap (λ l. x ∷ l) (take_all xs n (omega (arith, h)))

pub reached_all : (market : Market) (c : List Raise) (n : ℕ) (limits : List ℕ) → length c ≤ n → HasReached market c n limits → limits ≡ words_after market c
reached_all market c n limits h (long, each) = same_by_each limits (words_after market c) 0 (long ∙ sym (words_long market c)) (λ k inside.
    let within : k < length market.pools = omega (arith, inside, long) in
    each k within ∙ (ap (λ l. limits_after l k) (take_all c n h) ∙ sym (get_or-map-range_with_len (limits_after c) 0 (length market.pools) k k 0 within (omega arith))))

-- the same, of what the fields of a new floor are
pub opens_at : (market told : Market) (kept copied : List Raise) (limits words : List ℕ) → told ≡ market → copied ≡ kept → limits ≡ words_after market kept → words ≡ opening_words (length kept) limits
    → IsValid market → length kept < 2 ^ 61 → Replays market kept → IsFloored told copied (opening words [] (first_view told copied))
opens_at market told kept copied limits words same also reached_by are valid few replays =
    subst (λ (m : Market). IsFloored m copied (opening words [] (first_view m copied))) (sym same)
    (subst (λ (c : List Raise). IsFloored market c (opening words [] (first_view market c))) (sym also)
    (subst (λ (ws : List ℕ). IsFloored market kept (opening ws [] (first_view market kept))) (sym are) (opens market kept limits reached_by valid few replays)))

pub words_wide : (market : Market) (kept : List Raise) (limits words : List ℕ) → limits ≡ words_after market kept → words ≡ opening_words (length kept) limits → length words ≡ word_count market
words_wide market kept limits ws reached_by are = ap length are ∙ wide market kept limits reached_by

-- what the first seat holds
pub first_holds : (market : Market) (kept : List Raise) (known : List ℕ) (left : List Bool) (pools : ℕ) → known ≡ words_after market kept → pools ≡ length market.pools → left ≡ replicate pools true → IsValid market → length kept < 2 ^ 61 → Replays market kept
    → Holds (first_view market kept) known left WHOLE_SHARE FIRST_ALLOWANCE (record { 0 = 0 }) 0
first_holds market kept known left pools reached_by many up valid few replays = record {
  known_is = sym reached_by;
  left_is = ap (λ (n : ℕ). replicate n true) (sym many) ∙ sym up;
  share_is = refl;
  allowance_is = refl;
  in_hand = tt;
  seated = seated_here market kept 0 (first_view market kept) (omega arith) refl (opening (opening_words (length kept) (words_after market kept)) [] (first_view market kept))
      (opens market kept (words_after market kept) refl valid few replays) refl;
  steps = length-replicate {A = ℕ} (word_count market) 0;
}
