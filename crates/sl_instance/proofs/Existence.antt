-- Tables in which nothing is wrong have an instance: the choices of each applicant can be put in order of place.
use Rattle.std.proofs.Common.{◌≡◌, ◌≤◌, ◌<◌, ℕ, zero, suc, List, [], ◌∷◌, length, map, get_or, nat_le, refl, arith, inl, inr}
use Rattle.std.specs.Prelude.{cond}
use Rattle.std.specs.List.{range_with_len}
use Rattle.std.specs.List.Sorted.{IsPermutation, IsNonDecreasingBy}
use Rattle.std.proofs.lemmas.Bool.{cases_Bool, leb-true, leb-false}
use Rattle.std.proofs.lemmas.List.Sorted.{IsPermutation-refl, IsPermutation-cons, IsPermutation-middle, IsPermutation-sym, IsPermutation-trans}
use Rattle.std.proofs.lemmas.List.FromFn.{length-map-range_with_len, get_or-map-range_with_len}
use Rattle.sl_types.specs.declared.kinds.Entry.{Entry}
use Rattle.sl_pools.specs.Pools.{PoolList}
use Rattle.sl_pools.specs.Programmes.{ProgList}
use Rattle.sl_choices.specs.Choices.{ChoiceList}
use Rattle.sl_choices.specs.Rows.{IsChoiceList}
use Rattle.sl_instance.specs.NamedMarket.{NamedMarket}
use Rattle.sl_instance.specs.Assembly.{IsAssembled}
use Rattle.sl_instance.specs.Lists.{IsSortedOf}
use Rattle.sl_instance.proofs.Chosen.{chosen}
use Rattle.sl_instance.proofs.Fit.{are_choices}

-- one more choice, put before the first of a later place
put_in : Entry → List Entry → List Entry
put_in e [] = e ∷ []
put_in e (f ∷ fs) = cond (nat_le e.place f.place) (e ∷ f ∷ fs) (f ∷ put_in e fs)

-- choices in order of place
in_order : List Entry → List Entry
in_order [] = []
in_order (e ∷ es) = put_in e (in_order es)

-- it is the same choices
same_put : (e : Entry) (fs : List Entry) → IsPermutation (e ∷ fs) (put_in e fs)
unfolding put_in
same_put e [] = IsPermutation-refl (e ∷ [])
same_put e (f ∷ fs) = elim (cases_Bool (nat_le e.place f.place)) [
  | inl early ↦ rw early (IsPermutation-refl (e ∷ f ∷ fs))
  | inr late ↦
      let swapped = IsPermutation-sym (f ∷ e ∷ fs) (e ∷ f ∷ fs) (IsPermutation-middle (f ∷ []) e fs) in
      rw late (IsPermutation-trans (e ∷ f ∷ fs) (f ∷ e ∷ fs) (f ∷ put_in e fs) swapped (IsPermutation-cons f (e ∷ fs) (put_in e fs) (same_put e fs)))
]

same_choices : (es : List Entry) → IsPermutation es (in_order es)
unfolding in_order
same_choices [] = IsPermutation-refl []
same_choices (e ∷ es) =
    IsPermutation-trans (e ∷ es) (e ∷ in_order es) (put_in e (in_order es)) (IsPermutation-cons e es (in_order es) (same_choices es)) (same_put e (in_order es))

-- places from low on that don't fall
AreFrom : ℕ → List Entry → Type 0
AreFrom low [] = Unit {0}
AreFrom low (e ∷ es) = (low ≤ e.place) × AreFrom e.place es

from_lower : (low high : ℕ) (es : List Entry) → low ≤ high → AreFrom high es → AreFrom low es
unfolding AreFrom
from_lower low high [] le h = tt
from_lower low high (e ∷ es) le h = let here = h.0 in (omega (arith, le, here), h.1)

put_from : (low : ℕ) (e : Entry) (fs : List Entry) → low ≤ e.place → AreFrom low fs → AreFrom low (put_in e fs)
unfolding AreFrom put_in
put_from low e [] le h = (le, tt)
put_from low e (f ∷ fs) le h = elim (cases_Bool (nat_le e.place f.place)) [
  | inl early ↦ let first = leb-true e.place f.place early in rw early (le, (first, h.1))
  | inr late ↦ let after = leb-false e.place f.place late in rw late (h.0, put_from f.place e fs (omega (arith, after)) h.1)
]

order_from : (es : List Entry) → AreFrom 0 (in_order es)
unfolding AreFrom in_order
order_from [] = tt
order_from (e ∷ es) = put_from 0 e (in_order es) (omega arith) (order_from es)

at_least : (low : ℕ) (es : List Entry) (j : ℕ) (d : Entry) → AreFrom low es → j < length es → low ≤ (get_or es j d).place
unfolding AreFrom
at_least low [] j d h lt = absurd (omega (arith, lt))
at_least low (e ∷ es) zero d h lt = h.0
at_least low (e ∷ es) (suc j) d h lt = at_least low es j d (from_lower low e.place es h.0 h.1) (omega (arith, lt))

never_falls : (low : ℕ) (es : List Entry) → AreFrom low es → IsNonDecreasingBy (λ e. e.place) es
unfolding AreFrom
never_falls low [] h i j d le lt = absurd (omega (arith, lt))
never_falls low (e ∷ es) h zero zero d le lt = omega arith
never_falls low (e ∷ es) h zero (suc j) d le lt = at_least e.place es j d h.1 (omega (arith, lt))
never_falls low (e ∷ es) h (suc i) zero d le lt = absurd (omega (arith, le))
never_falls low (e ∷ es) h (suc i) (suc j) d le lt = never_falls e.place es h.1 i j d (omega (arith, le)) (omega (arith, lt))

sorted_of : (es : List Entry) → IsSortedOf es (in_order es)
sorted_of es = record { same = same_choices es; sorted = never_falls 0 (in_order es) (order_from es) }

-- the choices of each applicant, in order of place
lists_of : ChoiceList → List (List Entry)
lists_of choices = map (λ a. in_order (chosen a choices.rows)) (range_with_len 0 (length choices.codes))

-- the instance of three tables
instance_of : PoolList → ProgList → ChoiceList → NamedMarket
instance_of pools progs choices = record {
  market = record { pools = pools.pools; progs = progs.pools; lists = lists_of choices };
  pool_codes = pools.codes;
  prog_codes = progs.codes;
  app_codes = choices.codes;
}

-- tables in which nothing is wrong have an instance
pub assembled_of : (pools : PoolList) (progs : ProgList) (choices : ChoiceList) → IsChoiceList choices → (n : NamedMarket) × IsAssembled pools progs choices n
unfolding instance_of lists_of
assembled_of pools progs choices right = (
  instance_of pools progs choices,
  record {
    pools_are = refl;
    progs_are = refl;
    pool_codes = refl;
    prog_codes = refl;
    app_codes = refl;
    each = length-map-range_with_len (λ a. in_order (chosen a choices.rows)) 0 (length choices.codes);
    lists = λ a lt.
        let own = λ (b : ℕ). in_order (chosen b choices.rows) in
        let is : get_or (lists_of choices) a [] ≡ own a = get_or-map-range_with_len own 0 (length choices.codes) a a [] lt (omega arith) in
        rw is (are_choices choices right a (own a) (sorted_of (chosen a choices.rows)));
  },
)
