-- Places on a list rise, so a place tells its choice.
use Rattle.std.proofs.Common.{◌≡◌, ◌<◌, ◌≤◌, ℕ, zero, suc, Bool, true, false, not, nat_lt, nat_le, List, [], ◌∷◌, length, get_or, position, Option, Some, None, refl, arith, inl, inr, ltb-true, ltb-false}
use Rattle.std.specs.List.{list_any, position_or_len}
use Rattle.std.proofs.lemmas.Bool.{and_parts, or_parts, cases_Bool, not-false, leb-false}
use Rattle.std.proofs.lemmas.List.Sums.{position_or_len_is}
use Rattle.sl_codes.proofs.Lists.{differ, agree}
use Rattle.sl_codes.proofs.FirstFault.{neither}
use Rattle.sl_types.specs.declared.kinds.Entry.{Entry}
use Rattle.sl_types.specs.declared.kinds.TheConstants.{MAX_PLACE}
use Rattle.sl_types.specs.declared.unfit.Unfit.TheVariants.{ListLength, ProgRange, PlaceOrder}
use Rattle.sl_types.specs.Market.{Market, list_of}
use Rattle.sl_types.specs.Rules.{is_misplaced, rises_from, is_out_of_order, is_too_long, has_prog_out}
use Rattle.sl_types.specs.Valid.{IsValid, at_applicant, size_fault, quota_fault, nesting_fault, programme_fault, list_fault, merit_fault}
use Rattle.sl_doc.specs.Reading.{is_choice, choice_index}
use Rattle.sl_types.proofs.Lists.{none_at}
use Rattle.sl_types.proofs.Faultless.{no_first}

place_le : {A : Type 0} (p : A → Bool) (xs : List A) (d : A) (k : ℕ) → k < length xs → p (get_or xs k d) ≡ true → position_or_len p xs ≤ k
place_le p [] d k lt h = absurd (omega (arith, lt))
place_le p (x ∷ xs) d zero lt h = rw h (omega arith)
place_le p (x ∷ xs) d (suc k) lt h = elim (cases_Bool (p x)) [
  | inl e ↦ rw e (omega arith)
  | inr e ↦ let rest = place_le p xs d k (omega (arith, lt)) h in rw e (omega (arith, rest))
]

-- where there is no first place, nothing passes
none_first : {A : Type 0} (p : A → Bool) (xs : List A) (d : A) (k : ℕ) → position p xs ≡ None → k < length xs → p (get_or xs k d) ≡ false
none_first p xs d k none lt = elim (cases_Bool (p (get_or xs k d))) [
  | inr e ↦ e
  | inl e ↦ elim (cases_Bool (nat_lt (position_or_len p xs) (length xs))) [
    | inl f ↦ let some = rw f at none in cc some
    | inr f ↦ let past = ltb-false (position_or_len p xs) (length xs) f in let low = place_le p xs d k lt e in absurd (omega (arith, past, low, lt))
  ]
]

-- a list in order: places rise from 1 on, to the greatest, and each choice names a programme
pub record IsOrdered (market : Market) (l : List Entry) : Type 0 where
  pub rises : rises_from 0 l ≡ true
  pub low : (k : ℕ) (d : Entry) → k < length l → (get_or l k d).place ≤ MAX_PLACE
  pub named : (k : ℕ) (d : Entry) → k < length l → (get_or l k d).prog.0 < length market.progs

-- each list of a valid instance
pub in_order : (market : Market) → IsValid market → (a : ℕ) → a < length market.lists → IsOrdered market (list_of market a)
in_order market ok a lt =
    let sizes = neither (size_fault market) _ ok in
    let quotas = neither (quota_fault market) _ sizes.1 in
    let nesting = neither (nesting_fault market) _ quotas.1 in
    let programmes = neither (programme_fault market) _ nesting.1 in
    let lists = neither (list_fault market) (merit_fault market) programmes.1 in
    let lengths = neither (at_applicant ListLength (position is_too_long market.lists)) _ lists.0 in
    let progs = neither (at_applicant ProgRange (position (has_prog_out market) market.lists)) _ lengths.1 in
    let order = neither (at_applicant PlaceOrder (position is_out_of_order market.lists)) _ progs.1 in
    let l = list_of market a in
    let parts = or_parts (list_any is_misplaced l) (not (rises_from 0 l)) (none_first is_out_of_order market.lists [] a (no_first (λ i. PlaceOrder (record { 0 = i })) (position is_out_of_order market.lists) order.0) lt) in
    let known = none_first (has_prog_out market) market.lists [] a (no_first (λ i. ProgRange (record { 0 = i })) (position (has_prog_out market) market.lists) progs.0) lt in
    record {
      rises = not-false (rises_from 0 l) parts.1;
      low = λ k d within.
          let e = get_or l k d in
          ltb-false MAX_PLACE e.place (or_parts (nat_lt e.place 1) (nat_lt MAX_PLACE e.place) (none_at is_misplaced l d k parts.0 within)).1;
      named = λ k d within. leb-false (length market.progs) (get_or l k d).prog.0 (none_at (λ e. nat_le (length market.progs) e.prog.0) l d k known within);
    }

-- places above this rise above it
pub rises_above : (low : ℕ) (l : List Entry) → rises_from low l ≡ true → (k : ℕ) (d : Entry) → k < length l → low < (get_or l k d).place
rises_above low [] h k d lt = absurd (omega (arith, lt))
rises_above low (e ∷ es) h zero d lt = let parts = and_parts (nat_lt low e.place) (rises_from e.place es) h in ltb-true low e.place parts.0
rises_above low (e ∷ es) h (suc k) d lt =
    let parts = and_parts (nat_lt low e.place) (rises_from e.place es) h in
    let first = ltb-true low e.place parts.0 in
    let later = rises_above e.place es parts.1 k d (omega (arith, lt)) in
    omega (arith, first, later)

rises_on : (low : ℕ) (l : List Entry) → rises_from low l ≡ true → (j k : ℕ) (d : Entry) → j < k → k < length l → (get_or l j d).place < (get_or l k d).place
rises_on low [] h j k d lt within = absurd (omega (arith, within))
rises_on low (e ∷ es) h j zero d lt within = absurd (omega (arith, lt))
rises_on low (e ∷ es) h zero (suc k) d lt within = let parts = and_parts (nat_lt low e.place) (rises_from e.place es) h in rises_above e.place es parts.1 k d (omega (arith, within))
rises_on low (e ∷ es) h (suc j) (suc k) d lt within = let parts = and_parts (nat_lt low e.place) (rises_from e.place es) h in rises_on e.place es parts.1 j k d (omega (arith, lt)) (omega (arith, within))

-- the choice at its place, of its programme, has its index
pub index_found : (market : Market) (l : List Entry) → IsOrdered market l → (i : ℕ) (d : Entry) → i < length l → choice_index l (get_or l i d).place (Some (get_or l i d).prog.0) ≡ i
index_found market l ordered i d lt =
    let e = get_or l i d in
    position_or_len_is (is_choice e.place e.prog.0) l i d (omega (arith, lt))
    (λ j below. let less = rises_on 0 l ordered.rises j i d below lt in let no = differ (get_or l j d).place e.place (λ same. absurd (omega (arith, less, same))) in rw no refl)
    (λ within. rw (agree e.place e.place refl, agree e.prog.0 e.prog.0 refl) refl)

-- at place 0 there is none
pub no_index : (market : Market) (l : List Entry) → IsOrdered market l → (o : Option ℕ) → choice_index l 0 o ≡ length l
no_index market l ordered None = refl
no_index market l ordered (Some g) =
    position_or_len_is (is_choice 0 g) l (length l) no_entry (omega arith)
    (λ j below. let above = rises_above 0 l ordered.rises j no_entry below in let no = differ (get_or l j no_entry).place 0 (λ same. absurd (omega (arith, above, same))) in rw no refl)
    (λ within. absurd (omega (arith, within)))
  where
    no_entry : Entry
    no_entry = record { place = 0; prog = record { 0 = 0 }; score = 0 }
