-- What a valid instance gives a draft to begin with.
use Rattle.std.proofs.Common.{◌≡◌, ◌∙◌, ◌≤◌, ◌<◌, ◌+◌, ◌++◌, not, ℕ, zero, suc, Bool, true, false, cond, nat_lt, nat_le, List, [], ◌∷◌, length, take, get_or, replicate, position, Some, None, refl, sym, ap, arith, inl, inr, true≢false, add-one}
use Rattle.std.specs.Prelude.{sum_by}
use Rattle.std.specs.List.{list_all, list_any, IsDistinct, AllByRecursion}
use Rattle.std.specs.Str.{bytes_eq}
use Rattle.std.proofs.Math.Seq.{take-suc}
use Rattle.std.proofs.lemmas.Bool.{cases_Bool, or_parts, ltb-false, leb-false, lt-ltb, le-leb}
use Rattle.std.proofs.lemmas.List.Sums.{sum_by_more, sum_by-take-le}
use Rattle.std.proofs.lemmas.Slice.Eq.{bytes_eq-Decides}
use Rattle.sl_types.specs.declared.kinds.Entry.{Entry}
use Rattle.sl_types.specs.declared.kinds.TheConstants.{MAX_POOLS, MAX_PROGRAMMES, MAX_APPLICANTS, MAX_CHOICES, MAX_LIST, MAX_PLACE, MAX_SCORE}
use Rattle.sl_types.specs.declared.unfit.Unfit.{Unfit}
use Rattle.sl_types.specs.declared.unfit.Unfit.TheVariants.{TooManyPools, TooManyProgrammes, TooManyApplicants, TooManyChoices, ListLength, ProgRange, PlaceOrder, ScoreRange, ProgRepeated, MeritDiffers, MeritTied}
use Rattle.sl_types.specs.Market.{Market, market_of_pools, list_of}
use Rattle.sl_types.specs.Rules.{is_too_long, has_prog_out, is_out_of_order, is_misplaced, has_score_out, has_prog_twice, rises_from, has_two_merits, is_tied_below}
use Rattle.sl_types.specs.Valid.{IsValid, size_fault, quota_fault, nesting_fault, programme_fault, list_fault, merit_fault, at_applicant, fault_if, first_two_merits, first_tied, applicant_numbers}
use Rattle.sl_types.proofs.Lists.{none_fails}
use Rattle.sl_types.proofs.Faultless.{neither, no_first}
use Rattle.sl_types.proofs.Alike.{nesting_alike}
use Rattle.sl_codes.specs.Codes.{has_code, with_code}
use Rattle.sl_amend.specs.Conflicts.{has_differing, has_tied, conflict_cause}
use Rattle.sl_amend.specs.Roll.{is_choice, is_list}
use Rattle.sl_amend.proofs.OneChange.{any_never}
use Rattle.sl_amend.proofs.Fine.{fine_whole}

-- an element is none of those before it, where no two are the same
pub fresh : (codes : List (List ℕ)) (k : ℕ) → IsDistinct bytes_eq codes → k < length codes → has_code (take k codes) (get_or codes k []) ≡ false
unfolding IsDistinct
fresh [] k h lt = absurd (omega (arith, lt))
fresh (x ∷ xs) zero h lt = refl
fresh (x ∷ xs) (suc k) h lt =
    let rest = fresh xs k h.1 (omega (arith, lt)) in
    let here = turned (get_or xs k []) x (at_index xs k x h.0 (omega (arith, lt))) in
    rw (here, rest) refl
  where
    at_index : (xs : List (List ℕ)) (k : ℕ) (x : List ℕ) → AllByRecursion (λ y. bytes_eq x y ≡ false) xs → k < length xs → bytes_eq x (get_or xs k []) ≡ false
    at_index [] k x h lt = absurd (omega (arith, lt))
    at_index (y ∷ ys) zero x h lt = h.0
    at_index (y ∷ ys) (suc k) x h lt = at_index ys k x h.1 (omega (arith, lt))

    turned : (a b : List ℕ) → bytes_eq b a ≡ false → bytes_eq a b ≡ false
    turned a b h = elim (cases_Bool (bytes_eq a b)) [
      | inl e ↦ absurd (true≢false (sym ((bytes_eq-Decides b a).1 (sym ((bytes_eq-Decides a b).0 e))) ∙ h))
      | inr e ↦ e
    ]

-- one more code
pub codes_more : (codes : List (List ℕ)) (k : ℕ) → IsDistinct bytes_eq codes → k < length codes → with_code (take k codes) (get_or codes k []) ≡ take (k + 1) codes
codes_more codes k h lt = let no = fresh codes k h lt in rw (no, add-one) (sym (take-suc codes k [] lt))

fails : (low : ℕ) (n : ℕ) → nat_lt low n ≡ false → nat_le n low ≡ true
fails low n h = le-leb n low (ltb-false low n h)

choice_fine : (progs : ℕ) (e : Entry) → nat_le progs e.prog.0 ≡ false → is_misplaced e ≡ false → nat_lt MAX_SCORE e.score ≡ false → is_choice progs e ≡ true
choice_fine progs e prog place score =
    let parts = or_parts (nat_lt e.place 1) (nat_lt MAX_PLACE e.place) place in
    let a = lt-ltb e.prog.0 progs (leb-false progs e.prog.0 prog) in
    let b = le-leb 1 e.place (ltb-false e.place 1 parts.0) in
    let d = fails MAX_PLACE e.place parts.1 in
    let top = fails MAX_SCORE e.score score in
    rw (a, b, d, top) refl

choices_fine : (progs : ℕ) (xs : List Entry) → list_any (λ e. nat_le progs e.prog.0) xs ≡ false → list_any is_misplaced xs ≡ false → list_any (λ e. nat_lt MAX_SCORE e.score) xs ≡ false
    → list_all (is_choice progs) xs ≡ true
choices_fine progs [] a b d = refl
choices_fine progs (e ∷ es) a b d =
    let x = or_parts (nat_le progs e.prog.0) (list_any (λ f. nat_le progs f.prog.0) es) a in
    let y = or_parts (is_misplaced e) (list_any is_misplaced es) b in
    let z = or_parts (nat_lt MAX_SCORE e.score) (list_any (λ f. nat_lt MAX_SCORE f.score) es) d in
    let here = choice_fine progs e x.0 y.0 z.0 in
    let rest = choices_fine progs es x.1 y.1 z.1 in
    rw (here, rest) refl

not_not : (b : Bool) → not b ≡ false → b ≡ true
not_not true h = refl
not_not false h = absurd (true≢false h)

list_fine : (market : Market) (choices : List Entry) → is_too_long choices ≡ false → has_prog_out market choices ≡ false → is_out_of_order choices ≡ false → has_score_out choices ≡ false → has_prog_twice choices ≡ false
    → is_list (length market.progs) choices ≡ true
list_fine market choices long out order score twice =
    let parts = or_parts (list_any is_misplaced choices) (not (rises_from 0 choices)) order in
    fine_whole (length market.progs) choices record {
      short = ltb-false MAX_LIST (length choices) long;
      each = choices_fine (length market.progs) choices out parts.0 score;
      rises = not_not (rises_from 0 choices) parts.1;
      once = twice;
    }

-- each list of a valid instance is in order
pub valid_list : (market : Market) (a : ℕ) → IsValid market → a < length market.lists → is_list (length market.progs) (list_of market a) ≡ true
valid_list market a valid lt =
    let s = neither (size_fault market) _ valid in
    let q = neither (quota_fault market) _ s.1 in
    let n = neither (nesting_fault market) _ q.1 in
    let p = neither (programme_fault market) _ n.1 in
    let l = (neither (list_fault market) (merit_fault market) p.1).0 in
    let a1 = neither (at_applicant ListLength (position is_too_long market.lists)) _ l in
    let a2 = neither (at_applicant ProgRange (position (has_prog_out market) market.lists)) _ a1.1 in
    let a3 = neither (at_applicant PlaceOrder (position is_out_of_order market.lists)) _ a2.1 in
    let a4 = neither (at_applicant ScoreRange (position has_score_out market.lists)) (at_applicant ProgRepeated (position has_prog_twice market.lists)) a3.1 in
    list_fine market (list_of market a)
    (none_fails is_too_long market.lists (no_first (λ i. ListLength (record { 0 = i })) _ a1.0) a [] lt)
    (none_fails (has_prog_out market) market.lists (no_first (λ i. ProgRange (record { 0 = i })) _ a2.0) a [] lt)
    (none_fails is_out_of_order market.lists (no_first (λ i. PlaceOrder (record { 0 = i })) _ a3.0) a [] lt)
    (none_fails has_score_out market.lists (no_first (λ i. ScoreRange (record { 0 = i })) _ a4.0) a [] lt)
    (none_fails has_prog_twice market.lists (no_first (λ i. ProgRepeated (record { 0 = i })) _ a4.1) a [] lt)

pub valid_nested : (market : Market) → IsValid market → nesting_fault (market_of_pools market.pools) ≡ None
valid_nested market valid =
    let s = neither (size_fault market) _ valid in
    let q = neither (quota_fault market) _ s.1 in
    nesting_alike market.pools market.progs market.lists ∙ (neither (nesting_fault market) _ q.1).0

pub valid_quotas : (market : Market) → IsValid market → quota_fault market ≡ None
valid_quotas market valid =
    let s = neither (size_fault market) _ valid in
    (neither (quota_fault market) _ s.1).0

if_none : (broken : Bool) (fault : Unfit) → cond broken (Some fault) None ≡ None → broken ≡ false
if_none true fault h = let e : None ≡ Some fault = sym h in cc e
if_none false fault h = refl

-- its choices are not too many
pub valid_size : (market : Market) → IsValid market → sum_by length market.lists ≤ MAX_CHOICES
valid_size market valid =
    let s = (neither (size_fault market) _ valid).0 in
    let a = neither (fault_if (nat_lt MAX_POOLS (length market.pools)) TooManyPools) _ s in
    let b = neither (fault_if (nat_lt MAX_PROGRAMMES (length market.progs)) TooManyProgrammes) _ a.1 in
    let d = neither (fault_if (nat_lt MAX_APPLICANTS (length market.lists)) TooManyApplicants) (fault_if (nat_lt MAX_CHOICES (sum_by length market.lists)) TooManyChoices) b.1 in
    ltb-false MAX_CHOICES (sum_by length market.lists) (if_none (nat_lt MAX_CHOICES (sum_by length market.lists)) TooManyChoices d.1)

pub replicate_more : {A : Type 0} (n : ℕ) (x : A) → replicate n x ++ x ∷ [] ≡ replicate (n + 1) x
replicate_more zero x = refl
replicate_more (suc n) x =
    let a : suc n + 1 ≡ suc (n + 1) = omega arith in
    rw a (ap (λ xs. x ∷ xs) (replicate_more n x))

-- one more list
pub lists_more : (lists : List (List Entry)) (k : ℕ) → k < length lists → take k lists ++ get_or lists k [] ∷ [] ≡ take (k + 1) lists
lists_more lists k lt = rw add-one (sym (take-suc lists k [] lt))

pub sizes_more : (lists : List (List Entry)) (k : ℕ) → k < length lists → sum_by length (take k lists) + length (get_or lists k []) ≡ sum_by length (take (k + 1) lists)
sizes_more lists k lt = sym (sum_by_more length lists k [] lt)

pub sizes_low : (market : Market) (k : ℕ) → IsValid market → k < length market.lists → sum_by length (take k market.lists) + length (list_of market k) ≤ MAX_CHOICES
sizes_low market k valid lt =
    let more = sizes_more market.lists k lt in
    let low = sum_by-take-le length market.lists (k + 1) in
    let size = valid_size market valid in
    omega (arith, more, low, size)

no_any : {A : Type 0} (p : A → Bool) (xs : List A) (d : A) → position p xs ≡ None → list_any p xs ≡ false
no_any p xs d h = any_never p xs d (λ k lt. none_fails p xs h k d lt)

-- it has no conflict of merits
pub valid_free : (market : Market) → IsValid market → conflict_cause market ≡ None
valid_free market valid =
    let s = neither (size_fault market) _ valid in
    let q = neither (quota_fault market) _ s.1 in
    let n = neither (nesting_fault market) _ q.1 in
    let p = neither (programme_fault market) _ n.1 in
    let m = (neither (list_fault market) (merit_fault market) p.1).1 in
    let parts = neither (at_applicant MeritDiffers (first_two_merits market)) (at_applicant MeritTied (first_tied market)) m in
    let differing : has_differing market ≡ false = no_any (has_two_merits market) market.lists [] (no_first (λ i. MeritDiffers (record { 0 = i })) _ parts.0) in
    let tied : has_tied market ≡ false = no_any (is_tied_below market) (applicant_numbers market) 0 (no_first (λ i. MeritTied (record { 0 = i })) _ parts.1) in
    rw (differing, tied) refl
