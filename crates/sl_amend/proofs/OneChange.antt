-- The conflicts in a draft in which one list has changed by one choice.
use Rattle.std.proofs.Common.{◌≡◌, ◌≢◌, ◌∙◌, ◌≤◌, ◌<◌, ◌&&◌, ◌||◌, not, ℕ, suc, Bool, true, false, nat_eq, nat_lt, List, [], ◌∷◌, length, take, get_or, Option, Some, None, refl, sym, ap, arith, inl, inr, true≢false, length-take}
use Rattle.std.specs.List.{list_all, list_any, range_with_len}
use Rattle.std.proofs.lemmas.Bool.{cases_Bool, ltb-true, ltb-false, or_parts, or_left, or_right, and_from, and_parts}
use Rattle.std.proofs.lemmas.List.{get_or_past, get_or-take}
use Rattle.std.proofs.lemmas.List.Folds.{list_any_at}
use Rattle.std.proofs.lemmas.List.FromFn.{get_or-range_with_len, length-range_with_len}
use Rattle.std.proofs.lemmas.List.Sums.{AllPass-from_list_all}
use Rattle.sl_types.specs.declared.kinds.Entry.{Entry}
use Rattle.sl_types.specs.Market.{Market}
use Rattle.sl_types.specs.Rules.{has_two_merits, are_tied, is_tied_below}
use Rattle.sl_types.proofs.Lists.{none_at}
use Rattle.sl_types.proofs.Rings.{found}
use Rattle.sl_codes.specs.declared.faults.Cause.TheVariants.{MeritDiffers, MeritTied}
use Rattle.sl_codes.specs.Faults.{cause_if}
use Rattle.sl_codes.proofs.FirstFault.{neither, unbroken}
use Rattle.sl_amend.specs.declared.merits.Merits.{Merits}
use Rattle.sl_amend.specs.Conflicts.{has_differing, has_tied, conflict_cause}
use Rattle.sl_amend.specs.Merits.{is_contradicted_beside, is_held_beyond, conflict_found}
use Rattle.sl_amend.specs.Roll.{is_choice, is_list, no_choice}
use Rattle.sl_amend.proofs.Beyond.{IsTallied, beyond_none, beyond_some}
use Rattle.sl_amend.proofs.Fine.{fine_parts}
use Rattle.sl_amend.proofs.OneTree.{IsFitted, differ, tie, two, ties, two_is, ties_is, differ_turned, tie_turned, differ_self}

-- where none passes at any index, none passes
pub any_never : {A : Type 0} (p : A → Bool) (xs : List A) (d : A) → ((k : ℕ) → k < length xs → p (get_or xs k d) ≡ false) → list_any p xs ≡ false
any_never p [] d h = refl
any_never p (x ∷ xs) d h =
    let here = h 0 (omega arith) in
    let rest = any_never p xs d (λ k lt. h (suc k) (omega (arith, lt))) in
    rw (here, rest) refl

-- no applicant has two merits in a tree, and no two have one
pub record IsFree (trees : List (Option ℕ)) (lists : List (List Entry)) : Type 0 where
  pub single : (b : ℕ) → two trees (get_or lists b []) ≡ false
  pub apart : (a b : ℕ) → b < a → ties trees (get_or lists a []) (get_or lists b []) ≡ false

module _ (market : Market) (trees : List (Option ℕ)) (fit : IsFitted market trees) where
  fine_list : (b : ℕ) → list_all (is_choice (length trees)) (get_or market.lists b []) ≡ true
  fine_list b = elim (cases_Bool (nat_lt b (length market.lists))) [
    | inl e ↦
        (let lt = ltb-true b (length market.lists) e in
        (fine_parts (length trees) (get_or market.lists b []) (AllPass-from_list_all (is_list (length trees)) market.lists fit.in_order b [] lt)).each)
    | inr e ↦ ap (list_all (is_choice (length trees))) (get_or_past market.lists b [] (ltb-false b (length market.lists) e))
  ]

  two_at : (b : ℕ) → has_two_merits market (get_or market.lists b []) ≡ two trees (get_or market.lists b [])
  two_at b = two_is market trees fit (get_or market.lists b []) (fine_list b)

  ties_at : (a b : ℕ) → are_tied market (get_or market.lists a []) (get_or market.lists b []) ≡ ties trees (get_or market.lists a []) (get_or market.lists b [])
  ties_at a b = ties_is market trees fit (get_or market.lists a []) (get_or market.lists b []) (fine_list a) (fine_list b)

  at_number : (n k : ℕ) → k < n → get_or (range_with_len 0 n) k 0 ≡ k
  at_number n k lt = get_or-range_with_len 0 n k 0 lt ∙ omega arith

  pub free_of : conflict_cause market ≡ None → IsFree trees market.lists
  free_of h =
      let parts = neither (cause_if (has_differing market) MeritDiffers) (cause_if (has_tied market) MeritTied) h in
      let differing = unbroken (has_differing market) MeritDiffers parts.0 in
      let tied = unbroken (has_tied market) MeritTied parts.1 in
      let lists = market.lists in
      let n = length lists in
      record {
        single = λ b. elim (cases_Bool (nat_lt b n)) [
          | inl e ↦ sym (two_at b) ∙ none_at (has_two_merits market) lists [] b differing (ltb-true b n e)
          | inr e ↦ ap (two trees) (get_or_past lists b [] (ltb-false b n e))
        ];
        apart = λ a b less. elim (cases_Bool (nat_lt a n)) [
          | inl e ↦
              let lt = ltb-true a n e in
              let inside = length-range_with_len 0 n in
              let below : is_tied_below market a ≡ false =
              sym (ap (is_tied_below market) (at_number n a lt)) ∙ none_at (is_tied_below market) (range_with_len 0 n) 0 a tied (omega (arith, lt, inside)) in
              let count = length-take a lists in
              let one : are_tied market (get_or lists a []) (get_or (take a lists) b []) ≡ false = none_at (are_tied market (get_or lists a [])) (take a lists) [] b below (omega (arith, count, less, lt)) in
              sym (ties_at a b) ∙ sym (ap (are_tied market (get_or lists a [])) (get_or-take a lists b [] less)) ∙ one
          | inr e ↦ ap (λ (es : List Entry). ties trees es (get_or lists b [])) (get_or_past lists a [] (ltb-false a n e))
        ];
      }

  no_differing : ((b : ℕ) → two trees (get_or market.lists b []) ≡ false) → has_differing market ≡ false
  no_differing single = any_never (has_two_merits market) market.lists [] (λ k lt. two_at k ∙ single k)

  pub none_found : IsFree trees market.lists → conflict_cause market ≡ None
  none_found free =
      let lists = market.lists in
      let n = length lists in
      let differing = no_differing free.single in
      let tied : has_tied market ≡ false = any_never (is_tied_below market) (range_with_len 0 n) 0
      (λ k inside. let count = length-range_with_len 0 n in
      let lt : k < n = omega (arith, inside, count) in
      ap (is_tied_below market) (at_number n k lt)
      ∙ any_never (are_tied market (get_or lists k [])) (take k lists) []
      (λ b low. let size = length-take k lists in
      let less : b < k = omega (arith, low, size) in
      ap (are_tied market (get_or lists k [])) (get_or-take k lists b [] less) ∙ ties_at k b ∙ free.apart k b less)) in
      rw (differing, tied) refl

  pub differing_found : (b : ℕ) → b < length market.lists → two trees (get_or market.lists b []) ≡ true → conflict_cause market ≡ Some MeritDiffers
  differing_found b lt h =
      let some : has_differing market ≡ true = list_any_at (has_two_merits market) market.lists b [] lt (two_at b ∙ h) in
      rw some refl

  pub tied_found : ((b : ℕ) → two trees (get_or market.lists b []) ≡ false) → (a b : ℕ) → b < a → a < length market.lists
      → ties trees (get_or market.lists a []) (get_or market.lists b []) ≡ true → conflict_cause market ≡ Some MeritTied
  tied_found single a b less lt h =
      let lists = market.lists in
      let n = length lists in
      let differing = no_differing single in
      let size = length-take a lists in
      let count = length-range_with_len 0 n in
      let below : is_tied_below market a ≡ true =
      list_any_at (are_tied market (get_or lists a [])) (take a lists) b [] (omega (arith, size, less, lt))
      (ap (are_tied market (get_or lists a [])) (get_or-take a lists b [] less) ∙ ties_at a b ∙ h) in
      let some : has_tied market ≡ true =
      list_any_at (is_tied_below market) (range_with_len 0 n) a 0 (omega (arith, count, lt)) (ap (is_tied_below market) (at_number n a lt) ∙ below) in
      rw (differing, some) refl

-- either way round
ties_to : (trees : List (Option ℕ)) (xs ys : List Entry) → ties trees xs ys ≡ true → ties trees ys xs ≡ true
ties_to trees xs ys h =
    let (k, k_in, at_k) = found (λ (e : Entry). list_any (tie trees e) ys) no_choice xs h in
    let (j, j_in, at_j) = found (tie trees (get_or xs k no_choice)) no_choice ys at_k in
    list_any_at (λ (f : Entry). list_any (tie trees f) xs) ys j no_choice j_in
    (list_any_at (tie trees (get_or ys j no_choice)) xs k no_choice k_in (tie_turned trees (get_or ys j no_choice) (get_or xs k no_choice) ∙ at_j))

ties_not : (trees : List (Option ℕ)) (xs ys : List Entry) → ties trees xs ys ≡ false → ties trees ys xs ≡ false
ties_not trees xs ys h = elim (cases_Bool (ties trees ys xs)) [
  | inl e ↦ absurd (true≢false (sym (ties_to trees ys xs e) ∙ h))
  | inr e ↦ e
]

apart_both : (trees : List (Option ℕ)) (lists : List (List Entry)) → IsFree trees lists → (a b : ℕ) → a ≢ b → ties trees (get_or lists a []) (get_or lists b []) ≡ false
apart_both trees lists free a b ne = elim (cases_Bool (nat_lt b a)) [
  | inl e ↦ free.apart a b (ltb-true b a e)
  | inr e ↦ (let le = ltb-false b a e in ties_not trees (get_or lists b []) (get_or lists a []) (free.apart b a (omega (arith, le, ne))))
]

-- those of other programmes
abbrev pub beside : Entry → (Entry → Bool) → List Entry → Bool
beside e p choices = list_any (λ f. not (nat_eq f.prog.0 e.prog.0) && p f) choices

-- the choices with one that takes the place of that of its programme, where there is one
pub record IsWith (e : Entry) (old new : List Entry) : Type 0 where
  pub members : (p : Entry → Bool) → list_any p new ≡ (p e || beside e p old)

beside_none : (e : Entry) (p : Entry → Bool) (choices : List Entry) → list_any p choices ≡ false → beside e p choices ≡ false
beside_none e p [] h = refl
beside_none e p (f ∷ fs) h =
    let parts = or_parts (p f) (list_any p fs) h in
    let rest = beside_none e p fs parts.1 in
    rw (parts.0, rest) (nothing (not (nat_eq f.prog.0 e.prog.0)))
  where
    nothing : (b : Bool) → ((b && false) || false) ≡ false
    nothing true = refl
    nothing false = refl

module _ (trees : List (Option ℕ)) (e : Entry) (old new : List Entry) (is : IsWith e old new) where
  two_some : beside e (differ trees e) old ≡ true → two trees new ≡ true
  two_some h =
      let own : list_any (differ trees e) new ≡ true = is.members (differ trees e) ∙ or_right (differ trees e e) (beside e (differ trees e) old) h in
      is.members (λ x. list_any (differ trees x) new) ∙ or_left (list_any (differ trees e) new) (beside e (λ x. list_any (differ trees x) new) old) own

  two_none : two trees old ≡ false → beside e (differ trees e) old ≡ false → two trees new ≡ false
  two_none free h =
      let own : list_any (differ trees e) new ≡ false = is.members (differ trees e) ∙ rw (differ_self trees e, h) refl in
      let others : beside e (λ x. list_any (differ trees x) new) old ≡ false = any_never (λ x. not (nat_eq x.prog.0 e.prog.0) && list_any (differ trees x) new) old no_choice
      (λ k lt. let x : Entry = get_or old k no_choice in
      let here = none_at (λ (f : Entry). not (nat_eq f.prog.0 e.prog.0) && differ trees e f) old no_choice k h lt in
      let mine : list_any (differ trees x) old ≡ false = none_at (λ (y : Entry). list_any (differ trees y) old) old no_choice k free lt in
      let rest = beside_none e (differ trees x) old mine in
      guarded (not (nat_eq x.prog.0 e.prog.0)) (list_any (differ trees x) new) (differ trees e x) here
      (λ none. is.members (differ trees x) ∙ rw (differ_turned trees x e ∙ none, rest) refl)) in
      is.members (λ x. list_any (differ trees x) new) ∙ rw (own, others) refl
    where
      guarded : (b q d : Bool) → (b && d) ≡ false → (d ≡ false → q ≡ false) → (b && q) ≡ false
      guarded true q d h f = f h
      guarded false q d h f = refl

  ties_is_one : (ys : List Entry) → ties trees old ys ≡ false → ties trees new ys ≡ list_any (tie trees e) ys
  ties_is_one ys h =
      let rest = beside_none e (λ x. list_any (tie trees x) ys) old h in
      is.members (λ x. list_any (tie trees x) ys) ∙ rw rest (alone (list_any (tie trees e) ys))
    where
      alone : (b : Bool) → (b || false) ≡ b
      alone true = refl
      alone false = refl

-- where one list has changed by one choice, what that choice is in tells what conflict stands
pub conflict_is : (merits : Merits) (market : Market) (lists : List (List Entry)) (a : ℕ) (e : Entry) → IsFitted market merits.trees.items
    → IsTallied merits (length merits.trees.items) lists → IsFree merits.trees.items lists → a < length market.lists → length lists ≤ length market.lists
    → ((b : ℕ) → a ≢ b → get_or market.lists b [] ≡ get_or lists b []) → IsWith e (get_or lists a []) (get_or market.lists a [])
    → e.score ≤ Rattle.sl_types.specs.declared.kinds.TheConstants.MAX_SCORE → conflict_found merits (get_or lists a []) e ≡ conflict_cause market
conflict_is merits market lists a e fit tall free lt sizes others is low =
    let trees : List (Option ℕ) = merits.trees.items in
    let old : List Entry = get_or lists a [] in
    let new : List Entry = get_or market.lists a [] in
    elim (cases_Bool (is_contradicted_beside trees old e)) [
      | inl d ↦ rw d (sym (differing_found market trees fit a lt (two_some trees e old new is d)))
      | inr d ↦
          let single : (b : ℕ) → two trees (get_or market.lists b []) ≡ false = λ b. elim (Rattle.std.proofs.lemmas.Bool.Decides.eqb_tells a b) [
            | inl s ↦ ap (λ (n : ℕ). two trees (get_or market.lists n [])) (sym s.1) ∙ two_none trees e old new is (free.single a) d
            | inr s ↦ ap (two trees) (others b s.1) ∙ free.single b
          ] in
          elim (cases_Bool (is_held_beyond merits old e)) [
            | inl t ↦
                let (b, ne, b_in, some) = beyond_some merits (length trees) lists tall a e low t in
                let pair : ties trees new (get_or market.lists b []) ≡ true =
                ap (ties trees new) (others b ne) ∙ ties_is_one trees e old new is (get_or lists b []) (apart_both trees lists free a b ne) ∙ some in
                rw (d, t) (sym (elim (cases_Bool (nat_lt b a)) [
                  | inl k ↦ tied_found market trees fit single a b (ltb-true b a k) lt pair
                  | inr k ↦
                      (let le = ltb-false b a k in
                      tied_found market trees fit single b a (omega (arith, le, ne)) (omega (arith, b_in, sizes)) (ties_to trees new (get_or market.lists b []) pair))
                ]))
            | inr t ↦
                let alone : (b : ℕ) → a ≢ b → ties trees new (get_or market.lists b []) ≡ false = λ b ne.
                ap (ties trees new) (others b ne) ∙ ties_is_one trees e old new is (get_or lists b []) (apart_both trees lists free a b ne)
                ∙ beyond_none merits (length trees) lists tall a e low t b ne in
                let apart_now : (x y : ℕ) → y < x → ties trees (get_or market.lists x []) (get_or market.lists y []) ≡ false = λ x y less.
                elim (Rattle.std.proofs.lemmas.Bool.Decides.eqb_tells a x) [
                  | inl s ↦ ap (λ (n : ℕ). ties trees (get_or market.lists n []) (get_or market.lists y [])) (sym s.1) ∙ alone y (λ q. absurd (omega (arith, q, s.1, less)))
                  | inr s ↦ elim (Rattle.std.proofs.lemmas.Bool.Decides.eqb_tells a y) [
                    | inl r ↦ ap (λ (n : ℕ). ties trees (get_or market.lists x []) (get_or market.lists n [])) (sym r.1) ∙ ties_not trees new (get_or market.lists x []) (alone x s.1)
                    | inr r ↦ ap (λ (es : List Entry). ties trees es (get_or market.lists y [])) (others x s.1) ∙ ap (ties trees (get_or lists x [])) (others y r.1) ∙ free.apart x y less
                  ]
                ] in
                rw (d, t) (sym (none_found market trees fit (record { single = single; apart = apart_now })))
          ]
    ]
