-- The application table that was printed makes the instance.
use Rattle.std.proofs.Common.{◌≡◌, ◌≢◌, ◌∙◌, ◌<◌, ◌+◌, ◌++◌, ◌&&◌, ℕ, zero, suc, Bool, true, false, nat_eq, List, [], ◌∷◌, length, map, take, get_or, None, refl, sym, ap, subst, arith, inl, inr, append_assoc, append-nil, length-append, Contains, true≢false, eqb-true, eq-eqb}
use Rattle.std.specs.Prelude.{All}
use Rattle.std.specs.List.{list_any, AllByRecursion}
use Rattle.std.proofs.lemmas.Bool.{cases_Bool, and_parts}
use Rattle.std.proofs.lemmas.List.Elements.{filter-append, All-from_recursion, Contains-get_or}
use Rattle.std.proofs.lemmas.List.Folds.{list_any_at}
use Rattle.std.proofs.lemmas.List.Sorted.{IsPermutation-refl}
use Rattle.std.proofs.Math.Seq.{get_or-append_seam}
use Rattle.sl_types.specs.declared.kinds.Entry.{Entry}
use Rattle.sl_types.specs.declared.kinds.Rule.{Rule}
use Rattle.sl_types.specs.declared.kinds.Rule.TheVariants.{H, L, Merit}
use Rattle.sl_types.specs.Market.{Market, list_of, pool_of, rule_of, lies_in, chain_of}
use Rattle.sl_types.specs.Rules.{is_merit, share_tree}
use Rattle.sl_types.specs.Valid as Valid
use Rattle.sl_types.specs.Valid.{IsValid}
use Rattle.sl_types.specs.WellFormed.{IsChoiceOf}
use Rattle.sl_types.proofs.Alike.{nesting_alike}
use Rattle.sl_types.proofs.Faultless.{faultless, neither, well_formed}
use Rattle.sl_types.proofs.Firsts.{no_number}
use Rattle.sl_types.proofs.Rings.{found}
use Rattle.sl_types.proofs.Roots.{nested, share_is}
use Rattle.sl_codes.proofs.Lists.{differ, agree}
use Rattle.sl_codes.specs.Faults.{first_fault}
use Rattle.sl_choices.specs.declared.choices.ChoiceRow.{ChoiceRow}
use Rattle.sl_choices.specs.Choices.{choice_form, applicants_of, choices_of}
use Rattle.sl_choices.specs.Rows.{rows_of_app}
use Rattle.sl_instance.specs.Assembly.{entry_of, IsAssembled}
use Rattle.sl_instance.specs.Causes.{market_before, contradicts, ties_with, is_against_earlier, first_against, no_row, merits_fault}
use Rattle.sl_instance.specs.NamedMarket.{NamedMarket, IsNamed}
use Rattle.sl_amend.specs.Tables.{application_header, application_records}
use Rattle.sl_amend.specs.TableLaws.{pools_in, progs_in}
use Rattle.sl_amend.proofs.AllApplications.{row_at, rows_from, all_right, all_rows, by_number, none, fine_lists, rising}
use Rattle.sl_amend.proofs.ApplicationTable.{AreFine}
use Rattle.sl_amend.proofs.FirstSeen.{seen_all}

-- the rows of an applicant among those of one applicant
own_all : (a : ℕ) (l : List Entry) → rows_of_app a (map (row_at a) l) ≡ map (row_at a) l
own_all a [] = refl
own_all a (e ∷ es) = rw (agree a a refl, own_all a es) refl

other_none : (a b : ℕ) (l : List Entry) → (b ≡ a → ⊥) → rows_of_app a (map (row_at b) l) ≡ []
other_none a b [] ne = refl
other_none a b (e ∷ es) ne = rw (differ b a ne, other_none a b es ne) refl

-- and among those of all
later_none : (a k : ℕ) (lists : List (List Entry)) → a < k → rows_of_app a (rows_from k lists) ≡ []
unfolding rows_from
later_none a k [] lt = refl
later_none a k (l ∷ lists) lt =
    filter-append (λ row. nat_eq row.app.0 a) (map (row_at k) l) (rows_from (suc k) lists)
    ∙ ap (λ rs. rs ++ rows_of_app a (rows_from (suc k) lists)) (other_none a k l (λ same. absurd (omega (arith, same, lt))))
    ∙ later_none a (suc k) lists (omega (arith, lt))

own_of : (k j : ℕ) (lists : List (List Entry)) → rows_of_app (k + j) (rows_from k lists) ≡ map (row_at (k + j)) (get_or lists j [])
unfolding rows_from
own_of k j [] = refl
own_of k zero (l ∷ lists) =
    let here : k + 0 ≡ k = omega arith in
    rw here (filter-append (λ row. nat_eq row.app.0 k) (map (row_at k) l) (rows_from (suc k) lists)
    ∙ ap (λ rs. rs ++ rows_of_app k (rows_from (suc k) lists)) (own_all k l)
    ∙ ap (λ rs. map (row_at k) l ++ rs) (later_none k (suc k) lists (omega arith)) ∙ append-nil (map (row_at k) l))
own_of k (suc j) (l ∷ lists) =
    let next : k + suc j ≡ suc k + j = omega arith in
    rw next (filter-append (λ row. nat_eq row.app.0 (suc k + j)) (map (row_at k) l) (rows_from (suc k) lists)
    ∙ ap (λ rs. rs ++ rows_of_app (suc k + j) (rows_from (suc k) lists)) (other_none (suc k + j) k l (λ same. absurd (omega (arith, same))))
    ∙ own_of (suc k) j lists)

entries_again : (a : ℕ) (l : List Entry) → map entry_of (map (row_at a) l) ≡ l
entries_again a [] = refl
entries_again a (e ∷ es) = ap (λ rs. e ∷ rs) (entries_again a es)

merit_is : (rule : Rule) → is_merit rule ≡ true → rule ≡ Merit
merit_is H e = absurd (true≢false (sym e))
merit_is L e = absurd (true≢false (sym e))
merit_is Merit e = refl

-- two choices in one tree are in one merit pool
record AreInOne (market : Market) (e f : Entry) : Type 0 where
  R : ℕ
  merit : rule_of market R ≡ Merit
  first : lies_in market (pool_of market e) R ≡ true
  second : lies_in market (pool_of market f) R ≡ true

one_pool : (market : Market) (e f : Entry) → share_tree market e f ≡ true → AreInOne market e f
one_pool market e f h =
    let (k, lt, is) = found (λ R. is_merit (rule_of market R) && lies_in market (pool_of market f) R) 0 (chain_of market (pool_of market e)) h in
    let R : ℕ = get_or (chain_of market (pool_of market e)) k 0 in
    let parts = and_parts (is_merit (rule_of market R)) (lies_in market (pool_of market f) R) is in
    record {
      R = R;
      merit = merit_is (rule_of market R) parts.0;
      first = list_any_at (λ Q. nat_eq Q R) (chain_of market (pool_of market e)) k 0 lt (eq-eqb R R refl);
      second = parts.1;
    }

module _ (market : Market) (ok : IsValid market) where
  abbrev bare : Market
  bare = market_before market.pools market.progs

  -- trees are the same without the applicants
  tree_alike : (e f : Entry) → share_tree bare e f ≡ share_tree market e f
  tree_alike e f =
      let sizes = neither (Valid.size_fault market) _ ok in
      let quotas = neither (Valid.quota_fault market) _ sizes.1 in
      let nests = (neither (Valid.nesting_fault market) _ quotas.1).0 in
      let alone = nesting_alike market.pools market.progs market.lists ∙ nests in
      let before = sym (nesting_alike market.pools market.progs []) ∙ alone in
      share_is bare (nested bare before) e f ∙ sym (share_is market (nested market nests) e f)

  -- a row is of a choice of its applicant
  IsRow : ChoiceRow → Type 0
  IsRow row = IsChoiceOf market row.app.0 (entry_of row)

  no_contradiction : (row other : ChoiceRow) → IsRow row → IsRow other → contradicts bare row other ≡ false
  unfolding IsRow
  no_contradiction row other h g = elim (cases_Bool (nat_eq row.app.0 other.app.0)) [
    | inr e ↦ rw e refl
    | inl e ↦ elim (cases_Bool (share_tree bare (entry_of row) (entry_of other))) [
      | inr s ↦ rw (e, s) refl
      | inl s ↦
          let one = one_pool market (entry_of row) (entry_of other) (sym (tree_alike (entry_of row) (entry_of other)) ∙ s) in
          let same : other.app.0 ≡ row.app.0 = sym (eqb-true row.app.0 other.app.0 e) in
          let mine = subst (λ (a : ℕ). IsChoiceOf market a (entry_of other)) same g in
          let score = (well_formed market ok).merits row.app.0 (entry_of row) (entry_of other) one.R h mine one.merit one.first one.second in
          let equal = agree row.score other.score score in
          rw (e, s, equal) refl
    ]
  ]

  no_tie : (row other : ChoiceRow) → IsRow row → IsRow other → ties_with bare row other ≡ false
  unfolding IsRow
  no_tie row other h g = elim (cases_Bool (nat_eq row.score other.score)) [
    | inr e ↦ rw e refl
    | inl e ↦ elim (cases_Bool (share_tree bare (entry_of row) (entry_of other))) [
      | inr s ↦ rw (e, s) refl
      | inl s ↦ elim (cases_Bool (nat_eq row.app.0 other.app.0)) [
        | inl a ↦ rw (e, s, a) refl
        | inr a ↦
            let one = one_pool market (entry_of row) (entry_of other) (sym (tree_alike (entry_of row) (entry_of other)) ∙ s) in
            let ne : row.app.0 ≢ other.app.0 = λ same. true≢false (sym (eq-eqb row.app.0 other.app.0 same) ∙ a) in
            let apart = (well_formed market ok).untied row.app.0 other.app.0 (entry_of row) (entry_of other) one.R ne h g one.merit one.first one.second in
            absurd (apart (eqb-true row.score other.score e))
      ]
    ]
  ]

  none_with : (test : ChoiceRow → ChoiceRow → Bool) → ((row other : ChoiceRow) → IsRow row → IsRow other → test row other ≡ false)
      → (row : ChoiceRow) → IsRow row → (rows : List ChoiceRow) → AllByRecursion IsRow rows → list_any (test row) rows ≡ false
  none_with test never row is [] h = refl
  none_with test never row is (other ∷ rows) h = rw (never row other is h.0, none_with test never row is rows h.1) refl

  taken : (rows : List ChoiceRow) (k : ℕ) → AllByRecursion IsRow rows → AllByRecursion IsRow (take k rows)
  taken rows zero h = tt
  taken [] (suc k) h = tt
  taken (row ∷ rows) (suc k) h = (h.0, taken rows k h.1)

  none_against : (test : ChoiceRow → ChoiceRow → Bool) → ((row other : ChoiceRow) → IsRow row → IsRow other → test row other ≡ false)
      → (rows : List ChoiceRow) → AllByRecursion IsRow rows → first_against test rows ≡ None
  none_against test never rows h =
      no_number (is_against_earlier test rows) (length rows)
      (λ k lt. none_with test never (get_or rows k no_row) (All-from_recursion IsRow rows h k no_row lt) (take k rows) (taken rows k h))

  -- each row is of a choice
  rows_of_list : (a : ℕ) (es : List Entry) → AllByRecursion (Contains (list_of market a)) es → AllByRecursion IsRow (map (row_at a) es)
  unfolding IsRow
  rows_of_list a [] h = tt
  rows_of_list a (e ∷ es) h = (h.0, rows_of_list a es h.1)

  on_row : (rows more : List ChoiceRow) → AllByRecursion IsRow rows → AllByRecursion IsRow more → AllByRecursion IsRow (rows ++ more)
  on_row [] more h g = g
  on_row (row ∷ rows) more h g = (h.0, on_row rows more h.1 g)

  rows_are : (before lists : List (List Entry)) → before ++ lists ≡ market.lists → AllByRecursion IsRow (rows_from (length before) lists)
  unfolding rows_from
  rows_are before [] is = tt
  rows_are before (l ∷ lists) is =
      let own : list_of market (length before) ≡ l = ap (λ ls. get_or ls (length before) []) (sym is) ∙ get_or-append_seam before l lists [] in
      let next : length (before ++ l ∷ []) ≡ suc (length before) = length-append before (l ∷ []) ∙ omega arith in
      let later = rows_are (before ++ l ∷ []) lists (append_assoc before (l ∷ []) lists ∙ is) in
      let each : AllByRecursion (Contains l) l = by_number (Contains l) l none (λ k lt. Contains-get_or l k none lt) in
      on_row (map (row_at (length before)) l) (rows_from (suc (length before)) lists)
      (rows_of_list (length before) l (rw own each)) (rw next at later)

  pub no_merit_fault : (first_against (contradicts bare) (rows_from 0 market.lists) ≡ None) × (first_against (ties_with bare) (rows_from 0 market.lists) ≡ None)
  no_merit_fault =
      let rows = rows_are [] market.lists refl in (
        none_against (contradicts bare) no_contradiction (rows_from 0 market.lists) rows,
        none_against (ties_with bare) no_tie (rows_from 0 market.lists) rows,
      )

module _ (n : NamedMarket) (codes : IsNamed n) (ok : IsValid n.market) (some : All (λ choices. 0 < length choices) n.market.lists) where
  abbrev lists : List (List Entry)
  lists = n.market.lists

  fine : AllByRecursion (AreFine (length n.prog_codes)) lists
  fine = rw codes.each_prog (fine_lists n.market (faultless n.market ok) some)

  nonempty : (ls : List (List Entry)) → AllByRecursion (AreFine (length n.prog_codes)) ls → AllByRecursion (λ l. 0 < length l) ls
  nonempty [] h = tt
  nonempty (l ∷ ls) h = (h.0.some, nonempty ls h.1)

  applicants_hold : applicants_of (application_records n) ≡ n.app_codes
  applicants_hold = seen_all n.prog_codes n.app_codes lists [] codes.each_applicant (nonempty lists fine) codes.applicants.once

  pub choices_hold : choices_of n.prog_codes (application_records n) ≡ record { codes = n.app_codes; rows = rows_from 0 lists }
  choices_hold =
      let rows = all_rows n.prog_codes codes.progs.once n.app_codes [] n.app_codes lists refl codes.applicants.once codes.each_applicant fine in
      rw (applicants_hold, rows) refl

  pub applications_right : first_fault (choice_form n.prog_codes) (application_header ∷ application_records n) ≡ None
  applications_right =
      let faults = faultless n.market ok in
      let few = faults.few_applicants in
      let room = faults.few_choices in
      all_right n.prog_codes codes.progs.once [] n.app_codes lists codes.each_applicant fine codes.applicants.coded codes.applicants.once
      (omega (arith, few, codes.each_applicant)) (omega (arith, room))

  pub merits_right : merits_fault (pools_in n) (progs_in n) (choices_of n.prog_codes (application_records n)) ≡ None
  merits_right =
      let never = no_merit_fault n.market ok in
      ap (merits_fault (pools_in n) (progs_in n)) choices_hold ∙ rw (never.0, never.1) refl

  pub applications_hold : IsAssembled (pools_in n) (progs_in n) (choices_of n.prog_codes (application_records n)) n
  applications_hold = rw choices_hold record {
    pools_are = refl;
    progs_are = refl;
    pool_codes = refl;
    prog_codes = refl;
    app_codes = refl;
    each = sym codes.each_applicant;
    lists = λ a lt.
        let own = own_of 0 a lists in
        let start : 0 + a ≡ a = omega arith in
        let mine : rows_of_app a (rows_from 0 lists) ≡ map (row_at a) (list_of n.market a) = rw start at own in
        rw mine record {
          same = rw (entries_again a (list_of n.market a)) (IsPermutation-refl (list_of n.market a));
          rising = rising n.market (faultless n.market ok) a (omega (arith, lt, codes.each_applicant));
        };
  }
