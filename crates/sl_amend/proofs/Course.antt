-- What the rows of a file leave as it was, and that each choice in the draft that they lead to is named by one of them or is an old one.
use Rattle.std.proofs.Common.{◌≡◌, ◌∙◌, ◌<◌, ◌++◌, not, ℕ, zero, suc, Bool, true, false, List, [], ◌∷◌, length, map, set, get_or, Option, Some, None, option_map, refl, sym, ap, subst, arith, inl, inr, length-set, length-append, append-nil, append_assoc}
use Rattle.std.specs.Str.{bytes_eq}
use Rattle.std.specs.List.{AllByRecursion}
use Rattle.std.proofs.lemmas.Bool.{cases_Bool}
use Rattle.std.proofs.lemmas.List.Sums.{fold_push}
use Rattle.std.proofs.lemmas.Slice.Eq.{bytes_eq-Decides}
use Rattle.sl_types.specs.declared.kinds.Entry.{Entry}
use Rattle.sl_types.specs.Market.{no_pool}
use Rattle.sl_codes.specs.declared.faults.Cause.{Cause}
use Rattle.sl_codes.specs.declared.faults.TableFault.{TableFault}
use Rattle.sl_codes.specs.Codes.{has_code, number_of}
use Rattle.sl_codes.specs.Faults.{name_cause, record_cause, first_fault_after}
use Rattle.sl_codes.specs.Fields.{number_in}
use Rattle.sl_codes.specs.Records.{Record}
use Rattle.sl_codes.proofs.FirstFault.{neither, unbroken}
use Rattle.sl_codes.proofs.Lists.{position_push}
use Rattle.sl_choices.specs.Choices.{number_among}
use Rattle.sl_instance.specs.NamedMarket.{NamedMarket}
use Rattle.sl_amend.specs.declared.kind.Kind.{Kind}
use Rattle.sl_amend.specs.declared.kind.Kind.TheVariants.{Quota, New, Add, Drop, Withdraw, Score}
use Rattle.sl_amend.specs.Applied.{with_quota, with_list, with_applicant, without_applicant, choice_of, choices_with, programme_of, without_prog, with_score, applied, applied_by_kind, draft_after}
use Rattle.sl_amend.specs.Causes.{kind_field, subject_field, programme_field, number_field, cause_by_kind, choice_cause, chosen_cause}
use Rattle.sl_amend.specs.DraftMarket.{DraftMarket, opening, applicant_number, own_choices}
use Rattle.sl_amend.specs.Files.{makes_choice, amendment_form}
use Rattle.sl_amend.specs.Kinds.{kind_of}
use Rattle.sl_amend.proofs.Quotas.{shape}
use Rattle.sl_amend.proofs.Traced.{Traced, AreTraced, names, names_is, number_is_among, number_is_own, each_with_choice, each_filter, each_map, traced_first, traced_here, all_traced_on, traced_set, traced_scored, traced_pushed}

-- rows led from an instance to a draft
pub record IsCourse (named : NamedMarket) (rows : List Record) (draft : DraftMarket) : Type 0 where
  pub progs : draft.named.market.progs ≡ named.market.progs
  pub shapes : map shape draft.named.market.pools ≡ map shape named.market.pools
  pub pool_codes : draft.named.pool_codes ≡ named.pool_codes
  pub prog_codes : draft.named.prog_codes ≡ named.prog_codes
  pub of_tables : draft.of_tables ≡ length named.market.lists
  pub each : length draft.named.app_codes ≡ length draft.named.market.lists
  pub traced : AreTraced draft.named.app_codes draft.named.prog_codes named.market.lists rows draft.named.market.lists

-- an element of the same image in the place of another
map_set_same : {A B : Type 0} (f : A → B) (xs : List A) (i : ℕ) (y d : A) → f y ≡ f (get_or xs i d) → map f (set xs i y) ≡ map f xs
map_set_same f [] i y d h = refl
map_set_same f (x ∷ xs) zero y d h = ap (λ z. z ∷ map f xs) h
map_set_same f (x ∷ xs) (suc i) y d h = ap (λ zs. f x ∷ zs) (map_set_same f xs i y d h)

not_not : (b : Bool) → not b ≡ false → b ≡ true
not_not true h = refl
not_not false h = sym h

-- a field without a cause names a code
named_code : (unknown : Cause) (codes : List (List ℕ)) (field : List ℕ) → name_cause unknown codes field ≡ None → has_code codes field ≡ true
named_code unknown codes field h = not_not (has_code codes field) (unbroken (not (has_code codes field)) unknown h)

-- a row that adds a choice names a programme
adds_known : (progs : List (List ℕ)) (own : List Entry) (row : Record) → choice_cause progs own row ≡ None → has_code progs (programme_field row) ≡ true
adds_known progs own row h =
    let after = neither _ _ h in
    let programme = neither _ _ after.1 in
    named_code _ progs (programme_field row) (neither _ _ programme.0).0

chosen_known : (progs : List (List ℕ)) (own : List Entry) (field : List ℕ) → chosen_cause progs own field ≡ None → has_code progs field ≡ true
chosen_known progs own field h = named_code _ progs field (neither _ _ h).0

same_code : (code : List ℕ) → bytes_eq code code ≡ true
same_code code = (bytes_eq-Decides code code).1 refl

module _ (named : NamedMarket) (rows : List Record) (draft : DraftMarket) (h : IsCourse named rows draft) (row : Record) where
  abbrev apps : List (List ℕ)
  apps = draft.named.app_codes

  abbrev progs : List (List ℕ)
  progs = draft.named.prog_codes

  abbrev lists : List (List Entry)
  lists = draft.named.market.lists

  abbrev old : List (List Entry)
  old = named.market.lists

  abbrev more : List Record
  more = rows ++ row ∷ []

  abbrev subject : ℕ
  subject = applicant_number draft (subject_field row)

  same_course : IsCourse named more draft
  same_course = record {
    progs = h.progs;
    shapes = h.shapes;
    pool_codes = h.pool_codes;
    prog_codes = h.prog_codes;
    of_tables = h.of_tables;
    each = h.each;
    traced = all_traced_on apps progs old rows row lists h.traced;
  }

  quota_course : (P quota : ℕ) → IsCourse named more (with_quota draft P quota)
  quota_course P quota = record {
    progs = h.progs;
    shapes = map_set_same shape draft.named.market.pools P (record (get_or draft.named.market.pools P no_pool) { quota = quota }) no_pool refl ∙ h.shapes;
    pool_codes = h.pool_codes;
    prog_codes = h.prog_codes;
    of_tables = h.of_tables;
    each = h.each;
    traced = all_traced_on apps progs old rows row lists h.traced;
  }

  list_course : (a : ℕ) (choices : List Entry) → (a < length lists → AllByRecursion (Traced apps progs old more a) choices) → IsCourse named more (with_list draft a choices)
  list_course a choices here = record {
    progs = h.progs;
    shapes = h.shapes;
    pool_codes = h.pool_codes;
    prog_codes = h.prog_codes;
    of_tables = h.of_tables;
    each = h.each ∙ sym (length-set lists a choices);
    traced = traced_set apps progs old rows row lists a choices h.traced here;
  }

  gone_course : (a : ℕ) → IsCourse named more (without_applicant draft a)
  gone_course a =
      let c = list_course a [] (λ lt. tt) in
      record { progs = c.progs; shapes = c.shapes; pool_codes = c.pool_codes; prog_codes = c.prog_codes; of_tables = c.of_tables; each = c.each; traced = c.traced }

  -- the applicant of the row, where there is one
  subject_is : subject < length lists → number_of apps (subject_field row) ≡ Some subject
  subject_is lt = number_is_own apps (subject_field row) (omega (arith, lt, h.each))

  own_traced : (a : ℕ) → AllByRecursion (Traced apps progs old more a) (get_or lists a [])
  own_traced a = all_traced_on apps progs old rows row lists h.traced a

  names_own : (g : ℕ) → makes_choice (kind_of (kind_field row)) ≡ true → has_code progs (programme_field row) ≡ true → number_among progs (programme_field row) ≡ g
      → subject < length lists → names apps progs subject g row ≡ true
  names_own g makes known is lt = names_is apps progs subject g row makes (subject_is lt) (number_is_among progs (programme_field row) known ∙ ap (λ (n : ℕ). Some n) is)

  -- a choice is added
  add_course : makes_choice (kind_of (kind_field row)) ≡ true → has_code progs (programme_field row) ≡ true → IsCourse named more (with_list draft subject (choices_with draft row))
  add_course makes known =
      list_course subject (choices_with draft row)
      (λ lt. each_with_choice (Traced apps progs old more subject) (choice_of progs row) (get_or lists subject [])
      (traced_here apps progs old rows row subject (choice_of progs row) (names_own (choice_of progs row).prog.0 makes known refl lt)) (own_traced subject))

  -- a choice is dropped
  drop_course : (g : ℕ) → IsCourse named more (with_list draft subject (without_prog g (own_choices draft (subject_field row))))
  drop_course g = list_course subject (without_prog g (get_or lists subject [])) (λ lt. each_filter (Traced apps progs old more subject) _ (get_or lists subject []) (own_traced subject))

  -- a choice has another score
  score_course : (score : ℕ) → makes_choice (kind_of (kind_field row)) ≡ true → has_code progs (programme_field row) ≡ true
      → IsCourse named more (with_list draft subject (with_score (programme_of draft row) score (own_choices draft (subject_field row))))
  score_course score makes known =
      let g : ℕ = programme_of draft row in
      list_course subject (with_score g score (get_or lists subject []))
      (λ lt. each_map (Traced apps progs old more subject) (Traced apps progs old more subject) _
      (λ e at. traced_scored apps progs old more subject g score e
      (λ same. traced_here apps progs old rows row subject (record e { score = score }) (names_own e.prog.0 makes known (sym (Rattle.std.proofs.Common.eqb-true e.prog.0 g same)) lt)) at)
      (get_or lists subject []) (own_traced subject))

  -- an applicant is made
  join_course : makes_choice (kind_of (kind_field row)) ≡ true → has_code progs (programme_field row) ≡ true → has_code apps (subject_field row) ≡ false
      → IsCourse named more (with_applicant draft (subject_field row) (choice_of progs row ∷ []))
  join_course makes known is_new =
      let code = subject_field row in
      let e = choice_of progs row in
      let app : number_of (apps ++ code ∷ []) code ≡ Some (length lists) = position_push (bytes_eq code) apps code is_new (same_code code) ∙ ap (λ (n : ℕ). Some n) h.each in
      let here = names_is (apps ++ code ∷ []) progs (length lists) e.prog.0 row makes app (number_is_among progs (programme_field row) known) in
      record {
        progs = h.progs;
        shapes = h.shapes;
        pool_codes = h.pool_codes;
        prog_codes = h.prog_codes;
        of_tables = h.of_tables;
        each = let a = length-append apps (code ∷ []) in let b = length-append lists ((e ∷ []) ∷ []) in omega (arith, a, b, h.each);
        traced = traced_pushed apps progs old more lists code (e ∷ []) (all_traced_on apps progs old rows row lists h.traced)
            (traced_here (apps ++ code ∷ []) progs old rows row (length lists) e here, tt);
      }

  new_course : makes_choice (kind_of (kind_field row)) ≡ true → has_code progs (programme_field row) ≡ true → IsCourse named more (applied_by_kind (Some New) draft row)
  new_course makes known = elim (cases_Bool (has_code apps (subject_field row))) [
    | inl there ↦ rw there (add_course makes known)
    | inr is_new ↦ rw is_new (join_course makes known is_new)
  ]

  makes_by : (k : Option Kind) → kind_of (kind_field row) ≡ k → makes_choice k ≡ true → makes_choice (kind_of (kind_field row)) ≡ true
  makes_by k is h = ap makes_choice is ∙ h

  -- a row in which nothing is wrong
  by_kind : (k : Option Kind) → kind_of (kind_field row) ≡ k → cause_by_kind k draft row ≡ None → IsCourse named more (applied_by_kind k draft row)
  by_kind None is right = same_course
  by_kind (Some Quota) is right = quota_course _ _
  by_kind (Some New) is right = new_course (makes_by (Some New) is refl) (adds_known progs (own_choices draft (subject_field row)) row (neither _ _ right).1)
  by_kind (Some Add) is right = add_course (makes_by (Some Add) is refl) (adds_known progs (own_choices draft (subject_field row)) row (neither _ _ right).1)
  by_kind (Some Drop) is right = drop_course (programme_of draft row)
  by_kind (Some Withdraw) is right = gone_course subject
  by_kind (Some Score) is right =
      let later = neither _ _ (neither _ _ right).1 in
      score_course (number_in (number_field row)) (makes_by (Some Score) is refl)
      (chosen_known progs (own_choices draft (subject_field row)) (programme_field row) (neither _ _ later.1).0)

  pub course_on : cause_by_kind (kind_of (kind_field row)) draft row ≡ None → IsCourse named more (applied draft row)
  course_on right = by_kind (kind_of (kind_field row)) refl right

no_fault : (found : Option Cause) (fault : Cause → TableFault) → option_map fault found ≡ None → found ≡ None
no_fault None fault h = refl
no_fault (Some cause) fault h = cc h

module _ (named : NamedMarket) where
  -- records without a fault go on
  course_from : (before rows : List Record) → first_fault_after (amendment_form named) before rows ≡ None
      → IsCourse named before (draft_after (opening named) before) → IsCourse named (before ++ rows) (draft_after (opening named) (before ++ rows))
  unfolding first_fault_after
  course_from before [] right h = rw (append-nil before) h
  course_from before (row ∷ rest) right h =
      let parts = neither _ _ right in
      let whole = no_fault (record_cause (amendment_form named) before row) _ parts.0 in
      let fields = (neither _ _ (neither _ _ whole).1).1 in
      let next = course_on named before (draft_after (opening named) before) h row fields in
      let at : draft_after (opening named) (before ++ row ∷ []) ≡ applied (draft_after (opening named) before) row = fold_push applied (opening named) before row in
      let on = course_from (before ++ row ∷ []) rest parts.1 (subst (IsCourse named (before ++ row ∷ [])) (sym at) next) in
      subst (λ (all : List Record). IsCourse named all (draft_after (opening named) all)) (append_assoc before (row ∷ []) rest) on

  -- a file without a fault
  pub course : (rows : List Record) → length named.app_codes ≡ length named.market.lists → first_fault_after (amendment_form named) [] rows ≡ None
      → IsCourse named rows (draft_after (opening named) rows)
  course rows each right = course_from [] rows right record {
    progs = refl;
    shapes = refl;
    pool_codes = refl;
    prog_codes = refl;
    of_tables = refl;
    each = each;
    traced = traced_first named.app_codes named.prog_codes named.market.lists;
  }
