-- What tables can hold they can after amendments: no row changes a pool's rule, and each applicant who is present keeps a choice.
use Rattle.std.proofs.Common.{◌≡◌, ◌⊎◌, ◌∙◌, ◌<◌, ◌+◌, ◌++◌, ℕ, zero, suc, Bool, true, false, List, [], ◌∷◌, length, drop, set, get_or, Option, Some, None, option_map, refl, sym, ap, subst, arith, inl, inr, true≢false, length-set, length-append, append-nil, append_assoc}
use Rattle.std.specs.Prelude.{All}
use Rattle.std.specs.List.{AllByRecursion}
use Rattle.std.proofs.lemmas.Bool.{cases_Bool}
use Rattle.std.proofs.lemmas.Bool.Decides.{eqb_tells}
use Rattle.std.proofs.lemmas.List.{get_or-set_same, get_or-set_other, get_or_append_left, length-replicate}
use Rattle.std.proofs.Math.Seq.{get_or-append_seam}
use Rattle.std.proofs.lemmas.List.Elements.{All-from_recursion}
use Rattle.std.proofs.lemmas.List.Sums.{fold_push}
use Rattle.sl_types.specs.declared.kinds.Entry.{Entry}
use Rattle.sl_types.specs.declared.kinds.Pool.{Pool}
use Rattle.sl_types.specs.declared.kinds.Rule.{Rule}
use Rattle.sl_types.specs.declared.kinds.Rule.TheVariants.{Merit}
use Rattle.sl_types.specs.Market.{no_pool}
use Rattle.sl_types.specs.Rules.{has_prog_twice, names_prog}
use Rattle.sl_types.proofs.Faultless.{faultless}
use Rattle.sl_types.proofs.Lists.{none_fails}
use Rattle.sl_codes.specs.declared.faults.Cause.{Cause}
use Rattle.sl_codes.specs.declared.faults.Cause.TheVariants.{RepeatedChoice}
use Rattle.sl_codes.specs.declared.faults.TableFault.{TableFault}
use Rattle.sl_codes.specs.Codes.{has_code}
use Rattle.sl_codes.specs.Faults.{record_cause, first_fault_after}
use Rattle.sl_codes.specs.Records.{Record}
use Rattle.sl_codes.specs.Fields.{number_in}
use Rattle.sl_codes.proofs.FirstFault.{neither, unbroken}
use Rattle.sl_choices.specs.Choices.{number_among}
use Rattle.sl_instance.specs.NamedMarket.{NamedMarket}
use Rattle.sl_amend.specs.declared.kind.Kind.{Kind}
use Rattle.sl_amend.specs.declared.kind.Kind.TheVariants.{Quota, New, Add, Drop, Withdraw, Score}
use Rattle.sl_amend.specs.Applied.{without_prog, with_score, with_quota, with_list, with_applicant, without_applicant, choice_of, choices_with, programme_of, applied, applied_by_kind, draft_after}
use Rattle.sl_amend.specs.Causes.{kind_field, subject_field, programme_field, number_field, cause_by_kind, choice_cause}
use Rattle.sl_amend.specs.DraftMarket.{DraftMarket, opening, marked, applicant_number, own_choices}
use Rattle.sl_amend.specs.Files.{amendment_form}
use Rattle.sl_amend.specs.Kinds.{kind_of}
use Rattle.sl_amend.specs.TableLaws.{AmendedIsTabular, AmendedKeepsProgrammes}
use Rattle.sl_amend.proofs.Course.{course}
use Rattle.sl_amend.proofs.KeptChoices.{some_with, once-scored, length-scored, once-without, some_without}
use Rattle.sl_amend.proofs.Ordered.{once-with_choice}

-- a pool has this rule, or is a merit pool
abbrev IsRuled : Rule → Pool → Type 0
IsRuled rule pool = (pool.rule ≡ rule) ⊎ (pool.rule ≡ Merit)

-- pools have their rules, no list has a programme twice, and who is present has a choice
record IsHeld (rule : Rule) (draft : DraftMarket) : Type 0 where
  rules : AllByRecursion (IsRuled rule) draft.named.market.pools
  each : length draft.present ≡ length draft.named.market.lists
  once : (b : ℕ) → b < length draft.named.market.lists → has_prog_twice (get_or draft.named.market.lists b []) ≡ false
  some : (b : ℕ) → b < length draft.named.market.lists → get_or draft.present b false ≡ true → 0 < length (get_or draft.named.market.lists b [])

-- the pools with another quota
quota_ruled : (rule : Rule) (pools : List Pool) (P quota : ℕ) → AllByRecursion (IsRuled rule) pools
    → AllByRecursion (IsRuled rule) (set pools P (record (get_or pools P no_pool) { quota = quota }))
quota_ruled rule [] P quota h = tt
quota_ruled rule (pool ∷ pools) zero quota h = (h.0, h.1)
quota_ruled rule (pool ∷ pools) (suc P) quota h = (h.0, quota_ruled rule pools P quota h.1)

module _ (rule : Rule) (draft : DraftMarket) (h : IsHeld rule draft) (row : Record) where
  abbrev lists : List (List Entry)
  lists = draft.named.market.lists

  abbrev subject : ℕ
  subject = applicant_number draft (subject_field row)

  abbrev own : List Entry
  own = own_choices draft (subject_field row)

  quota_held : (P quota : ℕ) → IsHeld rule (with_quota draft P quota)
  quota_held P quota = record {
    rules = quota_ruled rule draft.named.market.pools P quota h.rules;
    each = h.each;
    once = h.once;
    some = h.some;
  }

  list_held : (a : ℕ) (choices : List Entry) → (a < length lists → has_prog_twice choices ≡ false)
      → (a < length lists → get_or draft.present a false ≡ true → 0 < length choices) → IsHeld rule (with_list draft a choices)
  list_held a choices once some = record {
    rules = h.rules;
    each = h.each ∙ sym (length-set lists a choices);
    once = λ b lt. once_at b (omega (arith, lt, length-set lists a choices));
    some = λ b lt here. some_at b (omega (arith, lt, length-set lists a choices)) here;
  }
    where
      once_at : (b : ℕ) → b < length lists → has_prog_twice (get_or (set lists a choices) b []) ≡ false
      once_at b lt = elim (eqb_tells b a) [
        | inl e ↦ (let is : get_or (set lists a choices) b [] ≡ choices = ap (λ (n : ℕ). get_or (set lists a choices) n []) e.1 ∙ get_or-set_same lists a choices [] (omega (arith, e.1, lt)) in rw is (once (omega (arith, e.1, lt))))
        | inr e ↦ rw (get_or-set_other lists a b choices [] e.1) (h.once b lt)
      ]

      some_at : (b : ℕ) → b < length lists → get_or draft.present b false ≡ true → 0 < length (get_or (set lists a choices) b [])
      some_at b lt here = elim (eqb_tells b a) [
        | inl e ↦ (let is : get_or (set lists a choices) b [] ≡ choices = ap (λ (n : ℕ). get_or (set lists a choices) n []) e.1 ∙ get_or-set_same lists a choices [] (omega (arith, e.1, lt)) in rw is (some (omega (arith, e.1, lt)) (rw e.1 at here)))
        | inr e ↦ rw (get_or-set_other lists a b choices [] e.1) (h.some b lt here)
      ]

  -- an applicant is withdrawn
  gone_held : (a : ℕ) → IsHeld rule (without_applicant draft a)
  gone_held a = record {
    rules = h.rules;
    each = length-set draft.present a false ∙ h.each ∙ sym (length-set lists a []);
    once = λ b lt. once_at b (omega (arith, lt, length-set lists a []));
    some = λ b lt here. some_at b (omega (arith, lt, length-set lists a [])) here;
  }
    where
      once_at : (b : ℕ) → b < length lists → has_prog_twice (get_or (set lists a []) b []) ≡ false
      once_at b lt = elim (eqb_tells b a) [
        | inl e ↦ (let is : get_or (set lists a []) b [] ≡ [] = ap (λ (n : ℕ). get_or (set lists a []) n []) e.1 ∙ get_or-set_same lists a [] [] (omega (arith, e.1, lt)) in rw is refl)
        | inr e ↦ rw (get_or-set_other lists a b [] [] e.1) (h.once b lt)
      ]

      some_at : (b : ℕ) → b < length lists → get_or (set draft.present a false) b false ≡ true → 0 < length (get_or (set lists a []) b [])
      some_at b lt here = elim (eqb_tells b a) [
        | inl e ↦
            (let away : get_or (set draft.present a false) b false ≡ false =
            ap (λ (n : ℕ). get_or (set draft.present a false) n false) e.1 ∙ get_or-set_same draft.present a false false (omega (arith, e.1, lt, h.each)) in
            absurd (true≢false (sym here ∙ away)))
        | inr e ↦ (let was = rw (get_or-set_other draft.present a b false false e.1) at here in rw (get_or-set_other lists a b [] [] e.1) (h.some b lt was))
      ]

  -- an applicant is made
  join_held : (code : List ℕ) (e : Entry) → IsHeld rule (with_applicant draft code (e ∷ []))
  join_held code e =
      let a = length-append lists ((e ∷ []) ∷ []) in
      let b = length-append draft.present (true ∷ []) in
      record {
        rules = h.rules;
        each = omega (arith, a, b, h.each);
        once = λ k lt. once_at k (before_or_last k (length lists) (omega (arith, lt, a)));
        some = λ k lt here. some_at k (before_or_last k (length lists) (omega (arith, lt, a))) here;
      }
    where
      before_or_last : (k n : ℕ) → k < n + 1 → (k < n) ⊎ (k ≡ n)
      before_or_last zero zero lt = inr refl
      before_or_last zero (suc n) lt = inl (omega arith)
      before_or_last (suc k) zero lt = absurd (omega (arith, lt))
      before_or_last (suc k) (suc n) lt = elim (before_or_last k n (omega (arith, lt))) [
        | inl l ↦ inl (omega (arith, l))
        | inr s ↦ inr (ap suc s)
      ]

      last_is : get_or (lists ++ (e ∷ []) ∷ []) (length lists) [] ≡ e ∷ []
      last_is = get_or-append_seam lists (e ∷ []) [] []

      once_at : (k : ℕ) → (k < length lists) ⊎ (k ≡ length lists) → has_prog_twice (get_or (lists ++ (e ∷ []) ∷ []) k []) ≡ false
      once_at k (inl lt) = rw (get_or_append_left lists ((e ∷ []) ∷ []) [] k lt) (h.once k lt)
      once_at k (inr is) = rw is (rw last_is refl)

      some_at : (k : ℕ) → (k < length lists) ⊎ (k ≡ length lists) → get_or (draft.present ++ true ∷ []) k false ≡ true → 0 < length (get_or (lists ++ (e ∷ []) ∷ []) k [])
      some_at k (inl lt) here =
          let was = rw (get_or_append_left draft.present (true ∷ []) false k (omega (arith, lt, h.each))) at here in
          rw (get_or_append_left lists ((e ∷ []) ∷ []) [] k lt) (h.some k lt was)
      some_at k (inr is) here = rw is (rw last_is (omega arith))

  -- a choice is added whose programme stands nowhere
  add_held : choice_cause draft.named.prog_codes own row ≡ None → IsHeld rule (with_list draft subject (choices_with draft row))
  add_held right =
      let programme = (neither _ _ (neither _ _ right).1).0 in
      let free = unbroken (names_prog (number_among draft.named.prog_codes (programme_field row)) own) RepeatedChoice (neither _ _ programme).1 in
      list_held subject (choices_with draft row)
      (λ lt. once-with_choice (choice_of draft.named.prog_codes row) own (h.once subject lt) free)
      (λ lt here. some_with (choice_of draft.named.prog_codes row) own)

  new_held : choice_cause draft.named.prog_codes own row ≡ None → IsHeld rule (applied_by_kind (Some New) draft row)
  new_held right = elim (cases_Bool (has_code draft.named.app_codes (subject_field row))) [
    | inl there ↦ rw there (add_held right)
    | inr is_new ↦ rw is_new (join_held (subject_field row) (choice_of draft.named.prog_codes row))
  ]

  by_kind : (k : Option Kind) → cause_by_kind k draft row ≡ None → IsHeld rule (applied_by_kind k draft row)
  by_kind None right = h
  by_kind (Some Quota) right = quota_held _ _
  by_kind (Some New) right = new_held (neither _ _ right).1
  by_kind (Some Add) right = add_held (neither _ _ right).1
  by_kind (Some Drop) right =
      let dropped = (neither _ _ (neither _ _ (neither _ _ right).1).1).0 in
      list_held subject (without_prog (programme_of draft row) own)
      (λ lt. once-without (programme_of draft row) own (h.once subject lt))
      (λ lt here. some_without draft.named.prog_codes own (programme_field row) (h.once subject lt) dropped)
  by_kind (Some Withdraw) right = gone_held subject
  by_kind (Some Score) right =
      let g : ℕ = programme_of draft row in
      let score : ℕ = number_in (number_field row) in
      list_held subject (with_score g score own)
      (λ lt. once-scored g score own ∙ h.once subject lt)
      (λ lt here. (let size = length-scored g score own in let was = h.some subject lt here in omega (arith, size, was)))

  held_on : cause_by_kind (kind_of (kind_field row)) draft row ≡ None → IsHeld rule (applied draft row)
  held_on right = by_kind (kind_of (kind_field row)) right

no_fault : (found : Option Cause) (fault : Cause → TableFault) → option_map fault found ≡ None → found ≡ None
no_fault None fault h = refl
no_fault (Some cause) fault h = cc h

-- records without a fault
held_from : (rule : Rule) (named : NamedMarket) (before rows : List Record) → first_fault_after (amendment_form named) before rows ≡ None
    → IsHeld rule (draft_after (opening named) before) → IsHeld rule (draft_after (opening named) (before ++ rows))
unfolding first_fault_after
held_from rule named before [] right h = rw (append-nil before) h
held_from rule named before (row ∷ rest) right h =
    let parts = neither _ _ right in
    let whole = no_fault (record_cause (amendment_form named) before row) _ parts.0 in
    let fields = (neither _ _ (neither _ _ whole).1).1 in
    let next = held_on rule (draft_after (opening named) before) h row fields in
    let at : draft_after (opening named) (before ++ row ∷ []) ≡ applied (draft_after (opening named) before) row = fold_push applied (opening named) before row in
    let on = held_from rule named (before ++ row ∷ []) rest parts.1 (subst (IsHeld rule) (sym at) next) in
    subst (λ (all : List Record). IsHeld rule (draft_after (opening named) all)) (append_assoc before (row ∷ []) rest) on

-- those who are present
some_marked : (present : List Bool) (lists : List (List Entry))
    → ((b : ℕ) → b < length lists → get_or present b false ≡ true → 0 < length (get_or lists b [])) → AllByRecursion (λ l. 0 < length l) (marked present lists)
some_marked [] lists h = tt
some_marked (m ∷ ms) [] h = tt
some_marked (m ∷ ms) (l ∷ ls) h =
    let rest = some_marked ms ls (λ b lt here. h (suc b) (omega (arith, lt)) here) in
    elim (cases_Bool m) [
      | inl e ↦ rw e (h 0 (omega arith) e, rest)
      | inr e ↦ rw e rest
    ]

by_recursion : {A : Type 0} (P : A → Type 0) (xs : List A) → All P xs → AllByRecursion P xs
by_recursion P [] h = tt
by_recursion P (x ∷ xs) h = (h 0 x (omega arith), by_recursion P xs (λ k d lt. h (suc k) d (omega (arith, lt))))

pub amended_is_tabular : AmendedIsTabular
amended_is_tabular rule n records valid right tabular =
    let rows = (neither _ _ (neither _ _ right).0).1 in
    let start : IsHeld rule (opening n) = record {
      rules = by_recursion (IsRuled rule) n.market.pools tabular.rules;
      each = length-replicate (length n.market.lists) true;
      once = λ b lt. none_fails has_prog_twice n.market.lists (faultless n.market valid).repeats b [] lt;
      some = λ b lt here. tabular.applies b [] lt;
    } in
    let held = held_from rule n [] (drop 1 records) rows start in
    let draft = draft_after (opening n) (drop 1 records) in
    record {
      rules = All-from_recursion (IsRuled rule) draft.named.market.pools held.rules;
      applies = All-from_recursion (λ l. 0 < length l) (marked draft.present draft.named.market.lists) (some_marked draft.present draft.named.market.lists held.some);
    }

pub amended_keeps_programmes : AmendedKeepsProgrammes
amended_keeps_programmes n records named right =
    let rows = (neither _ _ (neither _ _ right).0).1 in
    let led = course n (drop 1 records) named.each_applicant rows in
    record { pool_codes = led.pool_codes; prog_codes = led.prog_codes; progs = led.progs }
