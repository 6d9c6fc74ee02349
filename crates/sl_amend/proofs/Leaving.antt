-- What conflict a change leaves in a draft that had none.
use Rattle.std.proofs.Common.{◌≡◌, ◌≢◌, ◌∙◌, ◌≤◌, ◌<◌, ◌++◌, ℕ, true, nat_lt, List, [], ◌∷◌, length, set, get_or, Option, None, refl, sym, ap, subst, arith, inl, inr, get_or-set_same, get_or-set_other, length-set, length-append}
use Rattle.std.specs.Prelude.{remove}
use Rattle.std.specs.List.{list_all}
use Rattle.std.proofs.lemmas.Bool.{cases_Bool, ltb-true, ltb-false}
use Rattle.std.proofs.lemmas.List.{get_or_append_left, get_or_push, get_or_past}
use Rattle.sl_types.specs.declared.kinds.Entry.{Entry}
use Rattle.sl_types.specs.declared.kinds.Pool.{Pool}
use Rattle.sl_types.specs.declared.kinds.TheConstants.{MAX_SCORE}
use Rattle.sl_types.specs.Market.{Market, no_pool}
use Rattle.sl_types.proofs.Alike.{nesting_alike}
use Rattle.sl_amend.specs.declared.register.Register.{Register}
use Rattle.sl_amend.specs.Applied.{with_list, with_applicant, without_applicant, with_quota, with_choice}
use Rattle.sl_amend.specs.Change.{FitsQuota, FitsAdd, HasChoice, IsMember}
use Rattle.sl_amend.specs.Conflicts.{conflict_cause}
use Rattle.sl_amend.specs.Merits.{conflict_found}
use Rattle.sl_amend.specs.Register.{draft_of, IsRegister}
use Rattle.sl_amend.specs.Roll.{is_choice, is_list, lists_of, programmes, no_choice, scored_at}
use Rattle.sl_amend.proofs.OneChange.{IsFree, IsWith, free_of, none_found, conflict_is}
use Rattle.sl_amend.proofs.Counted.{all_set, all_push, fine_at}
use Rattle.sl_amend.proofs.Edits.{fine-remove, fine-scored, fine-none}
use Rattle.sl_amend.proofs.Fine.{fine-with_choice, fine_parts}
use Rattle.sl_amend.proofs.Named.{fitted, tallied}
use Rattle.sl_amend.proofs.OneTree.{IsFitted, scored_low}
use Rattle.sl_amend.proofs.Quotas.{quota_shapes, nesting_same, trees_same}
use Rattle.sl_amend.proofs.Withs.{with_one, with_scored, removed_within, nothing_within, free_fewer, set_within}

module _ (register : Register) (h : IsRegister register) (free : conflict_cause (draft_of register).named.market ≡ None) where
  abbrev lists : List (List Entry)
  lists = lists_of register.roll

  abbrev trees : List (Option ℕ)
  trees = register.roll.merits.trees.items

  abbrev progs : ℕ
  progs = programmes register.roll.merits

  abbrev market_with : List (List Entry) → Market
  market_with others = record { pools = register.pools.items; progs = register.progs.items; lists = others }

  fitted_with : (others : List (List Entry)) → list_all (is_list progs) others ≡ true → IsFitted (market_with others) trees
  fitted_with others fine = record {
    parents = sym (nesting_alike register.pools.items register.progs.items others) ∙ h.nested;
    trees_are = h.trees;
    in_order = fine;
  }

  is_free : IsFree trees lists
  is_free = free_of (draft_of register).named.market trees (fitted register h) free

  own_fine : (a : ℕ) → a < length lists → is_list progs (get_or lists a []) ≡ true
  own_fine a lt = fine_at _ _ _ _ _ a h.roll lt

  -- one list has changed by one choice
  set_conflict : (a : ℕ) (e : Entry) (choices : List Entry) → a < length lists → is_list progs choices ≡ true → IsWith e (get_or lists a []) choices → e.score ≤ MAX_SCORE
      → conflict_found register.roll.merits (get_or lists a []) e ≡ conflict_cause (market_with (set lists a choices))
  set_conflict a e choices lt fine is low =
      let sizes = length-set lists a choices in
      let here = get_or-set_same lists a choices [] lt in
      conflict_is register.roll.merits (market_with (set lists a choices)) lists a e (fitted_with (set lists a choices) (all_set (is_list progs) lists a choices fine h.roll.in_order))
      (tallied register h) is_free (omega (arith, lt, sizes)) (omega (arith, sizes))
      (λ b ne. get_or-set_other lists a b choices [] (λ same. ne (sym same)))
      (subst (λ (es : List Entry). IsWith e (get_or lists a []) es) (sym here) is) low

  pub add_conflict : (a : ℕ) (e : Entry) → FitsAdd (draft_of register) a e
      → conflict_found register.roll.merits (get_or lists a []) e ≡ conflict_cause (with_list (draft_of register) a (with_choice e (get_or lists a []))).named.market
  add_conflict a e fits =
      let count : progs ≡ length register.progs.items = ap (λ (ts : List (Option ℕ)). length ts) h.trees ∙ Rattle.std.proofs.lemmas.List.length-map register.progs.items _ in
      let choice : is_choice progs e ≡ true = ap (λ (n : ℕ). is_choice n e) count ∙ fits.addable.choice in
      set_conflict a e (with_choice e (get_or lists a [])) fits.known
      (fine-with_choice progs e (get_or lists a []) (own_fine a fits.known) (record { choice = choice; short = fits.addable.short; place = fits.addable.place; prog = fits.addable.prog }))
      (with_one e (get_or lists a []) fits.addable.prog) (scored_low progs e choice)

  pub score_conflict : (a at score : ℕ) → HasChoice (draft_of register) a at → score ≤ MAX_SCORE
      → conflict_found register.roll.merits (get_or lists a []) (record (get_or (get_or lists a []) at no_choice) { score = score })
      ≡ conflict_cause (with_list (draft_of register) a (scored_at (get_or lists a []) at score)).named.market
  score_conflict a at score fits low =
      let own : List Entry = get_or lists a [] in
      set_conflict a (record (get_or own at no_choice) { score = score }) (scored_at own at score) fits.known (fine-scored progs own at score low (own_fine a fits.known))
      (with_scored own at score fits.within (fine_parts progs own (own_fine a fits.known)).once) low

  -- one list holds less
  less_conflict : (a : ℕ) (choices : List Entry) → a < length lists → is_list progs choices ≡ true → Rattle.sl_amend.proofs.Withs.IsWithin choices (get_or lists a [])
      → conflict_cause (market_with (set lists a choices)) ≡ None
  less_conflict a choices lt fine within =
      none_found (market_with (set lists a choices)) trees (fitted_with (set lists a choices) (all_set (is_list progs) lists a choices fine h.roll.in_order))
      (free_fewer trees (set lists a choices) lists (set_within lists a choices lt within) is_free)

  pub drop_conflict : (a at : ℕ) → HasChoice (draft_of register) a at → conflict_cause (with_list (draft_of register) a (remove (get_or lists a []) at)).named.market ≡ None
  drop_conflict a at fits =
      less_conflict a (remove (get_or lists a []) at) fits.known (fine-remove progs (get_or lists a []) at fits.within (own_fine a fits.known)) (removed_within (get_or lists a []) at)

  pub withdraw_conflict : (a : ℕ) → IsMember (draft_of register) a → conflict_cause (without_applicant (draft_of register) a).named.market ≡ None
  withdraw_conflict a fits = less_conflict a [] fits.known (fine-none progs) (nothing_within (get_or lists a []))

  pub quota_conflict : (P quota : ℕ) → FitsQuota (draft_of register) P quota → conflict_cause (with_quota (draft_of register) P quota).named.market ≡ None
  quota_conflict P quota fits =
      let pools = register.pools.items in
      let pool : Pool = record (get_or pools P no_pool) { quota = quota } in
      let shapes = quota_shapes pools P pool fits.known refl in
      let sizes = length-set pools P pool in
      none_found (with_quota (draft_of register) P quota).named.market trees
      (record {
        parents = sym (nesting_alike (set pools P pool) register.progs.items lists) ∙ nesting_same pools (set pools P pool) shapes sizes ∙ h.nested;
        trees_are = h.trees ∙ sym (trees_same pools (set pools P pool) shapes sizes register.progs.items);
        in_order = h.roll.in_order;
      }) is_free

  pub join_conflict : (code : List ℕ) (e : Entry) → is_choice (length register.progs.items) e ≡ true
      → conflict_found register.roll.merits [] e ≡ conflict_cause (with_applicant (draft_of register) code (e ∷ [])).named.market
  join_conflict code e known =
      let count : progs ≡ length register.progs.items = ap (λ (ts : List (Option ℕ)). length ts) h.trees ∙ Rattle.std.proofs.lemmas.List.length-map register.progs.items _ in
      let choice : is_choice progs e ≡ true = ap (λ (n : ℕ). is_choice n e) count ∙ known in
      let a = length lists in
      let more : List (List Entry) = lists ++ (e ∷ []) ∷ [] in
      let longer = length-append lists ((e ∷ []) ∷ []) in
      let none : get_or lists a [] ≡ [] = get_or_past lists a [] (omega arith) in
      let here : get_or more a [] ≡ e ∷ [] = get_or_push lists (e ∷ []) [] a refl in
      let fine : is_list progs (e ∷ []) ≡ true =
      fine-with_choice progs e [] (fine-none progs) (record { choice = choice; short = omega arith; place = refl; prog = refl }) in
      let others : (b : ℕ) → a ≢ b → get_or more b [] ≡ get_or lists b [] = λ b ne. elim (cases_Bool (nat_lt b a)) [
        | inl k ↦ get_or_append_left lists ((e ∷ []) ∷ []) [] b (ltb-true b a k)
        | inr k ↦
            (let past = ltb-false b a k in
            get_or_past more b [] (omega (arith, past, ne, longer)) ∙ sym (get_or_past lists b [] past))
      ] in
      let is : IsWith e (get_or lists a []) (get_or more a []) =
      subst (λ (es : List Entry). IsWith e es (get_or more a [])) (sym none) (subst (λ (es : List Entry). IsWith e [] es) (sym here) (with_one e [] refl)) in
      ap (λ (es : List Entry). conflict_found register.roll.merits es e) (sym none)
      ∙ conflict_is register.roll.merits (market_with more) lists a e (fitted_with more (all_push (is_list progs) lists (e ∷ []) fine h.roll.in_order))
      (tallied register h) is_free (omega (arith, longer)) (omega (arith, longer)) others is (scored_low progs e choice)
