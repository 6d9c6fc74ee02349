-- Flags that are put up one by one, by a test.
use Rattle.std.proofs.Common.{◌≡◌, ℕ, zero, suc, ◌+◌, ◌<◌, Bool, true, false, ◌&&◌, ◌||◌, List, ◌∷◌, length, get_or, set, nat_eq, Option, Some, None, refl, sym, ap, subst, IfSome, ◌∙◌, inl, inr, arith, get_or-set_same, get_or-set_other}
use Rattle.std.proofs.lemmas.Bool.{cases_eq, eq-eqb, ne_eqb, or_right, and_left, and_right, and_from}
use Rattle.std.specs.List.{list_any, range_with_len}
use Rattle.std.specs.Prelude.{option_map}
use Rattle.sl_types.specs.declared.kinds.AppId.{AppId}
use Rattle.sl_types.specs.declared.kinds.Entry.{Entry}
use Rattle.sl_types.specs.Market.{Market, list_of}
use Rattle.sl_contend.specs.Contention.{has_choice_in}
use Rattle.sl_amend.specs.Amended.{is_origin, are_same_choices, is_still, origins_of, AreOrigins}
use Rattle.sl_amend.specs.Flags.{is_flagged}
use Rattle.sl_amend.specs.Touched.{IsFlaggedBy, is_off_before, is_off_after, has_off}

-- or with what fails
pub or_none : (a b : Bool) → b ≡ false → (a || b) ≡ a
or_none true b h = refl
or_none false b h = h

or_over : (a b c : Bool) → ((a || b) || c) ≡ (a || (b || c))
or_over true b c = refl
or_over false b c = refl

-- one flag more
pub set_flag : (flags : List Bool) (x P : ℕ) → x < length flags → is_flagged (set flags x true) P ≡ (is_flagged flags P || nat_eq x P)
set_flag flags x P x_in = elim (cases_eq P x) [
  | inl same ↦
      let on : is_flagged (set flags x true) P ≡ true = ap (is_flagged (set flags x true)) same ∙ get_or-set_same flags x true false x_in in
      on ∙ sym (or_right (is_flagged flags P) (nat_eq x P) (eq-eqb x P (sym same)))
  | inr other ↦ get_or-set_other flags x P true false other ∙ sym (or_none (is_flagged flags P) (nat_eq x P) (ne_eqb x P (λ e. other (sym e))))
]

-- flags by a test, and then by another
pub flagged_on : (p q r : ℕ → Bool) (n : ℕ) (flags mid later : List Bool) → IsFlaggedBy p n flags mid → IsFlaggedBy q n mid later → ((P : ℕ) → r P ≡ (p P || q P)) → IsFlaggedBy r n flags later
flagged_on p q r n flags mid later first second both P P_in =
    second P P_in ∙ ap (λ (b : Bool). b || q P) (first P P_in) ∙ or_over (is_flagged flags P) (p P) (q P) ∙ ap (λ (b : Bool). is_flagged flags P || b) (sym (both P))

-- no flag more
pub flagged_not : (q : ℕ → Bool) (n : ℕ) (flags : List Bool) → ((P : ℕ) → q P ≡ false) → IsFlaggedBy q n flags flags
flagged_not q n flags never P P_in = sym (or_none (is_flagged flags P) (q P) (never P))

-- one flag more
pub flagged_one : (q : ℕ → Bool) (n : ℕ) (flags : List Bool) (x : ℕ) → x < length flags → ((P : ℕ) → q P ≡ nat_eq x P) → IsFlaggedBy q n flags (set flags x true)
flagged_one q n flags x x_in is P P_in = set_flag flags x P x_in ∙ ap (λ (b : Bool). is_flagged flags P || b) (sym (is P))

-- one number more of a range
pub any_range_more : (p : ℕ → Bool) (a n : ℕ) → list_any p (range_with_len a (n + 1)) ≡ (list_any p (range_with_len a n) || p (a + n))
any_range_more p a zero = or_none (p a) false refl ∙ ap p (omega arith)
any_range_more p a (suc n) =
    let up : suc n + 1 ≡ suc (n + 1) = omega arith in
    let at : p (a + 1 + n) ≡ p (a + suc n) = ap p (omega arith) in
    let rest = any_range_more p (a + 1) n ∙ ap (λ (b : Bool). list_any p (range_with_len (a + 1) n) || b) at in
    ap (λ (m : ℕ). list_any p (range_with_len a m)) up ∙ ap (λ (b : Bool). p a || b) rest ∙ sym (or_over (p a) (list_any p (range_with_len (a + 1) n)) (p (a + suc n)))

module _ (old new : Market) (origins : List (Option AppId)) (n : ℕ) where
  abbrev still_at : ℕ → Bool
  still_at a = is_still old new (origins_of origins) a n

  still_none : get_or origins n None ≡ None → (a : ℕ) → still_at a ≡ false
  still_none is a = and_left (is_origin (origins_of origins n) a) (are_same_choices (list_of old a) (list_of new n)) (ap (λ (o : Option AppId). is_origin (option_map (λ a. a.0) o) a) is)

  still_some : (x : AppId) → get_or origins n None ≡ Some x → (a : ℕ) → still_at a ≡ (nat_eq x.0 a && are_same_choices (list_of old a) (list_of new n))
  still_some x is a = ap (λ (o : Option AppId). is_origin (option_map (λ a. a.0) o) a && are_same_choices (list_of old a) (list_of new n)) is

  still_hit : (x : AppId) → get_or origins n None ≡ Some x → are_same_choices (list_of old x.0) (list_of new n) ≡ true → (a : ℕ) → still_at a ≡ nat_eq x.0 a
  still_hit x is same a = still_some x is a ∙ elim (cases_eq x.0 a) [
    | inl e ↦
        let on : nat_eq x.0 a ≡ true = eq-eqb x.0 a e in
        let here : are_same_choices (list_of old a) (list_of new n) ≡ true = ap (λ (b : ℕ). are_same_choices (list_of old b) (list_of new n)) (sym e) ∙ same in
        and_from (nat_eq x.0 a) (are_same_choices (list_of old a) (list_of new n)) on here ∙ sym on
    | inr ne ↦ let off = ne_eqb x.0 a ne in and_left (nat_eq x.0 a) (are_same_choices (list_of old a) (list_of new n)) off ∙ sym off
  ]

  still_miss : (x : AppId) → get_or origins n None ≡ Some x → are_same_choices (list_of old x.0) (list_of new n) ≡ false → (a : ℕ) → still_at a ≡ false
  still_miss x is differ a = still_some x is a ∙ elim (cases_eq x.0 a) [
    | inl e ↦ and_right (nat_eq x.0 a) (are_same_choices (list_of old a) (list_of new n)) (ap (λ (b : ℕ). are_same_choices (list_of old b) (list_of new n)) (sym e) ∙ differ)
    | inr ne ↦ and_left (nat_eq x.0 a) (are_same_choices (list_of old a) (list_of new n)) (ne_eqb x.0 a ne)
  ]

  abbrev StillBelow : ℕ → List Bool → List Bool → Type 0
  StillBelow m flags later = IsFlaggedBy (λ a. list_any (is_still old new (origins_of origins) a) (range_with_len 0 m)) (length old.lists) flags later

  more : (flags mid later : List Bool) → StillBelow n flags mid → IsFlaggedBy still_at (length old.lists) mid later → StillBelow (n + 1) flags later
  more flags mid later before here = flagged_on (λ a. list_any (is_still old new (origins_of origins) a) (range_with_len 0 n)) still_at (λ a. list_any (is_still old new (origins_of origins) a) (range_with_len 0 (n + 1))) (length old.lists) flags mid later before here
      (λ a. any_range_more (is_still old new (origins_of origins) a) 0 n ∙ ap (λ (m : ℕ). list_any (is_still old new (origins_of origins) a) (range_with_len 0 n) || is_still old new (origins_of origins) a m) (omega arith))

  pub more_none : (flags mid : List Bool) → StillBelow n flags mid → get_or origins n None ≡ None → StillBelow (n + 1) flags mid
  more_none flags mid before is = more flags mid mid before (flagged_not still_at (length old.lists) mid (still_none is))

  pub more_hit : (flags mid later : List Bool) (x : AppId) → StillBelow n flags mid → get_or origins n None ≡ Some x → x.0 < length mid → are_same_choices (list_of old x.0) (list_of new n) ≡ true → later ≡ set mid x.0 true → StillBelow (n + 1) flags later
  more_hit flags mid later x before is x_in same le = rw le (more flags mid (set mid x.0 true) before (flagged_one still_at (length old.lists) mid x.0 x_in (still_hit x is same)))

  pub more_miss : (flags mid later : List Bool) (x : AppId) → StillBelow n flags mid → get_or origins n None ≡ Some x → are_same_choices (list_of old x.0) (list_of new n) ≡ false → later ≡ mid → StillBelow (n + 1) flags later
  more_miss flags mid later x before is differ le = rw le (more flags mid mid before (flagged_not still_at (length old.lists) mid (still_miss x is differ)))

-- flagged, or among these pools
abbrev pub is_flagged_or_among : List Bool → List ℕ → ℕ → Bool
is_flagged_or_among flags Qs P = is_flagged flags P || list_any (λ R. nat_eq R P) Qs

-- the first of them is flagged
pub way_more : (now : List Bool) (here : ℕ) (rest : List ℕ) (P : ℕ) → here < length now → is_flagged_or_among (set now here true) rest P ≡ is_flagged_or_among now (here ∷ rest) P
way_more now here rest P here_in =
    let later = list_any (λ R. nat_eq R P) rest in
    ap (λ (b : Bool). b || later) (set_flag now here P here_in) ∙ or_over (is_flagged now P) (nat_eq here P) later

-- an option that is no value is none
pub none_from : {A : Type 0} (o : Option A) → ((x : A) → o ≡ Some x → ⊥) → o ≡ None
none_from None never = refl
none_from (Some x) never = absurd (never x refl)

-- an origin is an old applicant
pub origin_in : (old : Market) (origins : List (Option AppId)) (n : ℕ) (x : AppId) → AreOrigins old origins → n < length origins → get_or origins n None ≡ Some x → x.0 < length old.lists
origin_in old origins n x all n_in is = subst (λ (o : Option AppId). IfSome o (λ a. a.0 < length old.lists)) is (all n None n_in)

-- the same of lists that are equal
pub same_of : (b : Bool) (es fs es' fs' : List Entry) → b ≡ are_same_choices es fs → es ≡ es' → fs ≡ fs' → are_same_choices es' fs' ≡ b
same_of b es fs es' fs' is e f = sym (is ∙ ap (λ (l : List Entry). are_same_choices l fs) e ∙ ap (are_same_choices es') f)

-- one number more of a range, by any test
pub range_step : (p : ℕ → ℕ → Bool) (n m : ℕ) (flags mid later : List Bool) → IsFlaggedBy (λ P. list_any (p P) (range_with_len 0 n)) m flags mid → IsFlaggedBy (λ P. p P n) m mid later
    → IsFlaggedBy (λ P. list_any (p P) (range_with_len 0 (n + 1))) m flags later
range_step p n m flags mid later before here = flagged_on (λ P. list_any (p P) (range_with_len 0 n)) (λ P. p P n) (λ P. list_any (p P) (range_with_len 0 (n + 1))) m flags mid later before here
    (λ P. any_range_more (p P) 0 n ∙ ap (λ (k : ℕ). list_any (p P) (range_with_len 0 n) || p P k) (omega arith))

-- flags by a test that is the same
pub flagged_as : (p q : ℕ → Bool) (n : ℕ) (flags mid later : List Bool) → IsFlaggedBy p n flags mid → later ≡ mid → ((P : ℕ) → q P ≡ p P) → IsFlaggedBy q n flags later
flagged_as p q n flags mid later by le same P P_in = ap (λ (l : List Bool). is_flagged l P) le ∙ by P P_in ∙ ap (λ (b : Bool). is_flagged flags P || b) (sym (same P))

-- who isn't there still has old choices
pub off_before_hit : (old : Market) (still : List Bool) (a : ℕ) (choices : List Entry) → is_flagged still a ≡ false → choices ≡ list_of old a → (P : ℕ) → is_off_before old still P a ≡ has_choice_in old choices P
off_before_hit old still a choices off is P = rw off (ap (λ (es : List Entry). has_choice_in old es P) (sym is))

pub off_before_miss : (old : Market) (still : List Bool) (a : ℕ) → is_flagged still a ≡ true → (P : ℕ) → is_off_before old still P a ≡ false
off_before_miss old still a on P = rw on refl

-- the same of new choices
pub off_after_none : (new : Market) (origins : List (Option AppId)) (still : List Bool) (b : ℕ) → get_or origins b None ≡ None → (P : ℕ) → is_off_after new (origins_of origins) still P b ≡ false
off_after_none new origins still b is P = ap (λ (o : Option AppId). has_off still (option_map (λ a. a.0) o) && has_choice_in new (list_of new b) P) is

pub off_after_hit : (new : Market) (origins : List (Option AppId)) (still : List Bool) (b : ℕ) (x : AppId) (choices : List Entry) → get_or origins b None ≡ Some x → is_flagged still x.0 ≡ false → choices ≡ list_of new b
    → (P : ℕ) → is_off_after new (origins_of origins) still P b ≡ has_choice_in new choices P
off_after_hit new origins still b x choices o off is P = ap (λ (o : Option AppId). has_off still (option_map (λ a. a.0) o) && has_choice_in new (list_of new b) P) o ∙ rw off (ap (λ (es : List Entry). has_choice_in new es P) (sym is))

pub off_after_miss : (new : Market) (origins : List (Option AppId)) (still : List Bool) (b : ℕ) (x : AppId) → get_or origins b None ≡ Some x → is_flagged still x.0 ≡ true → (P : ℕ) → is_off_after new (origins_of origins) still P b ≡ false
off_after_miss new origins still b x o on P = ap (λ (o : Option AppId). has_off still (option_map (λ a. a.0) o) && has_choice_in new (list_of new b) P) o ∙ rw on refl
