-- Lists in two parts, by what holds of each element or of each two.
use Rattle.std.proofs.Common.{◌≡◌, ◌≤◌, ◌++◌, ℕ, Bool, true, false, nat_eq, nat_lt, List, [], ◌∷◌, refl, sym, ◌∙◌, arith, true≢false, eq-eqb}
use Rattle.std.specs.List.{list_any, IsDistinct, AllByRecursion}
use Rattle.std.proofs.lemmas.Bool.{and_parts, or_parts, ltb-true}
use Rattle.sl_types.specs.declared.kinds.Entry.{Entry}
use Rattle.sl_types.specs.Rules.{rises_from, names_prog, has_prog_twice}
use Rattle.sl_codes.proofs.Lists.{differ}

-- what holds of the element at a seam
pub at_seam : {A : Type 0} (P : A → Type 0) (xs : List A) (y : A) (ys : List A) → AllByRecursion P (xs ++ y ∷ ys) → P y
at_seam P [] y ys h = h.0
at_seam P (x ∷ xs) y ys h = at_seam P xs y ys h.1

-- no element before it is the same
pub none_same : {A : Type 0} (e : A → A → Bool) (xs : List A) (y : A) (ys : List A) → IsDistinct e (xs ++ y ∷ ys) → list_any (λ x. e x y) xs ≡ false
unfolding IsDistinct
none_same e [] y ys h = refl
none_same e (x ∷ xs) y ys h =
    let here = at_seam (λ z. e x z ≡ false) xs y ys h.0 in
    let later = none_same e xs y ys h.1 in
    rw (here, later) refl

-- places that rise differ
abbrev pub same_place : Entry → Entry → Bool
same_place d e = nat_eq d.place e.place

above : (low : ℕ) (d : Entry) (es : List Entry) → d.place ≤ low → rises_from low es ≡ true → AllByRecursion (λ e. nat_eq d.place e.place ≡ false) es
above low d [] le h = tt
above low d (e ∷ es) le h =
    let parts = and_parts (nat_lt low e.place) (rises_from e.place es) h in
    let first = ltb-true low e.place parts.0 in
    (differ d.place e.place (λ same. absurd (omega (arith, same, first, le))), above e.place d es (omega (arith, first, le)) parts.1)

pub places_apart : (low : ℕ) (es : List Entry) → rises_from low es ≡ true → IsDistinct same_place es
unfolding IsDistinct
places_apart low [] h = tt
places_apart low (e ∷ es) h =
    let parts = and_parts (nat_lt low e.place) (rises_from e.place es) h in
    (above e.place e es (omega arith) parts.1, places_apart e.place es parts.1)

-- programmes of which none stands twice differ
abbrev pub same_prog : Entry → Entry → Bool
same_prog d e = nat_eq d.prog.0 e.prog.0

unnamed : (d : Entry) (es : List Entry) → names_prog d.prog.0 es ≡ false → AllByRecursion (λ e. nat_eq d.prog.0 e.prog.0 ≡ false) es
unnamed d [] h = tt
unnamed d (e ∷ es) h =
    let parts = or_parts (nat_eq e.prog.0 d.prog.0) (names_prog d.prog.0 es) h in
    (differ d.prog.0 e.prog.0 (λ same. absurd (apart e.prog.0 d.prog.0 parts.0 (sym same))), unnamed d es parts.1)
  where
    apart : (a b : ℕ) → nat_eq a b ≡ false → a ≡ b → ⊥
    apart a b h same = true≢false (sym (eq-eqb a b same) ∙ h)

pub progs_apart : (es : List Entry) → has_prog_twice es ≡ false → IsDistinct same_prog es
unfolding IsDistinct
progs_apart [] h = tt
progs_apart (e ∷ es) h =
    let parts = or_parts (names_prog e.prog.0 es) (has_prog_twice es) h in
    (unnamed e es parts.0, progs_apart es parts.1)
