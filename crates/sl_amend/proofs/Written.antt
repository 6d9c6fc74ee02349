-- Vectors of choices of which one is written.
use Rattle.std.proofs.Common.{◌≡◌, ◌∙◌, ◌<◌, ℕ, zero, suc, List, [], ◌∷◌, ◌++◌, set, length, get_or, Vec, refl, sym, ap, arith}
use Rattle.std.specs.declared.alloc.Global.{Global}
use Rattle.std.proofs.lemmas.List.{map-set, get_or-map}
use Rattle.sl_types.specs.declared.kinds.Entry.{Entry}
use Rattle.sl_instance.specs.Lists.{contents, list_at}

-- one vector was written with what a function makes of its contents
pub list_written : (lists : List (Vec Entry Global)) (app : ℕ) (new d : Vec Entry Global) (f : List Entry → List Entry) → app < length lists
    → new.items ≡ f (get_or lists app d).items → contents (set lists app new) ≡ set (contents lists) app (f (list_at lists app))
list_written lists app new d f lt wrote =
    map-set (λ l. l.items) lists app new
    ∙ ap (λ (es : List Entry). set (contents lists) app es) (wrote ∙ ap f (sym (get_or-map (λ l. l.items) lists app d [] lt)))

pub set_same : {A : Type 0} (xs : List A) (i : ℕ) (d : A) → i < length xs → set xs i (get_or xs i d) ≡ xs
set_same [] i d lt = absurd (omega (arith, lt))
set_same (x ∷ xs) zero d lt = refl
set_same (x ∷ xs) (suc i) d lt = ap (λ ys. x ∷ ys) (set_same xs i d (omega (arith, lt)))

pub length-contents : (lists : List (Vec Entry Global)) → length (contents lists) ≡ length lists
length-contents [] = refl
length-contents (l ∷ ls) = ap suc (length-contents ls)

-- one vector was written with what it held
pub list_kept : (lists : List (Vec Entry Global)) (app : ℕ) (new d : Vec Entry Global) → app < length lists
    → new.items ≡ (get_or lists app d).items → contents (set lists app new) ≡ contents lists
list_kept lists app new d lt same =
    let wide : app < length (contents lists) = omega (arith, lt, length-contents lists) in
    list_written lists app new d (λ es. es) lt same ∙ set_same (contents lists) app [] wide

-- one vector more
pub contents_push : (lists : List (Vec Entry Global)) (list : Vec Entry Global) → contents (lists ++ list ∷ []) ≡ contents lists ++ list.items ∷ []
contents_push [] list = refl
contents_push (l ∷ ls) list = ap (λ (es : List (List Entry)). l.items ∷ es) (contents_push ls list)
