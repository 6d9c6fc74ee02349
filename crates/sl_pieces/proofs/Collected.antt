-- The answers of pieces, when none failed.
use Rattle.std.proofs.Common.{◌≡◌, ℕ, List, [], ◌∷◌, map, Vec, Ok, Err}
use Rattle.std.specs.Prelude.{IfOk, MatchResult, Result}
use Rattle.std.specs.List.{AllZip}
use Rattle.std.specs.declared.alloc.Global.{Global}

all_ok : {A E : Type 0} (P : ℕ → Result A E → Type 0) (ks : List ℕ) (vs : List A) → AllZip P ks (map (λ v. Ok v) vs) → AllZip (λ k v. P k (Ok v)) ks vs
all_ok P [] [] h = h
all_ok P [] (v ∷ vs) h = absurd h
all_ok P (k ∷ ks) [] h = absurd h
all_ok P (k ∷ ks) (v ∷ vs) h = (h.0, all_ok P ks vs h.1)

pub pieces_collected : {A E : Type 0} (P : ℕ → Result A E → Type 0) (ks : List ℕ) (rs : List (Result A E)) (Q : E → Type 0) (r : Result (Vec A Global) E)
    → MatchResult r (λ all. (vs : List A) × (rs ≡ map (λ v. Ok v) vs) × (all.items ≡ vs)) Q → AllZip P ks rs → IfOk r (λ all. AllZip (λ k v. P k (Ok v)) ks all.items)
pieces_collected P ks rs Q (Ok all) made h = rw made.2 (all_ok P ks made.0 (rw made.1 at h))
pieces_collected P ks rs Q (Err e) made h = tt
