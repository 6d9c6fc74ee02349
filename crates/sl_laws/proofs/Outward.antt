-- A pool and the pools round it, of which none comes twice.
use Rattle.std.proofs.Common.{◌≡◌, ℕ, false, ◌||◌, List, [], ◌∷◌, nat_eq, refl, ap, ◌∙◌}
use Rattle.std.specs.List.{list_any, IsDistinct, AllByRecursion}
use Rattle.std.proofs.lemmas.Map.Keys.{IsDistinct-head}
use Rattle.sl_types.proofs.Walks.{flip}

-- a pool that differs from each of a list isn't in it
not_met : (P : ℕ) (Qs : List ℕ) → AllByRecursion (λ Q. nat_eq P Q ≡ false) Qs → list_any (λ Q. nat_eq Q P) Qs ≡ false
not_met P [] h = refl
not_met P (Q ∷ Qs) h = ap (λ b. b || list_any (λ Q. nat_eq Q P) Qs) (flip Q P ∙ h.0) ∙ not_met P Qs h.1

-- the first of them isn't met later
pub met_once : (P : ℕ) (Qs : List ℕ) → IsDistinct nat_eq (P ∷ Qs) → list_any (λ Q. nat_eq Q P) Qs ≡ false
met_once P Qs once = not_met P Qs (IsDistinct-head nat_eq P Qs once)
