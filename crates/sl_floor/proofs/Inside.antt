-- What a call asks of floor and seat, of their fields.
use Rattle.std.proofs.Common.{◌≡◌, ℕ, List, sym, subst}
use Rattle.sl_types.specs.declared.kinds.Raise.{Raise}
use Rattle.sl_types.specs.Market.{Market}
use Rattle.sl_floor.specs.Floor.{FloorValue, SeatValue, IsOf}
use Rattle.sl_floor.proofs.Last.{end_of, Closes}

pub of_inside : (f g : FloorValue) (y z : SeatValue) → f ≡ g → y ≡ z → IsOf g z → IsOf f y
of_inside f g y z same also of = subst (λ (h : FloorValue). IsOf h y) (sym same) (subst (IsOf g) (sym also) of)

-- what the end tells, of the value of the receipt, which shows the seat and holds the words written
pub closes_inside : (market : Market) (kept : List Raise) (y z w : SeatValue) (out words : List ℕ) → y.view.market ≡ market → y.view.kept ≡ kept → y ≡ z → w ≡ z → words ≡ out
    → Closes y.view.actor.left (end_of market kept y.view out) → Closes z.view.actor.left (end_of w.view.market w.view.kept w.view words)
closes_inside market kept y z w out words same also is shown written closes =
    subst (λ (x : SeatValue). Closes z.view.actor.left (end_of x.view.market x.view.kept x.view words)) (sym shown)
    (subst (λ (x : SeatValue). Closes x.view.actor.left (end_of x.view.market x.view.kept x.view words)) is
    (subst (λ m. Closes y.view.actor.left (end_of m y.view.kept y.view words)) (sym same)
    (subst (λ k. Closes y.view.actor.left (end_of market k y.view words)) (sym also)
    (subst (λ (ws : List ℕ). Closes y.view.actor.left (end_of market kept y.view ws)) (sym written) closes))))
