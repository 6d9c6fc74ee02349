-- Which offers of a score pool count, and what the counts say.
use Rattle.std.specs.Prelude.{◌≡◌, ◌↔◌, true, not, take, Contains, ℕ, ◌+◌, ◌<◌, ◌≤◌, Bool, false, if◌then◌else◌, ◌&&◌, List, [], ◌∷◌, nat_eq, nat_lt, Option, Some, None}
use Rattle.sl_types.specs.declared.kinds.Entry.{Entry}
use Rattle.sl_types.specs.Market.{Market, pool_of, list_of, quota_of}
use Rattle.std.specs.List.{list_any}
use Rattle.sl_laws.specs.Laws.{IsScorePool}
use Rattle.sl_laws.specs.Limits.{Limits, is_eligible, demand}
use Rattle.sl_laws.specs.Stable.{is_choice_in}
use Rattle.sl_contend.specs.Offers.{choices_in, comes_before}
use Rattle.sl_contend.specs.declared.offer.Offer.{Offer}
use Rattle.sl_flat.specs.declared.leading.Lead.{Lead}
use Rattle.sl_flat.specs.declared.counting.Passing.{Passing}

-- the choice i of this score where it is greater than that of the lead so far, else that lead
abbrev pub better : Option Lead → ℕ → ℕ → Option Lead
better None i score = Some (record { index = i; score = score })
better (Some lead) i score =
    if nat_lt lead.score score then Some (record { index = i; score = score }) else Some lead

-- of a lead so far, and of the choices in P that come before the first eligible choice elsewhere, the first of the
-- greatest score; the first choice of the list has the index i
abbrev pub lead_from : Market → Limits → ℕ → Option Lead → ℕ → List Entry → Option Lead
lead_from market t P best i [] = best
lead_from market t P best i (e ∷ es) =
    if nat_eq (pool_of market e) P then lead_from market t P (better best i e.score) (i + 1) es
    else (if is_eligible market t e then best else lead_from market t P best (i + 1) es)

-- an applicant's lead in P
abbrev pub lead_of : Market → Limits → ℕ → List Entry → Option Lead
lead_of market t P choices = lead_from market t P None 0 choices

-- whether there is a lead, and it is the choice i
abbrev pub is_lead : ℕ → Option Lead → Bool
is_lead i None = false
is_lead i (Some lead) = nat_eq lead.index i

-- whether an offer counts: it is its applicant's lead in P
abbrev pub counts : Market → Limits → ℕ → Offer → Bool
counts market t P offer = is_lead offer.index (lead_of market t P (list_of market offer.app.0))

-- next is the greatest limit at which more than the quota come, and last the greatest at which the quota is reached
pub record IsPassing (market : Market) (t : Limits) (P : ℕ) (at : Passing) : Type 0 where
  pub passed : quota_of market P < demand market t P at.next
  pub within : demand market t P (at.next + 1) ≤ quota_of market P
  pub reached : quota_of market P ≤ demand market t P at.last
  pub short : demand market t P (at.last + 1) < quota_of market P

-- no more than the quota come at all
abbrev pub AllFit : Market → Limits → ℕ → Type 0
AllFit market t P = demand market t P 0 ≤ quota_of market P

-- the choices before an offer on its applicant's list
abbrev pub choices_before : Market → Offer → List Entry
choices_before market offer = take offer.index (list_of market offer.app.0)

-- whether no earlier choice of its applicant outside P is eligible
abbrev pub is_open : Market → Limits → ℕ → Offer → Bool
is_open market t P offer =
    not (list_any (λ e. not (is_choice_in market P e) && is_eligible market t e) (choices_before market offer))

-- no offer of its applicant before it counts
abbrev pub NoneBefore : Market → Limits → ℕ → Offer → Type 0
NoneBefore market t P offer =
    (x : Offer) → Contains (choices_in market P) x → x.app.0 ≡ offer.app.0 → comes_before x offer ≡ true
    → counts market t P x ≡ false

-- an offer counts where no earlier choice of its applicant outside the pool is eligible, and no offer of the same
-- applicant before it counts
abbrev pub CountsByOrder : Market → Limits → ℕ → Type 0
CountsByOrder market t P =
    (o : Offer) → Contains (choices_in market P) o
    → (counts market t P o ≡ true) ↔ ((is_open market t P o ≡ true) × NoneBefore market t P o)

-- the same of every score pool, at all limits
abbrev pub OffersCountByOrder : Market → Type 0
OffersCountByOrder market = (t : Limits) (P : ℕ) → IsScorePool market P → CountsByOrder market t P
