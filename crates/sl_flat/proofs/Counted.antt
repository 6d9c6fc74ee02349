-- The demand for a score pool is the number of its offers that count.
use Rattle.std.proofs.Common.{◌≡◌, ℕ, List, refl, sym, ◌∙◌}
use Rattle.std.specs.List.Sorted.{IsPermutation}
use Rattle.std.proofs.lemmas.List.Sums.{length-filter}
use Rattle.sl_types.specs.Market.{Market, list_of}
use Rattle.sl_types.specs.WellFormed.{IsWellFormed}
use Rattle.sl_laws.specs.Laws.{IsScorePool}
use Rattle.sl_laws.specs.Limits.{Limits, demand}
use Rattle.sl_contend.specs.declared.offer.Offer.{Offer}
use Rattle.sl_contend.specs.Offers.{choices_in}
use Rattle.sl_contend.proofs.Sums.{offers_counted}
use Rattle.sl_contend.proofs.Tallies.{tally}
use Rattle.sl_flat.specs.Counting.{lead_of, counts}
use Rattle.sl_flat.proofs.Leads.{is_hit, hits_are}
use Rattle.sl_flat.proofs.Stands.{stays_in}

-- as many applicants are admitted in P at the limit y as offers of a score of at least y count
pub demand_counted : (market : Market) → IsWellFormed market → (t : Limits) (P : ℕ) → IsScorePool market P → (y : ℕ) (offers : List Offer) → IsPermutation (choices_in market P) offers
    → tally (counts market t P) y offers ≡ demand market t P y
demand_counted market ok t P score y offers moved =
    let leads = λ (a : ℕ). lead_of market t P (list_of market a) in
    offers_counted market P (is_hit market ok t P score y 0 leads) (stays_in market t P y) (λ a. hits_are market ok t P score y a leads (list_of market a) refl) offers moved
    ∙ sym (length-filter (stays_in market t P y) market.lists)
