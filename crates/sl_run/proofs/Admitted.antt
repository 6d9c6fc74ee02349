-- The choices with which a result admits.
use Rattle.std.proofs.Common.{◌≡◌, ◌<◌, ◌∙◌, ℕ, List, length, slice_index, ap}
use Rattle.std.specs.Prelude.{slice_get}
use Rattle.std.specs.List.{position_or_len}
use Rattle.std.proofs.lemmas.List.{length-map}
use Rattle.sl_types.specs.declared.kinds.Entry.{Entry}
use Rattle.sl_types.specs.Market.{Market, list_of}
use Rattle.sl_laws.specs.Limits.{admitted_choice, is_eligible}
use Rattle.sl_laws.proofs.Choices.{admitted_at}
use Rattle.sl_doc.specs.Document.{Document}
use Rattle.sl_run.specs.Result.{IsResultOf}
use Rattle.sl_run.proofs.Ranges.{at_map}

-- there is one index for each applicant
pub admitted_length : (market : Market) (doc : Document) → IsResultOf market doc → length doc.admitted ≡ length market.lists
admitted_length market doc result = ap length result.admitted ∙ length-map market.lists (λ choices. position_or_len (is_eligible market (slice_index doc.limits)) choices)

-- what stands at the index of an applicant in their list is the admitted choice
pub choice_at : (market : Market) (doc : Document) (a index : ℕ) → IsResultOf market doc → a < length market.lists → index ≡ slice_index doc.admitted a
    → slice_get (list_of market a) index ≡ admitted_choice market (slice_index doc.limits) (list_of market a)
choice_at market doc a index result within is =
    let t = slice_index doc.limits in
    let f = λ (choices : List Entry). position_or_len (is_eligible market t) choices in
    admitted_at market t (list_of market a) index (is ∙ (ap (λ (xs : List ℕ). slice_index xs a) result.admitted ∙ at_map f market.lists a 0 within))
