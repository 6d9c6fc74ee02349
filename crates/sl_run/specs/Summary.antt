-- The summary of a generated round that was cleared.
use Rattle.std.specs.Prelude.{ℕ, List, [], ◌∷◌, codes, length, sum, sum_by, slice_index, is_some, count_by, flat_map, Option, Some, None}
use Rattle.std.specs.Fmt.{decimal}
use Rattle.sl_types.specs.declared.kinds.Entry.{Entry}
use Rattle.sl_types.specs.Market.{Market}
use Rattle.sl_laws.specs.Limits.{Limits, admitted_choice}
use Rattle.sl_codes.specs.Records.{Record}
use Rattle.sl_codes.specs.RecordText.{text_of_record}
use Rattle.sl_doc.specs.ResultText.{four, end_record}

-- how many choices all lists have
abbrev pub application_count : Market → ℕ
application_count market = sum_by length market.lists

-- how many applicants limits admit
abbrev pub admitted_count : Market → Limits → ℕ
admitted_count market t = count_by (λ choices. is_some (admitted_choice market t choices)) market.lists

-- the place of an admitted choice, 0 where there is none
abbrev pub place_of : Option Entry → ℕ
place_of None = 0
place_of (Some e) = e.place

-- the places of the admitted choices, added up
abbrev pub place_sum : Market → Limits → ℕ
place_sum market t = sum_by (λ choices. place_of (admitted_choice market t choices)) market.lists

-- a number of a summary, with its name
abbrev pub number_record : List ℕ → ℕ → Record
number_record name number = four (codes "demo") name (decimal number) []

-- the numbers of an instance and of its published limits, and a last record with how many these are
abbrev pub summary_records : Market → List ℕ → List Record
summary_records market limits =
    number_record (codes "pools") (length market.pools)
    ∷ number_record (codes "applicants") (length market.lists)
    ∷ number_record (codes "applications") (application_count market)
    ∷ number_record (codes "admitted") (admitted_count market (slice_index limits))
    ∷ number_record (codes "limits") (sum limits)
    ∷ number_record (codes "places") (place_sum market (slice_index limits))
    ∷ end_record 6
    ∷ []

abbrev pub summary_text : Market → List ℕ → List ℕ
summary_text market limits = flat_map text_of_record (summary_records market limits)
