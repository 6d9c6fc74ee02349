-- The verdict record.
use Rattle.std.specs.Prelude.{◌<◌, ⊤, ℕ, List, [], length, get_or, codes}
use Rattle.std.specs.Fmt.{decimal}
use Rattle.sl_check.specs.declared.verdict.Verdict.{Verdict}
use Rattle.sl_check.specs.declared.verdict.Verdict.TheVariants.{Yes, RaiseUnjust, Unsettled, LimitWrong, AdmissionWrong, CountWrong}
use Rattle.sl_codes.specs.Records.{Record}
use Rattle.sl_instance.specs.NamedMarket.{NamedMarket}
use Rattle.sl_doc.specs.ResultText.{four}

-- a record of the verdict's name and of what it names
abbrev pub naming_record : List ℕ → List ℕ → Record
naming_record name value = four (codes "verdict") name value []

abbrev pub verdict_record : NamedMarket → Verdict → Record
verdict_record n Yes = naming_record (codes "Yes") []
verdict_record n (RaiseUnjust k) = naming_record (codes "RaiseUnjust") (decimal k)
verdict_record n (Unsettled P) = naming_record (codes "Unsettled") (get_or n.pool_codes P.0 [])
verdict_record n (LimitWrong P) = naming_record (codes "LimitWrong") (get_or n.pool_codes P.0 [])
verdict_record n (AdmissionWrong a) = naming_record (codes "AdmissionWrong") (get_or n.app_codes a.0 [])
verdict_record n (CountWrong P) = naming_record (codes "CountWrong") (get_or n.pool_codes P.0 [])

-- the pool or the applicant that it names is there
abbrev pub NamesWithin : NamedMarket → Verdict → Type 0
NamesWithin n Yes = ⊤
NamesWithin n (RaiseUnjust k) = ⊤
NamesWithin n (Unsettled P) = P.0 < length n.market.pools
NamesWithin n (LimitWrong P) = P.0 < length n.market.pools
NamesWithin n (AdmissionWrong a) = a.0 < length n.market.lists
NamesWithin n (CountWrong P) = P.0 < length n.market.pools
