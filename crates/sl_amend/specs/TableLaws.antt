-- Tables that were written are read back.
use Rattle.std.specs.Prelude.{◌≡◌, ◌⊎◌, ◌<◌, ℕ, List, length, drop, All, None}
use Rattle.sl_types.specs.declared.kinds.Rule.{Rule}
use Rattle.sl_types.specs.declared.kinds.Rule.TheVariants.{Merit}
use Rattle.sl_types.specs.Market.{Market}
use Rattle.sl_types.specs.Valid.{IsValid}
use Rattle.sl_codes.specs.declared.faults.Table.TheVariants.{Pools, Applications}
use Rattle.sl_codes.specs.Faults.{first_fault}
use Rattle.sl_codes.specs.Records.{Record, records_of, rows_of}
use Rattle.sl_pools.specs.Pools.{PoolList, pools_of, first_pool_fault}
use Rattle.sl_pools.specs.Programmes.{ProgList}
use Rattle.sl_choices.specs.Choices.{ChoiceList, choice_form, choices_of}
use Rattle.sl_instance.specs.NamedMarket.{NamedMarket, IsNamed}
use Rattle.sl_instance.specs.Assembly.{IsAssembled}
use Rattle.sl_instance.specs.Causes.{merits_fault}
use Rattle.sl_amend.specs.Applied.{draft_after}
use Rattle.sl_amend.specs.DraftMarket.{opening, amended}
use Rattle.sl_amend.specs.Files.{amendments_fault}
use Rattle.sl_amend.specs.Tables.{text_of_table}

-- what tables can hold: each pool has this rule or is a merit pool, and each applicant has a choice
pub record IsTabular (rule : Rule) (market : Market) : Type 0 where
  pub rules : All (λ pool. (pool.rule ≡ rule) ⊎ (pool.rule ≡ Merit)) market.pools
  pub applies : All (λ choices. 0 < length choices) market.lists

-- the pools of an instance with their codes, and its programmes with theirs
abbrev pub pools_in : NamedMarket → PoolList
pools_in n = record { codes = n.pool_codes; pools = n.market.pools }

abbrev pub progs_in : NamedMarket → ProgList
progs_in n = record { codes = n.prog_codes; pools = n.market.progs }

-- the choices that a text holds beside the programmes of an instance
abbrev pub choices_in : NamedMarket → List ℕ → ChoiceList
choices_in n text = choices_of n.prog_codes (rows_of text)

-- a text is a pool table without a fault, and holds the pools of an instance with their codes
pub record HoldsPools (rule : Rule) (n : NamedMarket) (text : List ℕ) : Type 0 where
  pub right : first_pool_fault rule (records_of text) ≡ None
  pub holds : pools_of rule (rows_of text) ≡ pools_in n

-- a text is an application table without a fault beside the pools and the programmes of an instance, and makes this
-- instance with them
pub record HoldsApplications (n : NamedMarket) (text : List ℕ) : Type 0 where
  pub right : first_fault (choice_form n.prog_codes) (records_of text) ≡ None
  pub merits : merits_fault (pools_in n) (progs_in n) (choices_in n text) ≡ None
  pub holds : IsAssembled (pools_in n) (progs_in n) (choices_in n text) n

-- the two tables of an instance that tables can hold, read by its rule and with its programme table, give this instance
pub record ReadBack (rule : Rule) (n : NamedMarket) : Type 0 where
  pub pools : HoldsPools rule n (text_of_table n Pools)
  pub applications : HoldsApplications n (text_of_table n Applications)

abbrev pub TablesReadBack : Type 0
TablesReadBack =
    (rule : Rule) (n : NamedMarket) → IsNamed n → IsValid n.market → IsTabular rule n.market → ReadBack rule n

-- an instance that tables without a fault hold is one that tables can hold
abbrev pub ReadIsTabular : Type 0
ReadIsTabular =
    (rule : Rule) (n : NamedMarket) (pools applications : List ℕ) → HoldsPools rule n pools
    → HoldsApplications n applications → IsTabular rule n.market

-- they still can after amendments without a fault
abbrev pub AmendedIsTabular : Type 0
AmendedIsTabular =
    (rule : Rule) (n : NamedMarket) (records : List Record) → IsValid n.market → amendments_fault n records ≡ None
    → IsTabular rule n.market → IsTabular rule (amended (draft_after (opening n) (drop 1 records))).market

-- one instance has the programmes of another, with their codes and those of the pools
pub record HasProgrammesOf (n m : NamedMarket) : Type 0 where
  pub pool_codes : m.pool_codes ≡ n.pool_codes
  pub prog_codes : m.prog_codes ≡ n.prog_codes
  pub progs : m.market.progs ≡ n.market.progs

-- so a programme table of an instance is one of the amended instance
abbrev pub AmendedKeepsProgrammes : Type 0
AmendedKeepsProgrammes =
    (n : NamedMarket) (records : List Record) → IsNamed n → amendments_fault n records ≡ None
    → HasProgrammesOf n (amended (draft_after (opening n) (drop 1 records)))
