-- The pool table and the application table of an instance, record by record.
use Rattle.std.specs.Prelude.{ℕ, Bool, true, false, List, [], ◌∷◌, map, zip, get_or, codes, flat_map, Option, Some, None}
use Rattle.std.specs.Fmt.{decimal}
use Rattle.sl_types.specs.declared.kinds.Entry.{Entry}
use Rattle.sl_types.specs.declared.kinds.Pool.{Pool}
use Rattle.sl_types.specs.declared.kinds.PoolId.{PoolId}
use Rattle.sl_types.specs.declared.kinds.Rule.{Rule}
use Rattle.sl_types.specs.declared.kinds.Rule.TheVariants.{H, L, Merit}
use Rattle.sl_types.specs.Market.{list_of, pool_at}
use Rattle.sl_codes.specs.declared.faults.Table.{Table}
use Rattle.sl_codes.specs.declared.faults.Table.TheVariants.{Pools, Programmes, Applications, Results, Amendments}
use Rattle.sl_codes.specs.Records.{Record}
use Rattle.sl_codes.specs.RecordText.{text_of_record}
use Rattle.sl_instance.specs.NamedMarket.{NamedMarket}

-- the tables that can be written
abbrev pub is_written : Table → Bool
is_written Pools = true
is_written Programmes = false
is_written Applications = true
is_written Results = false
is_written Amendments = false

-- the kind of a pool with this rule
abbrev pub kind_word : Rule → List ℕ
kind_word H = codes "score"
kind_word L = codes "score"
kind_word Merit = codes "merit"

-- the code of a parent, or an empty field
abbrev pub parent_code : List (List ℕ) → Option PoolId → List ℕ
parent_code pools None = []
parent_code pools (Some Q) = get_or pools Q.0 []

-- `pool,quota,parent,kind` of a pool with this code, among pools of these codes
abbrev pub pool_record : List (List ℕ) → List ℕ → Pool → Record
pool_record pools code pool =
    code ∷ decimal pool.quota ∷ parent_code pools pool.parent ∷ kind_word pool.rule ∷ []

-- `applicant,place,programme,score` of a choice of the applicant with this code, over programmes of these codes
abbrev pub choice_record : List (List ℕ) → List ℕ → Entry → Record
choice_record progs code e =
    code ∷ decimal e.place ∷ get_or progs e.prog.0 [] ∷ decimal e.score ∷ []

-- the choices of one applicant, in order of place
abbrev pub own_records : List (List ℕ) → List ℕ → List Entry → List Record
own_records progs code choices = map (choice_record progs code) choices

abbrev pub pool_header : Record
pool_header = codes "pool" ∷ codes "quota" ∷ codes "parent" ∷ codes "kind" ∷ []

abbrev pub application_header : Record
application_header = codes "applicant" ∷ codes "place" ∷ codes "programme" ∷ codes "score" ∷ []

-- the record of the pool with a number
abbrev pub record_of_pool : NamedMarket → ℕ → Record
record_of_pool n P = pool_record n.pool_codes (get_or n.pool_codes P []) (pool_at n.market P)

-- the records of the applicant with a number
abbrev pub records_of_applicant : NamedMarket → ℕ → List Record
records_of_applicant n a = own_records n.prog_codes (get_or n.app_codes a []) (list_of n.market a)

-- a record for each pool, in order
abbrev pub pool_records : NamedMarket → List Record
pool_records n = map (λ p. pool_record n.pool_codes p.0 p.1) (zip n.pool_codes n.market.pools)

-- a record for each choice, by applicant in order
abbrev pub application_records : NamedMarket → List Record
application_records n = flat_map (λ a. own_records n.prog_codes a.0 a.1) (zip n.app_codes n.market.lists)

-- the records of a table, of which the first is its header
abbrev pub table_records : NamedMarket → Table → List Record
table_records n Pools = pool_header ∷ pool_records n
table_records n Programmes = []
table_records n Applications = application_header ∷ application_records n
table_records n Results = []
table_records n Amendments = []

-- the text of a table
abbrev pub text_of_table : NamedMarket → Table → List ℕ
text_of_table n table = flat_map text_of_record (table_records n table)
