-- The records of the text of a table are those of the table.
use Rattle.std.proofs.Common.{◌≡◌, ℕ, true, List, [], ◌∷◌, refl, arith}
use Rattle.std.specs.Prelude.{flat_map, zip, map, Option, Some, None}
use Rattle.std.specs.List.{list_all}
use Rattle.std.proofs.lemmas.Bool.{and_parts}
use Rattle.std.proofs.lemmas.List.Concat.{flat_map-cons}
use Rattle.csv.specs.Reading.{strip_bom}
use Rattle.sl_types.specs.declared.kinds.Entry.{Entry}
use Rattle.sl_types.specs.declared.kinds.Pool.{Pool}
use Rattle.sl_types.specs.declared.kinds.PoolId.{PoolId}
use Rattle.sl_types.specs.declared.kinds.Rule.{Rule}
use Rattle.sl_types.specs.declared.kinds.Rule.TheVariants.{H, L, Merit}
use Rattle.sl_codes.specs.declared.faults.Table.TheVariants.{Pools, Applications}
use Rattle.sl_codes.specs.Fields.{is_code}
use Rattle.sl_codes.specs.Records.{Record, records_of}
use Rattle.sl_codes.specs.RecordText.{text_of_record}
use Rattle.sl_instance.specs.NamedMarket.{NamedMarket, IsNamed}
use Rattle.sl_amend.specs.Tables.{kind_word, parent_code, pool_record, choice_record, own_records, pool_header, application_header, pool_records, application_records, text_of_table}
use Rattle.sl_amend.proofs.PlainLines.{line_of_code, line_any, line_of_number}
use Rattle.sl_amend.proofs.PlainText.{is_one_line}
use Rattle.sl_amend.proofs.PrintedRecords.{IsPlain, ArePlain, plain_on, printed_again}

line_of_kind : (rule : Rule) → is_one_line (kind_word rule) ≡ true
line_of_kind H = refl
line_of_kind L = refl
line_of_kind Merit = refl

line_of_parent : (codes : List (List ℕ)) (parent : Option PoolId) → list_all is_code codes ≡ true → is_one_line (parent_code codes parent) ≡ true
line_of_parent codes None h = refl
line_of_parent codes (Some Q) h = line_any codes Q.0 h

plain_pool : (all : List (List ℕ)) (code : List ℕ) (pool : Pool) → list_all is_code all ≡ true → is_code code ≡ true → IsPlain (pool_record all code pool)
plain_pool all code pool h coded = (omega arith, rw (line_of_code code coded, line_of_number pool.quota, line_of_parent all pool.parent h, line_of_kind pool.rule) refl)

plain_pools : (all codes : List (List ℕ)) (pools : List Pool) → list_all is_code all ≡ true → list_all is_code codes ≡ true
    → ArePlain (map (λ p. pool_record all p.0 p.1) (zip codes pools))
plain_pools all [] pools h coded = tt
plain_pools all (code ∷ codes) [] h coded = tt
plain_pools all (code ∷ codes) (pool ∷ pools) h coded =
    let parts = and_parts (is_code code) (list_all is_code codes) coded in
    (plain_pool all code pool h parts.0, plain_pools all codes pools h parts.1)

plain_choice : (progs : List (List ℕ)) (code : List ℕ) (e : Entry) → list_all is_code progs ≡ true → is_code code ≡ true → IsPlain (choice_record progs code e)
plain_choice progs code e h coded = (omega arith, rw (line_of_code code coded, line_of_number e.place, line_any progs e.prog.0 h, line_of_number e.score) refl)

plain_own : (progs : List (List ℕ)) (code : List ℕ) (choices : List Entry) → list_all is_code progs ≡ true → is_code code ≡ true
    → ArePlain (own_records progs code choices)
plain_own progs code [] h coded = tt
plain_own progs code (e ∷ es) h coded = (plain_choice progs code e h coded, plain_own progs code es h coded)

plain_applications : (progs codes : List (List ℕ)) (lists : List (List Entry)) → list_all is_code progs ≡ true → list_all is_code codes ≡ true
    → ArePlain (flat_map (λ a. own_records progs a.0 a.1) (zip codes lists))
plain_applications progs [] lists h coded = tt
plain_applications progs (code ∷ codes) [] h coded = tt
plain_applications progs (code ∷ codes) (l ∷ lists) h coded =
    let parts = and_parts (is_code code) (list_all is_code codes) coded in
    let f : List ℕ × List Entry → List Record = λ a. own_records progs a.0 a.1 in
    rw (flat_map-cons f (code, l) (zip codes lists))
    (plain_on (own_records progs code l) (flat_map f (zip codes lists)) (plain_own progs code l h parts.0) (plain_applications progs codes lists h parts.1))

-- no table begins with a byte order mark
bare_pools : (rows : List Record) → strip_bom (flat_map text_of_record (pool_header ∷ rows)) ≡ flat_map text_of_record (pool_header ∷ rows)
unfolding strip_bom
bare_pools rows = rw (flat_map-cons text_of_record pool_header rows) refl

bare_applications : (rows : List Record) → strip_bom (flat_map text_of_record (application_header ∷ rows)) ≡ flat_map text_of_record (application_header ∷ rows)
unfolding strip_bom
bare_applications rows = rw (flat_map-cons text_of_record application_header rows) refl

module _ (n : NamedMarket) (named : IsNamed n) where
  pub pools_printed : records_of (text_of_table n Pools) ≡ pool_header ∷ pool_records n
  pools_printed =
      printed_again (pool_header ∷ pool_records n)
      ((omega arith, refl), plain_pools n.pool_codes n.pool_codes n.market.pools named.pools.coded named.pools.coded)
      (bare_pools (pool_records n))

  pub applications_printed : records_of (text_of_table n Applications) ≡ application_header ∷ application_records n
  applications_printed =
      printed_again (application_header ∷ application_records n)
      ((omega arith, refl), plain_applications n.prog_codes n.app_codes n.market.lists named.progs.coded named.applicants.coded)
      (bare_applications (application_records n))
