-- The rows that were read.
use Rattle.std.proofs.Common.{◌≡◌, ◌≤◌, ◌<◌, ◌++◌, ◌∷◌, [], List, length, ap, sym, subst, Option, arith, length-append}
use Rattle.std.proofs.lemmas.List.{length-map}
use Rattle.std.specs.Prelude.{Result, Ok, Err, IfErr, IsErrAnd}
use Rattle.sl_codes.specs.declared.faults.ReadError.{ReadError}
use Rattle.sl_codes.specs.declared.faults.ReadError.TheVariants.{OutOfMemory}
use Rattle.sl_codes.specs.declared.faults.TableFault.{TableFault}
use Rattle.sl_codes.specs.Faults.{IsFirst}
use Rattle.sl_codes.specs.Records.{Record}
use Rattle.sl_amend.specs.declared.row.Row.{Row}
use Rattle.sl_amend.specs.declared.rows.TheConstants.{MAX_AMENDMENTS}
use Rattle.sl_amend.specs.Files.{rows_in}

-- one more row, where there was room
pub more_rows : (rows more : List Row) (row : Record) → rows_in more ≡ rows_in rows ++ row ∷ [] → length rows < MAX_AMENDMENTS → length more ≤ MAX_AMENDMENTS
more_rows rows more row added room =
    let a = ap length added in
    let b = length-map more (λ row. row.fields) in
    let d = length-map rows (λ row. row.fields) in
    let e = length-append (rows_in rows) (row ∷ []) in
    omega (arith, a, b, d, e, room)

-- want of memory is no fault
pub memory_first : {T : Type 0} (r : Result T ReadError) (first : Option TableFault) → IsErrAnd r (λ e. e ≡ OutOfMemory) → IfErr r (IsFirst first)
memory_first (Ok x) first h = tt
memory_first (Err e) first h = subst (IsFirst first) (sym h) tt
