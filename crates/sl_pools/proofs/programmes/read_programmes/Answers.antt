use Rattle.std.proofs.Common.{◌≡◌, ap, length, ◌++◌, ◌∷◌, [], ◌<◌, ◌≤◌, drop, arith, length-append}
use Rattle.csv.specs.Records.{fields_of}
use Rattle.sl_types.specs.declared.kinds.TheConstants.{MAX_PROGRAMMES}
use Rattle.sl_codes.specs.Records.{records_of, field_of}
use Rattle.sl_codes.proofs.FirstFault.{read_to-right, read_to-wrong, read_to-end}
use Rattle.sl_pools.specs.Programmes.{programme_form, pool_named}
use Rattle.sl_pools.proofs.Kept.{prog_list, progs_within}
use Rattle.sl_pools.proofs.Rows.{length-codes_of, map_push}
use Rattle.sl_pools.proofs.programmes.read_programmes.Goals as goal
use Rattle.std.proofs.lemmas.List.{length-map}

pub returns-in-Err-clause-refused : goal.returns-in-Err-clause-refused
returns-in-Err-clause-refused c =
    let inv = c.rows.invariant in
    let row = fields_of c.next.new.row in
    let next = rw c.if-branch.true at c.in_ok-next.ensures.ok in
    let taken : c.len-before.result ≡ length inv.0 = omega (arith, ap length inv.3, length-map inv.0 (pool_named c.args.pools.now.codes)) in
    let wrong = rw c.codes-in-rows.ensures at c.in-Err.ensures.wrong in
    rw (c.after.ensures, taken)
    (read_to-wrong (programme_form c.args.pools.now.codes) (records_of c.args.bytes.now) inv.0 c.rows.records row c.next.new.self c.in-Err.e inv.1 next (wrong inv.0 inv.2))

pub rows-preserved : goal.rows-preserved
rows-preserved c =
    let inv = c.rows.invariant in
    let pools = c.args.pools.now.codes in
    let row = fields_of c.next.new.row in
    let next = rw c.if-branch.true at c.in_ok-next.ensures.ok in
    let right = rw c.codes-in-rows.ensures at c.in_default.ensures.right in
    let progs = rw c.codes-in-rows.ensures at c.in_default.ensures.progs in
    let room : length inv.0 < MAX_PROGRAMMES = rw (inv.2, length-codes_of inv.0) at c.in_default.ensures.room in (
      inv.0 ++ row ∷ [],
      read_to-right (programme_form pools) (records_of c.args.bytes.now) inv.0 c.rows.records row c.next.new.self inv.1 next (right inv.0 inv.2),
      map_push (λ row. field_of row 0) c.rows.codes c.take_programme.new.codes inv.0 row inv.2 c.in_default.ensures.codes,
      map_push (pool_named pools) c.rows.progs.items c.take_programme.new.progs.items inv.0 row inv.3 progs,
      rw (length-append inv.0 (row ∷ [])) (omega (arith, room)),
    )

pub returns-clause-right : goal.returns-clause-right
returns-clause-right c =
    let inv = c.rows.invariant in
    let next = rw c.if-branch.false at c.in_ok-next.ensures.ok in
    (read_to-end (programme_form c.args.pools.now.codes) (records_of c.args.bytes.now) inv.0 c.rows.records inv.1 next).0

pub invariant_of-result : goal.invariant_of-result
invariant_of-result c =
    let inv = c.rows.invariant in
    let pools = c.args.pools.now.codes in
    let records = records_of c.args.bytes.now in
    let next = rw c.if-branch.false at c.in_ok-next.ensures.ok in
    let end = read_to-end (programme_form pools) records inv.0 c.rows.records inv.1 next in
    let few : length (drop 1 records) ≤ MAX_PROGRAMMES = rw end.1 inv.4 in
    rw (inv.2, inv.3, ← end.1) (prog_list pools records end.0 few)

pub returns-clause-within : goal.returns-clause-within
returns-clause-within c =
    let inv = c.rows.invariant in
    let pools = c.args.pools.now.codes in
    let records = records_of c.args.bytes.now in
    let next = rw c.if-branch.false at c.in_ok-next.ensures.ok in
    let end = read_to-end (programme_form pools) records inv.0 c.rows.records inv.1 next in
    let progs = rw (← end.1) at inv.3 in
    rw progs (progs_within pools records end.0)
