use Rattle.std.proofs.Common.{◌≡◌, ap, length, ◌++◌, ◌∷◌, [], ◌<◌, arith, length-append}
use Rattle.csv.specs.Records.{fields_of}
use Rattle.sl_types.specs.declared.kinds.TheConstants.{MAX_POOLS}
use Rattle.sl_codes.specs.Records.{records_of, field_of}
use Rattle.sl_codes.proofs.FirstFault.{read_to-right, read_to-wrong, read_to-end}
use Rattle.sl_pools.specs.Pools.{pool_form, pool_unlinked}
use Rattle.sl_pools.proofs.Rows.{length-codes_of, map_push}
use Rattle.sl_pools.proofs.pools.read_draft.Goals as goal
use Rattle.std.proofs.lemmas.List.{length-map}

pub returns-in-Err-clause-refused : goal.returns-in-Err-clause-refused
returns-in-Err-clause-refused c =
    let inv = c.rows.invariant in
    let row = fields_of c.next.new.row in
    let next = rw c.if-branch.true at c.in_ok-next.ensures.ok in
    let taken : c.len-before.result ≡ length inv.0 = omega (arith, ap length inv.3, length-map inv.0 (pool_unlinked c.args.rule)) in
    rw (c.after.ensures, taken)
    (read_to-wrong pool_form (records_of c.args.bytes.now) inv.0 c.rows.records row c.next.new.self c.in-Err.e inv.1 next (c.in-Err.ensures.wrong inv.0 inv.2))

pub rows-preserved : goal.rows-preserved
rows-preserved c =
    let inv = c.rows.invariant in
    let row = fields_of c.next.new.row in
    let next = rw c.if-branch.true at c.in_ok-next.ensures.ok in
    let ok = c.in_default.ensures in
    let room : length inv.0 < MAX_POOLS = rw (inv.2, length-codes_of inv.0) at ok.room in (
      inv.0 ++ row ∷ [],
      read_to-right pool_form (records_of c.args.bytes.now) inv.0 c.rows.records row c.next.new.self inv.1 next (ok.right inv.0 inv.2),
      map_push (λ row. field_of row 0) c.rows.draft.codes c.take.new.self.codes inv.0 row inv.2 ok.codes,
      map_push (pool_unlinked c.args.rule) c.rows.draft.pools.items c.take.new.self.pools.items inv.0 row inv.3 ok.pools,
      map_push (λ row. field_of row 2) (fields_of c.rows.draft.parents) (fields_of c.take.new.self.parents) inv.0 row inv.4 ok.parents,
      ok.whole,
      rw (length-append inv.0 (row ∷ [])) (omega (arith, room)),
    )

pub returns-clause-right : goal.returns-clause-right
returns-clause-right c =
    let inv = c.rows.invariant in
    let next = rw c.if-branch.false at c.in_ok-next.ensures.ok in
    (read_to-end pool_form (records_of c.args.bytes.now) inv.0 c.rows.records inv.1 next).0
