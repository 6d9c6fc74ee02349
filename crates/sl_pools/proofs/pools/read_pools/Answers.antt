use Rattle.std.proofs.Common.{◌≡◌, ◌∙◌, sym, subst, ap, length}
use Rattle.std.proofs.lemmas.List.{with_items_is}
use Rattle.std.proofs.lemmas.Result.{err_from_is_err_and}
use Rattle.csv.specs.Records.{fields_of}
use Rattle.sl_codes.specs.Records.{records_of, rows_of, codes_of}
use Rattle.sl_pools.specs.Pools.{IsPoolList}
use Rattle.sl_pools.proofs.Kept.{pool_list}
use Rattle.sl_pools.proofs.Links.{linked_of, length-linked, whole_file, same_list}
use Rattle.sl_pools.proofs.pools.read_pools.Goals as goal

pub returns-in_err-pass_over-clause-refused : goal.returns-in_err-pass_over-clause-refused
returns-in_err-pass_over-clause-refused c =
    let draft = c.in_ok-codes.field-0 in
    let read = c.in_ok-codes.ensures in
    let whole = whole_file c.args.rule (records_of c.args.bytes.now) draft.codes (fields_of draft.parents) draft.pools.items read.right read.codes read.parents read.pools in
    let p = err_from_is_err_and c.from_residual-in_err-pass_over.result c.from_residual-in_err-pass_over.ensures.1 in
    rw (p.1, p.2, whole) (rw c.deref_mut.ensures.value at c.in_err-pass_over.ensures.refused)

pub invariant_of-result : goal.invariant_of-result
invariant_of-result c =
    let draft = c.in_ok-codes.field-0 in
    let read = c.in_ok-codes.ensures in
    let records = records_of c.args.bytes.now in
    let fault = rw c.deref_mut.ensures.value at c.in_ok-pass_over.ensures.right in
    let pools = rw c.deref_mut.ensures.value at c.in_ok-pass_over.ensures.linked in
    let size : length c.pass_over.new.pools ≡ draft.pools.len = ap length pools ∙ length-linked draft.codes (fields_of draft.parents) draft.pools.items ∙ sym draft.pools.ok.0 in
    let list = same_list draft.codes (codes_of (rows_of c.args.bytes.now)) _ _ read.codes
    (with_items_is draft.pools c.pass_over.new.pools size
    ∙ linked_of c.args.rule (rows_of c.args.bytes.now) draft.codes (fields_of draft.parents) draft.pools.items c.pass_over.new.pools read.codes read.parents read.pools pools) in
    let whole = whole_file c.args.rule records draft.codes (fields_of draft.parents) draft.pools.items read.right read.codes read.parents read.pools in
    subst IsPoolList (sym list) (pool_list c.args.rule records (whole ∙ fault) read.few)

pub returns-clause-right : goal.returns-clause-right
returns-clause-right c =
    let draft = c.in_ok-codes.field-0 in
    let read = c.in_ok-codes.ensures in
    let whole = whole_file c.args.rule (records_of c.args.bytes.now) draft.codes (fields_of draft.parents) draft.pools.items read.right read.codes read.parents read.pools in
    whole ∙ (rw c.deref_mut.ensures.value at c.in_ok-pass_over.ensures.right)

pub returns-clause-table : goal.returns-clause-table
returns-clause-table c =
    let draft = c.in_ok-codes.field-0 in
    let read = c.in_ok-codes.ensures in
    let pools = rw c.deref_mut.ensures.value at c.in_ok-pass_over.ensures.linked in
    let size : length c.pass_over.new.pools ≡ draft.pools.len = ap length pools ∙ length-linked draft.codes (fields_of draft.parents) draft.pools.items ∙ sym draft.pools.ok.0 in
    same_list draft.codes (codes_of (rows_of c.args.bytes.now)) _ _ read.codes
    (with_items_is draft.pools c.pass_over.new.pools size
    ∙ linked_of c.args.rule (rows_of c.args.bytes.now) draft.codes (fields_of draft.parents) draft.pools.items c.pass_over.new.pools read.codes read.parents read.pools pools)
