use Rattle.std.proofs.Common.{◌∷◌, [], arith, length-append}
use Rattle.sl_instance.proofs.Chosen.{sorted_push}
use Rattle.sl_instance.proofs.lists.sorted_lists.Goals as goal

pub applicants-preserved : goal.applicants-preserved
applicants-preserved c =
    let inv = c.applicants.invariant in
    let list = c.find_list.new.list.items in
    record {
      each = rw c.in_ok-push.ensures (omega (arith, inv.each, length-append c.applicants.lists (c.as_slice.result.now ∷ [])));
      sorted = rw (c.in_ok-push.ensures, c.as_slice.ensures.value) (sorted_push c.args.choices.now.rows c.applicants.lists list c.applicants.app inv.each c.in_ok-find_list.ensures inv.sorted);
    }
