use Rattle.std.proofs.Common.{◌≡◌, ℕ, List, subst}
use Rattle.std.specs.Prelude.{IfOk}
use Rattle.sl_types.specs.declared.kinds.Entry.{Entry}
use Rattle.sl_pieces.proofs.Joined.{made_whole}
use Rattle.sl_gen.proofs.Between.{AreBetween, none_between, both_between}
use Rattle.sl_gen.proofs.lists.lists_in_parallel.Goals as goal

pub returns : goal.returns
returns g c =
    let progs : ℕ = c.args.progs in
    let whole = made_whole (AreBetween progs) (none_between progs) (both_between progs) (λ piece. piece) c.args.applicants (λ i j r. IfOk r (AreBetween progs i j)) c.in_ok-pieces.pieces.items (λ i j part h. h) c.in_ok-pieces.ensures in
    subst (λ (lists : List (List Entry)). IfOk c.join_lists.result (λ made. made ≡ lists)) whole (rw c.as_slice.ensures.value at c.join_lists.ensures)
