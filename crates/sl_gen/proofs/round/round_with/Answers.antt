use Rattle.std.proofs.Common.{◌≡◌, ◌-◌, ◌*◌, ◌∙◌, List, map, sym, subst, arith}
use Rattle.std.specs.List.{range_with_len}
use Rattle.sl_types.specs.declared.kinds.Entry.{Entry}
use Rattle.sl_types.specs.Valid.{IsValid}
use Rattle.sl_gen.specs.Choices.{choices_of}
use Rattle.sl_gen.proofs.Fits.{fits, made}
use Rattle.sl_gen.proofs.round.round_with.Goals as goal

pub of_lists-requires : goal.of_lists-requires
of_lists-requires c =
    let lists : List (List Entry) = c.args.lists in
    let all : c.args.n - 0 ≡ c.args.n = omega arith in
    let listed : lists ≡ map (choices_of (2 * c.pool_count-count.result)) (range_with_len 0 c.args.n) = rw c.pool_count-count.ensures (rw all at c.requires.lists) in
    let is = made c.args.n _ _ _ _ c.pool_count-count.ensures c.in_ok-pools.ensures c.in_ok-progs.ensures listed in
    subst IsValid is (fits c.args.n c.requires.few)

pub returns : goal.returns
returns c =
    let lists : List (List Entry) = c.args.lists in
    let all : c.args.n - 0 ≡ c.args.n = omega arith in
    let listed : lists ≡ map (choices_of (2 * c.pool_count-count.result)) (range_with_len 0 c.args.n) = rw c.pool_count-count.ensures (rw all at c.requires.lists) in
    let is = made c.args.n _ _ _ _ c.pool_count-count.ensures c.in_ok-pools.ensures c.in_ok-progs.ensures listed in
    c.of_lists.ensures ∙ sym is
