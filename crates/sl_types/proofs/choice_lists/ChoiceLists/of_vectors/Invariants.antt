use Rattle.std.proofs.Common.{◌≡◌, ◌++◌, length, map}
use Rattle.std.specs.Vec.Iter.{into_iter_items, into_iter_len}
use Rattle.sl_types.proofs.choice_lists.ChoiceLists.of_vectors.Given as goal

-- what is made are the lists so far
abbrev pub invariant-loop-list : goal.invariant-loop-list
invariant-loop-list l = record {
  all : l.yielded ++ into_iter_items l.list-iterator ≡ into_iter_items l.initial.list-iterator;
  left : into_iter_len l.list-iterator ≡ length (into_iter_items l.list-iterator);
  made : l.made ≡ map (λ v. v.items) l.yielded;
}
