use Rattle.std.proofs.Common.{rules}
use Rattle.std.proofs.lemmas.List.Sorted.{IsNonDecreasingBy-from_sort_by_key}
use Rattle.sl_instance.proofs.lists.sort_by_place.Goals as goal

pub returns : goal.returns
returns c =
    let sort = c.sort_unstable_by_key.ensures in
    record { same = sort.permutation; sorted = IsNonDecreasingBy-from_sort_by_key (λ e. e.place) _ sort.sorted (λ a r q k. search rules) }
