use Rattle.std.proofs.Common.{rules}
use Rattle.std.proofs.lemmas.List.Sorted.{IsNonDecreasingBy-from_sort_by_key}
use Rattle.sl_types.specs.declared.kinds.Logged.{Logged}
use Rattle.sl_proof.proofs.merging.by_ticket.Goals as goal

pub returns : goal.returns
returns c =
    let sorted = c.sort_unstable_by_key.new.self.items in
    record {
      same = c.sort_unstable_by_key.ensures.permutation;
      rising = IsNonDecreasingBy-from_sort_by_key (λ (e : Logged). e.ticket) sorted c.sort_unstable_by_key.ensures.sorted (λ a r q k. search rules);
    }
