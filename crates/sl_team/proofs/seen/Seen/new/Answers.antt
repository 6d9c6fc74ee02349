use Rattle.std.proofs.Common.{◌≡◌, List, ℕ, length}
use Rattle.std.proofs.lemmas.List.Elements.{All-map}
use Rattle.sl_team.proofs.seen.Seen.new.Goals as goal

pub returns-clause-long : goal.returns-clause-long
returns-clause-long c = All-map (λ (look : List ℕ). length look ≡ c.args.pools) (λ look. look.items) c.loop.seen.items c.loop.invariant.long
