use Rattle.std.proofs.Common.{◌≡◌, false, take}
use Rattle.std.specs.List.{list_any}
use Rattle.sl_laws.specs.Stable.{leads}
use Rattle.sl_laws.proofs.plain.plain_feeds.Given as goal

abbrev pub invariant-loop-app : goal.invariant-loop-app
invariant-loop-app l = list_any (leads l.instance l.from.0 l.to.0) (take l.app l.instance.lists) ≡ false
