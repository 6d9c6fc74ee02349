use Rattle.std.proofs.Common.{◌<◌, length, take, All, IfSome}
use Rattle.sl_amend.specs.Amended.{AreOrigins}
use Rattle.sl_amend.proofs.keeping.tests.are_origins.Given as goal

abbrev pub invariant-loop-origin : goal.invariant-loop-origin
invariant-loop-origin g l = AreOrigins l.old (take l.origin-index l.origins)
