use Rattle.std.proofs.Common.{◌≡◌, length}
use Rattle.sl_io.specs.MemFiles.{file_of, files_of}
use Rattle.sl_io.proofs.mem_shelf.first_named.Given as goal

abbrev pub invariant-loop-rest : goal.invariant-loop-rest
invariant-loop-rest l = file_of (files_of l.rest) l.name ≡ file_of (files_of l.fn.files) l.fn.name

abbrev pub decreases-loop-rest : goal.decreases-loop-rest
decreases-loop-rest l = length l.rest
