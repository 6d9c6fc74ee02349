use Rattle.sl_codes.proofs.ByPlace as by
use Rattle.sl_codes.proofs.theorems.first_fault_says.Goals as goal

pub returns : goal.returns
returns c = by.first_fault_says
