-- What is held, when nothing failed.
use Rattle.std.proofs.Common.{Result, Ok, Err, IfOk}

-- two facts of an Ok give a third
pub if_ok_both : {X Y : Type 0} (r : Result X Y) (P Q R : X → Type 0) → ((x : X) → P x → Q x → R x) → IfOk r P → IfOk r Q → IfOk r R
if_ok_both (Ok x) P Q R f p q = f x p q
if_ok_both (Err y) P Q R f p q = tt
