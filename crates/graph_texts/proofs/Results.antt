-- What holds of a call that passes on the answer of another.
use Rattle.std.proofs.Common.{Result, Ok, Err, IfOk, OnOk}

pub ok_more : {T E : Type 0} (r : Result T E) (P Q : T → Type 0) → IfOk r P → ((x : T) → P x → Q x) → IfOk r Q
ok_more (Ok x) P Q holds more = more x holds
ok_more (Err e) P Q holds more = tt

pub on_ok_more : {T E : Type 0} (r : Result T E) (P Q : Type 0) → OnOk r P → (P → Q) → OnOk r Q
on_ok_more (Ok x) P Q holds more = more holds
on_ok_more (Err e) P Q holds more = tt
