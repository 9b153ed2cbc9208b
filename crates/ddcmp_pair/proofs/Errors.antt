-- What holds of an answer that is an error.
use Rattle.std.proofs.Common.{Result, Ok, Err}
use Rattle.std.specs.Prelude.{IsOk, IsErr, IfOk, OnErr}

pub on_err : {T E : Type 0} (r : Result T E) (P : Type 0) → P → OnErr r P
on_err (Ok x) P p = tt
on_err (Err x) P p = p

pub if_err : {T E : Type 0} (r : Result T E) (P : T → Type 0) → IsErr r → IfOk r P
if_err (Ok x) P e = absurd (cc e)
if_err (Err x) P e = tt

pub ok_or_err : {T E : Type 0} (r : Result T E) → IsErr r → IsOk r → ⊥
ok_or_err (Ok x) e o = absurd (cc e)
ok_or_err (Err x) e o = absurd (cc o)
