-- What holds of a result, whether it is a value or an error.
use Rattle.documents.proofs.Common.{Result, Ok, Err, OnErr, OnOk}

pub on_ok : {A E P : Type 0} (result : Result A E) → P → OnOk result P
on_ok (Ok value) holds = holds
on_ok (Err error) holds = tt

pub on_err : {A E P : Type 0} (result : Result A E) → P → OnErr result P
on_err (Ok value) holds = tt
on_err (Err error) holds = holds

-- what follows from two facts on a value
pub on_ok_both : {A E P Q R : Type 0} (result : Result A E) → (P → Q → R) → OnOk result P →
    OnOk result Q → OnOk result R
on_ok_both (Ok value) follows p q = follows p q
on_ok_both (Err error) follows p q = tt
