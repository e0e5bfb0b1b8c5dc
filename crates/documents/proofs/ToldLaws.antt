-- What is told of a command beforehand is what it makes of the text and of its tags.
use Rattle.documents.proofs.Common.{◌≡◌, sym, ap, ◌∙◌, subst, LimitTable, Empty, Document, Change, Foretells}
use Rattle.documents.proofs.Common.{TellsCells, EditTold, ◌≢◌, Ok, Err, Memory, Does, is_ok, Result, Fault, IsErr}
use Rattle.documents.proofs.Common.{IsErrAnd, reply_of, Bool, Parts, Stands, document_of, IsTold, IfOk-from_err}
use Rattle.documents.proofs.ChangeLaws.{does-left}

-- what was foretold of a command is told of it once it is answered
pub told-made : {limits : LimitTable} {old new : Document} {change : Change} {told : EditTold}
    → Does limits old new (Ok Empty) change → Foretells old change told
    → TellsCells change.edits old.cells new.cells told
told-made {limits} {old} {new} {change} {told} does foretold =
    let known : Ok Empty ≢ Err Memory = λ same. (let h : Ok Empty ≡ Err Memory = same in absurd (cc)) in
    subst (λ (d : Document). TellsCells change.edits old.cells d.cells told) (sym (does.document known))
    (foretold (ap is_ok (sym (does.reply known))))

-- ---- what is given back where nothing is done

-- memory is wanted
pub does-refused : {limits : LimitTable} {old new : Document} {change : Change} {wanted : Fault}
    (result : Result EditTold Fault) → IsErr result × IsErrAnd result (λ fault. fault ≡ wanted) → wanted ≡ Memory
    → new ≡ old → Does limits old new (reply_of result) change
does-refused (Ok told) is memory same = absurd is.1
does-refused {limits} {old} {new} {change} (Err fault) is memory same =
    does-left limits old new fault change same (λ other. absurd (other (is.1 ∙ memory)))

-- by parts that stand as before
pub left-refused : {limits : LimitTable} {parts : Parts} {document : Document} {change : Change} {wanted : Fault}
    {follows : Bool} (result : Result EditTold Fault) → IsErr result × IsErrAnd result (λ fault. fault ≡ wanted)
    → wanted ≡ Memory → Stands parts document
    → record {
      does : Does limits document (document_of parts) (reply_of result) change;
      told : IsTold follows change document (document_of parts) result;
    }
left-refused result is memory stands = record {
  does = does-refused result is memory stands.is;
  told = λ _. IfOk-from_err result _ is.0;
}
