-- How a promise goes through a command, word by word.
use Rattle.peers.proofs.Common.{◌≡◌, ◌≢◌, refl, sym, ap, ◌∙◌, Result, Ok, Err, LimitTable, Answer, Fault, Memory}
use Rattle.peers.proofs.Common.{Document, Change, Gives, Does, change_with, IsErr, IsErrAnd}

-- what is refused for memory is refused for memory
abbrev pub refusal : (A : Type 0) → Fault → Result A Fault
refusal A fault = Err fault

pub value≢memory : {A : Type 0} (found : Result A Fault) (value : A) → found ≡ Ok value → found ≢ Err Memory
value≢memory found value is memory = let h : Ok value ≡ Err Memory = sym is ∙ memory in absurd (cc)

-- ---- a command that changes a document

module _ {limits : LimitTable} {old new : Document} {result : Result Answer Fault} where
  pub does-same : (one other : Change) → (result ≢ Err Memory → one ≡ other) → Does limits old new result one →
      Does limits old new result other
  does-same one other same does = record {
    reply = λ not. does.reply not ∙ ap (λ (c : Change). c.reply) (same not);
    document = λ not. does.document not ∙ ap (λ (c : Change). c.document) (same not);
    refused = does.refused;
    well_formed = does.well_formed;
    windows = does.windows;
  }

  pub does-found : {A : Type 0} (defined : Result A Fault) (value : A) (next : A → Change) → defined ≡ Ok value
      → Does limits old new result (next value) → Does limits old new result (change_with old defined next)
  does-found defined value next is does =
      does-same (next value) (change_with old defined next) (λ _. ap (λ found. change_with old found next) (sym is))
      does

pub does-refused : {A : Type 0} (limits : LimitTable) (old : Document) (defined : Result A Fault) (fault : Fault)
    (next : A → Change)
    → (fault ≢ Memory → defined ≡ Err fault) → Does limits old old (Err fault) (change_with old defined next)
does-refused limits old defined fault next is = record {
  reply = λ other. ap (λ found. (change_with old found next).reply)
      (sym (is (λ memory. other (ap (λ f. refusal Answer f) memory))));
  document = λ other. ap (λ found. (change_with old found next).document)
      (sym (is (λ memory. other (ap (λ f. refusal Answer f) memory))));
  refused = refl;
  well_formed = λ formed. formed;
  windows = refl;
}

-- what `?` returns of a fault
pub faulted : {A : Type 0} (result : Result A Fault) (fault : Fault)
    → IsErr result × IsErrAnd result (λ other. other ≡ fault) → result ≡ Err fault
faulted (Ok value) fault is = absurd is.1
faulted (Err other) fault is = ap Err is.1

-- the fault that was found is the one that is defined
pub fault-defined : {A : Type 0} (found defined : Result A Fault) (fault : Fault) → Gives found defined →
    found ≡ Err fault → fault ≢ Memory → defined ≡ Err fault
fault-defined {A} found defined fault gives is other =
    sym (gives (λ memory. other (let h : refusal A fault ≡ refusal A Memory = sym is ∙ memory in
    let same : fault ≡ Memory = cc in same))) ∙ is

pub value-defined : {A : Type 0} (found defined : Result A Fault) (value : A) → Gives found defined → found ≡ Ok value →
    defined ≡ Ok value
value-defined found defined value gives is = sym (gives (value≢memory found value is)) ∙ is
