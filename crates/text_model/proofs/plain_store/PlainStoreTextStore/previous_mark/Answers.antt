use Rattle.text_model.proofs.Common.{plain_content, plain_marks}
use Rattle.text_model.proofs.MarkOrderLaws.{previous_mark-below, previous_mark-within}
use Rattle.text_model.proofs.plain_store.PlainStoreTextStore.previous_mark.Goals as goal

pub returns-clause-below : goal.returns-clause-below
returns-clause-below c = rw c.find_previous.ensures (previous_mark-below c.args.offset (plain_marks c.deref.result.now))

pub returns-clause-bound : goal.returns-clause-bound
returns-clause-bound c =
    let s = c.args.self.now in
    rw (c.find_previous.ensures, c.deref.ensures.value)
    (previous_mark-within c.args.offset (plain_content s.cells.items s.places.items) s.plain.stand)
