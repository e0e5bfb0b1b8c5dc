use Rattle.text_model.proofs.Common.{plain_content, plain_marks}
use Rattle.text_model.proofs.MarkOrderLaws.{next_mark-above, next_mark-within}
use Rattle.text_model.proofs.plain_store.PlainStoreTextStore.next_mark.Goals as goal

pub returns-clause-above : goal.returns-clause-above
returns-clause-above c = rw c.find_next.ensures (next_mark-above c.args.offset (plain_marks c.deref.result.now))

pub returns-clause-bound : goal.returns-clause-bound
returns-clause-bound c =
    let s = c.args.self.now in
    rw (c.find_next.ensures, c.deref.ensures.value)
    (next_mark-within c.args.offset (plain_content s.cells.items s.places.items) s.plain.stand)
