use Rattle.handles.proofs.Common.{arith, ◌∙◌, ap, ◌++◌, take, drop, over}
use Rattle.handles.proofs.RoomLaws.{copied-more}
use Rattle.handles.proofs.room.copy_next.Goals as goal

pub returns : goal.returns
returns c = λ done start before.
    copied-more done c.args.text.now start c.args.room.now c.copy_text.new.room c.args.total c.min-at.result
    c.saturating_add.result before
    (omega arith) c.min-at.ensures
    (c.copy_text.ensures ∙ ap (λ t. take c.min-at.result c.args.room.now
    ++ over t (drop c.min-at.result c.args.room.now)) c.as_bytes.ensures.value)
    c.copy_text.auto.room c.saturating_add.ensures
