use Rattle.handles.proofs.Common.{Some, sym, ap, ◌∙◌}
use Rattle.handles.proofs.CallLaws.{feeds-held}
use Rattle.handles.proofs.handle.Handle.feed.Goals as goal

pub returns : goal.returns
returns c =
    feeds-held _ _ c.deref_mut.result.now c.feed-ended.new.self c.args.bytes.now c.feed-ended.result
    (c.take-session.ensures.value ∙ ap (λ s. Some s) (sym c.deref_mut.ensures.value)) c.put.ensures.session
    c.feed-ended.ensures
