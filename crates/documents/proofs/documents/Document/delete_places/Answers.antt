use Rattle.documents.proofs.Common.{subst, Document, Does, IsTold, delete_places, reply_of, widget_at}
use Rattle.documents.proofs.documents.Document.delete_places.Goals as goal

pub returns-then-branch-clause-does : goal.returns-then-branch-clause-does
returns-then-branch-clause-does g c = c.in_ok-delete_range.ensures.made c.if-branch.true

-- where no range was deleted at once the document is as it was
pub returns-clause-does : goal.returns-clause-does
returns-clause-does g c = λ limits.
    let seat = c.args.caller.now.seat in
    subst (λ (document : Document). Does limits document c.delete_planned.new.self (reply_of c.delete_planned.result)
    (delete_places document (widget_at document seat) c.args.places.now))
    (c.in_ok-delete_range.ensures.other c.if-branch.false) (c.delete_planned.ensures.does limits)

pub returns-clause-told : goal.returns-clause-told
returns-clause-told g c =
    let seat = c.args.caller.now.seat in
    subst (λ (document : Document). IsTold c.args.caller.now.follows
    (delete_places document (widget_at document seat) c.args.places.now) document c.delete_planned.new.self
    c.delete_planned.result) (c.in_ok-delete_range.ensures.other c.if-branch.false) c.delete_planned.ensures.told
