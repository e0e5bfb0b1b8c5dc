use Rattle.documents.proofs.Common.{map, ap, ◌∙◌, texts_of, TagSlot, LimitTable, Ok, Empty, log_of, state_of, parts_of}
use Rattle.documents.proofs.Common.{tag_delete}
use Rattle.documents.proofs.ChangeLaws.{Leaves, some_limits}
use Rattle.documents.proofs.InsertionLaws.{with_tags}
use Rattle.documents.proofs.PartsLaws.{stand}
use Rattle.documents.proofs.StateLaws.{with_state}
use Rattle.documents.proofs.TagLaws.{leaves-deleted}
use Rattle.documents.proofs.ToldLaws.{told-made}
use Rattle.documents.proofs.documents.Document.delete_tags.Given.{Over}
use Rattle.documents.proofs.documents.Document.delete_tags.Goals.{After-drop-slots-2}
use Rattle.documents.proofs.documents.Document.delete_tags.Goals as goal

-- what is left where the tags are deleted
left : (g : Over) (c : After-drop-slots-2 g) (limits : LimitTable)
    → Leaves limits (with_state (with_tags c.delete_names.new.tags (parts_of g.S.TextStore.content c.self.inside))
    (state_of (g.S.TextStore.content c.clear_slots.new.text.store) c.clear_slots.new.text.anchors.items
    (log_of c.clear_slots.new.text.history))) c.args.self.now (Ok Empty)
    (tag_delete c.args.self.now (texts_of c.args.names.now))
left g c limits =
    let cleared = c.in_ok-clear_slots.ensures in
    leaves-deleted limits (texts_of c.args.names.now) (stand c.self.invariant c.self.view_is)
    c.delete_names.ensures.sound c.delete_names.ensures.value
    (ap (map (λ (slot : TagSlot). slot.0)) c.deref.ensures.value ∙ c.in_ok-slots.ensures.value)
    cleared.ok cleared.anchors cleared.log

pub invariant_of-self-2 : goal.invariant_of-self-2
invariant_of-self-2 g c = (left g c some_limits).sound

pub returns-clause-does : goal.returns-clause-does
returns-clause-does g c = λ limits. (left g c limits).does

pub returns-clause-told : goal.returns-clause-told
returns-clause-told g c = λ follows.
    told-made (returns-clause-does g c some_limits) (c.in_ok-told.ensures follows)
