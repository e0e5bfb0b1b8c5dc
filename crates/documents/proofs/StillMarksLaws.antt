-- Commands that are no edit of the text and set no mark leave each mark where it is.
use Rattle.documents.proofs.Common.{◌≡◌, List, [], refl, ap, option_map, find, LimitTable, separated, Settings, is_same}
use Rattle.documents.proofs.Common.{Document, SharedMark, Widget, widget_set, with_settings, HasMarksBut, mark_at}
use Rattle.documents.proofs.CarriedLaws.{carried-quiet, carried-tagged, IsQuiet, IsTagged}
use Rattle.documents.proofs.MarkReportLaws.{by-kind, own-kept}

-- a document with the same marks and the same widgets
pub marks-alike : (document new : Document) → new.widgets ≡ document.widgets → new.marks ≡ document.marks →
    HasMarksBut [] document new
marks-alike document new widgets marks key _ =
    by-kind (λ key. mark_at new key ≡ mark_at document key)
    (λ name. ap (λ (ws : List Widget). option_map (λ (w : Widget). w.insert)
    (find (λ (w : Widget). is_same w.name name) ws)) widgets)
    (λ name. ap (λ (ws : List Widget). option_map (λ (w : Widget). w.current)
    (find (λ (w : Widget). is_same w.name name) ws)) widgets)
    (λ name. ap (λ (ms : List SharedMark). option_map (λ (m : SharedMark). m.place)
    (find (λ (m : SharedMark). is_same name m.name) ms)) marks) key

pub marks-tagged : (document : Document) (limits : LimitTable) (widget : Widget) →
    IsTagged limits document widget (HasMarksBut [] document)
marks-tagged document limits widget =
    carried-tagged (HasMarksBut [] document) limits document widget (λ key _. refl)
    (λ tags cells _. marks-alike document (record document { tags = tags; cells = cells }) refl refl)

pub marks-quiet : (document : Document) (limits : LimitTable) (widget : Widget) →
    IsQuiet limits document widget (HasMarksBut [] document)
marks-quiet document limits widget =
    carried-quiet (HasMarksBut [] document) limits document widget (λ key _. refl)
    (λ tags. marks-alike document (record document { tags = tags }) refl refl)
    (λ modified. marks-alike document (record document { modified = modified }) refl refl)
    (marks-alike document (record document { history = separated document.history }) refl refl)

-- options of a widget's own
pub marks-configured : (document : Document) (widget : Widget) (settings : Settings) →
    HasMarksBut [] document (with_settings widget settings document)
marks-configured document widget settings key _ =
    by-kind (λ key. mark_at (with_settings widget settings document) key ≡ mark_at document key)
    (λ name. own-kept (λ (w : Widget). w.insert) name widget (widget_set document settings) document.widgets
    (λ other. refl) (λ other. refl))
    (λ name. own-kept (λ (w : Widget). w.current) name widget (widget_set document settings) document.widgets
    (λ other. refl) (λ other. refl))
    (λ name. refl) key
