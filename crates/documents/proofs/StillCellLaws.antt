-- Commands that are no edit of the text or of tags leave its characters with their tags.
use Rattle.documents.proofs.Common.{◌≡◌, refl, LimitTable, Document, Widget}
use Rattle.documents.proofs.CarriedLaws.{IsMarked, IsQuiet, carried-marked, carried-quiet}

-- a document with the characters of another one, and with their tags
abbrev pub HasCellsOf : Document → Document → Type 0
HasCellsOf old new = new.cells ≡ old.cells

pub cells-quiet : (limits : LimitTable) (document : Document) (widget : Widget)
    → IsQuiet limits document widget (HasCellsOf document)
cells-quiet limits document widget =
    carried-quiet (HasCellsOf document) limits document widget refl (λ tags. refl) (λ modified. refl) refl

pub cells-marked : (limits : LimitTable) (document : Document) (widget : Widget)
    → IsMarked limits document widget (HasCellsOf document)
cells-marked limits document widget =
    carried-marked (HasCellsOf document) limits document widget refl (λ place. refl) (λ place. refl) (λ marks. refl)
