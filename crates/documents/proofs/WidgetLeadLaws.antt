-- Each edit that a command of a widget may make leaves what the document leads back to.
use Rattle.documents.proofs.Common.{◌≡◌, ℕ, ◌+◌, ◌-◌, ◌≤◌, List, length, refl, arith, All, length-map, LimitTable}
use Rattle.documents.proofs.Common.{AreAnchored, SpanFits, Span, spans_of-fit, Document, Widget, KeyedCell, characters}
use Rattle.documents.proofs.Common.{spans_shown, insertion_offset, shown, view_end, view_start}
use Rattle.documents.proofs.CarriedLaws.{carried-quiet, carried-tagged, carried-marked, IsCarried}
use Rattle.documents.proofs.StillLeadLaws.{leads-insert, leads-current, leads-separated, leads-still}
use Rattle.documents.proofs.EditLeadLaws.{leads-replayed, IsActive, active, leads-deleted, leads-inserted}
use Rattle.documents.proofs.EditLeadLaws.{leads-replaced, offset-inside}
use Rattle.documents.proofs.LeadLaws.{Leads, anchors_of}
use Rattle.documents.proofs.ViewLaws.{part-length}

pub spans-inside : (document : Document) (widget : Widget) (places : List ℕ) → IsActive document widget
    → All (λ place. place ≤ length (shown document widget)) places →
    All (λ (span : Span). span.to ≤ view_end document widget)
    (spans_shown document widget places)
spans-inside document widget places active within =
    let start = view_start widget in
    let end = view_end document widget in
    let text = characters document.cells in
    let some = active.some in
    let inside = active.within in
    let long : length text ≡ length document.cells = length-map document.cells (λ (cell : KeyedCell). cell.character) in
    let seen : length (shown document widget)
    ≡ end - start = part-length text start end (omega (arith, inside, long)) in
    λ k d before.
    let fits : SpanFits (start + length (shown document widget)) _ = spans_of-fit start (length (shown document widget))
    places within k d before in
    let last = fits.within in
    omega (arith, last, seen, some)

pub leads-carried : (limits : LimitTable) (start : List ℕ) (document : Document) (widget : Widget) →
    Leads limits.chars start document
    → AreAnchored (characters document.cells) (anchors_of widget) →
    IsCarried limits document widget (Leads limits.chars start)
leads-carried limits start document widget leads anchored =
    let P : Document → Type 0 = Leads limits.chars start in
    record {
      quiet = carried-quiet P limits document widget leads (λ tags. leads-still leads refl refl refl refl refl)
          (λ modified. leads-still leads refl refl refl refl refl) (leads-separated leads);
      tagged = carried-tagged P limits document widget leads
          (λ tags cells same. leads-still leads same refl refl refl refl);
      marked = carried-marked P limits document widget leads
          (λ place. leads-insert limits.chars start document widget place leads)
          (λ place. leads-current limits.chars start document widget place leads)
          (λ marks. leads-still leads refl refl refl refl refl);
      edited = record {
        inserted = λ place pairs busy. leads-inserted limits start document widget (insertion_offset document widget place)
            pairs leads
            (offset-inside document widget place (active document widget anchored busy));
        replaced =
            λ from to pairs busy ordered. leads-replaced limits start document widget (insertion_offset document widget from)
            (insertion_offset document widget to) pairs leads
            (omega (arith, ordered)) (offset-inside document widget to (active document widget anchored busy));
        deleted = λ places busy within.
            let is = active document widget anchored busy in
            leads-deleted limits.chars start document widget (spans_shown document widget places) leads is
            (spans-inside document widget places is (within is.within));
        grouped = λ back. leads-replayed back limits.chars start document widget leads;
      };
    }
