use Rattle.documents.proofs.Common.{◌≡◌, [], length, refl, sym, subst, ap, ◌∙◌, chars, length-map, SpanFits, All}
use Rattle.documents.proofs.Common.{KeyedCell, widget_at, with_tag, key_of, key_named, flags_of, TellsCells, of_tags}
use Rattle.documents.proofs.PartsLaws.{sits, stand}
use Rattle.documents.proofs.SpanLaws.{fit-kept}
use Rattle.documents.proofs.TagCommandLaws.{runs-alone, runs-apart, seen-flags, seen-none}
use Rattle.documents.proofs.documents.Document.span_tags.Goals.{in-Some+in_ok-push_spans-in-Some}
use Rattle.documents.proofs.documents.Document.span_tags.Goals.{in-None+in_ok-push_whole-in-None}
use Rattle.std.specs.FinSet as set
use Rattle.documents.proofs.documents.Document.span_tags.Goals as goal

pub push_spans-requires-clause-apart : goal.push_spans-requires-clause-apart
push_spans-requires-clause-apart g c =
    runs-apart c.args.spans.now c.in_ok-runs.ensures.apart c.deref.ensures.value
    (fit-kept (stand c.self.invariant c.self.view_is) refl c.requires.fit)

pub returns : goal.returns
returns g c = λ follows.
    let document = c.args.self.now in
    let place = c.args.caller.now.seat in
    let stands = stand c.self.invariant c.self.view_is in
    let seat = sits place stands c.number.ensures.value in
    let name = chars c.args.name.now in
    let key = key_of (widget_at document place) name in
    let spans = c.args.spans.now in
    let made = with_tag key c.args.on spans document.cells in
    let runs = c.in_ok-runs.ensures in
    let fits = c.requires.fit in
    let apart = runs-apart spans runs.apart refl fits in
    let used : c.in_ok-key.key ≡ key = c.in_ok-key.ensures ∙ ap (λ n. key_named n name) c.widget_name.ensures in
    subst (TellsCells [] document.cells made) (sym c.of_tags.ensures) (elim c.match-find_tag.branch [
      | in-Some+in_ok-push_spans-in-Some w ↦
          let tells = w.in_ok-push_spans-in-Some.ensures in
          subst (λ ts. TellsCells [] document.cells made (of_tags ts)) (sym w.tags-is)
          (runs-alone c.args.on spans fits apart runs.covers used
          (seen-flags stands seat name w.in-Some.slot.0 w.in-Some.ensures.value) w.deref.ensures.value c.new-tags.ensures
          tells.tells tells.runs)
      | in-None+in_ok-push_whole-in-None w ↦
          let tells = w.in_ok-push_whole-in-None.ensures in
          let found = flags_of key document.cells in
          let same = w.deref-in-None.ensures.value in
          let flagged = length-map document.cells (λ (cell : KeyedCell). set.contains cell.keys key) in
          subst (λ ts. TellsCells [] document.cells made (of_tags ts)) (sym w.tags-is)
          (runs-alone c.args.on spans fits apart runs.covers used refl same c.new-tags.ensures
          (tells.tells found (runs-apart spans runs.apart same (subst (λ n. All (SpanFits n) spans) (sym flagged) fits))
          (seen-none stands seat name w.in-None.ensures.value))
          (tells.runs (length document.cells) (runs-apart spans runs.apart same fits)))
    ])
