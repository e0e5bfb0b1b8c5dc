use Rattle.segments.proofs.Common.{◌<◌, ◌≤◌, length, get_or, refl, sym, ap, subst, ◌∙◌, slice_get_past, slice_get_read}
use Rattle.segments.proofs.Common.{option_map, slice_get, Mark, LineContent, entry_of}
use Rattle.segments.proofs.MarkLaws.{slice_get-marks_of}
use Rattle.segments.proofs.RichLaws.{marks_within}
use Rattle.std.specs.FinMap as finite
use Rattle.segments.proofs.rich.RichLine.mark.Goals as goal

pub returns-in-Some-clause-value : goal.returns-in-Some-clause-value
returns-in-Some-clause-value c =
    let index = c.args.index in
    let found = c.in-Some.ensures.lookup in
    sym (ap (λ (line : LineContent). slice_get (finite.entries line.marks) index) (sym c.self.view_is)
    ∙ slice_get-marks_of c.self.inside.marks.items index c.self.invariant.1.rise
    ∙ ap (λ marks. option_map entry_of (slice_get marks index)) (sym c.deref.ensures.value)
    ∙ ap (option_map entry_of) (slice_get_read c.deref.result.now (length c.deref.result.now) index c.in-Some.mark.now
    refl found.3.0 found.1))

pub returns-in-Some-clause-bound : goal.returns-in-Some-clause-bound
returns-in-Some-clause-bound c =
    let index = c.args.index in
    let mark = c.in-Some.mark.now in
    let found = c.in-Some.ensures.lookup in
    let within = subst (λ marks. index < length marks) c.deref.ensures.value found.3.0 in
    let here = found.1 ∙ ap (λ marks. get_or marks index mark) c.deref.ensures.value in
    subst (λ (m : Mark). m.place.offset ≤ length c.args.self.now.columns) (sym here)
    (marks_within c.self.inside c.self.view_is c.self.invariant.1 index mark within)

pub returns-in-None-clause-value : goal.returns-in-None-clause-value
returns-in-None-clause-value c =
    let index = c.args.index in
    sym (ap (λ (line : LineContent). slice_get (finite.entries line.marks) index) (sym c.self.view_is)
    ∙ slice_get-marks_of c.self.inside.marks.items index c.self.invariant.1.rise
    ∙ ap (λ marks. option_map entry_of (slice_get marks index)) (sym c.deref.ensures.value)
    ∙ ap (option_map entry_of) (slice_get_past c.deref.result.now index c.in-None.ensures.lookup.3))
