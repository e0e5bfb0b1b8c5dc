use Rattle.edit_ops.proofs.Common.{◌≡◌, ◌-◌, true, false, sym, ap, subst, ◌∙◌, arith, option_and_then, Fits, no_history}
use Rattle.edit_ops.proofs.Common.{unmodified, Replace, needs_shared, total, clipped, Outline, state_of, after}
use Rattle.edit_ops.proofs.Common.{IsBetween}
use Rattle.edit_ops.proofs.InsertedLaws.{put-marked, put-unmarked}
use Rattle.edit_ops.proofs.ReplaceLaws.{between-removed, found-within, mark-fits, mark-put, mark-none, replaced-is}
use Rattle.edit_ops.proofs.replacements.outline_replace.Goals.{in-Some+in_ok-put_mark-in-Some, in-None, Joined-clipped}
use Rattle.std.specs.FinMap as finite
use Rattle.std.specs.FinSet as set
use Rattle.edit_ops.proofs.replacements.outline_replace.Goals as goal

between : (g : _) (c : Joined-clipped g) → IsBetween (needs_shared c.args.pieces.items)
    (set.intersection c.slots_beside-before.result.0 c.slots_beside-before.result.1) c.slots_beside-before.result.1
    (c.len-2.result - (c.args.span.to - c.args.span.from)) c.args.span.from
    (after c.in_ok-outline.outline.steps (g.S.TextStore.content c.args.text.now.store)).cells
between g c =
    let on : needs_shared c.args.pieces.items ≡ true → c.needs_shared.result ≡ true = λ some.
    c.needs_shared.ensures ∙ ap needs_shared c.deref.ensures.value ∙ some in
    between-removed (needs_shared c.args.pieces.items) c.slots_beside-before.result.0 c.slots_beside-before.result.1
    (c.len-2.result - (c.args.span.to - c.args.span.from)) c.args.span.from c.args.span.to
    (g.S.TextStore.content c.args.text.now.store).cells _ c.in_ok-outline.ensures.cells c.requires.ordered
    c.requires.within (ap (λ n. n - (c.args.span.to - c.args.span.from)) c.len-2.ensures)
    (λ some. c.slots_beside-before.ensures.before (on some)) (λ some. c.slots_beside-before.ensures.behind (on some))

clip : (g : _) (c : Joined-clipped g) → c.clipped.result
    ≡ option_and_then (clipped c.args.span.from c.args.span.to (total c.args.pieces.items))
    (finite.get (g.S.TextStore.content c.args.text.now.store).marks c.args.mark.0)
clip g c =
    c.clipped.ensures ∙ ap (λ n. option_and_then (clipped c.args.span.from c.args.span.to n) c.mark_place.result)
    (let is : c.in_ok-end.end - c.args.span.from ≡ total c.args.pieces.items = omega (arith, c.in_ok-end.ensures.end) in is)
    ∙ ap (option_and_then (clipped c.args.span.from c.args.span.to (total c.args.pieces.items))) c.mark_place.ensures.value

pub returns-clause-fits : goal.returns-clause-fits
returns-clause-fits g c =
    let content = g.S.TextStore.content c.args.text.now.store in
    let here = (goal.at.returns-clause-fits g c).Joined-clipped in
    let made = c.in_ok-end.ensures.makes (record { undo = false; separators = false }) Replace
    (state_of content c.args.text.now.anchors.items (record { history = no_history; modified = unmodified; most = 0 }))
    (λ on. absurd (cc)) c.in_ok-outline.ensures.fits (between g here) in
    elim c.match-clipped.branch [
      | in-Some+in_ok-put_mark-in-Some w ↦
          let near = found-within c.args.span.from c.args.span.to (total c.args.pieces.items)
          (finite.get content.marks c.args.mark.0) w.in-Some.place (sym (clip g here) ∙ w.in-Some.is) in
          let long = made.1 in
          let len = c.len-2.ensures in
          mark-fits c.insert_pieces.new.self c.match-clipped.outline content c.args.mark w.in-Some.place made.0
          (omega (arith, near, long, len, c.requires.ordered, c.requires.within)) (w.outline-is
          ∙ w.in_ok-put_mark-in-Some.ensures)
      | in-None w ↦ subst (λ (d : Outline). Fits d.steps content) (sym w.outline-is) made.0
    ]

pub returns-clause-makes : goal.returns-clause-makes
returns-clause-makes g c = λ recording log keeping.
    let state = state_of (g.S.TextStore.content c.args.text.now.store) c.args.text.now.anchors.items log in
    let here = (goal.at.returns-clause-makes g c).Joined-clipped in
    let made = c.in_ok-end.ensures.makes recording Replace state keeping c.in_ok-outline.ensures.fits
    (between g here) in
    let finish = replaced-is recording c.in_ok-outline.outline c.insert_pieces.new.self c.match-clipped.outline state
    c.args.mark c.args.span.from c.args.span.to c.args.pieces.items c.clipped.result
    made.2 (c.in_ok-outline.ensures.makes recording Replace log keeping) (clip g here) in
    elim c.match-clipped.branch [
      | in-Some+in_ok-put_mark-in-Some w ↦ finish
          (mark-put recording c.insert_pieces.new.self c.match-clipped.outline state c.args.mark c.clipped.result _
          w.in-Some.is (w.outline-is ∙ w.in_ok-put_mark-in-Some.ensures))
      | in-None w ↦ finish (mark-none recording c.insert_pieces.new.self c.match-clipped.outline state c.args.mark
          c.clipped.result w.in-None.is w.outline-is)
    ]

pub returns-clause-put : goal.returns-clause-put
returns-clause-put g c =
    let content = g.S.TextStore.content c.args.text.now.store in
    let removal = c.in_ok-outline.ensures in
    elim c.match-clipped.branch [
      | in-Some+in_ok-put_mark-in-Some w ↦ put-marked content c.args.mark w.in-Some.place removal.steps removal.cells
          c.requires.ordered c.requires.within c.requires.room c.in_ok-end.ensures.steps
          (w.outline-is ∙ w.in_ok-put_mark-in-Some.ensures)
      | in-None w ↦ put-unmarked content removal.steps removal.cells c.requires.ordered c.requires.within
          c.requires.room c.in_ok-end.ensures.steps w.outline-is
    ]
