use Rattle.line_lists.proofs.Common.{◌-◌, length, take, refl, subst, sym, ap, ◌∙◌, arith, slice_get, IsDraft, copies_of}
use Rattle.line_lists.proofs.Common.{made_lines, place_of, whole}
use Rattle.line_lists.proofs.DraftLaws.{can-follow, last-start, last_is, no_last}
use Rattle.line_lists.proofs.FindLaws.{last-starts}
use Rattle.line_lists.proofs.drafts.Draft.covered.Goals as goal

pub overflow_add-result : goal.overflow_add-result
overflow_add-result g c =
    let lines = g.L.LineList.lines c.args.self.now.list.now in
    let front = c.args.self.now.front.items in
    let back = c.args.self.now.back.items in
    let stop = c.in-Some.stop.now in
    let before = take (length front - 1) front in
    let is = last_is front stop (c.in-Some.ensures.value
    ∙ ap (λ xs. slice_get xs (length xs - 1)) c.deref.ensures.value) in
    let follows = can-follow lines before back stop (subst (λ items. IsDraft lines items back) is c.requires) in
    omega (arith, follows.counted, last-start lines front before back stop c.requires is, c.len.ensures)

pub returns-in-None : goal.returns-in-None
returns-in-None g c =
    let lines = g.L.LineList.lines c.args.self.now.list.now in
    ap (λ items. length (whole (made_lines (copies_of items) lines)).columns)
    (sym (no_last c.args.self.now.front.items (c.in-None.ensures.value
    ∙ ap (λ xs. slice_get xs (length xs - 1)) c.deref.ensures.value)))

pub returns-in-Some : goal.returns-in-Some
returns-in-Some g c =
    let lines = g.L.LineList.lines c.args.self.now.list.now in
    let front = c.args.self.now.front.items in
    let back = c.args.self.now.back.items in
    let stop = c.in-Some.stop.now in
    let before = take (length front - 1) front in
    let is = last_is front stop (c.in-Some.ensures.value
    ∙ ap (λ xs. slice_get xs (length xs - 1)) c.deref.ensures.value) in
    omega (
      arith,
      last-start lines front before back stop c.requires is,
      last-starts lines front before back stop (place_of lines front) c.requires is refl,
      c.len.ensures,
    )
