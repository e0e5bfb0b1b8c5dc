use Rattle.line_lists.proofs.Common.{◌≡◌, ◌-◌, ◌≤◌, ◌++◌, ◌∷◌, [], length, take, drop, subst, sym, ap, ap₂, ◌∙◌, arith}
use Rattle.line_lists.proofs.Common.{option_copied, slice_get, differing, IsDraft, copies_of, drafted_at, tags_after}
use Rattle.line_lists.proofs.Common.{used, whole, tags_left_of}
use Rattle.line_lists.proofs.ClearingLaws.{copied-tags}
use Rattle.line_lists.proofs.DraftLaws.{can-follow, last_is}
use Rattle.line_lists.proofs.FindLaws.{IsLast, the-last}
use Rattle.line_lists.proofs.KnownLaws.{draft-there}
use Rattle.line_lists.proofs.drafts.Draft.copied_tags.Given.{Over}
use Rattle.line_lists.proofs.drafts.Draft.copied_tags.Goals.{After-len}
use Rattle.line_lists.proofs.drafts.Draft.copied_tags.Goals as goal

pub but_last-slots-requires-clause-there : goal.but_last-slots-requires-clause-there
but_last-slots-requires-clause-there g c =
    let lines = g.L.LineList.lines c.args.self.now.list.now in
    subst (λ items. used (copies_of items) ≤ length lines) (sym c.deref.ensures.value)
    (draft-there lines c.args.self.now.front.items c.args.self.now.back.items c.requires.is)

-- the last copy before the place
stop-last : (g : Over) (c : After-len g)
    → c.args.self.now.front.items ≡ take (length c.args.self.now.front.items - 1) c.args.self.now.front.items
    ++ c.unwrap-stop.result.now ∷ []
stop-last g c =
    last_is c.args.self.now.front.items c.unwrap-stop.result.now (sym (ap option_copied c.unwrap-stop.ensures)
    ∙ c.last.ensures.value ∙ ap (λ xs. slice_get xs (length xs - 1)) c.deref-2.ensures.value)

last : (g : Over) (c : After-len g)
    → IsLast (g.L.LineList.lines c.args.self.now.list.now)
    (take (length c.args.self.now.front.items - 1) c.args.self.now.front.items) c.unwrap-stop.result.now
    c.args.offset c.args.end c.len.result
last g c =
    let front = c.args.self.now.front.items in
    the-last (g.L.LineList.lines c.args.self.now.list.now) front (take (length front - 1) front)
    c.args.self.now.back.items c.unwrap-stop.result.now c.args.offset c.args.end c.len.result c.requires.is
    (stop-last g c) c.requires.begun c.requires.end c.requires.within c.len.ensures

pub overflow_sub-start : goal.overflow_sub-start
overflow_sub-start g c = let is = last g (goal.at.overflow_sub-start g c).After-len in omega (arith, is.start)

pub overflow_sub-offset : goal.overflow_sub-offset
overflow_sub-offset g c =
    let is = last g (goal.at.overflow_sub-offset g c).After-len in
    omega (arith, is.start, is.begun)

pub turn_kept-requires-clause-there : goal.turn_kept-requires-clause-there
turn_kept-requires-clause-there g c =
    let lines = g.L.LineList.lines c.args.self.now.list.now in
    let front = c.args.self.now.front.items in
    let back = c.args.self.now.back.items in
    let is = stop-last g (goal.at.turn_kept-requires-clause-there g c).After-len in
    let follows = can-follow lines (take (length front - 1) front) back c.unwrap-stop.result.now
    (subst (λ items. IsDraft lines items back) is c.requires.is) in
    omega (arith, follows.there)

pub tags_left_of-requires : goal.tags_left_of-requires
tags_left_of-requires g c =
    let is = last g (goal.at.tags_left_of-requires g c).After-len in
    omega (arith, is.stands.inside)

pub returns-clause-value : goal.returns-clause-value
returns-clause-value g c =
    let lines = g.L.LineList.lines c.args.self.now.list.now in
    let front = c.args.self.now.front.items in
    let back = c.args.self.now.back.items in
    let stop = c.unwrap-stop.result.now in
    let is = last g (goal.at.returns-clause-value g c).After-len in
    let kept = tags_left_of (whole (take stop.copy.kept (drop stop.reached.used lines))).columns in
    let so_far = c.but_last-slots.ensures.value
    ∙ ap (λ items. tags_after lines (take (length items - 1) items)) c.deref.ensures.value in
    c.flip.ensures
    ∙ ap₂ differing (c.turn_kept.ensures.turned ∙ ap (λ s. differing s kept) so_far) c.tags_left_of.ensures
    ∙ sym (ap (λ items. tags_left_of (take c.args.offset (whole (drafted_at lines items back)).columns))
    (stop-last g (goal.at.returns-clause-value g c).After-len)
    ∙ copied-tags lines (take (length front - 1) front) back stop c.args.offset
    (c.args.offset - (c.args.end - c.len.result)) is.reached is.stands)
