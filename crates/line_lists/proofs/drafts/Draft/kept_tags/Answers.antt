use Rattle.line_lists.proofs.Common.{◌-◌, ◌≤◌, List, length, take, drop, subst, ap, ap₂, sym, ◌∙◌, Slots, differing}
use Rattle.line_lists.proofs.Common.{LineContent, copies_of, tags_after, used, whole, tags_left_of}
use Rattle.line_lists.proofs.ClearingLaws.{kept-ends, kept-tags}
use Rattle.line_lists.proofs.FindLaws.{reached-there}
use Rattle.line_lists.proofs.KnownLaws.{draft-there}
use Rattle.line_lists.proofs.drafts.Draft.kept_tags.Goals as goal

pub all-slots-requires-clause-there : goal.all-slots-requires-clause-there
all-slots-requires-clause-there g c =
    let lines = g.L.LineList.lines c.args.self.now.list.now in
    subst (λ items. used (copies_of items) ≤ length lines) (sym c.deref.ensures.value)
    (draft-there lines c.args.self.now.front.items c.args.self.now.back.items c.requires.is)

pub find_line-index-requires-clause-used : goal.find_line-index-requires-clause-used
find_line-index-requires-clause-used g c =
    reached-there (g.L.LineList.lines c.args.self.now.list.now) c.args.self.now.front.items c.args.self.now.back.items
    c.args.reached.now c.requires.is c.requires.reached

pub find_line-index-requires-clause-within : goal.find_line-index-requires-clause-within
find_line-index-requires-clause-within g c =
    kept-ends (g.L.LineList.lines c.args.self.now.list.now) c.args.self.now.front.items c.args.reached.now c.args.offset
    c.requires.reached c.args.self.now.back.items c.requires.ahead c.requires.within

pub returns-clause-value : goal.returns-clause-value
returns-clause-value g c =
    let lines = g.L.LineList.lines c.args.self.now.list.now in
    let front = c.args.self.now.front.items in
    let reached = c.args.reached.now in
    let found = c.find_line-index in
    let kept : List LineContent → Slots = λ xs.
    tags_left_of (whole (take (found.result.0 - reached.used) (drop reached.used xs))).columns in
    let so_far = c.all-slots.ensures.value ∙ ap (tags_after lines) c.deref.ensures.value in
    let same = ap g.L.LineList.lines found.ensures.list in
    c.flip.ensures
    ∙ ap₂ differing (c.turn_kept.ensures.turned ∙ ap₂ (λ s xs. differing s (kept xs)) so_far same)
    c.tags_left_of.ensures
    ∙ sym (kept-tags lines front reached c.args.offset c.requires.reached found.result.0 found.result.1
    found.result.2.now (record {
      so_far = c.requires.reached;
      found = found.ensures.place;
      get = found.ensures.line;
    }) c.args.self.now.back.items c.requires.ahead)
