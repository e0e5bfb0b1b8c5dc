use Rattle.line_lists.proofs.Common.{◌≡◌, ◌<◌, min, length, sym, ap, subst, ◌∙◌, arith, eqb-true, nil_from_length}
use Rattle.line_lists.proofs.Common.{text_in, drafted_at, with_cleared, whole, vec_len}
use Rattle.line_lists.proofs.BeginLaws.{BeginsFree, behind-above, behind-within, free-line, free-lines}
use Rattle.line_lists.proofs.CountRows.{count-lines}
use Rattle.line_lists.proofs.FindLaws.{rest-within}
use Rattle.line_lists.proofs.drafts.Draft.first_toggled.Given.{Over}
use Rattle.line_lists.proofs.drafts.Draft.first_toggled.Goals.{Else-has_toggle}
use Rattle.line_lists.proofs.drafts.Draft.first_toggled.Goals as goal

pub find_line-index-requires-clause-within : goal.find_line-index-requires-clause-within
find_line-index-requires-clause-within g c =
    let lines = g.L.LineList.lines c.args.self.now.list.now in
    let front = c.args.self.now.front.items in
    let back = c.args.self.now.back in
    let empty : vec_len back ≡ 0 = eqb-true (vec_len back) 0 (sym c.is_empty.ensures ∙ c.if-not-is_empty.false) in
    let none = nil_from_length back.items (omega (arith, empty, back.ok.0)) in
    rest-within lines front c.reached-reached.result c.args.from c.reached-reached.ensures
    (subst (λ copies. c.args.from < length (whole (drafted_at lines front copies)).columns) none
    (omega (arith, c.requires.ordered, c.requires.within, c.if-from-to.false)))

-- the line that holds the first offset is kept and has no toggle of the slot, and all copies stand before it
begins : (g : Over) (c : Else-has_toggle g)
    → BeginsFree c.args.slot.0 c.args.from c.args.to (g.L.LineList.lines c.args.self.now.list.now)
    c.args.self.now.front.items c.args.self.now.back.items c.reached-reached.result c.find_line-index.result.0
    c.find_line-index.result.1 c.find_line-index.result.2.now
begins g c =
    let back = c.args.self.now.back in
    let empty : vec_len back ≡ 0 = eqb-true (vec_len back) 0 (sym c.is_empty.ensures ∙ c.if-not-is_empty.false) in
    record {
      none = nil_from_length back.items (omega (arith, empty, back.ok.0));
      text = c.requires.is;
      kept = record {
        so_far = c.reached-reached.ensures;
        found = c.find_line-index.ensures.place;
        get = c.find_line-index.ensures.line;
      };
      free = sym c.has_toggle.ensures ∙ c.if-has_toggle.false;
      ordered = omega (arith, c.requires.ordered, c.if-from-to.false);
    }

pub returns-then-to-from-clause-free : goal.returns-then-to-from-clause-free
returns-then-to-from-clause-free g c =
    free-line (begins g (goal.at.returns-then-to-from-clause-free g c).Else-has_toggle)
    (omega (arith, c.if-to-from.true, c.len.ensures))

pub overflow_add-index : goal.overflow_add-index
overflow_add-index g c =
    let few = (g.L.LineList.are_lines c.args.self.now.list.now).counted.lines in
    omega (
      arith,
      few,
      count-lines (g.L.LineList.lines c.args.self.now.list.now),
      c.find_line-index.ensures.place.within,
    )

pub characters_behind-requires-clause-counted : goal.characters_behind-requires-clause-counted
characters_behind-requires-clause-counted g c =
    let next = c.next_below-next in
    let within =
    behind-within (begins g (goal.at.characters_behind-requires-clause-counted g c).Else-has_toggle) next.result
    next.ensures.above next.ensures.free (λ small. next.ensures.stops (omega (arith, small, c.len-2.ensures))) in
    omega (arith, within, c.requires.is.draft.counted)

pub returns-clause-above : goal.returns-clause-above
returns-clause-above g c =
    let next = c.next_below-next in
    let above = behind-above (begins g (goal.at.returns-clause-above g c).Else-has_toggle) next.result
    next.ensures.above next.ensures.free (λ small. next.ensures.stops (omega (arith, small, c.len-2.ensures))) in
    omega (arith, above, c.requires.ordered, c.characters_behind.ensures, c.min.ensures)

pub returns-clause-free : goal.returns-clause-free
returns-clause-free g c =
    let next = c.next_below-next in
    let old = text_in g.L.LineList.lines c.args.self.now in
    let free = free-lines (begins g (goal.at.returns-clause-free g c).Else-has_toggle) next.result next.ensures.above
    next.ensures.free (λ small. next.ensures.stops (omega (arith, small, c.len-2.ensures))) c.requires.within in
    free ∙ ap (λ n. with_cleared c.args.slot.0 c.args.from n old) (sym (c.min.ensures
    ∙ ap (λ n. min n c.args.to) c.characters_behind.ensures))
