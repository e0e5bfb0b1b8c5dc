use Rattle.line_lists.proofs.Common.{take, drop, sym, ap, ◌∙◌, differing, differing-associative, whole, tags_left_of}
use Rattle.line_lists.proofs.KnownLaws.{copy-tags}
use Rattle.line_lists.proofs.drafts.Stop.turn_slots.Goals as goal

pub returns-clause-turned : goal.returns-clause-turned
returns-clause-turned g c =
    let lines = g.L.LineList.lines c.args.list.now in
    let slots = c.args.slots.now in
    let stop = c.args.self.now in
    let line = tags_left_of stop.copy.line.columns in
    let kept = tags_left_of (whole (take stop.copy.kept (drop stop.reached.used lines))).columns in
    c.turn_odd_slots.ensures
    ∙ ap (λ s. differing s line) c.turn_kept.ensures.turned
    ∙ differing-associative slots kept line
    ∙ sym (ap (differing slots) (copy-tags lines stop))
