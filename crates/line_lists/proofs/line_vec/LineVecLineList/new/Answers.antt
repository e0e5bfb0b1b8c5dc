use Rattle.line_lists.proofs.VecLaws.{new-lines, newline-made}
use Rattle.line_lists.proofs.line_vec.LineVecLineList.new.Goals as goal

pub returns : goal.returns
returns c = newline-made c.in_ok-lines.lines.items c.push.new.self.items c.in_ok-new.field-0 c.in_ok-push.ensures.items
    c.in_ok-lines.ensures.items c.in_ok-new.ensures

pub invariant_of-result : goal.invariant_of-result
invariant_of-result c =
    let made = newline-made c.in_ok-lines.lines.items c.push.new.self.items c.in_ok-new.field-0
    c.in_ok-push.ensures.items c.in_ok-lines.ensures.items c.in_ok-new.ensures in
    record { are_lines = new-lines c.push.new.self.items made }
