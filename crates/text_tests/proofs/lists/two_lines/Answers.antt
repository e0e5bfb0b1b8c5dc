use Rattle.text_tests.proofs.WorkedLaws.{lines-made}
use Rattle.text_tests.proofs.lists.two_lines.Goals as goal

pub returns : goal.returns
returns c =
    lines-made c.in_ok-lines.lines.items c.push.new.self.items c.push-2.new.self.items c.in_ok-new.field-0
    c.in_ok-marked_line.field-0 c.in_ok-lines.ensures.items c.in_ok-push.ensures.items c.in_ok-push-2.ensures.items
    c.in_ok-new.ensures c.in_ok-marked_line.ensures
