use Rattle.text_tests.proofs.WorkedLaws.{long-enough, marked-made, still-enough}
use Rattle.text_tests.proofs.lists.marked_line.Goals as goal

pub set_toggle-requires-clause-within : goal.set_toggle-requires-clause-within
set_toggle-requires-clause-within c = long-enough c.in_ok-line.line c.in_ok-line.ensures

pub put_mark-requires : goal.put_mark-requires
put_mark-requires c =
    still-enough c.in_ok-line.line c.set_toggle.new.self c.in_ok-line.ensures c.in_ok-set_toggle.ensures.columns

pub returns : goal.returns
returns c = marked-made c.in_ok-line.line c.set_toggle.new.self c.put_mark.new.self c.in_ok-line.ensures
    c.in_ok-set_toggle.ensures.columns c.set_toggle.ensures.marks c.put_mark.ensures.columns
    c.in_ok-put_mark.ensures.marks
