use Rattle.line_lists.proofs.Common.{take, tags_left_of}
use Rattle.line_lists.proofs.SwitchLaws.{in_one}
use Rattle.line_lists.proofs.line_changes.is_on_before.Goals as goal

pub returns : goal.returns
returns c = λ tags on.
    in_one tags (tags_left_of (take c.args.column c.args.line.now.columns)) c.args.slot.0 c.args.is_on
    c.is_odd_left_of.result on c.is_odd_left_of.ensures
