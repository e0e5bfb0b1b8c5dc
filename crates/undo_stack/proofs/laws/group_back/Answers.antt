use Rattle.undo_stack.proofs.FitsLaws.{repeat-group-back}
use Rattle.undo_stack.proofs.laws.group_back.Goals as goal

pub returns : goal.returns
returns c = λ limit group text found short made. (repeat-group-back limit group text found short made).0
