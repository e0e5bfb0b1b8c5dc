use Rattle.line_lists.proofs.VecLaws.{counted-front}
use Rattle.line_lists.proofs.line_vec.LineVecLineList.prefix.Goals as goal

pub sum_of-requires : goal.sum_of-requires
sum_of-requires c =
    rw c.deref.ensures.value (counted-front c.args.count c.args.self.now.lines.items c.args.self.now.are_lines.counted)
