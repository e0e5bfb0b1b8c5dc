use Rattle.line_lists.proofs.Common.{take, ap, ◌∙◌, Count, count_of}
use Rattle.line_lists.proofs.VecLaws.{counted-front}
use Rattle.line_lists.proofs.line_vec.LineVecLineList.odd_slots.Goals as goal

pub sum_of-requires : goal.sum_of-requires
sum_of-requires c =
    rw c.deref.ensures.value (counted-front c.args.line c.args.self.now.lines.items c.args.self.now.are_lines.counted)

pub returns : goal.returns
returns c =
    c.odd_slots.ensures ∙ ap (λ (s : Count). s.parity) (c.sum_of.ensures
    ∙ ap (λ xs. count_of (take c.args.line xs)) c.deref.ensures.value)
