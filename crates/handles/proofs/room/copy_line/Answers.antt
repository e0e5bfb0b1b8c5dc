use Rattle.handles.proofs.Common.{[], ◌++◌, ◌∙◌}
use Rattle.handles.proofs.RoomLaws.{copied-none, copied-text, grouped}
use Rattle.handles.proofs.room.copy_line.Goals as goal

pub returns : goal.returns
returns c =
    let p = c.parts.result in let a = p.0.now in let b = p.1.now in let d = p.2.now in let e = p.3.now in
    let f = p.4.now in
    let room = c.args.room.now in
    let first = c.copy_next-total.ensures [] room (copied-none room) in
    let second = c.copy_next-total-2.ensures ([] ++ a) room first in
    let third = c.copy_next-total-3.ensures (([] ++ a) ++ b) room second in
    let fourth = c.copy_next-total-4.ensures ((([] ++ a) ++ b) ++ d) room third in
    let last = c.copy_next.ensures (((([] ++ a) ++ b) ++ d) ++ e) room fourth in
    let all = copied-text _ _ room c.copy_next.result c.copy_next.new.room (grouped a b d e f ∙ c.parts.ensures) last in
    record { length = all.count; copied = all.bytes }
