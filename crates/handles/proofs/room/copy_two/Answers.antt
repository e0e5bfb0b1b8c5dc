use Rattle.handles.proofs.Common.{[], ◌++◌}
use Rattle.handles.proofs.RoomLaws.{copied-none}
use Rattle.handles.proofs.room.copy_two.Goals as goal

pub returns : goal.returns
returns c =
    let room = c.args.room.now in
    let first = c.copy_next-total.ensures [] room (copied-none room) in
    let all = c.copy_next.ensures ([] ++ c.args.text.now) room first in
    record { length = all.count; copied = all.bytes }
