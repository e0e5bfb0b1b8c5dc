use Rattle.handles.proofs.Common.{[]}
use Rattle.handles.proofs.RoomLaws.{copied-none}
use Rattle.handles.proofs.room.copy_whole.Goals as goal

pub returns : goal.returns
returns c =
    let all = c.copy_next.ensures [] c.args.room.now (copied-none c.args.room.now) in
    record { length = all.count; copied = all.bytes }
