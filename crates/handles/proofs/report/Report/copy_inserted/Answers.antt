use Rattle.handles.proofs.Common.{sym, ◌∙◌, option_map, bytes_of, text_told}
use Rattle.edit_ops.specs.declared.changes.TextChange.{TextChange}
use Rattle.handles.proofs.ReadLaws.{read-found, read-none}
use Rattle.handles.proofs.RoomLaws.{copied-as, copied-nothing}
use Rattle.handles.proofs.report.Report.copy_inserted.Goals as goal

pub returns-in-Some : goal.returns-in-Some
returns-in-Some c =
    let found = c.in-Some.ensures.lookup in
    let told = c.args.self.now.edit.changes in
    let same = c.as_str.ensures.bytes ∙ read-found c.as_slice.result.now told c.args.index c.in-Some.change.now
    (λ change. bytes_of (option_map (λ (c : TextChange). c.inserted) change)) c.as_slice.ensures found.3.0 found.1 in
    let all = copied-as c.as_str.result.now (text_told told c.args.index) c.args.room.now c.copy_whole.new.room
    c.copy_whole.result same c.copy_whole.ensures.length c.copy_whole.ensures.copied in
    record { length = all.0; copied = all.1 }

pub returns-in-None : goal.returns-in-None
returns-in-None c =
    let told = c.args.self.now.edit.changes in
    let none = sym (read-none c.as_slice.result.now told c.args.index
    (λ change. bytes_of (option_map (λ (c : TextChange). c.inserted) change)) c.as_slice.ensures
    c.in-None.ensures.lookup.3) in
    let all = copied-nothing (text_told told c.args.index) c.args.room.now none in
    record { length = all.0; copied = all.1 }
