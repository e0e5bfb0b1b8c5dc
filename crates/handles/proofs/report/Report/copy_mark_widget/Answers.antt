use Rattle.handles.proofs.Common.{sym, ap, ◌∙◌, encodes-chars, encode_utf8_all, option_map, bytes_of, mark_widget}
use Rattle.handles.proofs.Common.{owner_told}
use Rattle.handles.proofs.ReadLaws.{read-found, read-none}
use Rattle.handles.proofs.RoomLaws.{copied-as, copied-nothing}
use Rattle.handles.proofs.report.Report.copy_mark_widget.Goals as goal

pub returns-in-Some : goal.returns-in-Some
returns-in-Some c =
    let found = c.in-Some.ensures.lookup in
    let told = c.args.self.now.marks in
    let name = c.mark_widget.result.now in
    let same = sym (encodes-chars name c.mark_widget.utf8) ∙ ap encode_utf8_all c.mark_widget.ensures
    ∙ read-found c.as_slice.result.now told c.args.index c.in-Some.mark.now
    (λ mark. bytes_of (option_map mark_widget mark)) c.as_slice.ensures found.3.0 found.1 in
    let all = copied-as name (owner_told told c.args.index) c.args.room.now c.copy_whole.new.room
    c.copy_whole.result same c.copy_whole.ensures.length c.copy_whole.ensures.copied in
    record { length = all.0; copied = all.1 }

pub returns-in-None : goal.returns-in-None
returns-in-None c =
    let told = c.args.self.now.marks in
    let none = sym (read-none c.as_slice.result.now told c.args.index (λ mark. bytes_of (option_map mark_widget mark))
    c.as_slice.ensures c.in-None.ensures.lookup.3) in
    let all = copied-nothing (owner_told told c.args.index) c.args.room.now none in
    record { length = all.0; copied = all.1 }
