use Rattle.documents.proofs.Common.{sym, ◌∙◌, chars, widget_at, shared_key, mark_key}
use Rattle.documents.proofs.ListedMarksLaws.{key-current, key-insert, key-shared, listed-one}
use Rattle.documents.proofs.WidgetLaws.{own-name}
use Rattle.documents.proofs.MarkReportLaws.{current_key, insert_key}
use Rattle.documents.proofs.PartsLaws.{stand}
use Rattle.documents.proofs.documents.Document.list_mark.Goals.{then-is_word+in_ok-push_mark}
use Rattle.documents.proofs.documents.Document.list_mark.Goals.{else-is_word+then-is_word-2+in_ok-push_mark-2}
use Rattle.documents.proofs.documents.Document.list_mark.Goals.{else-is_word+else-is_word-2+in_ok-push_mark-3}
use Rattle.documents.proofs.documents.Document.list_mark.Goals as goal

pub returns : goal.returns
returns g c =
    let document = c.args.self.now in
    let widget = widget_at document c.args.seat in
    let word = chars c.args.name.now in
    let stands = stand c.self.invariant c.self.view_is in
    elim c.if-is_word.branch [
      | then-is_word+in_ok-push_mark w ↦
          let name = chars w.name.result.now in
          w.marks-is
          ∙ listed-one document c.new-marks.result w.push_mark.new.marks (insert_key name) (mark_key widget word)
          c.new-marks.ensures w.in_ok-push_mark.ensures
          (key-insert widget name word (own-name c.args.seat name stands w.name.ensures)
          (sym c.is_word.ensures ∙ w.if-is_word.true))
      | else-is_word+then-is_word-2+in_ok-push_mark-2 w ↦
          let name = chars w.name-then-is_word-2.result.now in
          w.marks-is
          ∙ listed-one document c.new-marks.result w.push_mark-then-is_word-2.new.marks (current_key name)
          (mark_key widget word) c.new-marks.ensures w.in_ok-push_mark-2.ensures
          (key-current widget name word (own-name c.args.seat name stands w.name-then-is_word-2.ensures)
          (sym c.is_word.ensures ∙ w.if-is_word.false)
          (sym w.is_word-else-is_word.ensures ∙ w.if-is_word-2.true))
      | else-is_word+else-is_word-2+in_ok-push_mark-3 w ↦
          w.marks-is
          ∙ listed-one document c.new-marks.result w.push_mark-else-is_word-2.new.marks (shared_key word)
          (mark_key widget word) c.new-marks.ensures w.in_ok-push_mark-3.ensures
          (key-shared widget word (sym c.is_word.ensures ∙ w.if-is_word.false)
          (sym w.is_word-else-is_word.ensures ∙ w.if-is_word-2.false))
    ]
