use Rattle.peers.proofs.Common.{called, widget_of, words_of, [], inl, inr, refl, sym, subst, texts_of, AreWatched}
use Rattle.peers.proofs.Common.{TakesMarksBut, done, IfOk-weaker, listed-watched, literal, mark_key, none-watched}
use Rattle.peers.proofs.Common.{one-watched}
use Rattle.peers.proofs.MarksToldLaws.{covers-edit, covers-none, covers-peer, covers-replace, covers-set, covers-turn}
use Rattle.peers.proofs.MarksToldLaws.{covers-unset, first-watched, peer-watched}
use Rattle.peers.proofs.DoneLaws.{IsTextEdit}
use Rattle.peers.proofs.TakenLaws.{placed-at}
use Rattle.peers.proofs.marks.marks_before.Goals as goal

pub returns-in-Replace-clause-watched : goal.returns-in-Replace-clause-watched
returns-in-Replace-clause-watched g c = λ limits formed.
    let document = c.args.document.now in let request = c.args.request.now in
    IfOk-weaker c.list_mark.result _ _ (λ marks is. subst (AreWatched document) (sym is)
    (one-watched document (mark_key (widget_of document request) (literal "insert")))) c.list_mark.ensures

pub returns-in-Replace-clause-covers : goal.returns-in-Replace-clause-covers
returns-in-Replace-clause-covers g c = λ windows formed.
    let document = c.args.document.now in let request = c.args.request.now in
    IfOk-weaker c.list_mark.result _ _ (λ marks is. covers-replace request.caller.limits.now windows document
    (widget_of document request) c.args.command (texts_of request.switches.now) request.position (words_of request) marks
    (placed-at document document.widgets request.caller.seat formed.widgets c.requires) c.in-Replace.is is) c.list_mark.ensures

pub returns-in-EditUndo-clause-watched : goal.returns-in-EditUndo-clause-watched
returns-in-EditUndo-clause-watched g c = λ limits formed.
    IfOk-weaker c.list_marks.result _ _ (λ marks is. subst (AreWatched c.args.document.now) (sym is)
    (listed-watched limits c.args.document.now formed)) c.list_marks.ensures

pub returns-in-EditUndo-clause-covers : goal.returns-in-EditUndo-clause-covers
returns-in-EditUndo-clause-covers g c = λ windows _.
    let document = c.args.document.now in let request = c.args.request.now in
    let edits : IsTextEdit c.args.command = elim c.in-EditUndo.is [
      | inl undo ↦ subst IsTextEdit (sym undo) tt
      | inr redo ↦ subst IsTextEdit (sym redo) tt
    ] in
    IfOk-weaker c.list_marks.result _ _ (λ marks is. covers-edit request.caller.limits.now windows document
    (widget_of document request) c.args.command (texts_of request.switches.now) request.position (words_of request)
    marks edits is) c.list_marks.ensures

pub returns-in-MarkSet-clause-watched : goal.returns-in-MarkSet-clause-watched
returns-in-MarkSet-clause-watched g c = λ limits formed.
    let document = c.args.document.now in let request = c.args.request.now in
    IfOk-weaker c.first_mark.result _ _ (λ marks is. subst (AreWatched document) (sym is)
    (first-watched limits [] document (widget_of document request) (words_of request)))
    c.first_mark.ensures

pub returns-in-MarkSet-clause-covers : goal.returns-in-MarkSet-clause-covers
returns-in-MarkSet-clause-covers g c = λ windows _.
    let document = c.args.document.now in let request = c.args.request.now in
    IfOk-weaker c.first_mark.result _ _ (λ marks is. elim c.in-MarkSet.is [
      | inl set ↦ covers-set request.caller.limits.now windows document (widget_of document request) c.args.command
          (texts_of request.switches.now) request.position (words_of request) marks set is
      | inr turn ↦ covers-turn request.caller.limits.now windows document (widget_of document request) c.args.command
          (texts_of request.switches.now) request.position (words_of request) marks turn is
    ]) c.first_mark.ensures

pub returns-in-MarkUnset-clause-covers : goal.returns-in-MarkUnset-clause-covers
returns-in-MarkUnset-clause-covers g c = λ windows _.
    let document = c.args.document.now in let request = c.args.request.now in
    IfOk-weaker c.list_shared_marks.result _ _ (λ marks left. covers-unset request.caller.limits.now windows document
    (widget_of document request) c.args.command (texts_of request.switches.now) request.position (words_of request) marks
    c.in-MarkUnset.is left) c.list_shared_marks.ensures.all

pub returns-in-PeerCreate-clause-watched : goal.returns-in-PeerCreate-clause-watched
returns-in-PeerCreate-clause-watched g c = λ limits formed.
    let document = c.args.document.now in let request = c.args.request.now in
    IfOk-weaker c.new_marks.result _ _ (λ marks is. subst (AreWatched document) (sym is)
    (peer-watched limits [] document (widget_of document request) (words_of request)))
    c.new_marks.ensures

pub returns-in-PeerCreate-clause-covers : goal.returns-in-PeerCreate-clause-covers
returns-in-PeerCreate-clause-covers g c = λ windows _.
    let document = c.args.document.now in let request = c.args.request.now in
    IfOk-weaker c.new_marks.result _ _ (λ marks is. covers-peer request.caller.limits.now windows document
    (widget_of document request) c.args.command (texts_of request.switches.now) request.position (words_of request) marks
    c.in-PeerCreate.is is) c.new_marks.ensures

pub returns-in_default : goal.returns-in_default
returns-in_default g c =
    let document = c.args.document.now in let request = c.args.request.now in record {
      watched = λ limits formed. subst (AreWatched document) (sym c.new.ensures) (none-watched document);
      covers = λ windows formed. subst (λ marks.
          TakesMarksBut marks document (done c.args.command document (called windows document request)))
          (sym c.new.ensures) (covers-none request.caller.limits.now windows document (widget_of document request)
          c.args.command (texts_of request.switches.now) request.position (words_of request)
          (placed-at document document.widgets request.caller.seat formed.widgets c.requires) c.in_default.not-Replace
          c.in_default.not-EditUndo c.in_default.not-EditRedo c.in_default.not-MarkSet c.in_default.not-MarkGravity
          c.in_default.not-MarkUnset c.in_default.not-PeerCreate);
      frugal = λ _. refl;
    }
