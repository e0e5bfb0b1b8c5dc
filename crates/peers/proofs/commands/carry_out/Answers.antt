use Rattle.peers.proofs.Common.{subst, sym, IfOk, Err, Memory, texts_of, [], ◌≡◌, ◌≢◌, done, Insert, Delete, Replace}
use Rattle.peers.proofs.Common.{EditUndo, EditRedo, TagAdd, TagRemove, TagDelete, called, widget_of, words_of}
use Rattle.peers.proofs.ToldLaws.{answered-memory, does-answered, does-edited, answered-unmarked, edited-unmarked}
use Rattle.peers.proofs.ToldLaws.{quiet-else, told-edited, told-quiet}
use Rattle.peers.proofs.commands.carry_out.Goals as goal

pub returns-in-Insert-clause-does : goal.returns-in-Insert-clause-does
returns-in-Insert-clause-does g c = λ windows.
    does-edited c.insert.result c.edited.result c.edited.ensures (rw c.in-Insert.is (c.insert.ensures.does))

pub returns-in-Insert-clause-tells : goal.returns-in-Insert-clause-tells
returns-in-Insert-clause-tells g c = λ windows.
    let request = c.args.request.now in let document = c.args.document.now in
    rw (c.edited.ensures, c.in-Insert.is) (told-edited (done Insert document (called windows document request)) document
    c.insert.new.document request.caller.follows c.insert.result c.insert.ensures.told)

pub returns-in-Insert-clause-unmarked : goal.returns-in-Insert-clause-unmarked
returns-in-Insert-clause-unmarked g c =
    rw c.edited.ensures (edited-unmarked c.insert.result)

pub returns-in-Delete-clause-does : goal.returns-in-Delete-clause-does
returns-in-Delete-clause-does g c = λ windows.
    does-edited c.delete.result c.edited-in-Delete.result c.edited-in-Delete.ensures
    (rw c.in-Delete.is (c.delete.ensures.does c.args.request.now.caller.limits.now))

pub returns-in-Delete-clause-tells : goal.returns-in-Delete-clause-tells
returns-in-Delete-clause-tells g c = λ windows.
    let request = c.args.request.now in let document = c.args.document.now in
    rw (c.edited-in-Delete.ensures, c.in-Delete.is) (told-edited (done Delete document (called windows document request)) document
    c.delete.new.document request.caller.follows c.delete.result c.delete.ensures.told)

pub returns-in-Delete-clause-unmarked : goal.returns-in-Delete-clause-unmarked
returns-in-Delete-clause-unmarked g c =
    rw c.edited-in-Delete.ensures (edited-unmarked c.delete.result)

pub returns-in-Replace-clause-does : goal.returns-in-Replace-clause-does
returns-in-Replace-clause-does g c = λ windows.
    does-edited c.replace.result c.edited-in-Replace.result c.edited-in-Replace.ensures
    (rw c.in-Replace.is (c.replace.ensures.does))

pub returns-in-Replace-clause-tells : goal.returns-in-Replace-clause-tells
returns-in-Replace-clause-tells g c = λ windows.
    let request = c.args.request.now in let document = c.args.document.now in
    rw (c.edited-in-Replace.ensures, c.in-Replace.is) (told-edited (done Replace document (called windows document request)) document
    c.replace.new.document request.caller.follows c.replace.result c.replace.ensures.told)

pub returns-in-Replace-clause-unmarked : goal.returns-in-Replace-clause-unmarked
returns-in-Replace-clause-unmarked g c =
    rw c.edited-in-Replace.ensures (edited-unmarked c.replace.result)

pub returns-in-EditUndo-clause-does : goal.returns-in-EditUndo-clause-does
returns-in-EditUndo-clause-does g c = λ windows.
    does-edited c.edit_undo.result c.edited-in-EditUndo.result c.edited-in-EditUndo.ensures
    (rw c.in-EditUndo.is (c.edit_undo.ensures.does))

pub returns-in-EditUndo-clause-tells : goal.returns-in-EditUndo-clause-tells
returns-in-EditUndo-clause-tells g c = λ windows.
    let request = c.args.request.now in let document = c.args.document.now in
    rw (c.edited-in-EditUndo.ensures, c.in-EditUndo.is) (told-edited (done EditUndo document (called windows document request)) document
    c.edit_undo.new.self request.caller.follows c.edit_undo.result c.edit_undo.ensures.told)

pub returns-in-EditUndo-clause-unmarked : goal.returns-in-EditUndo-clause-unmarked
returns-in-EditUndo-clause-unmarked g c =
    rw c.edited-in-EditUndo.ensures (edited-unmarked c.edit_undo.result)

pub returns-in-EditRedo-clause-does : goal.returns-in-EditRedo-clause-does
returns-in-EditRedo-clause-does g c = λ windows.
    does-edited c.edit_redo.result c.edited-in-EditRedo.result c.edited-in-EditRedo.ensures
    (rw c.in-EditRedo.is (c.edit_redo.ensures.does))

pub returns-in-EditRedo-clause-tells : goal.returns-in-EditRedo-clause-tells
returns-in-EditRedo-clause-tells g c = λ windows.
    let request = c.args.request.now in let document = c.args.document.now in
    rw (c.edited-in-EditRedo.ensures, c.in-EditRedo.is) (told-edited (done EditRedo document (called windows document request)) document
    c.edit_redo.new.self request.caller.follows c.edit_redo.result c.edit_redo.ensures.told)

pub returns-in-EditRedo-clause-unmarked : goal.returns-in-EditRedo-clause-unmarked
returns-in-EditRedo-clause-unmarked g c =
    rw c.edited-in-EditRedo.ensures (edited-unmarked c.edit_redo.result)

pub returns-in-TagAdd-clause-does : goal.returns-in-TagAdd-clause-does
returns-in-TagAdd-clause-does g c = λ windows.
    does-edited c.tag_add.result c.edited-in-TagAdd.result c.edited-in-TagAdd.ensures
    (rw c.in-TagAdd.is (c.tag_add.ensures.does))

pub returns-in-TagAdd-clause-tells : goal.returns-in-TagAdd-clause-tells
returns-in-TagAdd-clause-tells g c = λ windows.
    let request = c.args.request.now in let document = c.args.document.now in
    rw (c.edited-in-TagAdd.ensures, c.in-TagAdd.is) (told-edited (done TagAdd document (called windows document request)) document
    c.tag_add.new.document request.caller.follows c.tag_add.result c.tag_add.ensures.told)

pub returns-in-TagAdd-clause-unmarked : goal.returns-in-TagAdd-clause-unmarked
returns-in-TagAdd-clause-unmarked g c =
    rw c.edited-in-TagAdd.ensures (edited-unmarked c.tag_add.result)

pub returns-in-TagRemove-clause-does : goal.returns-in-TagRemove-clause-does
returns-in-TagRemove-clause-does g c = λ windows.
    does-edited c.tag_remove.result c.edited-in-TagRemove.result c.edited-in-TagRemove.ensures
    (rw c.in-TagRemove.is (c.tag_remove.ensures.does c.args.request.now.caller.limits.now))

pub returns-in-TagRemove-clause-tells : goal.returns-in-TagRemove-clause-tells
returns-in-TagRemove-clause-tells g c = λ windows.
    let request = c.args.request.now in let document = c.args.document.now in
    rw (c.edited-in-TagRemove.ensures, c.in-TagRemove.is) (told-edited (done TagRemove document (called windows document request)) document
    c.tag_remove.new.document request.caller.follows c.tag_remove.result c.tag_remove.ensures.told)

pub returns-in-TagRemove-clause-unmarked : goal.returns-in-TagRemove-clause-unmarked
returns-in-TagRemove-clause-unmarked g c =
    rw c.edited-in-TagRemove.ensures (edited-unmarked c.tag_remove.result)

pub returns-in-TagDelete-clause-does : goal.returns-in-TagDelete-clause-does
returns-in-TagDelete-clause-does g c = λ windows.
    does-edited c.delete_tags.result c.edited-in-TagDelete.result c.edited-in-TagDelete.ensures
    (rw c.in-TagDelete.is (c.delete_tags.ensures.does c.args.request.now.caller.limits.now))

pub returns-in-TagDelete-clause-tells : goal.returns-in-TagDelete-clause-tells
returns-in-TagDelete-clause-tells g c = λ windows.
    let request = c.args.request.now in let document = c.args.document.now in
    rw (c.edited-in-TagDelete.ensures, c.in-TagDelete.is) (told-edited (done TagDelete document (called windows document request)) document
    c.delete_tags.new.self request.caller.follows c.delete_tags.result c.delete_tags.ensures.told)

pub returns-in-TagDelete-clause-unmarked : goal.returns-in-TagDelete-clause-unmarked
returns-in-TagDelete-clause-unmarked g c =
    rw c.edited-in-TagDelete.ensures (edited-unmarked c.delete_tags.result)

pub answer-requires-clause-quiet : goal.answer-requires-clause-quiet
answer-requires-clause-quiet g c =
    quiet-else c.args.command c.in_default.not-Insert c.in_default.not-Delete c.in_default.not-Replace
    c.in_default.not-EditUndo c.in_default.not-EditRedo c.in_default.not-TagAdd c.in_default.not-TagRemove
    c.in_default.not-TagDelete

pub returns-in_default-clause-does : goal.returns-in_default-clause-does
returns-in_default-clause-does g c = λ windows.
    does-answered c.answer.result c.answered.result c.answered.ensures
    (c.answer.ensures.does windows)

pub returns-in_default-clause-tells : goal.returns-in_default-clause-tells
returns-in_default-clause-tells g c = λ windows.
    let request = c.args.request.now in let document = c.args.document.now in
    rw c.answered.ensures (told-quiet request.caller.limits.now document c.answer.new.document request.caller.follows
    windows (widget_of document request) (texts_of request.switches.now) request.position (words_of request)
    c.args.command c.answer.result
    (quiet-else c.args.command
    c.in_default.not-Insert c.in_default.not-Delete c.in_default.not-Replace
    c.in_default.not-EditUndo c.in_default.not-EditRedo c.in_default.not-TagAdd c.in_default.not-TagRemove
    c.in_default.not-TagDelete)
    (c.answer.ensures.does windows))

pub returns-in_default-clause-unmarked : goal.returns-in_default-clause-unmarked
returns-in_default-clause-unmarked g c =
    subst (λ made. IfOk made (λ told. told.marks ≡ [])) (sym c.answered.ensures)
    (answered-unmarked c.answer.result)

pub returns-in_default-clause-frugal : goal.returns-in_default-clause-frugal
returns-in_default-clause-frugal g c = λ frugal.
    subst (λ result. result ≢ Err Memory) (sym c.answered.ensures)
    (answered-memory c.answer.result (c.answer.ensures.frugal frugal))
