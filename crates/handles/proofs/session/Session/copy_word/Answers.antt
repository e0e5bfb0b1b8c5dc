use Rattle.handles.proofs.Common.{texts_of, word_given}
use Rattle.handles.proofs.ReadLaws.{word-found, no-word}
use Rattle.handles.proofs.RoomLaws.{copied-as, copied-nothing}
use Rattle.handles.proofs.session.Session.copy_word.Goals as goal

pub returns-in-Some : goal.returns-in-Some
returns-in-Some c =
    let found = c.in-Some.ensures.lookup in
    let words = c.args.self.now.words.items in
    let wanted = word_given (texts_of words) c.args.index in
    let same = word-found c.as_slice.result.now words c.args.index c.in-Some.word.now c.as_str.result.now
    c.as_slice.ensures.value found.3.0 found.1 c.as_str.ensures.value c.as_str.utf8 in
    let all = copied-as c.as_str.result.now wanted c.args.room.now c.copy_whole.new.room c.copy_whole.result same
    c.copy_whole.ensures.length c.copy_whole.ensures.copied in
    record { length = all.0; copied = all.1 }

pub returns-in-None : goal.returns-in-None
returns-in-None c =
    let words = c.args.self.now.words.items in
    let none = no-word c.as_slice.result.now words c.args.index c.as_slice.ensures.value c.in-None.ensures.lookup.3 in
    let all = copied-nothing (word_given (texts_of words) c.args.index) c.args.room.now none in
    record { length = all.0; copied = all.1 }
