use Rattle.handles.proofs.Common.{◌≢◌, [], ap, rules, Err, texts_of, state_of}
use Rattle.tcl_words.specs.declared.fault.ScriptFault.TheVariants.{Memory}
use Rattle.handles.proofs.ToldLaws.{turned-both, turned_otherwise-both, turns-back, turns-end, turns-fault}
use Rattle.handles.proofs.ToldLaws.{end-no_answer}
use Rattle.handles.specs.declared.ends.TurnEnd.TheVariants as turn
use Rattle.handles.proofs.session.Session.take_turn.Goals as goal

pub returns-in-Ok-Some : goal.returns-in-Ok-Some
returns-in-Ok-Some c =
    let taken = rw c.in-Ok-Some.field-0-is at c.in-Ok-Some.ensures.command in
    let both = turned-both c.args.marks c.args.tells (state_of c.args.self.now) (state_of c.forget_told.new.self)
    c.next_command.new.self (state_of c.call-given.new.self) (state_of c.note.new.self)
    (texts_of c.in-Ok-Some.words.items) c.call-given.result c.forget_told.ensures taken c.call-given.ensures.plain
    c.call-given.ensures.told c.note.ensures in
    record { plain = both.0; told = both.1 }

pub returns-in-Ok-None : goal.returns-in-Ok-None
returns-in-Ok-None c =
    let mid = state_of c.forget_told.new.self in
    let none = rw c.in-Ok-None.field-0-is at c.in-Ok-None.ensures.none in
    let both = turned_otherwise-both c.args.marks c.args.tells (state_of c.args.self.now) mid
    (record mid { script = c.next_command.new.self; said = [] }) turn.End c.forget_told.ensures
    (turns-end mid c.next_command.new.self none) end-no_answer in
    record { plain = both.0; told = both.1 }

pub returns-in-Err-Memory : goal.returns-in-Err-Memory
returns-in-Err-Memory c =
    let mid = state_of c.forget_told.new.self in
    let new = state_of c.skip.new.self in
    let same = (c.in-Err-Memory.ensures.memory (ap (λ f. Err f) c.in-Err-Memory.field-0-is)).0 in
    let both = turned_otherwise-both c.args.marks c.args.tells (state_of c.args.self.now) mid new c.skip.result
    c.forget_told.ensures (turns-back mid new c.next_command.new.self c.skip.result same c.skip.ensures.turns) c.skip.ensures.refused in
    record { plain = both.0; told = both.1 }

pub returns-in-Err : goal.returns-in-Err
returns-in-Err c =
    let mid = state_of c.forget_told.new.self in
    let new = state_of c.stop.new.self in
    let other : c.in-Err.fault ≢ Memory = search rules in
    let met = turns-fault mid new c.next_command.new.self c.in-Err.fault c.stop.result (c.in-Err.ensures.fault other)
    c.stop.ensures.state c.stop.ensures.turn in
    let both = turned_otherwise-both c.args.marks c.args.tells (state_of c.args.self.now) mid new c.stop.result
    c.forget_told.ensures met.0 met.1 in
    record { plain = both.0; told = both.1 }
