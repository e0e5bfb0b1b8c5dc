use Rattle.script_cli.proofs.Common.{refl, ap, Some, Ok, Err, last_piece, Meets, is_refusal, texts_of}
use Rattle.script_cli.proofs.TurnLaws.{meets, meets_command, meets_fault}
use Rattle.script_cli.specs.declared.turns.Met.TheVariants as met
use Rattle.script_cli.proofs.turns.take_turn.Goals as goal

pub returns-in-Ok-true-clause-met : goal.returns-in-Ok-true-clause-met
returns-in-Ok-true-clause-met g c =
    let old = c.args.splitter.now in let new = c.read_command.new.self in let met = c.answer.result.met in
    let answered = rw c.deref.ensures.value at c.answer.ensures.met in
    let is = ap Ok c.in-Ok-true.field-0-test in let h = c.in-Ok-true.ensures in
    let text = answered.0 in (
      text,
      meets_command met old.finished c.args.world.now c.answer.new.world old.rest new.rest text c.answer.ensures.going
          (meets c.args.world.now c.answer.new.world old new (texts_of c.read_command.new.words.items) (is_refusal met)
          text (h.shorter is) (h.command is) answered.1),
      answered.2,
    )

pub returns-in-Memory-clause-met : goal.returns-in-Memory-clause-met
returns-in-Memory-clause-met g c =
    let kept = c.in-Err.ensures.memory (ap Err c.in-Memory.is) in
    rw kept.0 at c.refuse.ensures.met c.args.world.now

pub returns-in_default-clause-met : goal.returns-in_default-clause-met
returns-in_default-clause-met g c =
    let world = c.args.world.now in
    let old = c.args.splitter.now in let new = c.read_command.new.self in let fault = c.in-Err.fault in
    let text = last_piece (Some fault) in let d = c.in_default in
    let stops : Meets old.finished world old.rest world new.rest met.Fault text =
    (fault, meets_fault old new fault c.requires.no_fault (c.in-Err.ensures.fault c.in_default.not-Memory), refl) in
    (text, rw c.stop.ensures.met stops, c.stop.ensures.text)
