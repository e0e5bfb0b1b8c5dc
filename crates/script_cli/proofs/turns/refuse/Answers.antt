use Rattle.script_cli.proofs.Common.{true, refl, ap, [], Some, inr, Err, Ok, Memory, piece, last_piece, Meets}
use Rattle.script_cli.proofs.TurnLaws.{meets, meets_fault}
use Rattle.script_cli.specs.declared.turns.Met.TheVariants as met
use Rattle.script_cli.proofs.turns.refuse.Goals as goal

pub returns-in-Ok-true-clause-met : goal.returns-in-Ok-true-clause-met
returns-in-Ok-true-clause-met g c =
    λ world.
    let is = ap Ok c.in-Ok-true.field-0-test in
    let taken = c.in-Ok-true.ensures.skipped is in
    let text = piece [] (Err Memory) in (
      text,
      meets world world c.args.splitter.now c.skip_command.new.self taken.0 true text (c.in-Ok-true.ensures.shorter is)
          taken.1 (inr (refl, refl, refl)),
      rw c.of_reply.ensures at c.push_line.ensures.bytes,
    )

pub returns-in-Err-clause-met : goal.returns-in-Err-clause-met
returns-in-Err-clause-met g c =
    λ world.
    let old = c.args.splitter.now in let new = c.skip_command.new.self in let fault = c.in-Err.fault in
    let text = last_piece (Some fault) in
    let stops : Meets old.finished world old.rest world new.rest met.Fault text =
    (fault, meets_fault old new fault c.requires.no_fault c.in-Err.ensures.fault.1, refl) in
    (text, rw c.stop.ensures.met stops, c.stop.ensures.text)
