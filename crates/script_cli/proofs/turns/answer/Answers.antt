use Rattle.script_cli.proofs.Common.{texts_of, piece}
use Rattle.script_cli.proofs.TurnLaws.{replies}
use Rattle.script_cli.proofs.turns.answer.Goals as goal

pub returns-clause-met : goal.returns-clause-met
returns-clause-met g c =
    let words = texts_of c.args.words.now in let made = c.call-reply.ensures.makes in
    let written = rw c.of_reply.ensures at c.push_line.ensures.bytes in
    let replied = replies c.args.world.now c.call-reply.new.self words c.call-reply.result made.reply made.world
    made.refused in
    (piece words c.call-reply.result, rw c.met_by.ensures.refusal replied, written)
