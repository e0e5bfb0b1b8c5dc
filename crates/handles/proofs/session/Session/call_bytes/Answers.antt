use Rattle.handles.proofs.Common.{ap, refl, Err, texts_of, state_of, memory_said}
use Rattle.handles.proofs.ToldLaws.{called-both, called_otherwise-both, memory-no_answer, not_text-no_answer}
use Rattle.handles.proofs.ToldLaws.{wrong_lengths-no_answer}
use Rattle.handles.specs.declared.ends.Given.TheVariants as given
use Rattle.handles.specs.declared.ends.CallEnd.TheVariants as call
use Rattle.handles.proofs.session.Session.call_bytes.Goals as goal

pub returns-in-Ok : goal.returns-in-Ok
returns-in-Ok c =
    let both = called-both c.args.marks c.args.tells (state_of c.args.self.now) (state_of c.forget_told.new.self)
    (state_of c.call.new.self) c.args.lengths.now c.args.bytes.now (texts_of c.in-Ok.words.items) c.call.result
    c.forget_told.ensures c.in-Ok.ensures.words c.in-Ok.ensures.fits c.in-Ok.ensures.texts c.call.ensures.plain
    c.call.ensures.told in
    record { plain = both.0; told = both.1 }

pub returns-in-Err-Memory : goal.returns-in-Err-Memory
returns-in-Err-Memory c =
    let mid = state_of c.forget_told.new.self in
    let both = called_otherwise-both c.args.marks c.args.tells (state_of c.args.self.now) mid
    (record mid { said = memory_said }) c.args.lengths.now c.args.bytes.now (call.Given given.Memory) c.forget_told.ensures refl memory-no_answer in
    record { plain = both.0; told = both.1 }

pub returns-in-Err-NotText : goal.returns-in-Err-NotText
returns-in-Err-NotText c =
    let mid = state_of c.forget_told.new.self in
    let both = called_otherwise-both c.args.marks c.args.tells (state_of c.args.self.now) mid mid c.args.lengths.now
    c.args.bytes.now call.NotText c.forget_told.ensures
    (refl, c.in-Err-NotText.ensures.not_text (ap (λ f. Err f) c.in-Err-NotText.field-0-is))
    not_text-no_answer in
    record { plain = both.0; told = both.1 }

pub returns-in-Err-Lengths : goal.returns-in-Err-Lengths
returns-in-Err-Lengths c =
    let mid = state_of c.forget_told.new.self in
    let both = called_otherwise-both c.args.marks c.args.tells (state_of c.args.self.now) mid mid c.args.lengths.now
    c.args.bytes.now call.WrongLengths c.forget_told.ensures
    (refl, c.in-Err-Lengths.ensures.lengths (ap (λ f. Err f) c.in-Err-Lengths.field-0-is))
    wrong_lengths-no_answer in
    record { plain = both.0; told = both.1 }
