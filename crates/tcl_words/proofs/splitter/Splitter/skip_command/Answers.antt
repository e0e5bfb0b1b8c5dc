use Rattle.tcl_words.proofs.Common.{refl}
use Rattle.tcl_words.proofs.Splitting.{takes}
use Rattle.tcl_words.proofs.splitter.Splitter.skip_command.Goals as goal

pub returns-clause-skipped : goal.returns-clause-skipped
returns-clause-skipped c =
    let k = rw c.in-Some.is at c.in_ok-len.ensures.found in
    λ e. (
      k.words,
      takes c.args.self.now c.find_command.new.self c.pass.new.self c.in-Some.len k.words
          c.in_ok-len.ensures.same k c.pass.ensures refl,
    )
