use Rattle.tcl_words.proofs.Common.{take_rest}
use Rattle.tcl_words.proofs.Finding.{progress_more}
use Rattle.tcl_words.proofs.progress.Progress.read_text.Goals as goal

pub returns-then-self-rest : goal.returns-then-self-rest
returns-then-self-rest c = record {
  progress = progress_more c.text_front.result.len c.requires
      (take_rest c.args.rest.now c.args.self.now.valid) c.text_front.ensures.within c.text_front.ensures.text;
}
