use Rattle.text_model.proofs.Common.{arith}
use Rattle.text_model.proofs.OneWordSteps.{one_word}
use Rattle.text_model.proofs.slot_word.SlotWord.of_bits.Goals.{then-bits-eq0, else-bits-eq0}
use Rattle.text_model.proofs.slot_word.SlotWord.of_bits.Goals as goal

pub returns-clause-word : goal.returns-clause-word
returns-clause-word c =
    one_word c.if-bits-eq0.result c.args.bits (record {
      within = elim c.if-bits-eq0.branch [
        | then-bits-eq0 w ↦ omega (arith, w.result-is)
        | else-bits-eq0 w ↦ omega (arith, w.result-is, c.requires)
      ];
      fits = c.ranges.bits.fits;
      none = λ is. elim c.if-bits-eq0.branch [
        | then-bits-eq0 w ↦ w.result-is
        | else-bits-eq0 w ↦ absurd (w.if-bits-eq0.false is)
      ];
    })
