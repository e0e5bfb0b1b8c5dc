-- What a step makes of a text that is one long line is what it makes of the text.
use Rattle.line_lists.proofs.Common.{◌≡◌, length, refl, arith, Step, Remove, Insert, SetTag, ClearTags, ClearSlot}
use Rattle.line_lists.proofs.Common.{PutMark, TakeMark, StepFitsIn, after_step, LineContent, made, text_of}
use Rattle.line_lists.proofs.StepLaws.{cells-bare, cells-cleared_all, cells-inserted, cells-removed, cells-tagged}

pub text-made : (step : Step) (line : LineContent) → StepFitsIn step (length line.columns) →
    text_of (made step line) ≡ after_step step (text_of line)
text-made (Remove from to) line fits = λ i. record {
  cells = cells-removed from to line.columns fits.0 i;
  marks = (after_step (Remove from to) (text_of line)).marks;
}
text-made (Insert at text slots) line fits = λ i.
    record {
      cells = cells-inserted at text slots line.columns (omega (arith, fits)) i;
      marks = (after_step (Insert at text slots) (text_of line)).marks;
    }
text-made (SetTag from to slot on) line fits =
    λ i. record { cells = cells-tagged from to slot.0 on line.columns fits.0 fits.1 i; marks = line.marks }
text-made (ClearTags at) line fits = λ i. record { cells = cells-bare at line.columns fits i; marks = line.marks }
text-made (ClearSlot slot) line fits =
    λ i. record { cells = cells-cleared_all slot.0 line.columns i; marks = line.marks }
text-made (PutMark number place) line fits = refl
text-made (TakeMark number) line fits = refl
