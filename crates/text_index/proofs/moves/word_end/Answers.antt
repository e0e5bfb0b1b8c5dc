use Rattle.text_index.proofs.Common.{part_of, ◌<◌, ◌≤◌, ◌-◌, length, ◌∙◌, arith, shown, is_word}
use Rattle.text_index.proofs.ViewLaws.{length-shown}
use Rattle.text_index.proofs.MoveLaws.{end-of-last, end-of-run}
use Rattle.text_index.proofs.moves.word_end.Goals as goal

pub returns-then-left-le1-clause-value : goal.returns-then-left-le1-clause-value
returns-then-left-le1-clause-value g c =
    let view = c.args.view.now in
    let text = shown (part_of view) in
    let within : c.args.place ≤ length text = omega (
      arith,
      length-shown (part_of view) view.whole_lines,
      c.requires.within,
    ) in
    end-of-last is_word text c.args.place within (omega (arith, c.if-left-le1.true, c.len.ensures))

pub returns-clause-value : goal.returns-clause-value
returns-clause-value g c =
    let view = c.args.view.now in
    let text = shown (part_of view) in
    let more : 1 < length text - c.args.place = omega (arith, c.if-left-le1.false, c.len.ensures) in
    c.max.ensures ∙ end-of-run is_word text c.args.place c.run_end.result more c.run_end.ensures.value
