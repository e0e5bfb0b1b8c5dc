use Rattle.text_index.proofs.Common.{part_of, ◌<◌, length, sym, ◌∙◌, arith, shown, word_front, is_word}
use Rattle.text_index.proofs.ViewLaws.{length-shown}
use Rattle.text_index.proofs.MoveLaws.{front-of-run, moves, stays}
use Rattle.text_index.proofs.moves.word_start.Goals as goal

pub returns-then-place-len-clause-value : goal.returns-then-place-len-clause-value
returns-then-place-len-clause-value g c =
    let view = c.args.view.now in
    let text = shown (part_of view) in
    stays text c.args.place (word_front is_word text c.args.place) (c.if-place-len.true ∙ c.len.ensures)

pub returns-clause-value : goal.returns-clause-value
returns-clause-value g c =
    let view = c.args.view.now in
    let text = shown (part_of view) in
    let within : c.args.place < length text = omega (
      arith,
      length-shown (part_of view) view.whole_lines,
      c.requires.within,
      c.if-place-len.false,
      c.len.ensures,
    ) in
    moves text c.args.place (word_front is_word text c.args.place) c.min.result (λ same.
    c.if-place-len.false (same ∙ sym c.len.ensures))
    (c.min.ensures
    ∙ front-of-run is_word text c.args.place _ c.run_begin.result within c.run_begin.ensures.value (omega arith))
