use Rattle.tcl_words.proofs.Common.{sym, ◌∙◌, chars_past_char}
use Rattle.tcl_words.proofs.pieces.first_char.Goals as goal

pub returns : goal.returns
returns c =
    let next = c.next.new.self.rest.now in
    let split = sym c.chars.ensures.rest ∙ (rw c.unwrap.ensures at c.next.ensures.steps.0) in
    (next, split, chars_past_char c.args.text.now next c.unwrap.result c.utf8.text split)
