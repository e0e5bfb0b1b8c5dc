use Rattle.text_cursor.proofs.Common.{◌+◌, take, ap, sym, ◌∙◌, eq-eqb, ne_eqb, if◌then◌else◌, is_newline, last_line}
use Rattle.text_cursor.proofs.LookLaws.{last-more}
use Rattle.text_cursor.proofs.cursors.last_newline.Goals.{then-character-eq10, else-character-eq10}
use Rattle.text_cursor.proofs.cursors.last_newline.Goals as goal

pub loop-index-preserved : goal.loop-index-preserved
loop-index-preserved c =
    let text = c.args.characters.now in
    let index = c.loop-index.index in
    let found = c.index-characters-index.result in
    let more = last-more text index found c.loop-index-test.true
    ∙ ap (λ x. if is_newline x then index + 1 else last_line (take index text)) (sym c.index-characters-index.is) in
    elim c.if-character-eq10.branch [
      | then-character-eq10 w ↦
          w.line-is ∙ sym (more ∙ ap (λ b. if b then index + 1
          else last_line (take index text)) (eq-eqb found 10 w.if-character-eq10.true))
      | else-character-eq10 w ↦
          w.line-is ∙ c.loop-index.invariant
          ∙ sym (more ∙ ap (λ b. if b then index + 1
          else last_line (take index text)) (ne_eqb found 10 w.if-character-eq10.false))
    ]
