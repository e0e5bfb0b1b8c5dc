use Rattle.text_cursor.proofs.Common.{sym, ap, ◌∙◌, ◌++◌, map-id}
use Rattle.std.proofs.lemmas.Iterator.{YieldsList-from_chars}
use Rattle.std.proofs.lemmas.Iterator.Consumers.{YieldsList-end}
use Rattle.text_cursor.proofs.cursors.push_chars.Goals as goal

pub returns : goal.returns
returns c =
    let all = YieldsList-end (YieldsList-from_chars c.args.text.now c.utf8.text cc) c.loop-character.yielded _
    c.loop-character.yielded_by _ _ c.in-None.is c.next.ensures.steps in
    c.loop-character.invariant ∙ ap (λ text. c.args.characters.now.items ++ text) (sym (map-id c.loop-character.yielded)
    ∙ all.0)
