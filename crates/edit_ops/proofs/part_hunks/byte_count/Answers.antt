use Rattle.edit_ops.proofs.Common.{◌≡◌, ◌+◌, ◌++◌, ◌∷◌, [], ap, ◌∙◌, sym, arith, length, take, take_more, encode_utf8}
use Rattle.edit_ops.proofs.Common.{encode_utf8_all}
use Rattle.edit_ops.proofs.SpotLaws.{bytes-push}
use Rattle.edit_ops.proofs.part_hunks.byte_count.Goals as goal

pub loop-character-preserved : goal.loop-character-preserved
loop-character-preserved c =
    let text = c.args.characters.now in
    let index = c.loop-character.character-index in
    let character = c.character-item.result in
    let more : length (encode_utf8_all (take (index + 1) text))
    ≡ length (encode_utf8_all (take index text)) + length (encode_utf8 character) =
    ap (λ t. length (encode_utf8_all t)) (take_more text index character c.loop-character-test.true
    ∙ ap (λ d. take index text ++ d ∷ []) (sym c.character-item.is)) ∙ bytes-push (take index text) character in
    let was = c.loop-character.invariant in
    let adds = c.saturating_add-count.ensures in
    let size = c.len_utf8.ensures.len in
    omega (arith, more, was, adds, size)
