use Rattle.segments.proofs.Common.{◌≡◌, ◌∷◌, ◌++◌, drop, sym, ap, ◌∙◌, chars, encode_utf8, slice_get, chars_past_char}
use Rattle.segments.proofs.Common.{IsUtf8-drop}
use Rattle.segments.proofs.TextLaws.{found_at}
use Rattle.segments.proofs.characters.Characters.at.Goals as goal

pub returns : goal.returns
returns c =
    let text = c.as_str-text.result.now in
    let byte = c.byte_of.result in
    let column = c.args.column in
    let character = c.first_character.result in
    let found = c.first_character.ensures in
    let is : drop byte text ≡ encode_utf8 character ++ found.0 = sym c.range_from.ensures.value ∙ found.1 in
    let here : drop column (chars text) ≡ character ∷ chars found.0 = sym c.byte_of.ensures.behind
    ∙ chars_past_char (drop byte text) found.0 character
    (IsUtf8-drop text byte c.as_str-text.utf8 c.byte_of.ensures.boundary) is in
    ap (λ characters. slice_get characters column) (sym c.self.view_is ∙ ap chars (sym c.as_str-text.ensures.value))
    ∙ found_at (chars text) _ column character here
