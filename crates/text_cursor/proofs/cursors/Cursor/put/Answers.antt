use Rattle.text_cursor.proofs.Common.{◌≡◌, ◌+◌, ◌++◌, ◌∷◌, [], length, Some, refl, ap, ap₂, ◌∙◌, arith, side_parts}
use Rattle.text_cursor.proofs.CursorLaws.{puts-some}
use Rattle.text_cursor.proofs.cursors.Cursor.put.Goals as goal

pub returns : goal.returns
returns c =
    let own = c.args.self.now in
    let counted = c.requires.count in
    let from_len = own.fresh.ok.0 in let to_len = c.push_chars.new.characters.ok.0 in
    let from_is : c.len-from.result ≡ length own.fresh.items = c.len-from.ensures ∙ from_len in
    let to_is : c.len.result ≡ length c.push_chars.new.characters.items = c.len.ensures ∙ to_len in
    puts-some c.args.text.now c.args.slots c.requires.cursor (let h = c.if-count-eq0.false in
    omega (arith, counted, h)) (record {
      ahead = c.in_ok-push.ensures.turned ∙ c.in_ok-make_room.ensures.turned;
      turned = refl;
    })
    (c.in_ok-push_chars.ensures ∙ ap (λ text. own.fresh.items ++ text) c.as_str.ensures.characters)
    (c.in_ok-push.ensures.items
    ∙ ap (λ parts. parts ++ record { from = c.len-from.result; to = c.len.result; slots = Some c.args.slots } ∷ [])
    c.in_ok-make_room.ensures.parts ∙ ap₂ (λ (a b : _). side_parts own.front
    ++ record { from = a; to = b; slots = Some c.args.slots } ∷ []) from_is to_is)
    refl refl (ap (λ n. own.at + n) counted) (ap (λ n. own.len + n) counted)
    (let fits = c.requires.fits in omega (arith, fits, counted))
