use Rattle.segments.proofs.Common.{◌≡◌, ◌≤◌, ap, ◌∙◌, arith, length, chars, string_bytes, IsUtf8-string_bytes, inserted}
use Rattle.segments.proofs.Common.{length-inserted, insert_slice}
use Rattle.segments.proofs.TextLaws.{fewer_characters, inserted_text}
use Rattle.segments.proofs.characters.Characters.insert.Goals.{In_ok-insert_str}
use Rattle.segments.proofs.characters.Characters.insert.Goals as goal

pub overflow_add-self : goal.overflow_add-self
overflow_add-self c =
    omega (
      arith,
      c.in_ok-insert_str.ensures.len,
      c.self.inside.text.bytes.ok.0,
      fewer_characters (string_bytes c.self.inside.text) (IsUtf8-string_bytes c.self.inside.text),
      fewer_characters c.args.text.now c.utf8.text,
      c.self.invariant,
      c.count_characters.ensures,
    )

-- the characters then
new : (c : In_ok-insert_str) → chars (string_bytes c.insert_str.new.self)
    ≡ inserted c.args.column (chars c.args.text.now) (chars (string_bytes c.self.inside.text))
new c =
    let byte = c.byte_of-byte.ensures in
    inserted_text c.args.text.now c.byte_of-byte.result c.args.column c.as_str.ensures.value c.as_str.utf8 c.utf8.text
    byte.boundary byte.front byte.behind (c.in_ok-insert_str.ensures.bytes
    ∙ ap (λ bytes. insert_slice bytes c.byte_of-byte.result c.args.text.now) c.make_room.ensures)

pub invariant_of-self-2 : goal.invariant_of-self-2
invariant_of-self-2 c =
    let old = chars (string_bytes c.self.inside.text) in
    let within : c.args.column ≤ length old = omega (arith, c.requires, ap length c.self.view_is) in
    omega (
      arith,
      ap length (new (goal.at.invariant_of-self-2 c).In_ok-insert_str),
      length-inserted c.args.column (chars c.args.text.now) old within,
      c.self.invariant,
      c.count_characters.ensures,
    )

pub returns-clause-new : goal.returns-clause-new
returns-clause-new c = new (goal.at.returns-clause-new c).In_ok-insert_str
    ∙ ap (inserted c.args.column (chars c.args.text.now)) c.self.view_is
