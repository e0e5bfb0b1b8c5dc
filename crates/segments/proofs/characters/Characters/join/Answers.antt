use Rattle.segments.proofs.Common.{◌≡◌, ◌++◌, ap, ap₂, ◌∙◌, arith, length, length-append, chars, string_bytes}
use Rattle.segments.proofs.Common.{chars-append, IsUtf8-string_bytes}
use Rattle.segments.proofs.TextLaws.{fewer_characters}
use Rattle.segments.proofs.characters.Characters.join.Goals.{In_ok-push_str}
use Rattle.segments.proofs.characters.Characters.join.Goals as goal

pub overflow_add-self : goal.overflow_add-self
overflow_add-self c =
    omega (
      arith,
      c.in_ok-push_str.ensures.len,
      c.self.inside.text.bytes.ok.0,
      ap length c.as_str.ensures.value,
      fewer_characters (string_bytes c.self.inside.text) (IsUtf8-string_bytes c.self.inside.text),
      fewer_characters (string_bytes c.other.inside.text) (IsUtf8-string_bytes c.other.inside.text),
      c.self.invariant,
      c.other.invariant,
    )

-- the characters then
new : (c : In_ok-push_str) → chars (string_bytes c.push_str.new.self)
    ≡ chars (string_bytes c.self.inside.text) ++ chars (string_bytes c.other.inside.text)
new c =
    let first = string_bytes c.self.inside.text in
    ap chars (c.in_ok-push_str.ensures.bytes ∙ ap (λ t. first ++ t) c.as_str.ensures.value)
    ∙ chars-append first (string_bytes c.other.inside.text) (IsUtf8-string_bytes c.self.inside.text)

pub invariant_of-self-2 : goal.invariant_of-self-2
invariant_of-self-2 c =
    omega (
      arith,
      ap length (new (goal.at.invariant_of-self-2 c).In_ok-push_str),
      length-append (chars (string_bytes c.self.inside.text)) (chars (string_bytes c.other.inside.text)),
      c.self.invariant,
      c.other.invariant,
    )

pub returns-clause-new : goal.returns-clause-new
returns-clause-new c =
    new (goal.at.returns-clause-new c).In_ok-push_str ∙ ap₂ (λ xs ys. xs ++ ys) c.self.view_is c.other.view_is
