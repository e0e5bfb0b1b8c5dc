use Rattle.edit_ops.proofs.Common.{ap, ◌∙◌, chars, IsUtf8-string_bytes, chars-push}
use Rattle.edit_ops.proofs.part_hunks.push_char.Goals as goal

pub returns : goal.returns
returns c = ap chars (c.in_ok-push.ensures.bytes)
    ∙ chars-push _ c.args.character (IsUtf8-string_bytes c.args.text.now) c.ranges.character.0
