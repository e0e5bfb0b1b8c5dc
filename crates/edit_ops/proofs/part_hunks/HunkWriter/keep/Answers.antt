use Rattle.edit_ops.proofs.Common.{ap, ◌∙◌, chars, chars-nil, string_bytes}
use Rattle.edit_ops.proofs.part_hunks.HunkWriter.keep.Goals as goal

pub returns-clause-text : goal.returns-clause-text
returns-clause-text c =
    ap (λ text. chars (string_bytes text)) c.replace-text.ensures.after ∙ ap chars c.new.ensures.bytes ∙ chars-nil
