use Rattle.edit_ops.proofs.Common.{◌++◌, ap, sym, ◌∙◌, chars, IsUtf8-string_bytes, string_bytes, chars-append, text_of}
use Rattle.edit_ops.proofs.inserted.Inserted.push.Goals as goal

pub returns-in_ok-push-clause-text : goal.returns-in_ok-push-clause-text
returns-in_ok-push-clause-text c =
    let text = c.args.self.now.text in
    ap chars c.in_ok-push_str.ensures.bytes
    ∙ chars-append (string_bytes text) c.as_str.result.now (IsUtf8-string_bytes text)
    ∙ ap (λ more. chars (string_bytes text) ++ more) (c.as_str.ensures.characters ∙ sym (ap text_of c.in-Insert.is))
