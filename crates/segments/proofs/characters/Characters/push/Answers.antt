use Rattle.segments.proofs.Common.{◌++◌, ap, ◌∙◌, chars, string_bytes, chars-append, IsUtf8-string_bytes}
use Rattle.segments.proofs.characters.Characters.push.Goals as goal

pub returns : goal.returns
returns c =
    let old = string_bytes c.args.text.now in
    ap chars c.in_ok-push_str.ensures.bytes ∙ chars-append old c.part.result.now (IsUtf8-string_bytes c.args.text.now)
    ∙ ap (λ part. chars old ++ part) c.part.ensures
