use Rattle.text_model.proofs.Common.{sym, ap, ◌∙◌, encode_utf8_all, chars, encodes-chars}
use Rattle.text_model.proofs.texts.Text.as_str.Goals as goal

pub returns-clause-bytes : goal.returns-clause-bytes
returns-clause-bytes c =
    sym (encodes-chars c.as_str.result.now c.as_str.utf8)
    ∙ ap (λ bytes. encode_utf8_all (chars bytes)) c.as_str.ensures.value ∙ ap encode_utf8_all c.self.view_is
