use Rattle.std.proofs.Common.{◌≡◌, length, ap, ◌∙◌, rules}
use Rattle.std.specs.Prelude.{chars}
use Rattle.std.proofs.lemmas.Str.{chars_from_encodes}
use Rattle.text_tests.proofs.edits.count.Goals as goal

pub returns : goal.returns
returns c = let found : c.count.result ≡ length (chars c.as_str.result.now) = search (rules, chars_from_encodes) in
    found ∙ ap length c.as_str.ensures.characters
