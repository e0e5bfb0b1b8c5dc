-- Words that stand as they are in a list: what a dump calls its elements.
use Rattle.search_dump.proofs.Common.{◌≡◌, false, chars, ap, codes, needs_quotes}
use Rattle.search_dump.proofs.SeenLaws.{mark-characters, tagoff-characters, tagon-characters, text-characters}

pub tagoff-plain : needs_quotes (chars (codes "tagoff")) ≡ false
tagoff-plain = ap needs_quotes tagoff-characters

pub tagon-plain : needs_quotes (chars (codes "tagon")) ≡ false
tagon-plain = ap needs_quotes tagon-characters

pub mark-plain : needs_quotes (chars (codes "mark")) ≡ false
mark-plain = ap needs_quotes mark-characters

pub text-plain : needs_quotes (chars (codes "text")) ≡ false
text-plain = ap needs_quotes text-characters
