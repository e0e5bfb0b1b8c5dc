use Rattle.tcl_words.proofs.Common.{chars, sym, ◌∙◌, encodes-chars}
use Rattle.tcl_words.proofs.Plain.{none_left}
use Rattle.tcl_words.proofs.ListForms.{quotes_none, quotes_other, some_chars}
use Rattle.tcl_words.proofs.list_writing.needs_quotes.Goals as goal

pub returns-then-is_empty : goal.returns-then-is_empty
returns-then-is_empty c = quotes_none c.args.element.now
    (none_left c.args.element.now c.is_empty.result c.is_empty.ensures c.if-is_empty.true)

pub returns-else-begins_with_hash : goal.returns-else-begins_with_hash
returns-else-begins_with_hash c =
    c.has_special.ensures ∙ quotes_other (chars c.args.element.now)
    (some_chars (chars c.args.element.now) c.args.element.now (encodes-chars c.args.element.now c.utf8.element)
    (sym c.is_empty.ensures ∙ c.if-is_empty.false))
    (sym c.begins_with_hash.ensures ∙ c.if-begins_with_hash.false)
