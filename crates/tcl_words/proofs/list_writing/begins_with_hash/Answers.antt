use Rattle.tcl_words.proofs.Plain.{none_left}
use Rattle.tcl_words.proofs.ListForms.{hash_none}
use Rattle.tcl_words.proofs.list_writing.begins_with_hash.Goals as goal

pub returns-then-is_empty : goal.returns-then-is_empty
returns-then-is_empty c =
    hash_none c.args.element.now (none_left c.args.element.now c.is_empty.result c.is_empty.ensures c.if-is_empty.true)
