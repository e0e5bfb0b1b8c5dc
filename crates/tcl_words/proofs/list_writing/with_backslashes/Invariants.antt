use Rattle.tcl_words.proofs.Common.{length, chars, string_bytes}
use Rattle.tcl_words.proofs.ListForms.{IsBacked}
use Rattle.tcl_words.proofs.list_writing.with_backslashes.Given as goal

abbrev pub invariant-loop-c : goal.invariant-loop-c
invariant-loop-c l = IsBacked (chars l.element) (length l.yielded) (string_bytes l.text)
