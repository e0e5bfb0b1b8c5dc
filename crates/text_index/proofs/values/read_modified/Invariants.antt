use Rattle.text_index.proofs.Common.{part_of, ◌≡◌, ◌≤◌, ◌+◌, length, IfOk, shown, read_modified, is_word, modifiers_of}
use Rattle.text_index.proofs.Common.{tokens_of, saturated}
use Rattle.text_index.proofs.values.read_modified.Given as goal

abbrev pub invariant-loop-modifier : goal.invariant-loop-modifier
invariant-loop-modifier g l = record {
  within : IfOk l.found (λ place. l.view.start + place ≤ l.view.end);
  value : read_modified is_word (shown (part_of l.view)) (saturated (modifiers_of (tokens_of l.text))) l.fn.from
      ≡ read_modified is_word (shown (part_of l.view)) (saturated (modifiers_of (tokens_of l.rest))) l.found;
}

abbrev pub decreases-loop-modifier : goal.decreases-loop-modifier
decreases-loop-modifier g l = length l.rest
