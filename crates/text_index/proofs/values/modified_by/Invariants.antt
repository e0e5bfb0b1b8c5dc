use Rattle.text_index.proofs.Common.{part_of, ◌≡◌, ◌≤◌, ◌+◌, drop, shown, modified_by, is_word}
use Rattle.text_index.proofs.values.modified_by.Given as goal

abbrev pub invariant-loop-modifier : goal.invariant-loop-modifier
invariant-loop-modifier g l = record {
  within : l.view.start + l.place ≤ l.view.end;
  value : modified_by is_word (shown (part_of l.view)) l.modifiers l.from
      ≡ modified_by is_word (shown (part_of l.view))
      (drop l.modifier-index l.modifiers) l.place;
}
