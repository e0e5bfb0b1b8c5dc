use Rattle.command_effects.proofs.Common.{◌≡◌, take, texts_of, tags_left, AreTags}
use Rattle.command_effects.proofs.tagging.delete_names.Given as goal

abbrev pub invariant-loop-name : goal.invariant-loop-name
invariant-loop-name l = record {
  value : l.tags ≡ record l.fn.tags { tags = tags_left (texts_of (take l.name-index l.names)) l.fn.tags.tags };
  sound : AreTags l.fn.tags → AreTags l.tags;
}
