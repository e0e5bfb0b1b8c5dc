use Rattle.command_effects.proofs.Common.{◌≡◌, take, drop, Tags, names_of, texts_of, with_names, IsFront, slots_named}
use Rattle.command_effects.proofs.tagging.make_slots.Given as goal

abbrev pub invariant-loop-name : goal.invariant-loop-name
invariant-loop-name l = record {
  front : IsFront l.fn.tags l.tags;
  made : with_names (names_of l.tags.tags) (texts_of (drop l.name-index l.names))
      ≡ with_names (names_of l.fn.tags.tags) (texts_of l.names);
  slots : (later : Tags) → IsFront l.tags later →
      l.slots ≡ slots_named later.tags l.own.0 (texts_of (take l.name-index l.names));
}
