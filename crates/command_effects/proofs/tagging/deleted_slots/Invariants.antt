use Rattle.command_effects.proofs.Common.{◌≡◌, ◌<◌, map, take, All, texts_of, slot_count, TagSlot, slots_deleted}
use Rattle.command_effects.proofs.tagging.deleted_slots.Given as goal

abbrev pub invariant-loop-name : goal.invariant-loop-name
invariant-loop-name l = record {
  value : map (λ (slot : TagSlot). slot.0) l.slots.items
      ≡ slots_deleted l.tags.tags (texts_of (take l.name-index l.names));
  bound : All (λ (slot : TagSlot). slot.0 < slot_count) l.slots.items;
}
