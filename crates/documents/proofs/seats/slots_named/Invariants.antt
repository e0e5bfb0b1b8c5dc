use Rattle.documents.proofs.Common.{◌≡◌, map, take, texts_of, TagSlot, numbers_gone, All, MOST_WIDGETS, ◌<◌}
use Rattle.documents.proofs.seats.slots_named.Given as goal

abbrev pub invariant-loop-place : goal.invariant-loop-place
invariant-loop-place l =
    (map (λ (slot : TagSlot). slot.0) l.slots.items ≡ numbers_gone (texts_of l.names) (take l.place l.seats.entries))
    × All (λ (slot : TagSlot). slot.0 < MOST_WIDGETS) l.slots.items
