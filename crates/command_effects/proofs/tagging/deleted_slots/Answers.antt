use Rattle.command_effects.proofs.Common.{Vec, Global, ◌≡◌, ◌<◌, ◌∷◌, ◌++◌, [], map, sym, subst, ap, ◌∙◌, All, All-push}
use Rattle.command_effects.proofs.Common.{slot_count, TagSlot, slot_of, slot_taken}
use Rattle.command_effects.proofs.SlotLaws.{found-kept, found-pushed}
use Rattle.command_effects.proofs.tagging.deleted_slots.Goals.{in-Some+in_ok-push, in_default}
use Rattle.command_effects.proofs.tagging.deleted_slots.Goals as goal

pub loop-name-preserved : goal.loop-name-preserved
loop-name-preserved c =
    let tags = c.args.tags.now.tags in
    let names = c.args.names.now in
    let at = c.loop-name.name-index in
    elim c.match-taken_slot.branch [
      | in-Some+in_ok-push w ↦
          let items : c.match-taken_slot.slots.items ≡ c.loop-name.slots.items ++ w.in-Some.slot
          ∷ [] = ap (λ (slots : Vec TagSlot Global). slots.items) w.slots-is ∙ w.in_ok-push.ensures.items in
          record {
            value = ap (map (λ (slot : TagSlot). slot.0)) items
                ∙ found-pushed (λ (slot : TagSlot). slot.0) (λ name. slot_taken (slot_of name tags)) names at
                c.name-item.result c.as_str.result.now c.loop-name-test.true c.name-item.is c.as_str.ensures.value
                c.loop-name.slots.items w.in-Some.slot c.loop-name.invariant.value w.in-Some.ensures.value;
            bound = subst (All (λ (slot : TagSlot). slot.0 < slot_count)) (sym items)
                (All-push (λ (slot : TagSlot). slot.0 < slot_count) c.loop-name.slots.items w.in-Some.slot
                c.loop-name.invariant.bound w.in-Some.ensures.bound);
          }
      | in_default w ↦
          let items : c.match-taken_slot.slots.items
          ≡ c.loop-name.slots.items = ap (λ (slots : Vec TagSlot Global). slots.items) w.slots-is in
          record {
            value = ap (map (λ (slot : TagSlot). slot.0)) items
                ∙ found-kept (λ (slot : TagSlot). slot.0) (λ name. slot_taken (slot_of name tags)) names at
                c.name-item.result c.as_str.result.now c.loop-name-test.true c.name-item.is c.as_str.ensures.value
                c.loop-name.slots.items c.loop-name.invariant.value w.in_default.ensures.value;
            bound = subst (All (λ (slot : TagSlot). slot.0 < slot_count)) (sym items) c.loop-name.invariant.bound;
          }
    ]
