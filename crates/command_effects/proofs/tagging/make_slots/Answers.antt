use Rattle.command_effects.proofs.Common.{ap, sym, ◌∙◌, arith, ◌+◌, ◌∷◌, [], take, drop, chars, names_of, texts_of}
use Rattle.command_effects.proofs.Common.{with_names, own_slot, slots_named, with_found, option_map}
use Rattle.command_effects.proofs.Common.{err_from_is_err_and}
use Rattle.command_effects.proofs.MadeLaws.{front_on, slot_of-front, texts-left, too_many}
use Rattle.command_effects.proofs.SlotLaws.{slots_named-step}
use Rattle.std.specs.FinSet as set
use Rattle.command_effects.proofs.tagging.make_slots.Goals as goal

pub returns-in_err-slot-clause-fault : goal.returns-in_err-slot-clause-fault
returns-in_err-slot-clause-fault c =
    let fault = err_from_is_err_and c.from_residual.result c.from_residual.ensures.1 in
    rw (fault.1, fault.2) (λ other.
    let found = c.in_err-slot.ensures.fault other in
    let l = c.loop-name in (
      found.0,
      too_many (names_of l.tags.tags) (chars c.as_str.result.now ∷ []) (texts_of (drop (l.name-index + 1) c.args.names.now))
          _ (c.args.tags.now.limit + 1) (omega (arith, found.1, l.invariant.front.limit))
          (ap (with_names (names_of l.tags.tags)) (sym (texts-left c.args.names.now l.name-index c.name-item.result
          c.as_str.result.now c.loop-name-test.true c.name-item.is c.as_str.ensures.value)) ∙ l.invariant.made),
    ))

pub loop-name-preserved : goal.loop-name-preserved
loop-name-preserved c =
    let l = c.loop-name in
    let names = c.args.names.now in
    let name = chars c.as_str.result.now in
    let own = c.args.own.0 in
    record {
      front = front_on c.args.tags.now l.tags c.make_tag.new.tags l.invariant.front c.make_tag.ensures.front;
      made = ap (λ ns. with_names ns (texts_of (drop (l.name-index + 1) names))) c.in_ok-slot.ensures.made
          ∙ ap (with_names (names_of l.tags.tags)) (sym (texts-left names l.name-index c.name-item.result
          c.as_str.result.now c.loop-name-test.true c.name-item.is c.as_str.ensures.value)) ∙ l.invariant.made;
      slots = λ later front.
          c.with-slots.ensures ∙ ap (set.insert l.slots) c.own_slot.ensures.value
          ∙ ap (λ slots. set.insert slots (own_slot own c.in_ok-slot.slot.0)) (l.invariant.slots later
          (front_on l.tags c.make_tag.new.tags later c.make_tag.ensures.front front))
          ∙ ap (λ found. with_found (option_map (own_slot own) found) (slots_named later.tags own
          (texts_of (take l.name-index names))))
          (sym (slot_of-front name c.make_tag.new.tags later c.in_ok-slot.slot.0 front c.in_ok-slot.ensures.slot))
          ∙ slots_named-step later.tags own names l.name-index c.name-item.result c.as_str.result.now
          c.loop-name-test.true c.name-item.is c.as_str.ensures.value;
    }
