use Rattle.command_effects.proofs.Common.{◌≡◌, ap, sym, ◌∙◌, subst, refl, chars, string_bytes, None, IsNone, IsFull}
use Rattle.command_effects.proofs.Common.{slot_of, slot_count, TagSlot, IsFront, ◌<◌, ◌++◌, ◌∷◌, [], option_map}
use Rattle.command_effects.proofs.MadeLaws.{front_same, of_some, tag-made, with_name-full, with_name-known}
use Rattle.command_effects.proofs.tagging.make_tag.Goals.{In_default}
use Rattle.command_effects.proofs.tagging.make_tag.Goals as goal

-- the name is unknown
unknown : (c : In_default) → slot_of (chars c.args.name.now) c.args.tags.now.tags ≡ None
unknown c = sym c.find.ensures.value ∙ ap (option_map (λ (slot : TagSlot). slot.0)) c.in_default.is

pub create-requires : goal.create-requires
create-requires c =
    ap (λ bytes. slot_of (chars bytes) c.args.tags.now.tags) c.in_ok-from_str.ensures.ok ∙ unknown (goal.at.create-requires c).In_default

pub returns-in_err-create-clause-front : goal.returns-in_err-create-clause-front
returns-in_err-create-clause-front c =
    subst (IsFront c.args.tags.now) (sym c.in_err-create.ensures.err) (front_same c.args.tags.now)

pub returns-in-None-clause-front : goal.returns-in-None-clause-front
returns-in-None-clause-front c = subst (IsFront c.args.tags.now)
    (sym (c.in_ok-create.ensures.refused (subst IsNone (sym c.in-None.is) refl))) (front_same c.args.tags.now)

pub returns-in-Some-clause-made : goal.returns-in-Some-clause-made
returns-in-Some-clause-made c = with_name-known (chars c.args.name.now) c.args.tags.now.tags c.in-Some.slot.0
    (sym c.find.ensures.value ∙ ap (option_map (λ (slot : TagSlot). slot.0)) c.in-Some.is)

pub returns-in-None-clause-fault : goal.returns-in-None-clause-fault
returns-in-None-clause-fault c = λ _.
    let full : IsFull c.args.tags.now = c.in_ok-create.ensures.full.0 (subst IsNone (sym c.in-None.is) refl) in (
      refl,
      with_name-full (chars c.args.name.now) c.args.tags.now.tags c.args.tags.now.limit
          (unknown (goal.at.returns-in-None-clause-fault c).In_default) full,
    )

pub returns-in-Some-2 : goal.returns-in-Some-2
returns-in-Some-2 c =
    let old = c.args.tags.now in
    let last = of_some (λ (slot : TagSlot). c.create.new.self
    ≡ record old { tags = old.tags ++ record { name = chars (string_bytes c.in_ok-from_str.field-0); slot = slot.0 } ∷ [] })
    c.in_ok-create.field-0 c.in-Some-2.slot c.in-Some-2.is c.in_ok-create.ensures.last in
    let made = tag-made (chars c.args.name.now) c.in-Some-2.slot.0
    (unknown (goal.at.returns-in-Some-2 c).In_default) (last ∙ ap (λ bytes. record old {
      tags = old.tags ++ record { name = chars bytes; slot = c.in-Some-2.slot.0 } ∷ [];
    }) c.in_ok-from_str.ensures.ok) in
    record {
      front = made.front;
      made = made.made;
      slot = made.slot;
      bound = of_some (λ (slot : TagSlot). slot.0 < slot_count) c.in_ok-create.field-0 c.in-Some-2.slot c.in-Some-2.is
          c.in_ok-create.ensures.bound;
      fault = tt;
    }
