use Rattle.std.specs.FinSet as set
use Rattle.documents.proofs.Common.{subst, ap, ◌∙◌, chars, string_bytes, if◌then◌else◌, Goes, Tag, own_slot, ◌∷◌, []}
use Rattle.documents.proofs.ListingLaws.{goes_wanted}
use Rattle.documents.proofs.listing.push_names_in.Goals as goal

pub loop-place-preserved : goal.loop-place-preserved
loop-place-preserved c =
    goes_wanted (string_bytes c.args.list.now) (string_bytes c.loop-place.list) (string_bytes c.push_wanted.new.list)
    c.args.tags.now.tags
    (λ (tag : Tag). set.contains c.args.slots (own_slot c.args.own.0 tag.slot)) c.loop-place.place c.slot.result.0
    (chars c.name.result.now) c.loop-place.invariant c.name.ensures c.slot.ensures.value
    (subst (λ b. Goes (string_bytes c.loop-place.list) (string_bytes c.push_wanted.new.list) (if b
    then chars c.name.result.now ∷ [] else []))
    (c.has.ensures ∙ ap (set.contains c.args.slots) c.own_slot.ensures.value) c.in_ok-push_wanted.ensures)
