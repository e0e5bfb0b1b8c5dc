use Rattle.documents.proofs.Common.{chars, string_bytes, names_of}
use Rattle.documents.proofs.ListingLaws.{goes_name}
use Rattle.documents.proofs.listing.push_names.Goals as goal

pub loop-place-preserved : goal.loop-place-preserved
loop-place-preserved c =
    goes_name (string_bytes c.args.list.now) (string_bytes c.loop-place.list) (string_bytes c.push_element.new.list)
    (names_of c.args.tags.now.tags) c.loop-place.place (chars c.name.result.now)
    c.loop-place.invariant c.in_ok-push_element.ensures.list c.name.ensures
