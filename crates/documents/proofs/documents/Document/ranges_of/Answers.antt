use Rattle.documents.proofs.Common.{◌∙◌, sym, goes_nowhere, refl, string_bytes, tag_ranges}
use Rattle.documents.proofs.ListedLaws.{ranges-listed}
use Rattle.documents.proofs.documents.Document.ranges_of.Goals as goal

pub returns-in_default : goal.returns-in_default
returns-in_default g c =
    c.new.ensures
    ∙ ranges-listed c.new-list.result tag_ranges
    c.new-list.ensures.bytes (goes_nowhere (string_bytes c.new-list.result)) refl (sym (c.in_default.ensures.none refl))

pub returns : goal.returns
returns g c =
    c.new-2.ensures
    ∙ ranges-listed c.push_ranges.new.list tag_ranges
    c.new-list.ensures.bytes c.in_ok-push_ranges.ensures c.in-Some.ensures.text c.in-Some.ensures.flags
