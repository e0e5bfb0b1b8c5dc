use Rattle.documents.proofs.Common.{◌∷◌, [], string_bytes, literal, goes_on}
use Rattle.mark_table.specs.SharedMarks.{names_of}
use Rattle.documents.proofs.listing.push_mark_names.Goals as goal

pub returns : goal.returns
returns c =
    let old = string_bytes c.args.list.now in
    let first = string_bytes c.push_element.new.list in
    let second = string_bytes c.push_element-2.new.list in
    let new = string_bytes c.push_shared_names.new.list in
    goes_on old second new (literal "insert" ∷ literal "current" ∷ []) (names_of c.args.marks.now.marks)
    (goes_on old first second (literal "insert" ∷ []) (literal "current" ∷ []) c.in_ok-push_element.ensures.list
    c.in_ok-push_element-2.ensures.list) c.in_ok-push_shared_names.ensures
