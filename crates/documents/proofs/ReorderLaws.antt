-- What `raise` and `lower` answer.
use Rattle.documents.proofs.Common.{◌≡◌, ℕ, List, Option, None, Some, sym, ap, ap₂, ◌∙◌, ◌+◌, Tag, Empty, NoSuchTag}
use Rattle.documents.proofs.Common.{answered, refused, known_or, reordered, Document, is_among, if◌then◌else◌}
use Rattle.documents.proofs.Common.{IsOrdered, IsUnknown, Order, names_of, unknown_at}
use Rattle.tag_table.specs.declared.faults.NoSuchTag.TheVariants.{Moved, Neighbour}
use Rattle.tag_table.specs.declared.faults.NoSuchTag as table_fault

-- the answer where the tags are ordered
pub reordered-made : (document : Document) (position : ℕ) (order : Order) (name : List ℕ) (other : Option (List ℕ))
    (tags new : List Tag) → document.tags ≡ names_of tags → IsOrdered order name other tags new
    → reordered document position order (name, other) ≡ answered (record document { tags = names_of new }) Empty
reordered-made document position order name None tags new is ordered =
    ap (λ b. if b then answered (record document { tags = order document.tags name None }) Empty
    else refused document (NoSuchTag position)) (ap (is_among name) is ∙ ordered.known)
    ∙ ap (λ ts. answered (record document { tags = ts }) Empty) (ap (λ ts. order ts name None) is ∙ sym ordered.names)
reordered-made document position order name (Some other) tags new is ordered =
    let made = answered (record document { tags = order document.tags name (Some other) }) Empty in
    ap₂ (λ b c. if b then (if c then made else refused document (NoSuchTag (position + 1)))
    else refused document (NoSuchTag position))
    (ap (is_among name) is ∙ ordered.known) (ap (is_among other) is ∙ ordered.neighbour)
    ∙ ap (λ ts. answered (record document { tags = ts }) Empty) (ap (λ ts. order ts name (Some other)) is
    ∙ sym ordered.names)

-- the answer where one isn't known
pub reordered-unknown : (document : Document) (position : ℕ) (order : Order) (name : List ℕ) (other : Option (List ℕ))
    (tags : List Tag) (fault : table_fault.NoSuchTag) → document.tags ≡ names_of tags
    → IsUnknown name other tags fault → reordered document position order (name, other)
    ≡ refused document (NoSuchTag (unknown_at position fault))
reordered-unknown document position order name None tags Moved is unknown =
    ap (λ b. if b then answered (record document { tags = order document.tags name None }) Empty
    else refused document (NoSuchTag position)) (ap (is_among name) is ∙ unknown)
reordered-unknown document position order name (Some other) tags Moved is unknown =
    ap (λ b. if b then known_or document (position + 1) other
    (answered (record document { tags = order document.tags name (Some other) }) Empty)
    else refused document (NoSuchTag position)) (ap (is_among name) is ∙ unknown)
reordered-unknown document position order name None tags Neighbour is unknown = absurd unknown.1
reordered-unknown document position order name (Some other) tags Neighbour is unknown =
    let made = answered (record document { tags = order document.tags name (Some other) }) Empty in
    ap₂ (λ b c. if b then (if c then made else refused document (NoSuchTag (position + 1)))
    else refused document (NoSuchTag position)) (ap (is_among name) is ∙ unknown.0) (ap (is_among other) is ∙ unknown.1)
