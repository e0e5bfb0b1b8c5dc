use Rattle.line_tree.proofs.Common.{◌≡◌, ◌+◌, ℕ, ◌++◌, ◌∙◌, ◌≤◌, Bool, inl, inr, refl, sym, ap, suc, arith, subst}
use Rattle.line_tree.proofs.Common.{length, length-append, IsSome, List, Some, slice_get, slice_get-get_or}
use Rattle.line_tree.proofs.Common.{slice_get_within, Halves, NodePtr, Records, kids, records, first_part}
use Rattle.line_tree.proofs.PutLaws.{count-row}
use Rattle.line_tree.proofs.SpreadLaws.{enough, halves-first, not-more}
use Rattle.line_tree.proofs.spread.spread.Given.{Over}
use Rattle.line_tree.proofs.spread.spread.Goals.{After-children-2}
use Rattle.line_tree.proofs.spread.spread.Goals as goal

pub has_room-requires-clause-row : goal.has_room-requires-clause-row
has_room-requires-clause-row g c = (c.requires.spread.each c.args.found.now.slot c.args.found.now.child c.requires.child).0

pub neighbours-requires-clause-slot : goal.neighbours-requires-clause-slot
neighbours-requires-clause-slot g c = slice_get_within (kids (records c.args.store.now) c.args.node)
    c.args.found.now.slot c.args.found.now.child c.requires.child

pub unwrap-left-requires : goal.unwrap-left-requires
unwrap-left-requires g c = let cs = kids (records c.args.store.now) c.args.node in let w = c.in-Some.ensures.some.within in
    subst (λ o. IsSome o) (sym (c.kid.ensures ∙ slice_get-get_or cs c.in-Some.at c.args.node (omega arith))) refl

pub unwrap-right-requires : goal.unwrap-right-requires
unwrap-right-requires g c = let cs = kids (records c.args.store.now) c.args.node in
    let w = c.in-Some.ensures.some.within in
    subst (λ o. IsSome o) (sym (c.kid-2.ensures
    ∙ slice_get-get_or cs (c.in-Some.at + 1) c.args.node (omega arith))) refl

-- the two neighbours, and how many children both have
record Neighbours (m : Records) (cs : List NodePtr) (at : ℕ) (left right : NodePtr) (count : ℕ) : Type 0 where
  is_left : slice_get cs at ≡ Some left
  is_right : slice_get cs (suc at) ≡ Some right
  all : count ≡ length (kids m left ++ kids m right)
  low : 18 ≤ count
  high : count ≤ 24

two : (g : Over) (c : After-children-2 g) → Neighbours (records c.args.store.now)
    (kids (records c.args.store.now) c.args.node) c.in-Some.at c.unwrap-left.result c.unwrap-right.result
    (c.children.result + c.children-2.result)
two g c = let m = records c.args.store.now in let cs = kids m c.args.node in
    let at = c.in-Some.at in let left = c.unwrap-left.result in let right = c.unwrap-right.result in
    let can = c.requires.spread in let e : suc at ≡ at + 1 = omega arith in
    let at_left = sym c.kid.ensures ∙ c.unwrap-left.ensures in
    let at_right = ap (slice_get cs) e ∙ sym c.kid-2.ensures ∙ c.unwrap-right.ensures in
    let na = count-row m left c.children.result (can.each at left at_left).0 c.children.ensures in
    let nb = count-row m right c.children-2.result (can.each (suc at) right at_right).0 c.children-2.ensures in
    let n = length-append (kids m left) (kids m right) in
    let least = enough m c.args.node can c.args.found.now.slot c.args.found.now.child c.requires.child
    (c.has_room.ensures.no c.if-has_room.false) at c.in-Some.ensures.some left right at_left at_right in
    let most = not-more m c.args.node can c.args.found.now.slot c.args.found.now.child c.requires.child
    (c.has_room.ensures.no c.if-has_room.false) at c.in-Some.ensures.some left right at_left at_right in
    record { is_left = at_left; is_right = at_right; all = omega arith; low = omega arith; high = omega arith }

pub overflow_add-count : goal.overflow_add-count
overflow_add-count g c = let most = (two g (goal.at.overflow_add-count g c).After-children-2).high in omega arith

-- the left one gets a part of as many as both have
part : (all count : ℕ) (half : ℕ) (filled : Bool) → count ≡ all → 18 ≤ count → count ≤ 24 →
    half ≡ first_part count filled → Halves all half
part all count half filled e low high is =
    subst (λ n. Halves n half) e (subst (Halves count) (sym is) (halves-first count filled low high))

pub share-requires : goal.share-requires
share-requires g c = let pair = two g (goal.at.share-requires g c).After-children-2 in
    let left = c.unwrap-left.result in let right = c.unwrap-right.result in
    record {
      even = c.requires.spread.pairs c.in-Some.at left right pair.is_left pair.is_right;
      half = part (length (kids (records c.args.store.now) left ++ kids (records c.args.store.now) right))
          (c.children.result + c.children-2.result) c.left_part-half.result c.fills.result pair.all pair.low pair.high
          c.left_part-half.ensures;
    }

pub returns-clause-spreads : goal.returns-clause-spreads
returns-clause-spreads g c = let m = records c.args.store.now in let left = c.unwrap-left.result in
    let right = c.unwrap-right.result in
    let pair = two g (goal.at.returns-clause-spreads g c).After-children-2 in
    record {
      at = c.in-Some.at;
      pair = c.in-Some.ensures.some;
      left = left;
      right = right;
      is_left = pair.is_left;
      is_right = pair.is_right;
      shares = record {
        half = c.left_part-half.result;
        parts = part (length (kids m left ++ kids m right)) (c.children.result + c.children-2.result)
            c.left_part-half.result c.fills.result pair.all pair.low pair.high c.left_part-half.ensures;
        same = c.share.ensures.records;
      };
      half = c.left_part-half.ensures ∙ (λ i. first_part (pair.all i) (c.fills.ensures i));
    }

pub returns-then-has_room-clause-spreads : goal.returns-then-has_room-clause-spreads
returns-then-has_room-clause-spreads g c = let few = c.has_room.ensures.yes c.if-has_room.true in
    ((λ _. records c.args.store.now), inl (omega arith))

pub returns-in_default-clause-spreads : goal.returns-in_default-clause-spreads
returns-in_default-clause-spreads g c =
    ((λ _. records c.args.store.now), inr (c.neighbours.ensures.none c.in_default.is))
