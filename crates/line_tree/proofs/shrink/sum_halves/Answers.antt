use Rattle.line_tree.proofs.Common.{◌≡◌, ◌-◌, ◌<◌, ◌≤◌, ◌++◌, ℕ, List, length, take, drop, sym, ap, subst, ◌∙◌, arith}
use Rattle.line_tree.proofs.Common.{IfSome, Option, take-append-drop, plus-commutative, CanEven, FitsSum, sum_all, sums}
use Rattle.line_tree.proofs.Common.{Count, plus, NodePtr, Records, kids, row, records}
use Rattle.line_tree.proofs.AmongLaws.{among-drop, among-take}
use Rattle.line_tree.proofs.EvenLaws.{halves, named-part}
use Rattle.line_tree.proofs.FillLaws.{sum_all-append, sums-row}
use Rattle.line_tree.proofs.HalfLaws.{left-more, left-rest, right-more, right-rest}
use Rattle.line_tree.proofs.PutLaws.{count-row}
use Rattle.line_tree.proofs.RowLaws.{sum_is}
use Rattle.line_tree.proofs.SumLaws.{fits-both, fits-left, fits-right}
use Rattle.line_tree.proofs.TreeLaws.{named-row}
use Rattle.std.specs.FinMap as finite
use Rattle.line_tree.proofs.shrink.sum_halves.Goals as goal

-- what a call says of the two
left_is : (m : Records) (a b : NodePtr) (s : Count) → CanEven m a b → IfSome (finite.get m a) (λ r. s ≡ r.sum) →
    s ≡ sum_all m (kids m a)
left_is m a b s can says = sum_is m a s (named-row m a can.left) says ∙ can.sum_left

right_is : (m : Records) (a b : NodePtr) (s : Count) → CanEven m a b → IfSome (finite.get m b) (λ r. s ≡ r.sum) →
    s ≡ sum_all m (kids m b)
right_is m a b s can says = sum_is m b s (named-row m b can.right) says ∙ can.sum_right

-- those that change sides
front-fits : (m : Records) (cs : List NodePtr) (count : ℕ) → FitsSum (sum_all m cs) →
    FitsSum (sum_all m (take count cs))
front-fits m cs count fits = fits-left (sum_all m (take count cs)) (sum_all m (drop count cs))
    (subst FitsSum (ap (sum_all m) (sym (take-append-drop count cs))
    ∙ sum_all-append m (take count cs) (drop count cs)) fits)

moved-fits : (m : Records) (a b : NodePtr) (n count : ℕ) → CanEven m a b →
    FitsSum (sum_all m (take count (drop n (kids m a ++ kids m b))))
moved-fits m a b n count can = let all = kids m a ++ kids m b in
    front-fits m (drop n all) count (fits-right (sum_all m (take n all)) (sum_all m (drop n all)) (halves m a b can n))

row-fits : (m : Records) (cs : List NodePtr) (os : List (Option NodePtr)) → os ≡ row cs → FitsSum (sum_all m cs) →
    FitsSum (sums m os)
row-fits m cs os is fits = subst FitsSum (sym (ap (sums m) is ∙ sums-row m cs)) fits

-- as many as the left one has
shorter : (n first half : ℕ) → first ≡ n → first < half → n < half
shorter n first half e less = omega arith

longer : (n first half : ℕ) → first ≡ n → half ≤ first → half ≤ n
longer n first half e more = omega arith

moved_is : (m : Records) (cs : List NodePtr) (os : List (Option NodePtr)) (s : Count) → os ≡ row cs → s ≡ sums m os →
    s ≡ sum_all m cs
moved_is m cs os s is says = says ∙ ap (sums m) is ∙ sums-row m cs

pub sum-sum_left-requires : goal.sum-sum_left-requires
sum-sum_left-requires g c = named-row (records c.args.store.now) c.args.left c.requires.even.left

pub sum-sum_right-requires : goal.sum-sum_right-requires
sum-sum_right-requires g c = named-row (records c.args.store.now) c.args.right c.requires.even.right

-- ---- to the left
pub sum_of-sum-requires-clause-nodes : goal.sum_of-sum-requires-clause-nodes
sum_of-sum-requires-clause-nodes g c = let m = records c.args.store.now in
    let all = kids m c.args.left ++ kids m c.args.right in
    named-part m c.args.left c.args.right c.requires.even (take (c.args.half - c.children-first.result) (drop c.children-first.result all))
    (λ d a. among-drop d c.children-first.result all (among-take d (c.args.half - c.children-first.result) (drop c.children-first.result all) a))
    c.part_pair-moved.result c.part_pair-moved.ensures

pub sum_of-sum-requires-clause-fits : goal.sum_of-sum-requires-clause-fits
sum_of-sum-requires-clause-fits g c = let m = records c.args.store.now in
    let all = kids m c.args.left ++ kids m c.args.right in
    row-fits m (take (c.args.half - c.children-first.result) (drop c.children-first.result all)) c.part_pair-moved.result
    c.part_pair-moved.ensures (moved-fits m c.args.left c.args.right c.children-first.result (c.args.half - c.children-first.result)
    c.requires.even)

pub lessen_sum-requires : goal.lessen_sum-requires
lessen_sum-requires g c = let m = records c.args.store.now in
    let na = count-row m c.args.left c.children-first.result c.requires.even.left c.children-first.ensures in
    let back = c.requires.back
    (shorter (length (kids m c.args.left)) c.children-first.result c.args.half na c.if-first-half.true) in
    let b = c.args.right in let half = c.args.half in
    record {
      nodes =
          let all = kids m c.args.left ++ kids m c.args.right in
          named-part m c.args.left c.args.right c.requires.even (drop c.args.half all)
          (λ d a. among-drop d c.args.half all a) c.args.stay.now back;
      sum =
          let a = c.args.left in let all = kids m a ++ kids m b in let first = c.children-first.result in
          let rest = ap (sums m) back ∙ sums-row m (drop half all) in
          let moved = moved_is m (take (half - first) (drop first all)) c.part_pair-moved.result c.sum_of-sum.result
          c.part_pair-moved.ensures c.sum_of-sum.ensures in
          (λ i. plus (rest i) (moved i))
          ∙ right-rest m (kids m a) (kids m b) first half na (omega (arith, c.if-first-half.true))
          ∙ sym (right_is m a b c.sum-sum_right.result c.requires.even c.sum-sum_right.ensures.value);
      fits =
          let a = c.args.left in let all = kids m a ++ kids m b in
          row-fits m (drop half all) c.args.stay.now back
          (fits-right (sum_all m (take half all)) (sum_all m (drop half all)) (halves m a b c.requires.even half));
    }

-- the sum of the first
grown : (m : Records) (a b : NodePtr) (first half : ℕ) (s moved : Count) → first ≡ length (kids m a) → first ≤ half →
    s ≡ sum_all m (kids m a) → moved ≡ sum_all m (take (half - first) (drop first (kids m a ++ kids m b)))
    → plus s moved ≡ sum_all m (take half (kids m a ++ kids m b))
grown m a b first half s moved is less left more =
    (λ i. plus (left i) (more i)) ∙ left-more m (kids m a) (kids m b) first half is less

pub add-requires : goal.add-requires
add-requires g c = let m = records c.args.store.now in
    let na = count-row m c.args.left c.children-first.result c.requires.even.left c.children-first.ensures in
    let a = c.args.left in let b = c.args.right in
    let all = kids m a ++ kids m b in let first = c.children-first.result in let half = c.args.half in
    let moved = moved_is m (take (half - first) (drop first all)) c.part_pair-moved.result c.sum_of-sum.result
    c.part_pair-moved.ensures c.sum_of-sum.ensures in
    let now = grown m a b first half c.sum-sum_left.result c.sum_of-sum.result na
    (omega (arith, c.if-first-half.true))
    (left_is m a b c.sum-sum_left.result c.requires.even c.sum-sum_left.ensures.value) moved in (
      omega arith,
      fits-both c.sum-sum_left.result c.sum_of-sum.result
          (subst FitsSum (sym now) (fits-left (sum_all m (take half all)) (sum_all m (drop half all))
          (halves m a b c.requires.even half))),
    )

pub returns-then-first-half-clause-first : goal.returns-then-first-half-clause-first
returns-then-first-half-clause-first g c = let m = records c.args.store.now in
    let na = count-row m c.args.left c.children-first.result c.requires.even.left c.children-first.ensures in
    let a = c.args.left in
    let b = c.args.right in let all = kids m a ++ kids m b in let first = c.children-first.result in let half = c.args.half in
    let moved = moved_is m (take (half - first) (drop first all)) c.part_pair-moved.result c.sum_of-sum.result
    c.part_pair-moved.ensures c.sum_of-sum.ensures in
    c.add.ensures ∙ grown m a b first half c.sum-sum_left.result c.sum_of-sum.result na
    (omega (arith, c.if-first-half.true))
    (left_is m a b c.sum-sum_left.result c.requires.even c.sum-sum_left.ensures.value) moved

pub returns-then-first-half-clause-last : goal.returns-then-first-half-clause-last
returns-then-first-half-clause-last g c = let m = records c.args.store.now in
    let na = count-row m c.args.left c.children-first.result c.requires.even.left c.children-first.ensures in
    let back = c.requires.back (shorter (length (kids m c.args.left)) c.children-first.result c.args.half na
    c.if-first-half.true) in
    let all = kids m c.args.left ++ kids m c.args.right in
    c.lessen_sum.ensures ∙ ap (sums m) back
    ∙ sums-row m (drop c.args.half all)

-- ---- to the right
pub sum_of-sum-requires-else-first-half-clause-nodes : goal.sum_of-sum-requires-else-first-half-clause-nodes
sum_of-sum-requires-else-first-half-clause-nodes g c = let m = records c.args.store.now in
    let all = kids m c.args.left ++ kids m c.args.right in
    named-part m c.args.left c.args.right c.requires.even (take (c.children-first.result - c.args.half) (drop c.args.half all))
    (λ d a. among-drop d c.args.half all (among-take d (c.children-first.result - c.args.half) (drop c.args.half all) a))
    c.part_pair-moved-else-first-half.result c.part_pair-moved-else-first-half.ensures

pub sum_of-sum-requires-else-first-half-clause-fits : goal.sum_of-sum-requires-else-first-half-clause-fits
sum_of-sum-requires-else-first-half-clause-fits g c = let m = records c.args.store.now in
    let all = kids m c.args.left ++ kids m c.args.right in
    row-fits m (take (c.children-first.result - c.args.half) (drop c.args.half all)) c.part_pair-moved-else-first-half.result
    c.part_pair-moved-else-first-half.ensures
    (moved-fits m c.args.left c.args.right c.args.half (c.children-first.result - c.args.half) c.requires.even)

pub lessen_sum-requires-else-first-half : goal.lessen_sum-requires-else-first-half
lessen_sum-requires-else-first-half g c = let m = records c.args.store.now in
    let na = count-row m c.args.left c.children-first.result c.requires.even.left c.children-first.ensures in
    let front = c.requires.front
    (longer (length (kids m c.args.left)) c.children-first.result c.args.half na c.if-first-half.false) in
    let b = c.args.right in let half = c.args.half in
    record {
      nodes =
          let all = kids m c.args.left ++ kids m c.args.right in
          named-part m c.args.left c.args.right c.requires.even (take c.args.half all)
          (λ d a. among-take d c.args.half all a) c.args.stay.now front;
      sum =
          let a = c.args.left in let all = kids m a ++ kids m b in let first = c.children-first.result in
          let rest = ap (sums m) front ∙ sums-row m (take half all) in
          let moved = moved_is m (take (first - half) (drop half all)) c.part_pair-moved-else-first-half.result
          c.sum_of-sum-else-first-half.result c.part_pair-moved-else-first-half.ensures
          c.sum_of-sum-else-first-half.ensures in
          (λ i. plus (rest i) (moved i))
          ∙ left-rest m (kids m a) (kids m b) first half na (omega (arith, c.if-first-half.false))
          ∙ sym (left_is m a b c.sum-sum_left.result c.requires.even c.sum-sum_left.ensures.value);
      fits =
          let a = c.args.left in let all = kids m a ++ kids m b in
          row-fits m (take half all) c.args.stay.now front
          (fits-left (sum_all m (take half all)) (sum_all m (drop half all)) (halves m a b c.requires.even half));
    }

-- the sum of the last
lengthened : (m : Records) (a b : NodePtr) (first half : ℕ) (s moved : Count) → first ≡ length (kids m a) →
    half ≤ first → s ≡ sum_all m (kids m b) → moved ≡ sum_all m (take (first - half) (drop half (kids m a ++ kids m b)))
    → plus s moved ≡ sum_all m (drop half (kids m a ++ kids m b))
lengthened m a b first half s moved is less right more =
    plus-commutative s moved ∙ (λ i. plus (more i) (right i)) ∙ right-more m (kids m a) (kids m b) first half is less

pub add-requires-else-first-half : goal.add-requires-else-first-half
add-requires-else-first-half g c = let m = records c.args.store.now in
    let na = count-row m c.args.left c.children-first.result c.requires.even.left c.children-first.ensures in
    let a = c.args.left in let b = c.args.right in
    let all = kids m a ++ kids m b in let first = c.children-first.result in let half = c.args.half in
    let moved = moved_is m (take (first - half) (drop half all)) c.part_pair-moved-else-first-half.result
    c.sum_of-sum-else-first-half.result c.part_pair-moved-else-first-half.ensures
    c.sum_of-sum-else-first-half.ensures in
    let now = lengthened m a b first half c.sum-sum_right.result c.sum_of-sum-else-first-half.result na
    (omega (arith, c.if-first-half.false))
    (right_is m a b c.sum-sum_right.result c.requires.even c.sum-sum_right.ensures.value) moved in (
      omega arith,
      fits-both c.sum-sum_right.result c.sum_of-sum-else-first-half.result
          (subst FitsSum (sym now) (fits-right (sum_all m (take half all)) (sum_all m (drop half all))
          (halves m a b c.requires.even half))),
    )

pub returns-else-first-half-clause-first : goal.returns-else-first-half-clause-first
returns-else-first-half-clause-first g c = let m = records c.args.store.now in
    let na = count-row m c.args.left c.children-first.result c.requires.even.left c.children-first.ensures in
    let front = c.requires.front (longer (length (kids m c.args.left)) c.children-first.result c.args.half na
    c.if-first-half.false) in
    let all = kids m c.args.left ++ kids m c.args.right in
    c.lessen_sum-else-first-half.ensures ∙ ap (sums m) front ∙ sums-row m (take c.args.half all)

pub returns-else-first-half-clause-last : goal.returns-else-first-half-clause-last
returns-else-first-half-clause-last g c = let m = records c.args.store.now in
    let na = count-row m c.args.left c.children-first.result c.requires.even.left c.children-first.ensures in
    let a = c.args.left in
    let b = c.args.right in let all = kids m a ++ kids m b in let first = c.children-first.result in let half = c.args.half in
    let moved = moved_is m (take (first - half) (drop half all)) c.part_pair-moved-else-first-half.result
    c.sum_of-sum-else-first-half.result c.part_pair-moved-else-first-half.ensures
    c.sum_of-sum-else-first-half.ensures in
    c.add-else-first-half.ensures ∙ lengthened m a b first half c.sum-sum_right.result
    c.sum_of-sum-else-first-half.result na (omega (arith, c.if-first-half.false))
    (right_is m a b c.sum-sum_right.result c.requires.even c.sum-sum_right.ensures.value) moved
