use Rattle.line_tree.proofs.Common.{◌≡◌, ◌≤◌, List, [], ◌∷◌, length, get_or, take, drop, refl, sym, ap, ◌∙◌, subst}
use Rattle.line_tree.proofs.Common.{append_assoc, arith, length-drop, length-map, length_push, FitsSum, LineContent}
use Rattle.line_tree.proofs.Common.{Named, contents, total, NodePtr, lines_in, tree_at, plus, records, spares, count_of}
use Rattle.line_tree.proofs.Common.{lines_of, Lifts, trees_at, with_lines, levels_at_most}
use Rattle.line_tree.proofs.InsertLaws.{length-lines}
use Rattle.line_tree.proofs.LevelLaws.{levels-held}
use Rattle.line_tree.proofs.NewRowLaws.{drop-length}
use Rattle.line_tree.proofs.PrefixLaws.{count-contents}
use Rattle.line_tree.proofs.RootLaws.{positive-root}
use Rattle.line_tree.proofs.RowRootLaws.{can-lift, can-take, length-with_lines, lifted-alone, lines-lifted}
use Rattle.line_tree.proofs.TreeLaws.{total-lines}
use Rattle.line_tree.proofs.tree.LineTree.put_part.Given.{Over}
use Rattle.line_tree.proofs.tree.LineTree.put_part.Goals.{After-self}
use Rattle.line_tree.proofs.tree.LineTree.put_part.Goals as goal

-- what is counted of the new lines
fits-row : (old now : List Named) (added : List Named) (new : List LineContent) → old ≡ now → contents added ≡ new →
    FitsSum (plus (total now) (count_of new)) → FitsSum (plus (total old) (total added))
fits-row old now added new same is fits =
    subst (λ s. FitsSum (plus (total old) s)) (sym (ap count_of is) ∙ count-contents added)
    (subst (λ ls. FitsSum (plus (total ls) (count_of new))) (sym same) fits)

only-one : (zs : List NodePtr) (a : NodePtr) → length zs ≡ 1 → a ≡ get_or zs 0 a → zs ≡ a ∷ []
only-one [] a one is = absurd (omega arith)
only-one (z ∷ []) a one is = ap (λ q. q ∷ []) (sym is)
only-one (z ∷ y ∷ zs) a one is = absurd (omega arith)

count-lines : (new : List LineContent) → (count_of new).lines ≡ length new
count-lines [] = refl
count-lines (l ∷ new) = let r = count-lines new in omega arith

-- ---- numbers
pub overflow_add-self : goal.overflow_add-self
overflow_add-self g c =
    let old = c.args.self.now.lines in let new = drop c.args.rest c.args.lines.now.items in
    let few = c.requires.fits.lines in let n = total-lines old in let more = count-lines new in
    let drops = length-drop c.args.rest c.args.lines.now.items in
    let had = c.self.invariant.1 in let same = ap (λ v. length v.lines) c.self.view_is in
    let len = c.len.ensures in let ok = c.args.lines.now.ok.0 in
    omega (arith, few, n, more, drops, had, same, len, ok)

low : (g : Over) (c : After-self g) → c.self.inside.height ≤ levels_at_most c.args.self.now.nodes
low g c = subst (λ v. c.self.inside.height ≤ levels_at_most v.nodes) c.self.view_is
    (levels-held (records c.self.inside.store) c.self.inside.height c.self.inside.root (spares c.self.inside.store)
    c.self.invariant.0.stands)

pub put_row-requires-clause-spares : goal.put_row-requires-clause-spares
put_row-requires-clause-spares g c =
    let low = low g (goal.at.put_row-requires-clause-spares g c).After-self in
    let had = ap (λ v. v.spares) c.self.view_is in
    let room = c.requires.spares in let count = c.make_row.ensures.count in let used = c.make_row.ensures.spares in
    omega (arith, low, had, room, count, used)

pub put_row-requires-clause-rooms : goal.put_row-requires-clause-rooms
put_row-requires-clause-rooms g c =
    let low = low g (goal.at.put_row-requires-clause-rooms g c).After-self in
    let had = ap (λ v. v.rooms) c.self.view_is in
    let room = c.requires.rooms in let count = c.make_row.ensures.count in let used = c.make_row.ensures.rooms in
    omega (arith, low, had, room, count, used)

pub lift-self-inside-requires-clause-spares : goal.lift-self-inside-requires-clause-spares
lift-self-inside-requires-clause-spares g c =
    let low = low g (goal.at.lift-self-inside-requires-clause-spares g c).After-self in
    let most = ap (λ v. levels_at_most v.nodes) c.self.view_is in let had = ap (λ v. v.spares) c.self.view_is in
    let room = c.requires.spares in let count = c.make_row.ensures.count in let used = c.make_row.ensures.spares in
    let row_used = c.put_row.ensures.used in let row_spares = c.put_row.ensures.spares in
    let same = ap levels_at_most (c.put_row.ensures.nodes ∙ c.make_row.ensures.nodes) in
    omega (arith, low, most, had, room, count, used, row_used, row_spares, same)

pub lift-self-inside-requires-clause-rooms : goal.lift-self-inside-requires-clause-rooms
lift-self-inside-requires-clause-rooms g c =
    let low = low g (goal.at.lift-self-inside-requires-clause-rooms g c).After-self in
    let most = ap (λ v. levels_at_most v.nodes) c.self.view_is in let had = ap (λ v. v.rooms) c.self.view_is in
    let room = c.requires.rooms in let count = c.make_row.ensures.count in let used = c.make_row.ensures.rooms in
    let row_used = c.put_row.ensures.used in
    let same = ap levels_at_most (c.put_row.ensures.nodes ∙ c.make_row.ensures.nodes) in
    omega (arith, low, most, had, room, count, used, row_used, same)

pub returns-clause-used : goal.returns-clause-used
returns-clause-used g c =
    let low = low g (goal.at.returns-clause-used g c).After-self in
    let most = ap (λ v. levels_at_most v.nodes) c.self.view_is in let had = ap (λ v. v.rooms) c.self.view_is in
    let count = c.make_row.ensures.count in let used = c.make_row.ensures.rooms in
    let row_used = c.put_row.ensures.used in let lift_used = c.lift-self-inside.ensures.used in
    let same = ap levels_at_most (c.put_row.ensures.nodes ∙ c.make_row.ensures.nodes) in
    omega (arith, low, most, had, count, used, row_used, lift_used, same)

-- ---- trees
pub put_row-requires-clause-take : goal.put_row-requires-clause-take
put_row-requires-clause-take g c =
    let m = records c.self.inside.store in let l = records c.make_row.new.store in let h = c.self.inside.height in
    let r = c.self.inside.root in let xs = c.make_row.new.row.items in
    let same = ap (λ v. v.lines) c.self.view_is in
    let some = c.requires.some in let count = c.make_row.ensures.count in
    can-take m l h r c.args.k xs c.self.invariant.0.stands c.make_row.ensures.row
    (subst (λ ls. c.args.k ≤ length ls) (sym same) c.requires.place) (omega (arith, some, count))
    (fits-row (lines_in m h r) c.args.self.now.lines (lines_of 0 (trees_at l 0 xs))
    (drop c.args.rest c.args.lines.now.items) same c.make_row.ensures.lines c.requires.fits)

pub lift-self-inside-requires-clause-lift : goal.lift-self-inside-requires-clause-lift
lift-self-inside-requires-clause-lift g c =
    let m = records c.self.inside.store in let l = records c.make_row.new.store in let h = c.self.inside.height in
    let r = c.self.inside.root in let xs = c.make_row.new.row.items in
    let same = ap (λ v. v.lines) c.self.view_is in
    let some = c.requires.some in let count = c.make_row.ensures.count in
    can-lift m l h r c.args.k xs c.self.invariant.0.stands c.make_row.ensures.row
    (subst (λ ls. c.args.k ≤ length ls) (sym same) c.requires.place) (omega (arith, some, count))
    (fits-row (lines_in m h r) c.args.self.now.lines (lines_of 0 (trees_at l 0 xs))
    (drop c.args.rest c.args.lines.now.items) same c.make_row.ensures.lines c.requires.fits)
    (records c.put_row.new.store) c.put_row.new.row.items c.put_row.ensures.takes

pub invariant_of-self : goal.invariant_of-self
invariant_of-self g c =
    let m = records c.self.inside.store in let l = records c.make_row.new.store in let h = c.self.inside.height in
    let n = records c.put_row.new.store in let u = records c.lift-self-inside.new.store in
    let r = c.self.inside.root in let xs = c.make_row.new.row.items in let ys = c.put_row.new.row.items in
    let top = c.lift-self-inside.result in let a = c.index.result.now in
    let same = ap (λ v. v.lines) c.self.view_is in
    let place = subst (λ ls. c.args.k ≤ length ls) (sym same) c.requires.place in
    let some = c.requires.some in let count = c.make_row.ensures.count in
    let one = only-one c.lift-self-inside.new.row.items a c.lift-self-inside.ensures.lifts.one c.index.ensures in
    let lifts = subst (λ zs. Lifts n u h ys top zs) one c.lift-self-inside.ensures.lifts in
    let fits = fits-row (lines_in m h r) c.args.self.now.lines (lines_of 0 (trees_at l 0 xs))
    (drop c.args.rest c.args.lines.now.items) same c.make_row.ensures.lines c.requires.fits in
    let is = lines-lifted m l h r c.args.k xs c.self.invariant.0.stands c.make_row.ensures.row place
    (omega (arith, some, count)) fits n ys c.put_row.ensures.takes u top a lifts in
    let long = ap length is ∙ length-with_lines (lines_in m h r) c.args.k (lines_of 0 (trees_at l 0 xs)) place in
    let row = length-lines l (trees_at l 0 xs) c.make_row.ensures.row.holds in let tops = length-map xs (tree_at l 0) in
    let had = c.self.invariant.1 in let len = c.len.ensures in let ok = c.args.lines.now.ok.0 in (
      lifted-alone m l h r c.args.k xs c.self.invariant.0.stands c.make_row.ensures.row place (omega (arith, some, count))
          fits n ys c.put_row.ensures.takes u top a lifts c.self.invariant.0.whole,
      omega (arith, long, row, tops, had, count, len, ok),
    )

pub returns-clause-lines : goal.returns-clause-lines
returns-clause-lines g c =
    let m = records c.self.inside.store in let l = records c.make_row.new.store in let h = c.self.inside.height in
    let n = records c.put_row.new.store in let u = records c.lift-self-inside.new.store in
    let r = c.self.inside.root in let xs = c.make_row.new.row.items in let ys = c.put_row.new.row.items in
    let top = c.lift-self-inside.result in let a = c.index.result.now in
    let same = ap (λ v. v.lines) c.self.view_is in
    let place = subst (λ ls. c.args.k ≤ length ls) (sym same) c.requires.place in
    let some = c.requires.some in let count = c.make_row.ensures.count in
    let one = only-one c.lift-self-inside.new.row.items a c.lift-self-inside.ensures.lifts.one c.index.ensures in
    let lifts = subst (λ zs. Lifts n u h ys top zs) one c.lift-self-inside.ensures.lifts in
    let fits = fits-row (lines_in m h r) c.args.self.now.lines (lines_of 0 (trees_at l 0 xs))
    (drop c.args.rest c.args.lines.now.items) same c.make_row.ensures.lines c.requires.fits in (
      lines_of 0 (trees_at l 0 xs),
      c.make_row.ensures.lines,
      lines-lifted m l h r c.args.k xs c.self.invariant.0.stands c.make_row.ensures.row place
          (omega (arith, some, count)) fits n ys c.put_row.ensures.takes u top a lifts
          ∙ ap (λ ls. with_lines ls c.args.k (lines_of 0 (trees_at l 0 xs))) same
          ∙ sym (append_assoc (take c.args.k c.args.self.now.lines) (lines_of 0 (trees_at l 0 xs))
          (drop c.args.k c.args.self.now.lines)),
    )

-- ---- one line
pub insert-requires-clause-spares : goal.insert-requires-clause-spares
insert-requires-clause-spares g c =
    let low = low g (goal.at.insert-requires-clause-spares g c).After-self in
    let high = ap (λ v. v.height) c.self.view_is in
    let room = c.requires.spares in let some = c.requires.some in omega (arith, low, high, room, some)

pub insert-requires-clause-rooms : goal.insert-requires-clause-rooms
insert-requires-clause-rooms g c =
    let low = low g (goal.at.insert-requires-clause-rooms g c).After-self in
    let high = ap (λ v. v.height) c.self.view_is in
    let first = positive-root (records c.self.inside.store) c.self.inside.height c.self.inside.root
    c.self.invariant.0.stands in
    let room = c.requires.rooms in let some = c.requires.some in omega (arith, low, high, first, room, some)

pub returns-in-Some-clause-used : goal.returns-in-Some-clause-used
returns-in-Some-clause-used g c =
    let low = low g (goal.at.returns-in-Some-clause-used g c).After-self in
    let high = ap (λ v. v.height) c.self.view_is in
    let first = positive-root (records c.self.inside.store) c.self.inside.height c.self.inside.root
    c.self.invariant.0.stands in
    let some = c.requires.some in let s = c.insert.ensures.spares in let r = c.insert.ensures.rooms in
    omega (arith, low, high, first, some, s, r)

pub returns-in-Some-clause-lines : goal.returns-in-Some-clause-lines
returns-in-Some-clause-lines g c =
    let added : Named = (c.insert.result, c.in-Some.line) in
    let one = c.if-count-eq1.true in let len = c.len.ensures in let ok = c.args.lines.now.ok.0 in
    let is = c.in-Some.ensures.items in let long = ap length is ∙ length_push c.pop.new.self.items c.in-Some.line in
    let e : c.args.rest ≡ length c.pop.new.self.items = omega (arith, one, len, ok, long) in (
      added ∷ [],
      sym (ap (λ j. drop j c.args.lines.now.items) e ∙ ap (drop (length c.pop.new.self.items)) is
          ∙ drop-length c.pop.new.self.items (c.in-Some.line ∷ [])),
      c.insert.ensures.lines
          ∙ sym (append_assoc (take c.args.k c.args.self.now.lines) (added ∷ []) (drop c.args.k c.args.self.now.lines)),
    )
