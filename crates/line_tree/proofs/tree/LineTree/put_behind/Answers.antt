use Rattle.line_tree.proofs.Common.{◌≡◌, ◌≤◌, ◌+◌, ◌-◌, suc, length, ap, sym, ◌∙◌, subst, arith, Some, [], ◌∷◌, insert}
use Rattle.line_tree.proofs.Common.{length-insert, FitsSum, Records, blank, line_count, lines_in, sum_of, plus, records}
use Rattle.line_tree.proofs.Common.{spares, total, get_inserted, Inserts, StandsAlone, IsLineAt, levels_at_most}
use Rattle.line_tree.proofs.LevelLaws.{levels-held}
use Rattle.line_tree.proofs.LineRoomLaws.{one-more, room-falls}
use Rattle.line_tree.proofs.RoomLaws.{len-line, len-root}
use Rattle.line_tree.proofs.RootLaws.{can-insert, same-lines, can-root, fits-now, new-root, new-root-alone, same-root}
use Rattle.line_tree.proofs.RootLaws.{same-root-alone}
use Rattle.line_tree.proofs.RowLaws.{none_of}
use Rattle.line_tree.proofs.TreeLaws.{named-tree, total-lines}
use Rattle.std.specs.FinMap as finite
use Rattle.line_tree.proofs.tree.LineTree.put_behind.Goals as goal

pub overflow_add-self : goal.overflow_add-self
overflow_add-self g c = let few = c.requires.fits.lines in let n = total-lines c.args.self.now.lines in
    let is = c.self.invariant.1 in
    let same = ap (λ v. length v.lines) c.self.view_is in omega arith

pub insert_next-split-requires-clause-insert : goal.insert_next-split-requires-clause-insert
insert_next-split-requires-clause-insert g c = let m = records c.self.inside.store in let h = c.self.inside.height in
    let r = c.self.inside.root in
    let same = sym (ap (λ v. v.lines) c.self.view_is) in
    can-insert m (records c.new_line-name.new.store) c.new_line-name.result c.args.line c.new_line-name.ensures.line h r
    c.args.k c.self.invariant.0.stands
    (subst (λ ls. c.args.k ≤ length ls) same c.requires.place)
    (subst (λ ls. FitsSum (plus (total ls) (line_count c.args.line))) same c.requires.fits)

pub insert_next-split-requires-clause-more : goal.insert_next-split-requires-clause-more
insert_next-split-requires-clause-more g c = let m = records c.self.inside.store in
    let x = c.new_line-name.result in
    c.sum-more.ensures
    ∙ ap sum_of (sym (ap (λ (k : Records). finite.get k x) c.new_line-name.ensures.line.same
    ∙ get_inserted m x (blank (Some c.args.line))))

pub insert_next-split-requires-clause-behind : goal.insert_next-split-requires-clause-behind
insert_next-split-requires-clause-behind g c p is = let m = records c.self.inside.store in
    let h = c.self.inside.height in let r = c.self.inside.root in let named = c.requires.behind p is in
    let now = sym (ap (λ v. v.lines) c.self.view_is) ∙ sym (same-lines m (records c.new_line-name.new.store)
    c.new_line-name.result c.args.line c.new_line-name.ensures.line h r c.self.invariant.0.stands.tree) in
    (named.0, subst (λ ls. IsLineAt ls (c.args.k - 1) p) now named.1)

pub join-self-inside-requires-clause-right : goal.join-self-inside-requires-clause-right
join-self-inside-requires-clause-right g c = let l = records c.insert_next-split.new.store in
    let h = c.self.inside.height in
    let ins = subst (λ o. Inserts (records c.new_line-name.new.store) l h c.self.inside.root c.args.k
    c.new_line-name.result o) c.in-Some.is c.insert_next-split.ensures.inserts in
    named-tree l h c.in-Some.sibling ins.grows.holds.1.0

pub join-self-inside-requires-clause-fits : goal.join-self-inside-requires-clause-fits
join-self-inside-requires-clause-fits g c = let m = records c.self.inside.store in
    let n = records c.new_line-name.new.store in let l = records c.insert_next-split.new.store in
    let h = c.self.inside.height in let r = c.self.inside.root in
    let ins = subst (λ o. Inserts n l h r c.args.k c.new_line-name.result o) c.in-Some.is
    c.insert_next-split.ensures.inserts in
    can-root l h r c.in-Some.sibling ins.grows.holds
    (fits-now m n l c.new_line-name.result c.args.line c.new_line-name.ensures.line h r c.args.k
    c.self.invariant.0.stands (Some c.in-Some.sibling) ins
    (subst (λ ls. FitsSum (plus (total ls) (line_count c.args.line))) (sym (ap (λ v. v.lines) c.self.view_is))
    c.requires.fits))

pub invariant_of-self : goal.invariant_of-self
invariant_of-self g c = let m = records c.self.inside.store in let n = records c.new_line-name.new.store in
    let l = records c.insert_next-split.new.store in let u = records c.join-self-inside.new.store in
    let h = c.self.inside.height in let r = c.self.inside.root in
    let a = c.join-self-inside.result in let x = c.new_line-name.result in
    let ins = subst (λ o. Inserts n l h r c.args.k x o) c.in-Some.is c.insert_next-split.ensures.inserts in
    let e : suc h ≡ h + 1 = omega arith in
    let same = sym (ap (λ v. v.lines) c.self.view_is) in
    let fits = subst (λ ls. FitsSum (plus (total ls) (line_count c.args.line))) same c.requires.fits in
    let grown = ap (λ j. lines_in u j a) (sym e)
    ∙ (new-root m n l u x c.args.line c.new_line-name.ensures.line h r c.args.k c.self.invariant.0.stands
    c.in-Some.sibling ins fits a c.join-self-inside.ensures.root).1 in (
      subst (λ j. StandsAlone u j a) e (new-root-alone m n l u x c.args.line c.new_line-name.ensures.line h r c.args.k
          c.self.invariant.0 c.in-Some.sibling ins fits a c.join-self-inside.ensures.root),
      one-more (lines_in m h r) c.args.k (x, c.args.line) (lines_in u (h + 1) a) c.self.inside.count
          (subst (λ ls. c.args.k ≤ length ls) same c.requires.place) c.self.invariant.1 grown,
    )

pub invariant_of-self-in_default : goal.invariant_of-self-in_default
invariant_of-self-in_default g c = let m = records c.self.inside.store in let n = records c.new_line-name.new.store in
    let l = records c.insert_next-split.new.store in let h = c.self.inside.height in let r = c.self.inside.root in
    let x = c.new_line-name.result in
    let ins = subst (λ o. Inserts n l h r c.args.k x o) (none_of c.insert_next-split.result c.in_default.not-Some)
    c.insert_next-split.ensures.inserts in
    let same = sym (ap (λ v. v.lines) c.self.view_is) in
    let fits = subst (λ ls. FitsSum (plus (total ls) (line_count c.args.line))) same c.requires.fits in
    let grown = (same-root m n l x c.args.line c.new_line-name.ensures.line h r c.args.k c.self.invariant.0.stands ins
    fits).1 in (
      same-root-alone m n l x c.args.line c.new_line-name.ensures.line h r c.args.k c.self.invariant.0 ins fits,
      one-more (lines_in m h r) c.args.k (x, c.args.line) (lines_in l h r) c.self.inside.count
          (subst (λ ls. c.args.k ≤ length ls) same c.requires.place) c.self.invariant.1 grown,
    )

pub returns-in-Some-clause-lines : goal.returns-in-Some-clause-lines
returns-in-Some-clause-lines g c = let m = records c.self.inside.store in let n = records c.new_line-name.new.store in
    let l = records c.insert_next-split.new.store in let h = c.self.inside.height in let r = c.self.inside.root in
    let ins = subst (λ o. Inserts n l h r c.args.k c.new_line-name.result o) c.in-Some.is
    c.insert_next-split.ensures.inserts in
    let e : suc h ≡ h + 1 = omega arith in
    ap (λ j. lines_in (records c.join-self-inside.new.store) j c.join-self-inside.result) (sym e)
    ∙ (new-root m n l (records c.join-self-inside.new.store) c.new_line-name.result c.args.line
    c.new_line-name.ensures.line h r c.args.k c.self.invariant.0.stands c.in-Some.sibling ins
    (subst (λ ls. FitsSum (plus (total ls) (line_count c.args.line))) (sym (ap (λ v. v.lines) c.self.view_is))
    c.requires.fits) c.join-self-inside.result c.join-self-inside.ensures.root).1
    ∙ ap (λ ls. insert ls c.args.k (c.new_line-name.result, c.args.line)) (ap (λ v. v.lines) c.self.view_is)

pub returns-in_default-clause-lines : goal.returns-in_default-clause-lines
returns-in_default-clause-lines g c = let m = records c.self.inside.store in
    let n = records c.new_line-name.new.store in let l = records c.insert_next-split.new.store in
    let h = c.self.inside.height in let r = c.self.inside.root in
    let ins = subst (λ o. Inserts n l h r c.args.k c.new_line-name.result o)
    (none_of c.insert_next-split.result c.in_default.not-Some) c.insert_next-split.ensures.inserts in
    (same-root m n l c.new_line-name.result c.args.line c.new_line-name.ensures.line h r c.args.k
    c.self.invariant.0.stands ins
    (subst (λ ls. FitsSum (plus (total ls) (line_count c.args.line))) (sym (ap (λ v. v.lines) c.self.view_is))
    c.requires.fits)).1
    ∙ ap (λ ls. insert ls c.args.k (c.new_line-name.result, c.args.line)) (ap (λ v. v.lines) c.self.view_is)

pub returns-in-Some-clause-nodes : goal.returns-in-Some-clause-nodes
returns-in-Some-clause-nodes g c = let m = records c.self.inside.store in let n = records c.new_line-name.new.store in
    let l = records c.insert_next-split.new.store in
    let a = len-line m n c.new_line-name.result c.args.line c.new_line-name.ensures.line in
    let b = len-root l (records c.join-self-inside.new.store) c.join-self-inside.result
    (c.self.inside.root ∷ c.in-Some.sibling ∷ []) c.join-self-inside.ensures.root in
    let s1 = c.new_line-name.ensures.spares in let s2 = c.insert_next-split.ensures.count in
    let s3 = c.join-self-inside.ensures.spares in let v = ap (λ z. z.nodes) c.self.view_is in omega arith

pub returns-in_default-clause-nodes : goal.returns-in_default-clause-nodes
returns-in_default-clause-nodes g c = let m = records c.self.inside.store in
    let n = records c.new_line-name.new.store in
    let a = len-line m n c.new_line-name.result c.args.line c.new_line-name.ensures.line in
    let s1 = c.new_line-name.ensures.spares in let s2 = c.insert_next-split.ensures.count in
    let v = ap (λ z. z.nodes) c.self.view_is in omega arith

pub returns-in-Some-clause-rooms : goal.returns-in-Some-clause-rooms
returns-in-Some-clause-rooms g c =
    let s1 = c.new_line-name.ensures.spares in let s3 = c.join-self-inside.ensures.spares in
    let v = ap (λ z. z.spares) c.self.view_is in
    let r1 = c.new_line-name.ensures.rooms in let r2 = c.insert_next-split.ensures.rooms in
    let r3 = c.join-self-inside.ensures.rooms in let w = ap (λ z. z.rooms) c.self.view_is in omega arith

pub returns-in_default-clause-rooms : goal.returns-in_default-clause-rooms
returns-in_default-clause-rooms g c =
    let s1 = c.new_line-name.ensures.spares in let v = ap (λ z. z.spares) c.self.view_is in
    let r1 = c.new_line-name.ensures.rooms in let r2 = c.insert_next-split.ensures.rooms in
    let w = ap (λ z. z.rooms) c.self.view_is in omega arith

pub returns-in-Some-clause-spares : goal.returns-in-Some-clause-spares
returns-in-Some-clause-spares g c = let v = ap (λ z. z.spares) c.self.view_is in
    let w = ap (λ z. z.height) c.self.view_is in omega arith

pub returns-in-Some-clause-room : goal.returns-in-Some-clause-room
returns-in-Some-clause-room g c = let m = records c.self.inside.store in let h = c.self.inside.height in
    let r = c.self.inside.root in let stands = c.self.invariant.0.stands in
    let old = c.args.self.now in
    room-falls old _ (subst (λ v. v.height ≤ levels_at_most v.nodes) c.self.view_is
    (levels-held m h r (spares c.self.inside.store) stands)) (returns-in-Some-clause-nodes g c)
    (ap length (returns-in-Some-clause-lines g c)
    ∙ length-insert old.lines c.args.k (c.new_line-name.result, c.args.line) c.requires.place)
    (returns-in-Some-clause-spares g c) (returns-in-Some-clause-rooms g c)

pub returns-in_default-clause-spares : goal.returns-in_default-clause-spares
returns-in_default-clause-spares g c = let v = ap (λ z. z.spares) c.self.view_is in
    let w = ap (λ z. z.height) c.self.view_is in omega arith

pub returns-in_default-clause-room : goal.returns-in_default-clause-room
returns-in_default-clause-room g c = let m = records c.self.inside.store in let h = c.self.inside.height in
    let r = c.self.inside.root in let stands = c.self.invariant.0.stands in
    let old = c.args.self.now in
    room-falls old _ (subst (λ v. v.height ≤ levels_at_most v.nodes) c.self.view_is
    (levels-held m h r (spares c.self.inside.store) stands)) (returns-in_default-clause-nodes g c)
    (ap length (returns-in_default-clause-lines g c)
    ∙ length-insert old.lines c.args.k (c.new_line-name.result, c.args.line) c.requires.place)
    (returns-in_default-clause-spares g c) (returns-in_default-clause-rooms g c)
