use Rattle.line_tree.proofs.Common.{◌≡◌, ◌+◌, ◌-◌, ◌≤◌, min, subst, arith, PutsRoom, levels_at_most}
use Rattle.line_tree.proofs.SpendingLaws.{puts-kept, puts-one}
use Rattle.line_tree.proofs.SpliceLaws.{put-named, still-named}
use Rattle.line_tree.proofs.tree.LineTree.put_line.Goals as goal

pub replace_named-requires-clause-named : goal.replace_named-requires-clause-named
replace_named-requires-clause-named g c = (c.args.k, c.select-name.ensures.name)

pub returns-then-k-end-clause-over : goal.returns-then-k-end-clause-over
returns-then-k-end-clause-over g c below = c.replace_named.ensures.lines c.args.k c.select-name.ensures.name

pub returns-then-k-end-clause-named : goal.returns-then-k-end-clause-named
returns-then-k-end-clause-named g c p is =
    still-named c.args.self.now.lines _ c.args.k c.select-name.result p (λ _. c.args.line) c.select-name.ensures.name
    (c.replace_named.ensures.lines c.args.k c.select-name.ensures.name) is

pub returns-else-k-end-clause-named : goal.returns-else-k-end-clause-named
returns-else-k-end-clause-named g c p is =
    put-named c.args.self.now.lines _ c.args.k c.put_behind.result c.args.line c.requires.within
    c.put_behind.ensures.lines p is

pub returns-then-k-end-clause-room : goal.returns-then-k-end-clause-room
returns-then-k-end-clause-room g c =
    let none : 0 ≡ min 1 (c.args.k + 1 - c.args.end) = omega arith in
    subst (PutsRoom c.args.self.now _) none (puts-kept c.args.self.now _ c.replace_named.ensures.keeps)

pub returns-else-k-end-clause-room : goal.returns-else-k-end-clause-room
returns-else-k-end-clause-room g c =
    let one : 1 ≡ min 1 (c.args.k + 1 - c.args.end) = omega arith in
    let put = c.put_behind.ensures in
    let low = subst (λ h. h ≤ levels_at_most c.args.self.now.nodes) c.height.ensures.value c.height.ensures.levels in
    subst (PutsRoom c.args.self.now _) one (puts-one c.args.self.now _ low put.nodes put.spares put.rooms put.names
    put.room)
