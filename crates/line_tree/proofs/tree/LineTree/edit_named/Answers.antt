use Rattle.line_tree.proofs.Common.{◌≡◌, ℕ, length, ap, sym, ◌∙◌, subst, same_Some, Some, IfSome, FitsSum, LineContent}
use Rattle.line_tree.proofs.Common.{line_of, line_count, lines_in, plus, records, total, IsLineAt, changed, slice_get}
use Rattle.line_tree.proofs.Common.{Named, StandsAlone, CanEditNamed}
use Rattle.std.proofs.Common.{option_map}
use Rattle.line_tree.proofs.ChangingLaws.{length-changed, stands-changed}
use Rattle.line_tree.proofs.LineNodes.{StandsAt, stands-at}
use Rattle.line_tree.proofs.PlaceLaws.{line-within}
use Rattle.line_tree.proofs.tree.LineTree.edit_named.Given.{Over}
use Rattle.line_tree.proofs.tree.LineTree.edit_named.Goals.{After-self}
use Rattle.std.specs.FinMap as finite
use Rattle.line_tree.proofs.tree.LineTree.edit_named.Goals as goal

-- a line of this number has the name
named : (g : Over) (c : After-self g) (k : ℕ) → IsLineAt c.args.self.now.lines k c.args.name →
    IsLineAt (lines_in (records c.self.inside.store) c.self.inside.height c.self.inside.root) k c.args.name
named g c k at = subst (λ ls. IsLineAt ls k c.args.name) (sym (ap (λ v. v.lines) c.self.view_is)) at

abbrev lead : (g : Over) (c : After-self g) → IsLineAt c.args.self.now.lines c.requires.0 c.args.name
lead g c = ap (option_map (λ (l : Named). l.0)) c.requires.2

stands : (g : Over) (c : After-self g) (k : ℕ) → IsLineAt c.args.self.now.lines k c.args.name →
    StandsAt (records c.self.inside.store)
    (lines_in (records c.self.inside.store) c.self.inside.height c.self.inside.root) k c.args.name
stands g c k at =
    stands-at (records c.self.inside.store) c.self.inside.height c.self.inside.root c.args.name k
    c.self.invariant.0.stands.tree (named g c k at)

-- that is the line of the name
same-line : (g : Over) (c : After-self g) (k : ℕ) (line : LineContent)
    (is : slice_get c.args.self.now.lines k ≡ Some (c.args.name, line)) →
    (stands g c k (ap (option_map (λ (l : Named). l.0)) is)).line ≡ line
same-line g c k line is =
    let s = stands g c k (ap (option_map (λ (l : Named). l.0)) is) in
    ap (λ (l : Named). l.1) (same_Some (c.args.name, s.line) (c.args.name, line) (sym s.at
    ∙ ap (λ v. slice_get v.lines k) c.self.view_is ∙ is))

can : (g : Over) (c : After-self g) → CanEditNamed (g.E.LineEdit.fits c.args.edit.now)
    (g.E.LineEdit.edited c.args.edit.now)
    (total (lines_in (records c.self.inside.store) c.self.inside.height c.self.inside.root))
    (stands g c c.requires.0 (lead g c)).line
can g c =
    let fits = g.E.LineEdit.fits c.args.edit.now in
    let edited = g.E.LineEdit.edited c.args.edit.now in
    subst (CanEditNamed fits edited (total (lines_in (records c.self.inside.store) c.self.inside.height
    c.self.inside.root))) (sym (same-line g c c.requires.0 c.requires.1 c.requires.2))
    (subst (λ ls. CanEditNamed fits edited (total ls) c.requires.1) (sym (ap (λ v. v.lines) c.self.view_is)) c.requires.3)

pub edit_up-requires-clause-named : goal.edit_up-requires-clause-named
edit_up-requires-clause-named g c =
    let at = (goal.at.edit_up-requires-clause-named g c).After-self in
    (c.requires.0, named g at c.requires.0 (lead g at))

pub edit_up-requires-clause-can : goal.edit_up-requires-clause-can
edit_up-requires-clause-can g c =
    let at = (goal.at.edit_up-requires-clause-can g c).After-self in
    let s = stands g at c.requires.0 (lead g at) in
    subst (λ o. IfSome o (CanEditNamed (g.E.LineEdit.fits c.args.edit.now) (g.E.LineEdit.edited c.args.edit.now)
    (total (lines_in (records c.self.inside.store) c.self.inside.height c.self.inside.root))))
    (sym (ap line_of s.is ∙ s.held)) (can g at)

pub invariant_of-self : goal.invariant_of-self
invariant_of-self g c =
    let h = c.self.inside.height in
    let r = c.self.inside.root in
    let same = sym c.in_err-edit_up.ensures.refused in (
      subst (λ m. StandsAlone m h r) same c.self.invariant.0,
      c.self.invariant.1 ∙ ap (λ m. length (lines_in m h r)) same,
    )

pub invariant_of-self-2 : goal.invariant_of-self-2
invariant_of-self-2 g c =
    let at = (goal.at.invariant_of-self-2 g c).After-self in
    let m = records c.self.inside.store in
    let n = records c.edit_up.new.store in
    let h = c.self.inside.height in
    let r = c.self.inside.root in
    let k = c.requires.0 in
    let s = stands g at k (lead g at) in
    let edits = c.in_ok-edit_up.ensures.edits in
    let new = g.E.LineEdit.edited c.args.edit.now edits.line in
    let is : s.line ≡ edits.line = same_Some s.line edits.line (sym (ap line_of s.is ∙ s.held) ∙ edits.was) in
    let done = edits.changes k (named g at k (lead g at)) in
    let fits = subst (λ line. FitsSum (plus (total (lines_in m h r)) (line_count (g.E.LineEdit.edited c.args.edit.now line))))
    is (can g at).1 in (
      stands-changed m n h r k (λ _. new) edits.gone (line_count new) c.self.invariant.0 fits done,
      c.self.invariant.1 ∙ sym (ap length done.lines
          ∙ length-changed (lines_in m h r) k (λ _. new) (line-within (lines_in m h r) k c.args.name
          (named g at k (lead g at)))),
    )

pub returns-clause-made : goal.returns-clause-made
returns-clause-made g c = λ k line is.
    let at = (goal.at.returns-clause-made g c).After-self in
    let lead_is = ap (option_map (λ (l : Named). l.0)) is in
    let s = stands g at k lead_is in
    let edits = c.in_ok-edit_up.ensures.edits in
    let same : edits.line ≡ line = sym (same_Some s.line edits.line (sym (ap line_of s.is ∙ s.held) ∙ edits.was))
    ∙ same-line g at k line is in
    (edits.changes k (named g at k lead_is)).lines
    ∙ ap (λ ls. changed k (λ _. g.E.LineEdit.edited c.args.edit.now edits.line) ls) (ap (λ v. v.lines) c.self.view_is)
    ∙ ap (λ l. changed k (λ _. g.E.LineEdit.edited c.args.edit.now l) c.args.self.now.lines) same
