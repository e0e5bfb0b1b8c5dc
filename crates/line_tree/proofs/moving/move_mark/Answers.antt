use Rattle.line_tree.proofs.Common.{◌∙◌, ℕ, ap, slice_get, Named, NodePtr, IsLineAt, changed, without_mark, with_mark}
use Rattle.std.proofs.Common.{option_map}
use Rattle.line_tree.proofs.MovingLaws.{moved-alone, moved-from, names-stay}
use Rattle.line_tree.proofs.moving.move_mark.Goals.{In_ok-edit_named}
use Rattle.line_tree.proofs.moving.move_mark.Goals as goal

pub edit_named-requires : goal.edit_named-requires
edit_named-requires c =
    let can = c.requires.can in
    (can.at, can.line, can.is, (can.fits, can.counted))

-- the other line has its name yet
named : (c : In_ok-edit_named) (j : ℕ) (name : NodePtr) → IsLineAt c.args.tree.now.lines j name →
    IsLineAt c.edit_named.new.self.lines j name
named c j name is =
    let can = c.requires.can in
    ap (λ ls. option_map (λ (l : Named). l.0) (slice_get ls j)) (c.in_ok-edit_named.ensures.made can.at can.line can.is)
    ∙ names-stay c.args.tree.now.lines j can.at (λ _. with_mark c.args.number.0 c.args.place can.line) ∙ is

pub take_mark_named-requires : goal.take_mark_named-requires
take_mark_named-requires c =
    let can = c.requires.can in
    let other = c.in-Some.ensures can.at (ap (option_map (λ (l : Named). l.0)) can.is) in (
      other.at,
      named (goal.at.take_mark_named-requires c).In_ok-edit_named other.at c.in-Some.old other.named,
    )

pub returns-in-Some-clause-made : goal.returns-in-Some-clause-made
returns-in-Some-clause-made c = λ k line is.
    let n = c.args.number.0 in
    let other = c.in-Some.ensures k (ap (option_map (λ (l : Named). l.0)) is) in
    c.take_mark_named.ensures.lines other.at
    (named (goal.at.returns-in-Some-clause-made c).In_ok-edit_named other.at c.in-Some.old other.named)
    ∙ ap (changed other.at (without_mark n)) (c.in_ok-edit_named.ensures.made k line is)
    ∙ moved-from n other.at k c.args.place line c.args.tree.now.lines other.alone other.other

pub returns-in_default-clause-made : goal.returns-in_default-clause-made
returns-in_default-clause-made c = λ k line is.
    c.in_ok-edit_named.ensures.made k line is
    ∙ moved-alone c.args.number.0 k c.args.place line c.args.tree.now.lines
    (c.in_default.ensures k (ap (option_map (λ (l : Named). l.0)) is))
