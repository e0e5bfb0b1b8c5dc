use Rattle.line_tree.proofs.Common.{◌+◌, length, ap, sym, ◌∙◌, subst, counting, no_text, lines_in, records, total}
use Rattle.line_tree.proofs.Common.{without_mark, IsLineAt, line_room, changed}
use Rattle.line_tree.proofs.ChangingLaws.{length-changed, stands-changed}
use Rattle.line_tree.proofs.LineRoomLaws.{room-stays}
use Rattle.line_tree.proofs.PlaceLaws.{line-within}
use Rattle.line_tree.proofs.SpendingLaws.{keeps-same}
use Rattle.line_tree.proofs.SumLaws.{fits-none}
use Rattle.line_tree.proofs.tree.LineTree.take_mark_named.Goals as goal

pub take_up-requires-clause-named : goal.take_up-requires-clause-named
take_up-requires-clause-named g c = (
  c.requires.0,
  subst (λ ls. IsLineAt ls c.requires.0 c.args.name) (sym (ap (λ v. v.lines) c.self.view_is)) c.requires.1,
)

pub invariant_of-self : goal.invariant_of-self
invariant_of-self g c =
    let m = records c.self.inside.store in let n = records c.take_up.new.store in
    let h = c.self.inside.height in let r = c.self.inside.root in
    let k = c.requires.0 in let f = without_mark c.args.number.0 in
    let at = subst (λ ls. IsLineAt ls k c.args.name) (sym (ap (λ v. v.lines) c.self.view_is)) c.requires.1 in
    let gone = c.take_up.ensures.takes.0 in let done = c.take_up.ensures.takes.1 k at in (
      stands-changed m n h r k f (counting 0 0 gone) no_text c.self.invariant.0
          (fits-none (total (lines_in m h r)) c.self.invariant.0.stands.fits) done,
      c.self.invariant.1 ∙ sym (ap length done.lines
          ∙ length-changed (lines_in m h r) k f (line-within (lines_in m h r) k c.args.name at)),
    )

pub returns : goal.returns
returns g c = let m = records c.self.inside.store in let h = c.self.inside.height in let r = c.self.inside.root in
    let f = without_mark c.args.number.0 in
    record {
      lines = λ k named.
          let same = ap (λ v. v.lines) c.self.view_is in
          let at = subst (λ ls. IsLineAt ls k c.args.name) (sym same) named in
          (c.take_up.ensures.takes.1 k at).lines ∙ ap (changed k (without_mark c.args.number.0)) same;
      room =
          let k = c.requires.0 in
          let at = subst (λ ls. IsLineAt ls k c.args.name) (sym (ap (λ v. v.lines) c.self.view_is)) c.requires.1 in
          let done = c.take_up.ensures.takes.1 k at in
          room-stays _ _ (λ i. c.take_up.ensures.spares i + done.count i)
          (ap length done.lines ∙ length-changed (lines_in m h r) k f (line-within (lines_in m h r) k c.args.name at))
          c.take_up.ensures.spares c.take_up.ensures.rooms ∙ ap line_room c.self.view_is;
      keeps =
          let k = c.requires.0 in
          let at = subst (λ ls. IsLineAt ls k c.args.name) (sym (ap (λ v. v.lines) c.self.view_is)) c.requires.1 in
          let done = c.take_up.ensures.takes.1 k at in
          keeps-same c.args.self.now _
          ((λ i. c.take_up.ensures.spares i + done.count i) ∙ ap (λ v. v.nodes) c.self.view_is) (ap length done.lines
          ∙ length-changed (lines_in m h r) k f (line-within (lines_in m h r) k c.args.name at)
          ∙ ap (λ v. length v.lines) c.self.view_is) (c.take_up.ensures.spares ∙ ap (λ v. v.spares) c.self.view_is)
          (c.take_up.ensures.rooms ∙ ap (λ v. v.rooms) c.self.view_is) (ap (λ v. v.row_room) c.self.view_is);
    }
