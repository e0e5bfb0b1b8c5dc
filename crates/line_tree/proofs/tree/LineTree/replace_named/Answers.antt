use Rattle.line_tree.proofs.Common.{◌+◌, length, ap, sym, ◌∙◌, subst, FitsSum, line_count, lines_in, plus, records}
use Rattle.line_tree.proofs.Common.{total, IsLineAt, line_room, changed}
use Rattle.line_tree.proofs.ChangingLaws.{length-changed, stands-changed}
use Rattle.line_tree.proofs.LineRoomLaws.{room-stays}
use Rattle.line_tree.proofs.PlaceLaws.{line-within}
use Rattle.line_tree.proofs.SpendingLaws.{keeps-same}
use Rattle.line_tree.proofs.tree.LineTree.replace_named.Goals as goal

pub replace_up-requires-clause-named : goal.replace_up-requires-clause-named
replace_up-requires-clause-named g c = (
  c.requires.named.0,
  subst (λ ls. IsLineAt ls c.requires.named.0 c.args.name) (sym (ap (λ v. v.lines) c.self.view_is)) c.requires.named.1,
)

pub replace_up-requires-clause-fits : goal.replace_up-requires-clause-fits
replace_up-requires-clause-fits g c =
    subst (λ ls. FitsSum (plus (total ls) (line_count c.args.line))) (sym (ap (λ v. v.lines) c.self.view_is))
    c.requires.fits

pub invariant_of-self : goal.invariant_of-self
invariant_of-self g c =
    let m = records c.self.inside.store in let n = records c.replace_up.new.store in
    let h = c.self.inside.height in let r = c.self.inside.root in
    let k = c.requires.named.0 in let was = sym (ap (λ v. v.lines) c.self.view_is) in
    let at = subst (λ ls. IsLineAt ls k c.args.name) was c.requires.named.1 in
    let gone = c.replace_up.ensures.changes.0 in let done = c.replace_up.ensures.changes.1 k at in
    let fits = subst (λ ls. FitsSum (plus (total ls) (line_count c.args.line))) was c.requires.fits in (
      stands-changed m n h r k (λ _. c.args.line) gone (line_count c.args.line) c.self.invariant.0 fits done,
      c.self.invariant.1 ∙ sym (ap length done.lines
          ∙ length-changed (lines_in m h r) k (λ _. c.args.line) (line-within (lines_in m h r) k c.args.name at)),
    )

pub returns : goal.returns
returns g c = let m = records c.self.inside.store in let h = c.self.inside.height in let r = c.self.inside.root in
    record {
      lines = λ k named.
          let same = ap (λ v. v.lines) c.self.view_is in
          let at = subst (λ ls. IsLineAt ls k c.args.name) (sym same) named in
          (c.replace_up.ensures.changes.1 k at).lines ∙ ap (changed k (λ _. c.args.line)) same;
      room =
          let k = c.requires.named.0 in
          let at = subst (λ ls. IsLineAt ls k c.args.name) (sym (ap (λ v. v.lines) c.self.view_is)) c.requires.named.1
          in let done = c.replace_up.ensures.changes.1 k at in
          room-stays _ _ (λ i. c.replace_up.ensures.spares i + done.count i) (ap length done.lines
          ∙ length-changed (lines_in m h r) k (λ _. c.args.line) (line-within (lines_in m h r) k c.args.name at))
          c.replace_up.ensures.spares c.replace_up.ensures.rooms ∙ ap line_room c.self.view_is;
      keeps =
          let k = c.requires.named.0 in
          let at = subst (λ ls. IsLineAt ls k c.args.name) (sym (ap (λ v. v.lines) c.self.view_is)) c.requires.named.1
          in let done = c.replace_up.ensures.changes.1 k at in
          keeps-same c.args.self.now _
          ((λ i. c.replace_up.ensures.spares i + done.count i) ∙ ap (λ v. v.nodes) c.self.view_is) (ap length done.lines
          ∙ length-changed (lines_in m h r) k (λ _. c.args.line) (line-within (lines_in m h r) k c.args.name at)
          ∙ ap (λ v. length v.lines) c.self.view_is) (c.replace_up.ensures.spares ∙ ap (λ v. v.spares) c.self.view_is)
          (c.replace_up.ensures.rooms ∙ ap (λ v. v.rooms) c.self.view_is) (ap (λ v. v.row_room) c.self.view_is);
    }
