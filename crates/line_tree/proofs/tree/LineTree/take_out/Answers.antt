use Rattle.line_tree.proofs.Common.{◌∙◌, arith}
use Rattle.line_tree.proofs.LeavingLaws.{leaves-long, rest-out}
use Rattle.line_tree.proofs.SpendingLaws.{keeps-on}
use Rattle.line_tree.proofs.tree.LineTree.take_out.Goals as goal

pub take_lines-requires : goal.take_lines-requires
take_lines-requires g c = let leaves = c.take_branches-left.ensures in
    let long = leaves-long c.args.self.now _ c.args.k c.args.gone c.take_branches-left.result c.requires.within leaves
    in
    record {
      within = let within = c.requires.within in omega arith;
      some = let some = c.requires.some in omega arith;
    }

pub returns-clause-lines : goal.returns-clause-lines
returns-clause-lines g c = c.take_lines.ensures.lines
    ∙ rest-out c.args.self.now _ c.args.k c.args.gone c.take_branches-left.result c.requires.within
    c.take_branches-left.ensures

pub returns-clause-room : goal.returns-clause-room
returns-clause-room g c =
    keeps-on c.args.self.now _ _ c.take_branches-left.ensures.room c.take_lines.ensures.room
