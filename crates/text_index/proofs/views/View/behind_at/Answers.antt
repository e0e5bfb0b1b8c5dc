use Rattle.text_index.proofs.Common.{arith}
use Rattle.text_index.proofs.StartLaws.{place-behind}
use Rattle.text_index.proofs.views.View.behind_at.Goals as goal

pub overflow_sub-result : goal.overflow_sub-result
overflow_sub-result g c =
    omega (arith, (place-behind c.args.self.now.whole_lines c.args.place c.line_at.result c.line_at.ensures c.requires.within).0)

pub returns-clause-value : goal.returns-clause-value
returns-clause-value g c =
    (place-behind c.args.self.now.whole_lines c.args.place c.line_at.result c.line_at.ensures c.requires.within).2

pub returns-clause-some : goal.returns-clause-some
returns-clause-some g c =
    omega (arith, (place-behind c.args.self.now.whole_lines c.args.place c.line_at.result c.line_at.ensures c.requires.within).0)

pub returns-clause-bound : goal.returns-clause-bound
returns-clause-bound g c =
    let behind = place-behind c.args.self.now.whole_lines c.args.place c.line_at.result c.line_at.ensures c.requires.within in
    omega (arith, behind.0, behind.1)
