use Rattle.raw_nodes.proofs.Common.{◌∙◌, ap, branch_sum, counting, less, plus}
use Rattle.toggle_sums.proofs.ExchangeLaws.{levelled}
use Rattle.raw_nodes.proofs.branch.Branch.exchange.Goals as goal

pub returns-else-not-exchange-clause-sum : goal.returns-else-not-exchange-clause-sum
returns-else-not-exchange-clause-sum c =
    let old = branch_sum c.args.self.now in
    let exchange = c.args.exchange.now in
    let gone = exchange.gone.now in
    let more = exchange.more.now in
    let level = c.if-not-exchange.false in
    c.lose_counts.ensures.sum
    ∙ (λ i. less (c.lines-2.ensures i) (c.characters-2.ensures i) (c.marks-2.ensures i) (branch_sum c.add_counts.new.self))
    ∙ ap (less gone.lines gone.characters gone.marks) (c.add_counts.ensures.sum
    ∙ (λ i. plus old (counting (c.lines.ensures i) (c.characters.ensures i) (c.marks.ensures i))))
    ∙ levelled gone more old (exchange.level_told level).0 (c.requires.level level)
