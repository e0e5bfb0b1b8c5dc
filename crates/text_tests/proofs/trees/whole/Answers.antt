use Rattle.std.proofs.Common.{◌≤◌, ap, arith, length, ◌∙◌}
use Rattle.std.proofs.lemmas.List.{take_all}
use Rattle.line_tree.specs.Trees.{total}
use Rattle.line_tree.proofs.PrefixLaws.{count-first}
use Rattle.text_tests.proofs.trees.whole.Goals as goal

pub returns : goal.returns
returns c =
    let lines = c.args.tree.now.lines in
    let all : length lines ≤ c.len.result = omega (arith, c.len.ensures) in
    c.prefix.ensures ∙ count-first c.len.result lines ∙ ap total (take_all c.len.result lines all)
