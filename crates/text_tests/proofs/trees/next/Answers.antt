use Rattle.std.proofs.Common.{◌+◌, sym, ◌∙◌}
use Rattle.text_tests.proofs.trees.next.Goals as goal

-- the name after that of line k is line k + 1
pub rank-requires : goal.rank-requires
rank-requires c = (c.args.k + 1, sym (c.next_name.ensures.value c.args.k c.select-name.ensures.name) ∙ c.in-Some.is)
