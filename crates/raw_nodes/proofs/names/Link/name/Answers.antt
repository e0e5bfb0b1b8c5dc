use Rattle.raw_nodes.proofs.Common.{sym, ◌∙◌}
use Rattle.raw_nodes.proofs.LinkLaws.{named_at}
use Rattle.raw_nodes.proofs.names.Link.name.Goals as goal

pub returns-in-Some : goal.returns-in-Some
returns-in-Some c = sym (named_at _ c.args.self.at c.args.self.start (c.as_ptr.ensures ∙ c.in-Some.ensures.value))
