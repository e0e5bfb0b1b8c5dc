use Rattle.raw_nodes.proofs.Common.{sym, refl, ◌∙◌}
use Rattle.raw_nodes.proofs.LinkLaws.{named_at}
use Rattle.raw_nodes.proofs.names.Link.of.Goals as goal

pub returns : goal.returns
returns c = named_at c.in-Some.name c.in-Some.name.at _ refl ∙ sym c.in-Some.is
