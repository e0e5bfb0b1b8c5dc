use Rattle.raw_nodes.proofs.Common.{◌≡◌, refl, sym, ◌∙◌}
use Rattle.raw_nodes.proofs.NameLaws.{line_off, line_said}
use Rattle.raw_nodes.proofs.StoreLaws.{place_of, read, says, used}
use Rattle.raw_nodes.proofs.store.NodeStore.line.Goals as goal

pub node-requires : goal.node-requires
node-requires g c = place_of c.args.self.now c.args.name c.requires

pub returns-in-Line : goal.returns-in-Line
returns-in-Line g c = says c.args.self.now c.args.name c.requires c.node.ensures (λ r. r.line) c.in-Line.is refl

pub returns-in_default : goal.returns-in_default
returns-in_default g c =
    let held = c.node.result.now.held in
    read c.args.self.now c.args.name c.requires c.node.ensures (λ r. _ ≡ r.line)
    (sym (line_said held _ (used c.args.self.now c.args.name c.requires c.node.ensures)
    ∙ line_off held c.in_default.not-Line))
