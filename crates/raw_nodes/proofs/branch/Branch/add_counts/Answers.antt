use Rattle.raw_nodes.proofs.Common.{◌+◌, sym}
use Rattle.toggle_sums.specs.CountLaws.{differing-empty, union-empty}
use Rattle.raw_nodes.proofs.branch.Branch.add_counts.Goals as goal

pub returns-clause-sum : goal.returns-clause-sum
returns-clause-sum c =
    let now = c.args.self.now in
    let toggles = now.room.value.toggles in
    λ i. record {
      lines = now.lines + c.args.lines;
      characters = now.characters + c.args.characters;
      marks = now.marks + c.args.marks;
      parity = sym (differing-empty toggles.parity) i;
      presence = sym (union-empty toggles.presence) i;
    }
