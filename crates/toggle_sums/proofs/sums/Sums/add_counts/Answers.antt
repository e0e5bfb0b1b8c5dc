use Rattle.toggle_sums.proofs.Common.{◌+◌, sym, differing-empty, union-empty}
use Rattle.toggle_sums.proofs.sums.Sums.add_counts.Goals as goal

pub returns : goal.returns
returns g c =
    let now = c.self.inside in
    rw (← c.self.view_is) (λ i. record {
      lines = now.lines + c.args.lines;
      characters = now.characters + c.args.characters;
      marks = now.marks + c.args.marks;
      parity = sym (differing-empty now.toggles.parity) i;
      presence = sym (union-empty now.toggles.presence) i;
    })
