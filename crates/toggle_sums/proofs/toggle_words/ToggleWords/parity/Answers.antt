use Rattle.toggle_sums.proofs.Common.{◌∙◌, ap, ToggleSets}
use Rattle.toggle_sums.proofs.WordSteps.{found_bit}
use Rattle.std.specs.FinSet as set
use Rattle.toggle_sums.proofs.toggle_words.ToggleWords.parity.Goals as goal

pub returns : goal.returns
returns g c = found_bit g.row.K c.self.inside.parity c.args.slot.0 c.requires
    ∙ ap (λ (sums : ToggleSets). set.contains sums.parity c.args.slot.0) c.self.view_is
