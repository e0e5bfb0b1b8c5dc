use Rattle.toggle_sums.proofs.UsedLaws.{AreUsed-zeros}
use Rattle.toggle_sums.proofs.WordSteps.{slots_of-zeros}
use Rattle.toggle_sums.proofs.toggle_words.ToggleWords.none.Goals as goal

pub invariant_of-result : goal.invariant_of-result
invariant_of-result g c = AreUsed-zeros g.row.K

pub returns : goal.returns
returns g c = λ i. record {
  parity = slots_of-zeros g.row.K i;
  presence = slots_of-zeros g.row.K i;
}
