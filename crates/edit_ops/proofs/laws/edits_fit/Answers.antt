use Rattle.edit_ops.proofs.KeepLaws.{texts-kept, replaced-kept, deleted-kept, tagged-kept}
use Rattle.edit_ops.proofs.ReversalLaws.{undone-kept, redone-kept}
use Rattle.edit_ops.proofs.laws.edits_fit.Goals as goal

pub returns : goal.returns
returns c = record {
  inserted = texts-kept;
  replaced = replaced-kept;
  deleted = deleted-kept;
  undone = undone-kept;
  redone = redone-kept;
  tagged = tagged-kept;
}
