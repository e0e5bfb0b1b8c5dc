use Rattle.edit_ops.proofs.AnchoredEditLaws.{deleted-anchored, redone-anchored, replaced-anchored, span-anchored}
use Rattle.edit_ops.proofs.AnchoredEditLaws.{spans-anchored, texts-anchored, undone-anchored}
use Rattle.edit_ops.proofs.AnchoredLaws.{anchored-stand}
use Rattle.edit_ops.proofs.laws.anchors_stand_yet.Goals as goal

pub returns : goal.returns
returns c = record {
  within = anchored-stand;
  inserted = texts-anchored;
  removed = span-anchored;
  spans = spans-anchored;
  replaced = replaced-anchored;
  deleted = deleted-anchored;
  undone = undone-anchored;
  redone = redone-anchored;
}
