use Rattle.command_table.proofs.Common.{arith, codes}
use Rattle.command_table.proofs.PlaceLaws.{by_family, whatever_next}
use Rattle.command_table.proofs.entries.place_of_pair.Goals as goal

pub returns-in-mark : goal.returns-in-mark
returns-in-mark c = by_family _ c.args.first.now (codes "mark") _ (omega arith) (grind arith) c.place_in_mark.ensures

pub returns-in-tag : goal.returns-in-tag
returns-in-tag c = by_family _ c.args.first.now (codes "tag") _ (omega arith) (grind arith) c.place_in_tag.ensures

pub returns-in-edit : goal.returns-in-edit
returns-in-edit c = by_family _ c.args.first.now (codes "edit") _ (omega arith) (grind arith) c.place_in_edit.ensures

pub returns-in-peer : goal.returns-in-peer
returns-in-peer c = by_family _ c.args.first.now (codes "peer") _ (omega arith) (grind arith) c.place_in_peer.ensures

pub returns-in_default : goal.returns-in_default
returns-in_default c = whatever_next _ _ _ c.place_alone.ensures
