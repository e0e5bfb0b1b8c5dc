use Rattle.documents.proofs.Common.{◌-◌, map, ◌^◌, all_carried_within, mark_taken}
use Rattle.documents.proofs.CarriedMarksLaws.{changes-done, changes-next}
use Rattle.documents.proofs.mark_lists.MarkList.carry_all.Goals as goal

pub loop-change-preserved : goal.loop-change-preserved
loop-change-preserved c =
    changes-next (2 ^ 64 - 1) c.args.changes.now c.loop-change.change-index c.change-item.result
    (map (mark_taken (all_carried_within (2 ^ 64 - 1) c.args.changes.now)) c.args.self.now) c.loop-change.self
    c.carry.new.self c.loop-change-test.true c.change-item.is c.loop-change.invariant c.carry.ensures

pub returns : goal.returns
returns c =
    changes-done (2 ^ 64 - 1) c.args.changes.now c.loop-change.change-index
    (map (mark_taken (all_carried_within (2 ^ 64 - 1) c.args.changes.now)) c.args.self.now) c.loop-change.self
    c.loop-change-test.false c.loop-change.invariant
