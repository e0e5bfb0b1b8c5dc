use Rattle.reports.proofs.Common.{◌∙◌, drop, take, take_all}
use Rattle.reports.proofs.KeyRunLaws.{joined-all, joined-as, joined-begun, joined-longer, joined-none, joined-passed}
use Rattle.reports.proofs.tag_lists.TagList.push_joined.Goals.{then-has, then-to-run+in_ok-push_some, else-to-run}
use Rattle.reports.proofs.tag_lists.TagList.push_joined.Goals.{else-has}
use Rattle.reports.proofs.tag_lists.TagList.push_joined.Goals as goal

pub loop-run-init : goal.loop-run-init
loop-run-init c = λ rising. joined-none c.args.key.now c.args.slot.0 c.args.on c.args.runs.now c.args.self.now rising

pub loop-run-preserved : goal.loop-run-preserved
loop-run-preserved c = λ rising.
    let key = c.args.key.now in
    let slot = c.args.slot.0 in
    let on = c.args.on in
    let runs = c.args.runs.now in
    let place = c.loop-run.run-index in
    let run = c.run-item.result in
    let told = c.args.self.now in
    let now = c.loop-run.self in
    let joined = c.loop-run.invariant rising in
    elim c.if-has.branch [
      | then-has w ↦ elim w.if-to-run.branch [
        | then-to-run+in_ok-push_some v ↦
            joined-as (w.from-is ∙ v.from-is) w.to-is (w.self-is ∙ v.self-is)
            (joined-begun key slot on runs place run c.has.result told now c.loop-run.from c.loop-run.to
            c.loop-run-test.true c.run-item.is c.has.ensures joined w.if-has.true v.if-to-run.true v.push_some.new.self
            v.in_ok-push_some.ensures)
        | else-to-run v ↦
            joined-as (w.from-is ∙ v.from-is) w.to-is (w.self-is ∙ v.self-is)
            (joined-longer key slot on runs place run c.has.result told now c.loop-run.from c.loop-run.to
            c.loop-run-test.true c.run-item.is c.has.ensures joined w.if-has.true v.if-to-run.false)
      ]
      | else-has w ↦
          joined-as w.from-is w.to-is w.self-is
          (joined-passed key slot on runs place run c.has.result told now c.loop-run.from c.loop-run.to
          c.loop-run-test.true c.run-item.is c.has.ensures joined w.if-has.false)
    ]

pub returns : goal.returns
returns c = λ rising.
    let runs = c.args.runs.now in
    let place = c.loop-run.run-index in
    joined-all c.args.key.now c.args.slot.0 c.args.on c.loop-run.from c.loop-run.to (take place runs) runs
    (drop place runs) c.args.self.now c.loop-run.self c.push_some-2.new.self (c.loop-run.invariant rising)
    (take_all place runs c.loop-run-test.false) c.in_ok-push_some-2.ensures
