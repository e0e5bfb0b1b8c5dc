use Rattle.reports.proofs.Common.{◌+◌, ◌≤◌, ◌∙◌, map, filter, ap, sym, subst, take, take_all, chars, arith, length}
use Rattle.reports.proofs.Common.{is_same, is_shared, tag_pair, TellsRuns}
use Rattle.reports.proofs.KeyListLaws.{own-out, runs-begun, sel-is, shared-in, shared-out}
use Rattle.reports.proofs.tag_runs.push_tags.Goals.{then-has+then-not-is_word+in_ok-key+in_ok-push_joined, else-has}
use Rattle.reports.proofs.tag_runs.push_tags.Goals.{else-has-via-then-has+else-not-is_word, else-has-via-else-has}
use Rattle.reports.proofs.tag_runs.push_tags.Goals as goal

pub loop-place-init : goal.loop-place-init
loop-place-init c = λ rising. runs-begun c.args.on c.args.runs.now c.args.told.now

pub loop-place-preserved : goal.loop-place-preserved
loop-place-preserved c = λ rising.
    let tags = c.args.tags.now.tags in
    let place = c.loop-place.place in
    let on = c.args.on in
    let runs = c.args.runs.now in
    let told = c.args.told.now in
    let before = c.loop-place.told in
    let slot = c.slot-slot.result.0 in
    let name = chars c.name-name.result.now in
    let more = map tag_pair (filter is_shared (take (place + 1) tags)) in
    elim c.if-has.branch [
      | then-has+then-not-is_word+in_ok-key+in_ok-push_joined w ↦
          subst (TellsRuns more on runs told) (sym w.told-is)
          (shared-in on runs told before tags place slot name w.in_ok-key.key w.is_word.result w.push_joined.new.self
          c.name-name.ensures c.slot-slot.ensures.value (w.is_word.ensures ∙ ap (is_same name) sel-is)
          w.if-not-is_word.true w.in_ok-key.ensures (c.loop-place.invariant rising) (w.in_ok-push_joined.ensures rising))
      | else-has w ↦ elim w.else-has.branch [
        | else-has-via-then-has+else-not-is_word v ↦
            subst (TellsRuns more on runs told) (sym w.told-is)
            (own-out on runs told before tags place name v.is_word.result c.name-name.ensures
            (v.is_word.ensures ∙ ap (is_same name) sel-is) v.if-not-is_word.false (c.loop-place.invariant rising))
        | else-has-via-else-has v ↦
            subst (TellsRuns more on runs told) (sym w.told-is)
            (shared-out on runs told before tags place slot c.args.slots.now c.has.result c.requires
            c.slot-slot.ensures.value c.has.ensures v.if-has.false (c.loop-place.invariant rising))
      ]
    ]

pub returns : goal.returns
returns c = λ rising.
    let tags = c.args.tags.now.tags in
    let place = c.loop-place.place in
    let all : length tags ≤ place = omega (arith, c.len-place-end.ensures.value, c.loop-place-test.false) in
    subst (λ ts. TellsRuns (map tag_pair (filter is_shared ts)) c.args.on c.args.runs.now c.args.told.now
    c.loop-place.told) (take_all place tags all) (c.loop-place.invariant rising)
