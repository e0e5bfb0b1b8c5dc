use Rattle.search_dump.proofs.Common.{part_of, ◌≡◌, ◌+◌, ◌-◌, ◌<◌, ◌≤◌, ◌^◌, Some, ap, chars, length, subst, sym, ◌∙◌}
use Rattle.search_dump.proofs.Common.{shown, compared, beside}
use Rattle.search_dump.proofs.RepeatLaws.{has-within, nearest-beside, some-given}
use Rattle.search_dump.proofs.WindowLaws.{IsWithin}
use Rattle.search_dump.proofs.matching.match_beside.Goals.{in-Forward, in-Back}
use Rattle.search_dump.proofs.matching.match_beside.Goals as goal

pub returns-in-Some-beside : goal.returns-in-Some-beside
returns-in-Some-beside g c =
    let view = c.args.view.now in
    let pattern = c.args.pattern.now in
    let characters = chars pattern.text.now in
    let text = compared pattern.ignores_case (shown (part_of view)) in
    let place = c.args.place in
    let distance = c.in-Some.period.len in
    let at = c.in-Some-beside.beside in
    let is : at ≡ beside c.args.direction place distance =
    elim c.match-direction.branch [
      | in-Forward w ↦
          some-given w.checked_add-beside.result (place + distance
          < 2 ^ 64) (place + distance) at w.checked_add-beside.ensures (sym w.beside-is ∙ c.in-Some-beside.is)
          ∙ sym (ap (λ d. beside d place distance) w.in-Forward.is)
      | in-Back w ↦
          some-given w.checked_sub-beside.result (distance ≤ place) (place - distance) at w.checked_sub-beside.ensures
          (sym w.beside-is ∙ c.in-Some-beside.is)
          ∙ sym (ap (λ d. beside d place distance) w.in-Back.is)
    ] in
    let within = has-within c.args.stretch at pattern.len c.has.result c.has.ensures c.if-has.true in
    ap Some is
    ∙ nearest-beside characters text distance (chars c.in-Some.period.front.now) (chars c.in-Some.period.tail.now)
    (pattern.repeats c.in-Some.period c.in-Some.is) c.args.direction c.args.stretch place
    c.requires.matches c.requires.behind (subst (IsWithin c.args.stretch (length characters)) is
    (subst (λ n. IsWithin c.args.stretch n at) c.args.pattern.now.counted within))
    (c.in_ok-goes_on.ensures c.if-branch.true)
