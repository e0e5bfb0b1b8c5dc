use Rattle.reports.proofs.Common.{◌≡◌, None, Some, false, sym, subst, ◌∙◌, chars, flags, AddsRuns, TellsSpan}
use Rattle.reports.proofs.GoneLaws.{found-as, gone-more, gone-seen, gone-selection, gone-unknown}
use Rattle.reports.proofs.tags_gone.push_gone.Goals.{then-slot-eq0-via-then-slot-eq0}
use Rattle.reports.proofs.tags_gone.push_gone.Goals.{then-slot-eq0-via-else-slot-eq0+then-has}
use Rattle.reports.proofs.tags_gone.push_gone.Goals as goal

pub returns-in_default : goal.returns-in_default
returns-in_default g c = λ seats names seated gone.
    let table = c.args.tags.now in
    let cells = (g.S.TextStore.content c.args.store.now).cells in
    let name = c.args.key.now.name in
    gone-unknown seats table seated c.requires.sound cells names name c.args.seen.now c.args.told.now gone
    (found-as table.tags None (chars c.as_str.result.now) name c.in_default.ensures.value c.as_str.ensures.characters)

pub returns-then-slot-eq0 : goal.returns-then-slot-eq0
returns-then-slot-eq0 g c = λ seats names seated gone.
    let table = c.args.tags.now in
    let cells = (g.S.TextStore.content c.args.store.now).cells in
    let name = c.args.key.now.name in
    let slot = c.in-Some.slot.0 in
    let is = found-as table.tags (Some slot) (chars c.as_str.result.now) name c.in-Some.ensures.value
    c.as_str.ensures.characters in
    elim c.then-slot-eq0.branch [
      | then-slot-eq0-via-then-slot-eq0 w ↦
          gone-selection seats table seated c.requires.sound cells names name c.args.seen.now c.args.told.now gone slot is
          w.if-slot-eq0.true
      | then-slot-eq0-via-else-slot-eq0+then-has w ↦
          gone-seen seats table seated c.requires.sound cells names name c.args.seen.now c.args.told.now gone slot is
          w.if-slot-eq0.false (sym w.has.ensures ∙ w.if-has.true)
    ]

pub returns : goal.returns
returns g c =
    let table = c.args.tags.now in
    let cells = (g.S.TextStore.content c.args.store.now).cells in
    let name = c.args.key.now.name in
    let slot = c.in-Some.slot.0 in
    let told = c.args.told.now in
    let more = c.push_unlike.new.self in
    let tells = c.in_ok-push_unlike.ensures.tells in
    let runs = c.in_ok-push_unlike.ensures.runs in
    let is = found-as table.tags (Some slot) (chars c.as_str.result.now) name c.in-Some.ensures.value
    c.as_str.ensures.characters in
    let shared : c.args.key.now ≡ record { selects = false; name = name } = λ i. record {
      selects = c.requires.shared i;
      name = name;
    } in
    λ seats names seated gone.
    gone-more seats table seated c.requires.sound cells names name c.args.seen.now told gone slot is
    c.if-slot-eq0.false (sym c.has.ensures ∙ c.if-has.false) c.with.result c.with.ensures more
    (subst (λ to. TellsSpan (record { selects = false; name = name }) false (flags slot cells) 0 to told more) c.len-to.ensures
    (subst (λ key. TellsSpan key false (flags slot cells) 0 c.len-to.result told more) shared tells))
    (subst (λ to. AddsRuns (record { selects = false; name = name }) 0 to told more) c.len-to.ensures
    (subst (λ key. AddsRuns key 0 c.len-to.result told more) shared runs))
