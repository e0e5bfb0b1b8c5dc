use Rattle.segments.proofs.Common.{◌≡◌, ◌*◌, ◌<◌, ◌≤◌, length, drop, sym, ap, subst, ◌∙◌, arith, take_rest, IfSome}
use Rattle.segments.proofs.Common.{WORDS, LineContent, next_toggle, next_entry}
use Rattle.segments.proofs.NextLaws.{next_above, next_behind, next_below, next_column}
use Rattle.segments.proofs.RichLaws.{as_long}
use Rattle.segments.proofs.rich.RichLine.next_toggle.Goals.{After-next_toggle}
use Rattle.segments.proofs.rich.RichLine.next_toggle.Goals as goal

-- what is found from the column on is found among all
among_all : (c : After-next_toggle) →
    c.next_toggle.result ≡ next_entry c.args.slot.0 c.args.column c.self.inside.toggles.items
among_all c =
    let slot = c.args.slot.0 in
    let start = c.count_before-start.result in
    let before = rw c.deref.ensures.value at (c.count_before-start.ensures.before 0 (length c.self.inside.text)) in
    c.next_toggle.ensures
    ∙ ap (next_entry slot c.args.column) (take_rest c.deref-2.result.now start)
    ∙ ap (λ es. next_entry slot c.args.column (drop start es)) c.deref-2.ensures.value
    ∙ next_behind slot c.args.column (WORDS * 0) start c.self.inside.toggles.items (before c.self.invariant.0)

pub returns-clause-value : goal.returns-clause-value
returns-clause-value c =
    let text = c.self.inside.text in
    let within : c.args.column ≤ length text =
    omega (arith, c.requires.within, as_long c.self.inside c.self.view_is) in
    among_all c
    ∙ next_column c.args.slot.0 c.args.column text c.self.inside.toggles.items c.self.invariant.0 within
    ∙ ap (λ (line : LineContent). next_toggle c.args.slot.0 c.args.column line.columns) c.self.view_is

pub returns-clause-above : goal.returns-clause-above
returns-clause-above c =
    subst (λ r. IfSome r (λ next. c.args.column ≤ next)) (sym (among_all c))
    (next_above c.args.slot.0 c.args.column c.self.inside.toggles.items)

pub returns-clause-bound : goal.returns-clause-bound
returns-clause-bound c =
    let len = length c.self.inside.text in
    subst (λ n. IfSome c.next_toggle.result (λ next. next < n)) (as_long c.self.inside c.self.view_is)
    (subst (λ r. IfSome r (λ next. next < len)) (sym (among_all c))
    (next_below c.args.slot.0 c.args.column (WORDS * 0) len c.self.inside.toggles.items c.self.invariant.0))
