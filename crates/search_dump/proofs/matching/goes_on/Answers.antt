use Rattle.search_dump.proofs.Common.{part_of, ◌≡◌, ◌+◌, ◌-◌, ◌≤◌, ap, arith, chars, length, subst, sym, ◌∙◌, IsTrue}
use Rattle.search_dump.proofs.Common.{slice_range, IfOk-weaker, shown, length-shown, compared, HasMatch, HasRoom}
use Rattle.search_dump.proofs.Common.{beside}
use Rattle.search_dump.proofs.RepeatLaws.{goes-back, goes-on}
use Rattle.search_dump.proofs.WindowLaws.{length-compared}
use Rattle.search_dump.proofs.matching.goes_on.Given.{Over}
use Rattle.search_dump.proofs.matching.goes_on.Goals.{In-Forward}
use Rattle.search_dump.proofs.matching.goes_on.Goals as goal

-- the text has room for the pattern further on
room : (g : Over) (c : In-Forward g) → c.args.place + c.args.pattern.now.len + c.args.period.len
    ≤ length (shown (part_of c.args.view.now))
room g c = subst (λ d. HasRoom d (shown (part_of c.args.view.now)) c.args.place c.args.pattern.now.len
    c.args.period.len) c.in-Forward.is c.requires.room

pub overflow_add-from : goal.overflow_add-from
overflow_add-from g c =
    let view = c.args.view.now in
    let long = length-shown (part_of view) view.whole_lines in
    omega (arith, long, room g (goal.at.overflow_add-from g c).In-Forward)

pub overflow_add-from-in-Forward : goal.overflow_add-from-in-Forward
overflow_add-from-in-Forward g c =
    let view = c.args.view.now in
    let long = length-shown (part_of view) view.whole_lines in
    omega (arith, long, room g (goal.at.overflow_add-from-in-Forward g c).In-Forward)

pub returns-in-Forward : goal.returns-in-Forward
returns-in-Forward g c =
    let view = c.args.view.now in
    let pattern = c.args.pattern.now in
    let period = c.args.period in
    let all = shown (part_of view) in
    let text = compared pattern.ignores_case all in
    let room = room g (goal.at.returns-in-Forward g c).In-Forward in
    IfOk-weaker c.stands.result (λ stands. IsTrue stands →
    slice_range text (c.args.place + pattern.len) (c.args.place + pattern.len + period.len) ≡ chars period.tail.now)
    (λ stands. IsTrue stands → HasMatch (chars pattern.text.now) text (beside c.args.direction c.args.place period.len))
    (λ stands says is.
    subst (λ d. HasMatch (chars pattern.text.now) text (beside d c.args.place period.len)) (sym c.in-Forward.is)
    (goes-on (chars pattern.text.now) text period.len (chars period.front.now) (chars period.tail.now) c.requires.period
    c.args.place c.requires.matches
    (omega (arith, room, c.args.pattern.now.counted, length-compared pattern.ignores_case all))
    (ap (λ n. slice_range text (c.args.place + n) (c.args.place + n + period.len)) (sym c.args.pattern.now.counted)
    ∙ says is)))
    c.stands.ensures

pub returns-in-Back : goal.returns-in-Back
returns-in-Back g c =
    let view = c.args.view.now in
    let pattern = c.args.pattern.now in
    let period = c.args.period in
    let all = shown (part_of view) in
    let text = compared pattern.ignores_case all in
    let room : period.len ≤ c.args.place = subst (λ d. HasRoom d all c.args.place pattern.len period.len) c.in-Back.is
    c.requires.room in
    IfOk-weaker c.stands-in-Back.result (λ stands. IsTrue stands →
    slice_range text (c.args.place - period.len) c.args.place ≡ chars period.front.now)
    (λ stands. IsTrue stands → HasMatch (chars pattern.text.now) text (beside c.args.direction c.args.place period.len))
    (λ stands says is.
    subst (λ d. HasMatch (chars pattern.text.now) text (beside d c.args.place period.len)) (sym c.in-Back.is)
    (goes-back (chars pattern.text.now) text period.len (chars period.front.now) (chars period.tail.now)
    c.requires.period c.args.place c.requires.matches room (says is)))
    c.stands-in-Back.ensures
