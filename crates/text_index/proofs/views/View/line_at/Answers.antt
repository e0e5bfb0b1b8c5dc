use Rattle.text_index.proofs.Common.{part_of, ℕ, ◌-◌, ap₂, subst, sym, arith, characters, IsLineOf, shown}
use Rattle.text_index.proofs.StartLaws.{line-shown, place-ends, place-start}
use Rattle.text_index.proofs.ViewLaws.{lines-part}
use Rattle.text_index.proofs.views.View.line_at.Goals as goal

pub overflow_sub-result : goal.overflow_sub-result
overflow_sub-result g c =
    let view = c.args.self.now in
    let text = characters (g.S.TextStore.content view.store.now).cells in
    let number = lines-part text view.start view.end c.args.place c.requires.within in
    omega (arith, number, c.line_at-line.ensures.number, c.first_line.ensures)

pub overflow_sub-result-2 : goal.overflow_sub-result-2
overflow_sub-result-2 g c =
    (place-start c.args.self.now.whole_lines c.args.place c.line_at-line.result c.line_at-line.ensures c.requires.within).0

pub overflow_sub-result-3 : goal.overflow_sub-result-3
overflow_sub-result-3 g c =
    let ends = place-ends c.args.self.now.whole_lines c.args.place c.line_at-line.result c.line_at-line.ensures c.requires.within in
    omega (arith, ends, c.min.ensures)

pub returns-clause-line : goal.returns-clause-line
returns-clause-line g c =
    let view = c.args.self.now in
    let line = c.line_at-line.result in
    subst (λ (n : ℕ × ℕ). IsLineOf (shown (part_of view)) c.args.place
    (record { number = line.number - n.0; start = line.start - view.start; end = n.1 - view.start }))
    (ap₂ (λ m n. (m, n)) (sym c.first_line.ensures) (sym c.min.ensures))
    (line-shown view.whole_lines c.args.place line c.line_at-line.ensures c.requires.within)

pub returns-clause-before : goal.returns-clause-before
returns-clause-before g c =
    let begins = place-start c.args.self.now.whole_lines c.args.place c.line_at-line.result c.line_at-line.ensures c.requires.within in
    omega (arith, begins.1)
