use Rattle.line_lists.proofs.Common.{◌≡◌, ◌+◌, ◌-◌, inl, inr, sym, ap, ◌∙◌, arith}
use Rattle.line_lists.proofs.CountRows.{count-characters}
use Rattle.line_lists.proofs.FindLaws.{begin, begin-more}
use Rattle.line_lists.proofs.StandLaws.{kept-before, kept-behind, kept-counted, kept-none, kept-there, line-some}
use Rattle.line_lists.proofs.StandLaws.{stands-kept}
use Rattle.line_lists.proofs.drafts.Draft.find_kept.Goals as goal

pub returns-in_err-index-clause-none : goal.returns-in_err-index-clause-none
returns-in_err-index-clause-none g c =
    λ _. kept-none c.args.number.0 c.args.from c.args.to (g.L.LineList.lines c.args.self.now.list.now)
    (sym c.requires.marked ∙ c.in_err-index.was)

pub returns-then-index-from-clause-none : goal.returns-then-index-from-clause-none
returns-then-index-from-clause-none g c =
    let lines = g.L.LineList.lines c.args.self.now.list.now in
    let found = sym c.requires.marked ∙ c.in_ok-index.was in
    λ _. elim c.then-index-from.either [
      | inl before ↦ kept-behind c.args.number.0 c.args.from c.args.to c.in_ok-index.index lines
          (g.L.LineList.are_lines c.args.self.now.list.now).rows found before
      | inr behind ↦ kept-before c.args.number.0 c.args.from c.args.to c.in_ok-index.index lines c.requires.ordered
          found behind.1
    ]

pub mark_column-requires : goal.mark_column-requires
mark_column-requires g c =
    line-some (g.L.LineList.lines c.args.self.now.list.now) c.in_ok-index.index c.line.result.now
    (g.L.LineList.are_lines c.args.self.now.list.now).rows c.line.ensures

pub returns-in_err-column-clause-none : goal.returns-in_err-column-clause-none
returns-in_err-column-clause-none g c =
    λ _. absurd (kept-there c.args.number.0 c.in_ok-index.index (g.L.LineList.lines c.args.self.now.list.now)
    c.line.result.now (sym c.requires.marked ∙ c.in_ok-index.was) c.line.ensures
    (c.mark_column.ensures.none c.in_err-column.was))

pub span-requires : goal.span-requires
span-requires g c =
    omega (arith, c.if-index-from.false, c.if-to-index.false, c.requires.within)

pub overflow_add-result : goal.overflow_add-result
overflow_add-result g c =
    let lines = g.L.LineList.lines c.args.self.now.list.now in
    let few = (g.L.LineList.are_lines c.args.self.now.list.now).counted.characters in
    let index = c.in_ok-index.index in
    let same = ap (begin lines) (let n : c.args.from + (index - c.args.from)
    ≡ index = omega (arith, c.if-index-from.false) in n) in
    omega (
      arith,
      few,
      count-characters lines,
      c.span.ensures,
      same,
      begin-more lines c.args.from (index - c.args.from),
      kept-counted lines index c.in_ok-column.column c.line.result.now c.line.ensures c.in_ok-column.ensures.inside,
    )

pub returns-clause-some : goal.returns-clause-some
returns-clause-some g c =
    stands-kept c.args.number.0 c.args.from c.args.to c.in_ok-index.index c.span.result c.in_ok-column.column
    (g.L.LineList.lines c.args.self.now.list.now) c.line.result.now
    c.if-index-from.false c.if-to-index.false c.line.ensures c.span.ensures c.in_ok-column.ensures.some
