use Rattle.line_lists.proofs.Common.{length, sym, ap, ◌∙◌, arith, drafted_at, whole}
use Rattle.line_lists.proofs.PlaceRows.{length-cells}
use Rattle.line_lists.proofs.StoreLaws.{some-text}
use Rattle.std.specs.FinSet as set
use Rattle.line_lists.proofs.store.pieces_by_owned.Goals as goal

pub make_steps-requires-clause-len : goal.make_steps-requires-clause-len
make_steps-requires-clause-len g c =
    let lines = g.L.LineList.lines c.args.list.now in
    c.len.ensures ∙ length-cells set.empty (whole lines).columns
    ∙ sym (ap (λ xs. length (whole xs).columns)
    (ap (λ list. drafted_at (g.L.LineList.lines list) c.new-draft.result.front.items c.new-draft.result.back.items)
    c.new-draft.ensures.list ∙ c.new-draft.ensures.same))

pub make_steps-requires-clause-some : goal.make_steps-requires-clause-some
make_steps-requires-clause-some g c =
    let lines = g.L.LineList.lines c.args.list.now in
    omega (
      arith,
      c.len.ensures,
      length-cells set.empty (whole lines).columns,
      some-text lines (g.L.LineList.are_lines c.args.list.now),
    )
