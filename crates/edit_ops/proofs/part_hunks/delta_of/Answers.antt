use Rattle.edit_ops.proofs.Common.{arith, subst, sym, ◌∙◌, None, AreHunksOf, IsDelta, cursor_cells}
use Rattle.edit_ops.proofs.CursorTextLaws.{parts-exact, parts-long}
use Rattle.edit_ops.proofs.SlotRunLaws.{made-bare, made-slotted, of-parts}
use Rattle.edit_ops.proofs.part_hunks.delta_of.Goals as goal

pub runs_of-requires-clause-short : goal.runs_of-requires-clause-short
runs_of-requires-clause-short c =
    let parts = c.in_ok-parts.parts in
    let long = parts-long c.args.cursor parts.fresh.items parts.parts.items c.requires.cursor c.in_ok-parts.ensures.fit
    c.in_ok-parts.ensures.cells in
    omega (arith, long, c.requires.short)

pub returns : goal.returns
returns c = λ actions old long leads.
    let cursor = c.args.cursor in
    let parts = c.in_ok-parts.parts in
    let of = of-parts long c.in_ok-parts.ensures.rising c.in_ok-parts.ensures.fit c.in_ok-hunks.ensures.hunks
    c.in_ok-gained.ensures in
    let is : IsDelta actions old (cursor_cells old cursor) (record {
      hunks = c.in_ok-hunks.hunks;
      lost = None;
      gained = c.in_ok-gained.gained;
    }) = record {
      exact = subst (λ n. AreHunksOf actions n c.in_ok-hunks.hunks.items) (sym long)
          (parts-exact cursor parts.fresh.items parts.parts.items leads c.in_ok-parts.ensures.cells
          c.in_ok-hunks.ensures.stand c.in_ok-hunks.ensures.apart c.in_ok-hunks.ensures.patched);
      lost = tt;
      either = tt;
      bare = made-bare of;
      cells = sym (c.in_ok-parts.ensures.cells old long) ∙ sym (made-slotted of);
    } in
    (c.if-not-follows.false, subst (IsDelta actions old (cursor_cells old cursor)) (sym c.in_ok-new.ensures.ok) is)
