use Rattle.text_cursor.proofs.Common.{◌-◌, length, take, ap₂, sym, ◌∙◌, side_parts}
use Rattle.text_cursor.proofs.LookLaws.{shared-is}
use Rattle.std.specs.FinSet as set
use Rattle.text_cursor.proofs.cursors.Cursor.shared.Goals as goal

pub returns : goal.returns
returns g c =
    let cells = (g.S.TextStore.content c.args.store.now).cells in
    let own = c.args.self.now in
    let front = side_parts own.front in let behind = side_parts own.behind in
    c.common.ensures ∙ ap₂ set.intersection c.tags_in-slots.ensures c.tags_in.ensures
    ∙ shared-is cells (take (length front - 1) front) (take (length behind - 1) behind)
    c.last-before.result.now c.last-behind.result.now c.requires.cursor (sym c.requires.old) c.last-before.ensures
    c.last-behind.ensures
