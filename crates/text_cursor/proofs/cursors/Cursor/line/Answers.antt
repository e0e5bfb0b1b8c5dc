use Rattle.text_cursor.proofs.Common.{length, ap, ap₂, sym, ◌∙◌, arith, front_text, last_line, parts_len}
use Rattle.text_cursor.proofs.LookLaws.{near-line, fit-both, last-same}
use Rattle.text_cursor.proofs.cursors.Cursor.line.Goals as goal

pub last_line_of-requires-clause-fit : goal.last_line_of-requires-clause-fit
last_line_of-requires-clause-fit g c =
    let cells = (g.S.TextStore.content c.args.store.now).cells in
    let own = c.args.self.now in
    let near = near-line cells c.requires.cursor (sym c.requires.old) in
    fit-both (length cells) own.fresh.items c.deref.result.now own.front.near.items
    c.deref-2.result.now c.deref.ensures.value c.deref-2.ensures.value near.fit

pub last_line_of-requires-clause-below : goal.last_line_of-requires-clause-below
last_line_of-requires-clause-below g c =
    let cells = (g.S.TextStore.content c.args.store.now).cells in
    let near = near-line cells c.requires.cursor (sym c.requires.old) in
    let below = near.below in let same = ap parts_len c.deref-2.ensures.value in
    omega (arith, below, same)

pub returns-in-Some : goal.returns-in-Some
returns-in-Some g c =
    let cells = (g.S.TextStore.content c.args.store.now).cells in
    let own = c.args.self.now in
    let near = near-line cells c.requires.cursor (sym c.requires.old) in
    near.some c.in-Some.line (last-same cells own.fresh.items c.deref.result.now own.front.near.items
    c.deref-2.result.now own.at c.deref.ensures.value c.deref-2.ensures.value c.in-Some.ensures.some)

pub returns-in-None : goal.returns-in-None
returns-in-None g c =
    let cells = (g.S.TextStore.content c.args.store.now).cells in
    let near = near-line cells c.requires.cursor (sym c.requires.old) in
    c.far_line.ensures
    ∙ near.none (ap₂ (λ new parts. last_line (front_text cells new parts)) (sym c.deref.ensures.value)
    (sym c.deref-2.ensures.value) ∙ c.in-None.ensures.none)
