use Rattle.text_cursor.proofs.Common.{◌≡◌, ◌+◌, length, drop, ap, ap₂, sym, ◌∙◌, arith, characters, lines, line_start}
use Rattle.text_cursor.proofs.Common.{behind_text, cursor_cells, parts_len}
use Rattle.text_cursor.proofs.LookLaws.{fit-both, near-next, second-same-back}
use Rattle.text_cursor.proofs.cursors.Cursor.next.Goals as goal

pub next_line_back-requires-clause-fit : goal.next_line_back-requires-clause-fit
next_line_back-requires-clause-fit g c =
    let cells = (g.S.TextStore.content c.args.store.now).cells in
    let own = c.args.self.now in
    let near = near-next cells c.requires.cursor (sym c.requires.old) in
    fit-both (length cells) own.fresh.items c.deref.result.now own.behind.near.items c.deref-2.result.now
    c.deref.ensures.value c.deref-2.ensures.value near.fit

pub overflow_add-result : goal.overflow_add-result
overflow_add-result g c =
    let cells = (g.S.TextStore.content c.args.store.now).cells in
    let own = c.args.self.now in
    let near = near-next cells c.requires.cursor (sym c.requires.old) in
    let counted : c.count_parts.result ≡ parts_len own.behind.near.items =
    c.count_parts.ensures ∙ ap parts_len c.deref-in-None.ensures.value in
    let none : lines (behind_text cells own.fresh.items own.behind.near.items) ≡ 0 =
    ap₂ (λ new parts. lines (behind_text cells new parts)) (sym c.deref.ensures.value)
    (sym c.deref-2.ensures.value) ∙ c.in-None.ensures.none in
    let sum : c.count_parts.result + c.far_next.result
    ≡ line_start 1 (drop own.at (characters (cursor_cells cells own))) =
    ap₂ (λ m n. m + n) counted c.far_next.ensures ∙ near.none none in
    let bound = near.bound in
    omega (arith, sum, bound)

pub returns-in-Some-clause-value : goal.returns-in-Some-clause-value
returns-in-Some-clause-value g c =
    let cells = (g.S.TextStore.content c.args.store.now).cells in
    let own = c.args.self.now in
    let near = near-next cells c.requires.cursor (sym c.requires.old) in
    let second = second-same-back cells own.fresh.items c.deref.result.now own.behind.near.items c.deref-2.result.now
    c.deref.ensures.value c.deref-2.ensures.value c.in-Some.ensures.some in
    near.some c.in-Some.next second

pub returns-in-Some-clause-bound : goal.returns-in-Some-clause-bound
returns-in-Some-clause-bound g c =
    let cells = (g.S.TextStore.content c.args.store.now).cells in
    let own = c.args.self.now in let near = near-next cells c.requires.cursor (sym c.requires.old) in
    let second = second-same-back cells own.fresh.items c.deref.result.now own.behind.near.items c.deref-2.result.now
    c.deref.ensures.value c.deref-2.ensures.value c.in-Some.ensures.some in
    let bound = near.bound in let is = near.some c.in-Some.next second in
    omega (arith, bound, is)

pub returns-in-None-clause-value : goal.returns-in-None-clause-value
returns-in-None-clause-value g c =
    let cells = (g.S.TextStore.content c.args.store.now).cells in
    let own = c.args.self.now in
    let near = near-next cells c.requires.cursor (sym c.requires.old) in
    let counted : c.count_parts.result ≡ parts_len own.behind.near.items =
    c.count_parts.ensures ∙ ap parts_len c.deref-in-None.ensures.value in
    let none : lines (behind_text cells own.fresh.items own.behind.near.items) ≡ 0 =
    ap₂ (λ new parts. lines (behind_text cells new parts)) (sym c.deref.ensures.value)
    (sym c.deref-2.ensures.value) ∙ c.in-None.ensures.none in
    let sum : c.count_parts.result + c.far_next.result
    ≡ line_start 1 (drop own.at (characters (cursor_cells cells own))) =
    ap₂ (λ m n. m + n) counted c.far_next.ensures ∙ near.none none in
    sum

pub returns-in-None-clause-bound : goal.returns-in-None-clause-bound
returns-in-None-clause-bound g c =
    let cells = (g.S.TextStore.content c.args.store.now).cells in
    let own = c.args.self.now in
    let near = near-next cells c.requires.cursor (sym c.requires.old) in
    let counted : c.count_parts.result ≡ parts_len own.behind.near.items =
    c.count_parts.ensures ∙ ap parts_len c.deref-in-None.ensures.value in
    let none : lines (behind_text cells own.fresh.items own.behind.near.items) ≡ 0 =
    ap₂ (λ new parts. lines (behind_text cells new parts)) (sym c.deref.ensures.value)
    (sym c.deref-2.ensures.value) ∙ c.in-None.ensures.none in
    let sum : c.count_parts.result + c.far_next.result
    ≡ line_start 1 (drop own.at (characters (cursor_cells cells own))) =
    ap₂ (λ m n. m + n) counted c.far_next.ensures ∙ near.none none in
    let bound = near.bound in
    omega (arith, sum, bound)
