use Rattle.segments.proofs.Common.{◌≡◌, ◌≤◌, length, drop, sym, ap, subst, ◌∙◌, arith, chars, IsCharBoundary, drop_all}
use Rattle.segments.proofs.Common.{chars-IsAscii, chars-nil, IsAscii-drop, IsCharBoundary-end}
use Rattle.segments.proofs.Common.{IsCharBoundary-from_ascii}
use Rattle.segments.proofs.TextLaws.{front_of, is_ascii}
use Rattle.segments.proofs.characters.byte_of.Goals as goal

pub returns-then-count-text-clause-boundary : goal.returns-then-count-text-clause-boundary
returns-then-count-text-clause-boundary c =
    let same : length (chars c.args.text.now) ≡ length c.args.text.now = omega arith in
    IsCharBoundary-from_ascii c.args.text.now c.args.column (is_ascii c.args.text.now c.utf8.text same) (omega arith)

pub returns-then-count-text-clause-behind : goal.returns-then-count-text-clause-behind
returns-then-count-text-clause-behind c =
    let text = c.args.text.now in
    let same : length (chars text) ≡ length text = omega arith in
    let ascii = is_ascii text c.utf8.text same in
    chars-IsAscii _ (IsAscii-drop text c.args.column ascii) ∙ ap (drop c.args.column) (sym (chars-IsAscii text ascii))

pub returns-then-count-text-clause-front : goal.returns-then-count-text-clause-front
returns-then-count-text-clause-front c =
    front_of c.args.text.now c.args.column c.args.column c.utf8.text (returns-then-count-text-clause-boundary c)
    (returns-then-count-text-clause-behind c)

pub returns-then-count-column-clause-behind : goal.returns-then-count-column-clause-behind
returns-then-count-column-clause-behind c =
    let text = c.args.text.now in
    let column = c.args.column in
    let end : length (chars text) ≤ column = omega (arith, c.requires.count, c.if-count-column.true) in
    ap chars (drop_all _ text (omega arith)) ∙ chars-nil ∙ sym (drop_all column (chars text) end)

pub returns-then-count-column-clause-boundary : goal.returns-then-count-column-clause-boundary
returns-then-count-column-clause-boundary c =
    subst (IsCharBoundary c.args.text.now) (omega arith) (IsCharBoundary-end c.args.text.now)

pub returns-then-count-column-clause-front : goal.returns-then-count-column-clause-front
returns-then-count-column-clause-front c =
    front_of c.args.text.now _ c.args.column c.utf8.text (returns-then-count-column-clause-boundary c)
    (returns-then-count-column-clause-behind c)

pub returns-clause-front : goal.returns-clause-front
returns-clause-front c =
    front_of c.args.text.now c.front_bytes.result c.args.column c.utf8.text c.front_bytes.ensures.boundary
    c.front_bytes.ensures.behind
