use Rattle.segments.proofs.Common.{◌≡◌, ◌+◌, ◌*◌, ◌≤◌, ◌≢◌, ◌==◌, true, false≢true, get_or, length, take, drop, sym, ap}
use Rattle.segments.proofs.Common.{subst, ◌∙◌, arith, nat_tests, List, ℕ, columns_from, LineContent, LieIn, Toggled}
use Rattle.segments.proofs.Common.{WORDS, parity, tags_before, toggles}
use Rattle.segments.proofs.ColumnLaws.{front-entries}
use Rattle.segments.proofs.EntryLaws.{LieIn-next, RiseIn-high}
use Rattle.std.specs.FinSet as set
use Rattle.segments.proofs.rich.RichLine.is_toggled.Goals as goal

column-same : (a b : ℕ) → a ≡ b → (a == b) ≡ true
column-same a b same = grind (arith, nat_tests)

-- no entry has the column, so the slots before the next one are those before it
same-tags : (text : List ℕ) (entries : List Toggled) (n column : ℕ) → LieIn 0 (length text) entries →
    LieIn 0 column (take n entries) → LieIn (column + 1) (length text) (drop n entries) →
    LieIn column (length text) (drop n entries)
    → tags_before column (columns_from 0 text entries) ≡ parity (toggles (take column (columns_from 0 text entries)))
same-tags text entries n column lie before after rest =
    let wider = RiseIn-high (WORDS * 0) (WORDS * column) (WORDS * (column + 1)) (take n entries) before (omega arith) in
    sym (front-entries text entries n (column + 1) lie wider after)
    ∙ front-entries text entries n column lie before rest

pub returns-in-Some : goal.returns-in-Some
returns-in-Some c = λ none.
    let entries = c.self.inside.toggles.items in
    let text = c.self.inside.text in
    let n = c.count_before-index.result in
    let column = c.args.column in
    let d = c.in-Some.entry.now in
    let lie = c.self.invariant.0 in
    let found = c.in-Some.ensures.lookup in
    let before = rw c.deref.ensures.value at (c.count_before-index.ensures.before 0 (length text)) in
    let rest = rw c.deref.ensures.value at (c.count_before-index.ensures.behind 0 (length text)) in
    let entry : d ≡ get_or entries n d = found.3.1 d ∙ ap (λ es. get_or es n d) c.deref-2.ensures.value in
    let other : (get_or entries n d).column ≢ column = λ is.
    false≢true (sym none ∙ column-same d.column column (ap (λ (e : Toggled). e.column) entry ∙ is)) in
    sym (ap (λ (line : LineContent). tags_before column line.columns) c.self.view_is)
    ∙ same-tags text entries n column lie (before lie)
    (LieIn-next column (length text) n entries d (rest lie (omega arith)) (λ within. other)) (rest lie (omega arith))
    ∙ ap (λ (line : LineContent). parity (toggles (take column line.columns))) c.self.view_is

pub returns-in-None : goal.returns-in-None
returns-in-None c = λ none.
    let entries = c.self.inside.toggles.items in
    let text = c.self.inside.text in
    let n = c.count_before-index.result in
    let column = c.args.column in
    let lie = c.self.invariant.0 in
    let before = rw c.deref.ensures.value at (c.count_before-index.ensures.before 0 (length text)) in
    let rest = rw c.deref.ensures.value at (c.count_before-index.ensures.behind 0 (length text)) in
    let past : length entries ≤ n = subst (λ (es : List Toggled). length es ≤ n) c.deref-2.ensures.value
    c.in-None.ensures.lookup.3 in
    let unused : Toggled = record { column = 0; slots = set.empty } in
    sym (ap (λ (line : LineContent). tags_before column line.columns) c.self.view_is)
    ∙ same-tags text entries n column lie (before lie)
    (LieIn-next column (length text) n entries unused (rest lie (omega arith))
    (λ within. absurd (omega (arith, within, past))))
    (rest lie (omega arith))
    ∙ ap (λ (line : LineContent). parity (toggles (take column line.columns))) c.self.view_is
