use Rattle.segments.proofs.Common.{◌≡◌, ℕ, ◌+◌, ◌*◌, ◌<◌, ◌≢◌, List, length, get_or, sym, ap, ap₂, subst, ◌∙◌, arith}
use Rattle.segments.proofs.Common.{false≢true, get_or_default, IsOneWord, word_index, differing, WORDS, Toggled, LieIn}
use Rattle.segments.proofs.Common.{place_of, toggled_at}
use Rattle.segments.proofs.EntryLaws.{all_words}
use Rattle.segments.proofs.ToggleLaws.{flips_changed, flips_inserted, flips_removed, left_word, lies_changed}
use Rattle.segments.proofs.ToggleLaws.{lies_inserted, lies_removed}
use Rattle.segments.proofs.toggles.flip_word.Goals.{then-is_empty, else-is_empty}
use Rattle.segments.proofs.toggles.flip_word.Goals.{else-index-len-via-then-index-len+then-index-column+else-index-word}
use Rattle.segments.proofs.toggles.flip_word.Goals.{else-index-len-via-then-index-len+else-index-column}
use Rattle.segments.proofs.toggles.flip_word.Goals.{else-index-len-via-else-index-len}
use Rattle.segments.proofs.toggles.flip_word.Goals as goal

-- an entry that was read is the list's
entry_of : (entries : List Toggled) (i : ℕ) (read d : Toggled) → i < length entries → read ≡ get_or entries i read →
    read ≡ get_or entries i d
entry_of entries i read d within is = is ∙ get_or_default entries i read d within

pub returns-then-index-word-clause-lie : goal.returns-then-index-word-clause-lie
returns-then-index-word-clause-lie c = λ from to lie above below.
    let column = c.args.column in
    let word = c.index-word.result in
    let place = WORDS * column + word in
    let slots = c.args.slots.now in
    let entries = c.args.toggles.now.items in
    let i = c.count_before_word-index.result in
    let d = c.index.result.now in
    let entry = get_or entries i d in
    let within : i < length entries = omega (arith, c.if-index-len.true) in
    let low : word < WORDS = rw c.index-word.ensures.index c.index-word.ensures.word.within in
    let asked = entry_of entries i c.index-then-index-column.result.now d within c.index-then-index-column.ensures in
    let read = entry_of entries i c.index-then-index-word.result.now d within c.index-then-index-word.ensures in
    let column_is : entry.column ≡ column = sym (ap (λ (e : Toggled). e.column) c.index.ensures)
    ∙ c.if-index-column.true in
    let word_is : word_index entry.slots ≡ word = ap (λ (e : Toggled). word_index e.slots) (sym asked)
    ∙ sym c.index-then-index-column-2.ensures.index ∙ c.if-index-word.true in
    let one : IsOneWord entry.slots = subst (λ (e : Toggled). IsOneWord e.slots) asked
    c.index-then-index-column-2.ensures.word in
    let is : place_of entry ≡ place = ap₂ (λ n w. WORDS * n + w) column_is word_is in
    let left : c.differing-left.result ≡ differing entry.slots slots = c.differing-left.ensures.slots
    ∙ ap (λ (e : Toggled). differing e.slots slots) read in
    let before = (rw c.deref.ensures.value at (c.count_before_word-index.ensures.before (WORDS * from) (WORDS * to)))
    lie in
    let behind = (rw c.deref.ensures.value at (c.count_before_word-index.ensures.behind (WORDS * from) (WORDS * to)))
    lie (omega (arith, above)) in
    elim c.if-is_empty.branch [
      | then-is_empty w ↦
          subst (LieIn from to) (sym (ap (λ v. v.items) w.toggles-is ∙ w.remove.ensures.items))
          (lies_removed place entries i d (WORDS * from) (WORDS * to) before behind (omega (arith, above))
          (omega (arith, below, low)) within is)
      | else-is_empty w ↦
          let new : Toggled = record { column = w.index_mut.result.now.column; slots = c.differing-left.result } in
          let new_column : new.column ≡ column = ap (λ (e : Toggled). e.column) (w.index_mut.ensures.value
          ∙ get_or_default entries i w.index_mut.result.now d within) ∙ column_is in
          let new_word : word_index new.slots ≡ word =
          left_word word entry.slots slots c.differing-left.result one c.index-word.ensures.word word_is
          (sym c.index-word.ensures.index) c.differing-left.ensures.word left
          (λ none. false≢true (sym w.if-is_empty.false ∙ c.is_empty.ensures.some none)) in
          subst (LieIn from to) (sym (ap (λ v. v.items) w.toggles-is))
          (lies_changed place entries i d (WORDS * from) (WORDS * to) before behind (omega (arith, above))
          (omega (arith, below, low)) new within is (ap₂ (λ n k. WORDS * n + k) new_column new_word)
          c.differing-left.ensures.word)
    ]

pub returns-then-index-word-clause-slots : goal.returns-then-index-word-clause-slots
returns-then-index-word-clause-slots c = λ at.
    let column = c.args.column in
    let slots = c.args.slots.now in
    let entries = c.args.toggles.now.items in
    let i = c.count_before_word-index.result in
    let d = c.index.result.now in
    let within : i < length entries = omega (arith, c.if-index-len.true) in
    let is : (get_or entries i d).column ≡ column = sym (ap (λ (e : Toggled). e.column) c.index.ensures)
    ∙ c.if-index-column.true in
    let read = entry_of entries i c.index-then-index-word.result.now d within c.index-then-index-word.ensures in
    let left : c.differing-left.result ≡ differing (get_or entries i d).slots slots = c.differing-left.ensures.slots
    ∙ ap (λ (e : Toggled). differing e.slots slots) read in
    elim c.if-is_empty.branch [
      | then-is_empty w ↦
          ap (λ es. toggled_at es at) (ap (λ v. v.items) w.toggles-is ∙ w.remove.ensures.items)
          ∙ flips_removed column slots entries i d at within is (sym left ∙ c.is_empty.ensures.none w.if-is_empty.true)
      | else-is_empty w ↦
          let new : Toggled = record { column = w.index_mut.result.now.column; slots = c.differing-left.result } in
          let new_is : new.column ≡ column = ap (λ (e : Toggled). e.column) (w.index_mut.ensures.value
          ∙ get_or_default entries i w.index_mut.result.now d within) ∙ is in
          ap (λ es. toggled_at es at) (ap (λ v. v.items) w.toggles-is)
          ∙ flips_changed column slots entries i d new at within is new_is left
    ]

pub returns-clause-lie : goal.returns-clause-lie
returns-clause-lie c = λ from to lie above below.
    let column = c.args.column in
    let word = c.index-word.result in
    let place = WORDS * column + word in
    let entries = c.args.toggles.now.items in
    let i = c.count_before_word-index.result in
    let new : Toggled = record { column = column; slots = c.args.slots.now } in
    let low : word < WORDS = rw c.index-word.ensures.index c.index-word.ensures.word.within in
    let new_is : place_of new ≡ place = ap (λ w. WORDS * column + w) (sym c.index-word.ensures.index) in
    let before = (rw c.deref.ensures.value at (c.count_before_word-index.ensures.before (WORDS * from) (WORDS * to)))
    lie in
    let behind = (rw c.deref.ensures.value at (c.count_before_word-index.ensures.behind (WORDS * from) (WORDS * to)))
    lie (omega (arith, above)) in
    let other : i < length entries → place_of (get_or entries i new) ≢ place = elim c.else-index-len.branch [
      | else-index-len-via-then-index-len+then-index-column+else-index-word w ↦ λ within is.
          let first = entry_of entries i w.index.result.now new within w.index.ensures in
          let asked = entry_of entries i w.index-then-index-column.result.now new within
          w.index-then-index-column.ensures in
          let same : (get_or entries i new).column ≡ column = ap (λ (e : Toggled). e.column) (sym first)
          ∙ w.if-index-column.true in
          let words : word_index (get_or entries i new).slots ≡ word = omega (arith, is, same) in
          w.if-index-word.false (w.index-then-index-column-2.ensures.index
          ∙ ap (λ (e : Toggled). word_index e.slots) asked ∙ words)
      | else-index-len-via-then-index-len+else-index-column w ↦ λ within is.
          let first = entry_of entries i w.index.result.now new within w.index.ensures in
          let one = all_words (WORDS * from) (WORDS * to) entries lie i new within in
          let same : (get_or entries i new).column ≡ column = omega (arith, is, low, one.within) in
          w.if-index-column.false (ap (λ (e : Toggled). e.column) first ∙ same)
      | else-index-len-via-else-index-len w ↦ λ within. absurd (omega (arith, w.if-index-len.false))
    ] in
    subst (LieIn from to) (sym c.put_entry.ensures.items)
    (lies_inserted place entries i new (WORDS * from) (WORDS * to) before behind (omega (arith, above))
    (omega (arith, below, low)) new new_is c.index-word.ensures.word other)

pub returns-clause-slots : goal.returns-clause-slots
returns-clause-slots c = λ at.
    let new : Toggled = record { column = c.args.column; slots = c.args.slots.now } in
    ap (λ es. toggled_at es at) c.put_entry.ensures.items
    ∙ flips_inserted c.args.toggles.now.items c.count_before_word-index.result new at
