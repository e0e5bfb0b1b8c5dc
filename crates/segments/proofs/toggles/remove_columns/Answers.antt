use Rattle.segments.proofs.Common.{◌≡◌, ◌+◌, ◌-◌, ◌*◌, ◌≤◌, ◌++◌, length, map, take, drop, sym, ap, subst, ◌∙◌, arith}
use Rattle.segments.proofs.Common.{length-take-le, All, WORDS, CanMoveBack, LieIn, flipped, moved_back, toggled_at}
use Rattle.segments.proofs.EntryLaws.{all_words}
use Rattle.segments.proofs.MovedLaws.{can_move_back, toggled_front}
use Rattle.segments.proofs.PartLaws.{rest_added, rest_moved}
use Rattle.segments.proofs.SpanLaws.{counts_rise, drawn_lies, removed_behind, removed_front}
use Rattle.segments.proofs.toggles.remove_columns.Goals.{After-count_before-end, After-move_rest_back}
use Rattle.segments.proofs.toggles.remove_columns.Goals.{After-take_range-slots}
use Rattle.segments.proofs.toggles.remove_columns.Goals as goal

pub returns-then-to-len-clause-lie : goal.returns-then-to-len-clause-lie
returns-then-to-len-clause-lie c =
    let before = (rw c.deref.ensures.value at (c.count_before-start.ensures.before 0 c.args.len)) c.requires.lie in
    let all : c.args.from ≡ c.args.from + (c.args.len - c.args.to) = omega (arith, c.if-to-len.true) in
    subst (LieIn 0 (c.args.from + (c.args.len - c.args.to))) (sym c.truncate.ensures.items)
    (subst (λ n. LieIn 0 n (take c.count_before-start.result c.args.toggles.now.items)) all before)

pub returns-then-to-len-clause-front : goal.returns-then-to-len-clause-front
returns-then-to-len-clause-front c = λ at before.
    let behind = (rw c.deref.ensures.value at (c.count_before-start.ensures.behind 0 c.args.len)) c.requires.lie
    (omega arith) in
    ap (λ es. toggled_at es at) c.truncate.ensures.items
    ∙ toggled_front c.args.from c.args.len c.count_before-start.result c.args.toggles.now.items at behind before

-- how the two counts split the entries
before : (c : After-count_before-end) → LieIn 0 c.args.from (take c.count_before-start.result c.args.toggles.now.items)
before c = (rw c.deref.ensures.value at (c.count_before-start.ensures.before 0 c.args.len)) c.requires.lie

high : (c : After-count_before-end) →
    LieIn c.args.from c.args.len (drop c.count_before-start.result c.args.toggles.now.items)
high c = (rw c.deref.ensures.value at (c.count_before-start.ensures.behind 0 c.args.len)) c.requires.lie (omega arith)

front : (c : After-count_before-end) →
    LieIn 0 (c.args.to + 1) (take c.count_before-end.result c.args.toggles.now.items)
front c = (rw c.deref-2.ensures.value at (c.count_before-end.ensures.before 0 c.args.len)) c.requires.lie

behind : (c : After-count_before-end) →
    LieIn (c.args.to + 1) c.args.len (drop c.count_before-end.result c.args.toggles.now.items)
behind c = (rw c.deref-2.ensures.value at (c.count_before-end.ensures.behind 0 c.args.len)) c.requires.lie (omega arith)

within : (c : After-count_before-end) → c.count_before-start.result ≤ length c.args.toggles.now.items
within c = omega (arith, c.count_before-start.ensures.bound, c.deref.ensures.len, c.args.toggles.now.ok.0)

rises : (c : After-count_before-end) → c.count_before-start.result ≤ c.count_before-end.result
rises c =
    counts_rise (WORDS * 0) (WORDS * c.args.from) (WORDS * (c.args.to + 1)) (WORDS * c.args.len)
    c.args.toggles.now.items c.count_before-start.result c.count_before-end.result (before c) (behind c)
    (omega (arith, c.requires.ordered)) (within c)

pub take_range-slots-requires-clause-ordered : goal.take_range-slots-requires-clause-ordered
take_range-slots-requires-clause-ordered c =
    rises (goal.at.take_range-slots-requires-clause-ordered c).After-count_before-end

pub take_range-slots-requires-clause-words : goal.take_range-slots-requires-clause-words
take_range-slots-requires-clause-words c =
    all_words (WORDS * 0) (WORDS * c.args.len) c.args.toggles.now.items c.requires.lie

-- what is left of them
rest : (c : After-take_range-slots) → c.count_before-start.result ≤ length c.args.toggles.now.items →
    drop c.count_before-start.result c.take_range-slots.new.toggles.items
    ≡ drop c.count_before-end.result c.args.toggles.now.items
rest c small =
    let entries = c.args.toggles.now.items in
    let start = c.count_before-start.result in
    rest_added start (take start entries) (drop c.count_before-end.result entries) c.take_range-slots.new.toggles.items
    (sym (length-take-le start entries small)) c.take_range-slots.ensures.items

pub move_rest_back-requires-clause-room : goal.move_rest_back-requires-clause-room
move_rest_back-requires-clause-room c =
    let place = (goal.at.move_rest_back-requires-clause-room c).After-count_before-end in
    subst (All (CanMoveBack (c.args.to - c.args.from)))
    (sym (rest (goal.at.move_rest_back-requires-clause-room c).After-take_range-slots (within place)))
    (can_move_back (WORDS * (c.args.to + 1)) (WORDS * c.args.len) (c.args.to - c.args.from)
    (drop c.count_before-end.result c.args.toggles.now.items) (behind place) (omega arith))

pub flip_words-requires-clause-room : goal.flip_words-requires-clause-room
flip_words-requires-clause-room c =
    omega (
      arith,
      c.take_range-slots.ensures.room,
      c.move_rest_back.ensures.len,
      c.move_rest_back.ensures.capacity,
    )

drawn_is : (c : After-move_rest_back) → c.count_before-start.result ≤ length c.args.toggles.now.items
    → c.move_rest_back.new.toggles.items
    ≡ take c.count_before-start.result c.args.toggles.now.items
    ++ map (moved_back (c.args.to - c.args.from)) (drop c.count_before-end.result c.args.toggles.now.items)
drawn_is c small =
    let entries = c.args.toggles.now.items in
    let start = c.count_before-start.result in
    c.move_rest_back.ensures.items
    ∙ rest_moved (moved_back (c.args.to - c.args.from)) start (take start entries)
    (drop c.count_before-end.result entries) c.take_range-slots.new.toggles.items
    (sym (length-take-le start entries small)) c.take_range-slots.ensures.items

pub returns-clause-lie : goal.returns-clause-lie
returns-clause-lie c =
    let place = (goal.at.returns-clause-lie c).After-count_before-end in
    let to_small = c.if-to-len.false in
    c.flip_words.ensures.lie 0 (c.args.from + (c.args.len - c.args.to))
    (subst (LieIn 0 (c.args.from + (c.args.len - c.args.to)))
    (sym (drawn_is (goal.at.returns-clause-lie c).After-move_rest_back (within place)))
    (drawn_lies c.args.from c.args.to c.args.len c.args.toggles.now.items c.count_before-start.result
    c.count_before-end.result c.requires.ordered (omega (arith, c.requires.within, to_small)) (before place)
    (high place) (front place) (behind place) (rises place)))
    (omega arith) (omega (arith, c.requires.within, to_small))

pub returns-clause-front : goal.returns-clause-front
returns-clause-front c = λ at small.
    let place = (goal.at.returns-clause-front c).After-count_before-end in
    let is = drawn_is (goal.at.returns-clause-front c).After-move_rest_back (within place) in
    removed_front c.args.from c.args.to c.args.len c.args.toggles.now.items c.count_before-start.result
    c.count_before-end.result c.requires.ordered (omega (arith, c.requires.within, c.if-to-len.false)) (before place)
    (high place) (front place) (behind place) (rises place) c.flip_words.new.toggles.items c.take_range-slots.result
    c.take_range-slots.ensures.odd
    (λ k. c.flip_words.ensures.slots k ∙ ap (λ es. flipped c.args.from c.take_range-slots.result k (toggled_at es k)) is)
    at small

pub returns-clause-behind : goal.returns-clause-behind
returns-clause-behind c = λ at above small.
    let place = (goal.at.returns-clause-behind c).After-count_before-end in
    let is = drawn_is (goal.at.returns-clause-behind c).After-move_rest_back (within place) in
    removed_behind c.args.from c.args.to c.args.len c.args.toggles.now.items c.count_before-start.result
    c.count_before-end.result c.requires.ordered (omega (arith, c.requires.within, c.if-to-len.false)) (before place)
    (high place) (front place) (behind place) (rises place) c.flip_words.new.toggles.items c.take_range-slots.result
    c.take_range-slots.ensures.odd
    (λ k. c.flip_words.ensures.slots k ∙ ap (λ es. flipped c.args.from c.take_range-slots.result k (toggled_at es k)) is)
    at above
