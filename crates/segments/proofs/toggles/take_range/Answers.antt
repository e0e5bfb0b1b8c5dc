use Rattle.segments.proofs.Common.{◌≡◌, ◌-◌, drop, sym, ap, subst, ◌∙◌, arith, length-take, All, slice_range, All-drop}
use Rattle.segments.proofs.Common.{All-take, AreSlots, word_count, WORDS, HasOneWord, odd_of}
use Rattle.segments.proofs.SpanLaws.{slots_of_odd, words_of_odd}
use Rattle.segments.proofs.toggles.take_range.Goals as goal

pub returns-clause-slots : goal.returns-clause-slots
returns-clause-slots c =
    let entries = c.args.toggles.now.items in
    let from = c.args.from in
    let to = c.args.to in
    let all : All HasOneWord (slice_range entries from to) = All-take HasOneWord (to - from) (drop from entries)
    (All-drop HasOneWord from entries c.requires.words) in
    subst AreSlots
    (sym (c.odd_slots-slots.ensures ∙ ap (λ es. odd_of (slice_range es from to)) c.deref.ensures.value))
    (slots_of_odd (slice_range entries from to) all)

pub returns-clause-room : goal.returns-clause-room
returns-clause-room c =
    let entries = c.args.toggles.now.items in
    let from = c.args.from in
    let to = c.args.to in
    let all : All HasOneWord (slice_range entries from to) = All-take HasOneWord (to - from) (drop from entries)
    (All-drop HasOneWord from entries c.requires.words) in
    let few = words_of_odd WORDS (slice_range entries from to) all in
    let count : word_count c.odd_slots-slots.result ≡ word_count (odd_of (slice_range entries from to)) =
    ap word_count (c.odd_slots-slots.ensures ∙ ap (λ es. odd_of (slice_range es from to)) c.deref.ensures.value) in
    omega (arith, few, count, length-take (to - from) (drop from entries), c.drop_range.ensures.room)
