use Rattle.toggle_sums.proofs.Common.{rules, ◌≡◌, ◌∙◌, ap, sym, bytes_eq-Decides, ToggleSets, slots_of, words_of}
use Rattle.toggle_sums.proofs.Common.{words_of-slots_of}
use Rattle.toggle_sums.proofs.UsedLaws.{ends-presence, used-le}
use Rattle.toggle_sums.proofs.WordSteps.{AreWords-joined, slots_of-joined}
use Rattle.std.specs.FinSet as set
use Rattle.toggle_sums.proofs.toggle_words.ToggleWords.is_within.Goals as goal

pub join_words-requires : goal.join_words-requires
join_words-requires g c =
    (search rules, (used-le g.row.K _ _ _ c.self.invariant, ends-presence g.row.K _ _ _ c.self.invariant))

pub returns-clause-yes : goal.returns-clause-yes
returns-clause-yes g c = λ yes.
    let now = c.self.inside.presence in
    let other = c.others.inside.presence in
    let both = c.join_words.new.words in
    let same : both ≡ other = (bytes_eq-Decides both other).0 (sym c.eq.ensures ∙ yes) in
    rw (← c.self.view_is, ← c.others.view_is)
    (sym (slots_of-joined g.row.K other now both c.join_words.ensures.words) ∙ ap (slots_of g.row.K) same)

pub returns-clause-no : goal.returns-clause-no
returns-clause-no g c = λ within.
    let now = c.self.inside.presence in
    let other = c.others.inside.presence in
    let both = c.join_words.new.words in
    let seen = λ (count : ToggleSets). count.presence in
    let kept : set.union (slots_of g.row.K other) (slots_of g.row.K now) ≡ slots_of g.row.K other =
    (λ i. set.union (seen (c.others.view_is i)) (seen (c.self.view_is i))) ∙ within ∙ ap seen (sym c.others.view_is) in
    let are = AreWords-joined g.row.K other now both c.others.invariant.presence c.self.invariant.presence.each
    c.join_words.ensures.long c.join_words.ensures.words in
    c.eq.ensures ∙ (bytes_eq-Decides both other).1
    (sym (words_of-slots_of g.row.K both are)
    ∙ ap (words_of g.row.K) (slots_of-joined g.row.K other now both c.join_words.ensures.words ∙ kept)
    ∙ words_of-slots_of g.row.K other c.others.invariant.presence)
