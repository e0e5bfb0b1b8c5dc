use Rattle.search_dump.proofs.Common.{part_of, shown, ◌≡◌, ◌≤◌, None, Some, ap, ap₂, arith, chars, length, map}
use Rattle.search_dump.proofs.Common.{string_bytes, subst, sym, ◌∙◌, OnOk, Goes, goes_nowhere, position_text}
use Rattle.search_dump.proofs.Common.{length-shown, searched, left_to_list, second_stretch}
use Rattle.search_dump.proofs.RoundLaws.{LiesIn, none-listed, rest-lies, rest-listed, round-lies}
use Rattle.search_dump.proofs.searching.list_round.Given.{Over}
use Rattle.search_dump.proofs.searching.list_round.Goals.{In-Some}
use Rattle.search_dump.proofs.searching.list_round.Goals as goal

-- what is left of the stretch round the end of the text
left : (g : Over) (c : In-Some g) → Some c.in-Some.rest
    ≡ left_to_list c.args.search.wanted c.args.search.direction (second_stretch c.args.search.direction
    (length (shown (part_of c.args.view.now))) c.args.from) c.args.listed
    (length (chars c.args.pattern.now.text.now))
left g c =
    sym c.in-Some.is ∙ c.left_to_list.ensures
    ∙ ap₂ (λ s n. left_to_list c.args.search.wanted c.args.search.direction s c.args.listed n)
    (c.second_stretch-whole.ensures ∙ ap (λ n. second_stretch c.args.search.direction n c.args.from) c.len.ensures)
    c.args.pattern.now.counted

lies : (g : Over) (c : In-Some g) →
    LiesIn (length (shown (part_of c.args.view.now))) c.in-Some.rest
lies g c =
    let view = c.args.view.now in
    let len = length (shown (part_of view)) in
    let within : c.args.from ≤ len = omega (
      arith,
      c.requires.from,
      length-shown (part_of view) view.whole_lines,
    ) in
    rest-lies c.args.search.wanted c.args.search.direction (length (chars c.args.pattern.now.text.now)) c.args.listed
    (round-lies c.args.search.direction len c.args.from within) (left g c)

pub list_stretch-requires-clause-high : goal.list_stretch-requires-clause-high
list_stretch-requires-clause-high g c = (lies g (goal.at.list_stretch-requires-clause-high g c).In-Some).high

pub list_stretch-requires-clause-within : goal.list_stretch-requires-clause-within
list_stretch-requires-clause-within g c = (lies g (goal.at.list_stretch-requires-clause-within g c).In-Some).end

pub returns-in-Some : goal.returns-in-Some
returns-in-Some g c =
    let view = c.args.view.now in
    let search = c.args.search in
    let text = shown (part_of view) in
    subst (λ places. OnOk c.list_stretch.result
    (Goes (string_bytes c.args.list.now) (string_bytes c.list_stretch.new.list) (map (position_text text) places)))
    (rest-listed search.wanted search.direction (chars c.args.pattern.now.text.now)
    (searched (part_of view) c.args.pattern.now)
    (second_stretch search.direction (length text) c.args.from) c.in-Some.rest c.args.listed
    (left g (goal.at.returns-in-Some g c).In-Some)) c.list_stretch.ensures

pub returns-in-None : goal.returns-in-None
returns-in-None g c =
    let view = c.args.view.now in
    let search = c.args.search in
    let text = shown (part_of view) in
    let pattern = chars c.args.pattern.now.text.now in
    let whole = second_stretch search.direction (length text) c.args.from in
    let is : None ≡ left_to_list search.wanted search.direction whole c.args.listed (length pattern) =
    sym c.in-None.is ∙ c.left_to_list.ensures
    ∙ ap₂ (λ s n. left_to_list search.wanted search.direction s c.args.listed n)
    (c.second_stretch-whole.ensures ∙ ap (λ n. second_stretch search.direction n c.args.from) c.len.ensures)
    c.args.pattern.now.counted in
    subst (λ places. Goes (string_bytes c.args.list.now) (string_bytes c.args.list.now)
    (map (position_text text) places))
    (none-listed search.wanted search.direction pattern (searched (part_of view) c.args.pattern.now) whole
    c.args.listed is) (goes_nowhere (string_bytes c.args.list.now))
