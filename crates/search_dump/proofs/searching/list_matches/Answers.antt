use Rattle.search_dump.proofs.Common.{part_of, shown, ◌≡◌, ◌+◌, ◌≤◌, Some, ap, arith, chars, length, map, string_bytes}
use Rattle.search_dump.proofs.Common.{subst, sym, ◌∙◌, IfSome, OnOk, Goes, position_text, length-shown, wanted_of}
use Rattle.search_dump.proofs.Common.{listed_in, listed_whole, searched, first_stretch}
use Rattle.search_dump.proofs.FirstLaws.{first-lies, first-matches}
use Rattle.search_dump.proofs.RoundLaws.{LiesIn}
use Rattle.search_dump.proofs.searching.list_matches.Given.{Over}
use Rattle.search_dump.proofs.searching.list_matches.Goals.{After-first_stretch-stretch}
use Rattle.search_dump.proofs.searching.list_matches.Goals as goal

pub returns-in-None : goal.returns-in-None
returns-in-None g c =
    subst (λ stop. OnOk c.list_round_whole.result
    (Goes (string_bytes c.args.list.now) (string_bytes c.list_round_whole.new.list)
    (listed_whole (part_of c.args.view.now) c.args.pattern.now c.args.search c.args.from stop)))
    (sym c.in-None.is) c.list_round_whole.ensures

-- the stretch up to the stop
is : (g : Over) (c : After-first_stretch-stretch g) → c.first_stretch-stretch.result
    ≡ first_stretch c.args.search (length (shown (part_of c.args.view.now))) c.args.from
    (Some c.in-Some.place)
is g c = c.first_stretch-stretch.ensures
    ∙ ap (λ n. first_stretch c.args.search n c.args.from (Some c.in-Some.place)) c.len.ensures

lies : (g : Over) (c : After-first_stretch-stretch g) →
    LiesIn (length (shown (part_of c.args.view.now))) c.first_stretch-stretch.result
lies g c =
    let view = c.args.view.now in
    let len = length (shown (part_of view)) in
    let long = length-shown (part_of view) view.whole_lines in
    let stop : c.in-Some.place ≤ len =
    omega (arith, long, subst (λ o. IfSome o (λ place. view.start + place ≤ view.end)) c.in-Some.is c.requires.stop) in
    subst (LiesIn len) (sym (is g c)) (first-lies c.args.search len c.args.from c.in-Some.place
    (omega (arith, long, c.requires.from)) stop)

pub list_stretch-requires-clause-high : goal.list_stretch-requires-clause-high
list_stretch-requires-clause-high g c =
    (lies g (goal.at.list_stretch-requires-clause-high g c).After-first_stretch-stretch).high

pub list_stretch-requires-clause-within : goal.list_stretch-requires-clause-within
list_stretch-requires-clause-within g c =
    (lies g (goal.at.list_stretch-requires-clause-within g c).After-first_stretch-stretch).end

pub returns-in-Some : goal.returns-in-Some
returns-in-Some g c =
    let view = c.args.view.now in
    let search = c.args.search in
    let all = shown (part_of view) in
    let pattern = chars c.args.pattern.now.text.now in
    let is = is g (goal.at.returns-in-Some g c).After-first_stretch-stretch in
    subst (λ stop. OnOk c.list_stretch.result
    (Goes (string_bytes c.args.list.now) (string_bytes c.list_stretch.new.list)
    (listed_whole (part_of view) c.args.pattern.now search c.args.from stop))) (sym c.in-Some.is)
    (subst (λ found. OnOk c.list_stretch.result
    (Goes (string_bytes c.args.list.now) (string_bytes c.list_stretch.new.list)
    (map (position_text all) (wanted_of search.wanted (length pattern) found))))
    (first-matches search pattern (searched (part_of view) c.args.pattern.now) (length all) c.args.from
    c.in-Some.place)
    (subst (λ stretch. OnOk c.list_stretch.result
    (Goes (string_bytes c.args.list.now) (string_bytes c.list_stretch.new.list)
    (listed_in (part_of view) c.args.pattern.now search stretch))) is c.list_stretch.ensures))
