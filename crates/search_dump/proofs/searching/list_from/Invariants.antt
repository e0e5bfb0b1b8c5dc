use Rattle.search_dump.proofs.Common.{part_of, ◌-◌, chars, length, string_bytes, position_text, shown, compared}
use Rattle.search_dump.proofs.Common.{wanted_of, matches_in}
use Rattle.search_dump.proofs.ListedLaws.{IsListing}
use Rattle.search_dump.proofs.searching.list_from.Given as goal

abbrev pub invariant-loop-next : goal.invariant-loop-next
invariant-loop-next g l =
    let all = shown (part_of l.view) in
    let pattern = chars l.pattern.text.now in
    let text = compared l.pattern.ignores_case all in
    IsListing l.search.wanted l.search.direction pattern text (position_text all)
    (wanted_of l.search.wanted (length pattern) (matches_in l.search.direction pattern text l.fn.stretch))
    (string_bytes l.fn.list) (string_bytes l.list) l.rest l.next (length all)

abbrev pub decreases-loop-next : goal.decreases-loop-next
decreases-loop-next g l = l.rest.high - l.rest.low
