use Rattle.search_dump.proofs.Common.{part_of, shown, ap, arith, chars, sym, searched, ◌-◌}
use Rattle.search_dump.proofs.WindowLaws.{IsWindow, nearest-within, read-none, read-some, window-read}
use Rattle.search_dump.proofs.matching.nearest_read.Given.{Over}
use Rattle.search_dump.proofs.matching.nearest_read.Goals.{After-as_str}
use Rattle.search_dump.proofs.matching.nearest_read.Goals as goal

-- the part that is read
part : (g : Over) (c : After-as_str g) → IsWindow (chars c.args.pattern.now.text.now)
    (searched (part_of c.args.view.now) c.args.pattern.now) (chars c.as_str.result.now) c.args.stretch.low
    (c.args.stretch.high - c.args.stretch.low) c.args.stretch.end
part g c = window-read c.args.pattern.now.ignores_case (shown (part_of c.args.view.now)) c.args.stretch
    c.args.pattern.now.counted c.requires.some c.requires.fits c.requires.within (ap chars c.as_str.ensures.value)
    c.in_ok-text.ensures

pub overflow_add-result : goal.overflow_add-result
overflow_add-result g c =
    let found = read-some c.args.direction c.args.stretch c.requires.some
    (part g (goal.at.overflow_add-result g c).After-as_str) c.in-Some.ensures in
    let within = nearest-within c.args.direction (chars c.args.pattern.now.text.now)
    (searched (part_of c.args.view.now) c.args.pattern.now) c.args.stretch _ (sym found) in
    omega arith

pub returns-in-Some : goal.returns-in-Some
returns-in-Some g c = read-some c.args.direction c.args.stretch c.requires.some
    (part g (goal.at.returns-in-Some g c).After-as_str) c.in-Some.ensures

pub returns : goal.returns
returns g c = read-none c.args.direction c.args.stretch c.requires.some (part g (goal.at.returns g c).After-as_str)
    c.in-None.ensures
