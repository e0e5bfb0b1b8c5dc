use Rattle.command_effects.proofs.Common.{◌≡◌, map, take, texts_of, MarkNo, numbers_named}
use Rattle.command_effects.proofs.marking.numbers_named.Given as goal

abbrev pub invariant-loop-name : goal.invariant-loop-name
invariant-loop-name l = map (λ (number : MarkNo). number.0) l.numbers.items
    ≡ numbers_named l.marks.marks (texts_of (take l.name-index l.names))
