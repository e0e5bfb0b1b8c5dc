use Rattle.command_effects.proofs.Common.{Vec, Global, ◌≡◌, ◌∷◌, ◌++◌, [], map, ap, ◌∙◌, MarkNo, number_of}
use Rattle.command_effects.proofs.SlotLaws.{found-kept, found-pushed}
use Rattle.command_effects.proofs.marking.numbers_named.Goals.{in-Some+in_ok-push, in_default}
use Rattle.command_effects.proofs.marking.numbers_named.Goals as goal

pub loop-name-preserved : goal.loop-name-preserved
loop-name-preserved c =
    let marks = c.args.marks.now.marks in
    let names = c.args.names.now in
    let at = c.loop-name.name-index in
    elim c.match-find.branch [
      | in-Some+in_ok-push w ↦
          let items : c.match-find.numbers.items ≡ c.loop-name.numbers.items ++ w.in-Some.number
          ∷ [] = ap (λ (numbers : Vec MarkNo Global). numbers.items) w.numbers-is ∙ w.in_ok-push.ensures.items in
          ap (map (λ (number : MarkNo). number.0)) items
          ∙ found-pushed (λ (number : MarkNo). number.0) (λ name. number_of name marks) names at c.name-item.result
          c.as_str.result.now c.loop-name-test.true c.name-item.is c.as_str.ensures.value c.loop-name.numbers.items
          w.in-Some.number c.loop-name.invariant w.in-Some.ensures
      | in_default w ↦
          let items : c.match-find.numbers.items
          ≡ c.loop-name.numbers.items = ap (λ (numbers : Vec MarkNo Global). numbers.items) w.numbers-is in
          ap (map (λ (number : MarkNo). number.0)) items
          ∙ found-kept (λ (number : MarkNo). number.0) (λ name. number_of name marks) names at c.name-item.result
          c.as_str.result.now c.loop-name-test.true c.name-item.is c.as_str.ensures.value c.loop-name.numbers.items
          c.loop-name.invariant w.in_default.ensures
    ]
