use Rattle.segments.proofs.Common.{◌≡◌, drop, length, ap, ◌∙◌, arith, prefix_len, chars, run_end-le}
use Rattle.segments.proofs.TextLaws.{fewer_characters}
use Rattle.segments.proofs.characters.Characters.run_end.Goals as goal

run : (g : _) (c : goal.After-passing_from_first g) → c.passing_from_first.result
    ≡ prefix_len g.T.CharacterTest.test (drop c.args.column c.args.self.now)
run g c =
    let test = g.T.CharacterTest.test in
    c.passing_from_first.ensures ∙ ap (λ bytes. prefix_len test (chars bytes)) c.range_from-rest.ensures.value
    ∙ ap (prefix_len test) c.byte_of.ensures.behind
    ∙ ap (λ xs. prefix_len test (drop c.args.column xs)) (ap chars c.as_str-text.ensures.value ∙ c.self.view_is)

pub returns-clause-bound : goal.returns-clause-bound
returns-clause-bound g c =
    omega (arith, run g c, run_end-le g.T.CharacterTest.test c.args.self.now c.args.column c.requires)

pub overflow_add-result : goal.overflow_add-result
overflow_add-result g c =
    let bytes = c.as_str-text.result.now in
    omega (
      arith,
      returns-clause-bound g c,
      ap length (ap chars c.as_str-text.ensures.value ∙ c.self.view_is),
      fewer_characters bytes c.as_str-text.utf8,
      c.as_str-text.type_inv.0,
    )
