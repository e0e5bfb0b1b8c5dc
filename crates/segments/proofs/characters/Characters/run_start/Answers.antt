use Rattle.segments.proofs.Common.{◌≡◌, take, drop, ap, ◌∙◌, arith, suffix_len, chars, run_start-le}
use Rattle.segments.proofs.characters.Characters.run_start.Goals as goal

pub overflow_sub-result : goal.overflow_sub-result
overflow_sub-result g c =
    let test = g.T.CharacterTest.test in
    let column = c.args.column in
    let text = c.as_str-text.result.now in
    let front : c.range-front.result.now ≡ take c.byte_of.result text = c.range-front.ensures.value
    ∙ ap (λ n. take n (drop 0 text)) (omega arith) in
    let run : c.passing_from_last.result ≡ suffix_len test (take column c.args.self.now) =
    c.passing_from_last.ensures ∙ ap (λ bytes. suffix_len test (chars bytes)) front
    ∙ ap (suffix_len test) c.byte_of.ensures.front
    ∙ ap (λ xs. suffix_len test (take column xs)) (ap chars c.as_str-text.ensures.value ∙ c.self.view_is) in
    omega (arith, run, run_start-le test c.args.self.now column)
