use Rattle.index_grammar.proofs.Common.{◌≡◌, sym, ap, ◌∙◌, drop, prefix_len, is_ascii_digit}
use Rattle.index_grammar.proofs.NumberLaws.{digits-end, digits-before, number-read}
use Rattle.index_grammar.proofs.numbers.front_number.Goals.{then-loop-at-test+else-is_ascii_digit, else-loop-at-test}
use Rattle.index_grammar.proofs.numbers.front_number.Goals as goal

pub returns-clause-number : goal.returns-clause-number
returns-clause-number c =
    let read = c.loop-at.invariant in
    let long : prefix_len is_ascii_digit c.args.text.now ≡ c.loop-at.at = elim c.loop-at-test.branch [
      | then-loop-at-test+else-is_ascii_digit w ↦ digits-before c.args.text.now c.loop-at.at read.within read.digits
          w.loop-at-test.true
          (w.if-is_ascii_digit.ensures {u = tt}).value
      | else-loop-at-test w ↦ digits-end c.args.text.now c.loop-at.at read.within read.digits w.loop-at-test.false
    ] in
    number-read c.args.text.now c.loop-at.at c.loop-at.number read.within c.if-at-eq0.false read.digits read.number long

pub returns-clause-rest : goal.returns-clause-rest
returns-clause-rest c =
    let read = c.loop-at.invariant in
    let long : prefix_len is_ascii_digit c.args.text.now ≡ c.loop-at.at = elim c.loop-at-test.branch [
      | then-loop-at-test+else-is_ascii_digit w ↦ digits-before c.args.text.now c.loop-at.at read.within read.digits
          w.loop-at-test.true
          (w.if-is_ascii_digit.ensures {u = tt}).value
      | else-loop-at-test w ↦ digits-end c.args.text.now c.loop-at.at read.within read.digits w.loop-at-test.false
    ] in c.split_at.ensures.back ∙ ap (λ k. drop k c.args.text.now) (sym long)
