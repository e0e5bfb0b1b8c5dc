use Rattle.search_dump.proofs.Common.{◌≡◌, Some, chars, drop, length, take, ap, arith, ◌∙◌, sym}
use Rattle.search_dump.proofs.MatchLaws.{first_place-at, first_place-none}
use Rattle.search_dump.proofs.patterns.first_place.Goals as goal

pub returns-in_err-at : goal.returns-in_err-at
returns-in_err-at c = c.from_residual.ensures
    ∙ sym (first_place-none c.args.pattern.now c.args.text.now c.utf8.pattern c.utf8.text c.in_err-at.ensures.cases)

pub returns : goal.returns
returns c =
    let at = c.in_ok-at.at in
    let found = c.in_ok-at.ensures.cases in
    let front : c.range.result.now ≡ take at c.args.text.now = c.range.ensures.value
    ∙ ap (λ n. take n (drop 0 c.args.text.now)) (omega arith) in
    ap Some (c.count.ensures ∙ ap (λ bytes. length (chars bytes)) front)
    ∙ sym (first_place-at c.args.pattern.now c.args.text.now c.utf8.pattern c.utf8.text at found.0 found.3 found.4
    found.1.1 found.1.0)
