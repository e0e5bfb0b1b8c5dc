use Rattle.search_dump.proofs.Common.{◌≡◌, ◌++◌, ◌+◌, ◌-◌, ◌<◌, ap, arith, chars, drop, encode_utf8, length, refl, sym}
use Rattle.search_dump.proofs.Common.{take, ◌∙◌, YieldsList-from_chars, count_from_yields_List, length-take, take_min}
use Rattle.search_dump.proofs.Common.{len_utf8_bounds, length-encode}
use Rattle.search_dump.proofs.PeriodLaws.{later-boundary, period-at}
use Rattle.search_dump.proofs.patterns.Period.of.Goals as goal

pub returns : goal.returns
returns c =
    let bs = c.args.pattern.now in
    let half = c.range-half.result.now in
    let later = c.as_str-later.result.now in
    let n = c.ceil_char_boundary.result in
    let found = c.in_ok-at.ensures.cases in
    let i = c.in_ok-at.field-0 in
    let at = length bs - length later + i in
    let stripped = c.in_ok-tail.ensures.cases in
    let first : bs ≡ encode_utf8 c.in_ok-next.field-0 ++ later =
    sym c.chars-characters.ensures.rest ∙ c.in_ok-next.ensures.steps.0
    ∙ ap (λ rest. encode_utf8 c.in_ok-next.field-0 ++ rest) (sym c.as_str-later.ensures) in
    let cut : half ≡ take n bs = c.range-half.ensures.value ∙ ap (λ k. take k (drop 0 bs)) (omega arith) in
    let is_half : half ≡ take (length half) bs = cut ∙ sym (take_min n bs)
    ∙ ap (λ k. take k bs) (sym (ap length cut ∙ length-take n bs)) in
    let again : bs ≡ drop at bs ++ c.in_ok-tail.tail.now =
    stripped.1.1 ∙ ap (λ rest. rest ++ drop stripped.0 bs) c.range_from.ensures.value
    ∙ ap (λ rest. drop at bs ++ rest) (sym stripped.2) in
    let front : c.range-front.result.now ≡ take at bs = c.range-front.ensures.value
    ∙ ap (λ k. take k (drop 0 bs)) (omega arith) in
    let counted : c.count.result ≡ length (chars c.range-front.result.now) =
    count_from_yields_List c.chars.result c.count.result c.count.ensures.ran
    (YieldsList-from_chars c.range-front.result.now c.range-front.utf8 cc) in
    let some : 0 < length (encode_utf8 c.in_ok-next.field-0) = omega (
      arith,
      length-encode c.in_ok-next.field-0,
      len_utf8_bounds c.in_ok-next.field-0,
    ) in
    period-at bs half later c.in_ok-tail.tail.now c.in_ok-next.field-0 i found.0 at c.utf8.pattern first some is_half
    found.1.0 found.1.1 found.3.0
    (later-boundary bs later c.in_ok-next.field-0 i first found.3) refl again c.range-front.result.now c.count.result
    front counted
