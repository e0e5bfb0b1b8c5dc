use Rattle.search_dump.proofs.Common.{◌≡◌, ◌-◌, ◌≤◌, slice_range, ap, ap₂, arith, chars, drop, string_bytes, subst}
use Rattle.search_dump.proofs.Common.{take, ◌∙◌, element, Goes, IsUtf8-drop, IsUtf8-string_bytes}
use Rattle.search_dump.proofs.CopiedLaws.{front_of, left-front}
use Rattle.search_dump.proofs.PlainWords.{text-plain}
use Rattle.search_dump.proofs.SeenLaws.{text-characters}
use Rattle.search_dump.proofs.copied.Copied.list.Goals as goal

pub returns-clause-goes : goal.returns-clause-goes
returns-clause-goes c = λ text spot left.
    let copied = c.args.self.now in
    let rest = drop copied.byte (string_bytes copied.text) in
    let bytes = c.bytes_to-bytes.result in
    let piece : c.range.result.now ≡ take bytes rest = c.range.ensures.value
    ∙ ap (λ n. take n (drop 0 c.rest.result.now)) (let e : bytes - 0 ≡ bytes = omega arith in e)
    ∙ ap (take bytes) c.rest.ensures in
    let utf8 = IsUtf8-drop (string_bytes copied.text) copied.byte (IsUtf8-string_bytes copied.text) copied.boundary in
    let ordered : copied.place ≤ c.args.to = omega (arith, c.requires.place, c.requires.ordered) in
    let value : chars c.range.result.now ≡ slice_range text c.args.spot.place c.args.to = ap chars piece
    ∙ front_of rest bytes (c.args.to - copied.place) utf8 c.bytes_to-bytes.ensures.boundary
    c.bytes_to-bytes.ensures.behind ∙ left-front text copied c.args.to left ordered c.requires.within
    ∙ ap (λ place. slice_range text place c.args.to) c.requires.place in
    subst (λ xs. Goes (string_bytes c.args.out.now.list) (string_bytes c.push.new.self.list) xs)
    (ap₂ (λ key value. element key text c.args.spot.place value) text-characters value)
    (c.in_ok-push.ensures text spot)

pub push-requires-clause-plain : goal.push-requires-clause-plain
push-requires-clause-plain c = text-plain
