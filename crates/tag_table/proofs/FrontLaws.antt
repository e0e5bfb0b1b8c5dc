-- The tags at the front of a table.
use Rattle.tag_table.proofs.Common.{◌≡◌, ℕ, true, false, Some, List, map, slice_get, refl, sym, ap, ◌∙◌, arith}
use Rattle.tag_table.proofs.Common.{if◌then◌else◌, ◌==◌, take, Decides-eqb, Named, Names, AreKept, tag, tags_kept}
use Rattle.tag_table.proofs.Common.{slot_of_number, Tag, Tags, slot_of, first_slot, sel, ◌+◌, ◌-◌, take-map, stood_at}
use Rattle.tag_table.proofs.TagLaws.{stands_with}

number_zero : (number : ℕ) → slot_of_number number ≡ 0 → number ≡ 0
number_zero number is =
    elim (number == 0) as (λ b. (number == 0) ≡ b → (if b then 0 else first_slot - 1 + number) ≡ 0 → number ≡ 0) [
      | true ↦ λ same _. (Decides-eqb number 0).0 same
      | false ↦ λ _ none. absurd (let h : first_slot - 1 + number ≡ 0 = none in omega arith)
    ] refl is

-- where `sel` has slot 0, it stands there with number 0
sel_stands : (es : List Named) → slot_of sel (map tag es) ≡ Some 0 →
    (at : ℕ) × (slice_get es at ≡ Some (record { name = sel; number = 0 }))
sel_stands es is =
    let there = stands_with sel 0 (map tag es) is in
    let old = stood_at tag es there.0 _ there.1 in
    let number : old.0.number ≡ 0 = number_zero old.0.number (ap (λ (t : Tag). t.slot) old.2) in
    (there.0, old.1 ∙ (λ i. Some (record { name = (old.2 i).name; number = number i })))

pub AreKept-front : (names : Names) (tags : Tags) (len : ℕ) → tags_kept names ≡ tags →
    slot_of sel (take len tags.tags) ≡ Some 0 → AreKept names →
    AreKept (record names { entries = take len names.entries })
AreKept-front names tags len is there kept = record {
  some = kept.some;
  few = kept.few;
  selection = sel_stands (take len names.entries)
      (ap (slot_of sel) (sym (take-map tag len names.entries) ∙ ap (λ (ts : Tags). take len ts.tags) is) ∙ there);
}

pub tags_kept-front : (names : Names) (tags : Tags) (len : ℕ) → tags_kept names ≡ tags →
    tags_kept (record names { entries = take len names.entries }) ≡ record tags { tags = take len tags.tags }
tags_kept-front names tags len is =
    ap (λ ts. record { tags = ts; limit = names.limit - 1 }) (sym (take-map tag len names.entries))
    ∙ ap (λ (ts : Tags). record ts { tags = take len ts.tags }) is
