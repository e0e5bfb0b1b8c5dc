-- What stands before a place, and how it adds up.
use Rattle.std.specs.Prelude.{◌≡◌, ℕ, ◌+◌, ◌^◌, ◌<◌, ⊤, refl, Bool, true, false}
use Rattle.std.proofs.Common.{arith, sym, ap, ◌∙◌}
use Rattle.std.specs.Ordering.{nat_cmp}
use Rattle.std.specs.FinSet as set
use Rattle.text_model.specs.Content.{Slots}
use Rattle.text_model.specs.SlotSets.{differing}
use Rattle.toggle_sums.specs.CountLaws.{contains-differing, differing-associative, differing-empty, either}
use Rattle.toggle_sums.specs.CountLaws.{either-associative, plus-associative, plus-no_text}
use Rattle.toggle_sums.specs.Counts.{Count, no_text, plus}
use Rattle.line_tree.specs.Changes.{FitsSum}
use Rattle.line_tree.specs.declared.aims.CharactersBefore.{CharactersBefore}
use Rattle.line_tree.specs.declared.aims.LinesBefore.{LinesBefore}
use Rattle.line_tree.specs.declared.aims.NothingBefore.{NothingBefore}
use Rattle.line_tree.specs.declared.aims.SlotsBefore.{SlotsBefore}
use Rattle.line_tree.specs.declared.aims.SumBefore.{SumBefore}
use Rattle.line_tree.specs.declared.slot_before.SlotBefore.{SlotBefore}

-- how wide a sum is, and what stands before a place that is a sum further on, where that fits
pub record AddsUp {A : Type 0} (wide : Count → ℕ) (behind : A → Count → A) (fits : A → Count → Type 0) : Type 0 where
  pub wide_none : wide no_text ≡ 0
  pub wide_plus : (s t : Count) → wide (plus s t) ≡ wide s + wide t
  pub behind_none : (a : A) → behind a no_text ≡ a
  pub behind_plus : (a : A) (s t : Count) → behind a (plus s t) ≡ behind (behind a s) t
  pub fits_within : (a : A) (s t u : Count) → fits a (plus s (plus t u)) → fits (behind a s) t

abbrev pub nothing_behind : NothingBefore → Count → NothingBefore
nothing_behind a s = a

abbrev pub lines_behind : LinesBefore → Count → LinesBefore
lines_behind a s = record { lines = a.lines + s.lines }

abbrev pub characters_behind : CharactersBefore → Count → CharactersBefore
characters_behind a s = record { characters = a.characters + s.characters }

abbrev pub slots_behind : SlotsBefore → Count → SlotsBefore
slots_behind a s = record { slots = differing a.slots s.parity }

abbrev pub slot_behind : SlotBefore → Count → SlotBefore
slot_behind a s = record a { is_odd = either a.is_odd (set.contains s.parity a.slot.0) }

abbrev pub sum_behind : SumBefore → Count → SumBefore
sum_behind a s = record { sum = plus a.sum s }

abbrev pub AlwaysFits : {A : Type 0} → A → Count → Type 0
AlwaysFits a s = ⊤

abbrev pub LinesFit : LinesBefore → Count → Type 0
LinesFit a s = a.lines + s.lines < 2 ^ 64

abbrev pub CharactersFit : CharactersBefore → Count → Type 0
CharactersFit a s = a.characters + s.characters < 2 ^ 64

abbrev pub SumFits : SumBefore → Count → Type 0
SumFits a s = FitsSum (plus a.sum s)

-- ---- laws
add_none : (a : ℕ) → a + 0 ≡ a
add_none a = omega arith

add_groups : (a b c : ℕ) → a + (b + c) ≡ a + b + c
add_groups a b c = omega arith

add_within : (a b c d : ℕ) → a + (b + (c + d)) < 2 ^ 64 → a + b + c < 2 ^ 64
add_within a b c d fits = omega arith

pub nothing-adds : AddsUp (λ s. s.lines) nothing_behind AlwaysFits
nothing-adds = record {
  wide_none = refl;
  wide_plus = λ s t. refl;
  behind_none = λ a. refl;
  behind_plus = λ a s t. refl;
  fits_within = λ a s t u fits. tt;
}

pub lines-add : AddsUp (λ s. s.characters) lines_behind LinesFit
lines-add = record {
  wide_none = refl;
  wide_plus = λ s t. refl;
  behind_none = λ a i. record { lines = add_none a.lines i };
  behind_plus = λ a s t i. record { lines = add_groups a.lines s.lines t.lines i };
  fits_within = λ a s t u fits. add_within a.lines s.lines t.lines u.lines fits;
}

pub characters-add : AddsUp (λ s. s.lines) characters_behind CharactersFit
characters-add = record {
  wide_none = refl;
  wide_plus = λ s t. refl;
  behind_none = λ a i. record { characters = add_none a.characters i };
  behind_plus = λ a s t i. record { characters = add_groups a.characters s.characters t.characters i };
  fits_within = λ a s t u fits. add_within a.characters s.characters t.characters u.characters fits;
}

pub slots-add : AddsUp (λ s. s.lines) slots_behind AlwaysFits
slots-add = record {
  wide_none = refl;
  wide_plus = λ s t. refl;
  behind_none = λ a i. record { slots = differing-empty a.slots i };
  behind_plus = λ a s t i. record { slots = sym (differing-associative a.slots s.parity t.parity) i };
  fits_within = λ a s t u fits. tt;
}

either_none : (b c : Bool) → c ≡ false → either b c ≡ b
either_none true c is = ap (either true) is
either_none false c is = ap (either false) is

slot_more : (b : Bool) (s t : Slots) (q : ℕ) →
    either b (set.contains (differing s t) q) ≡ either (either b (set.contains s q)) (set.contains t q)
slot_more b s t q =
    ap (either b) (contains-differing s t q) ∙ sym (either-associative b (set.contains s q) (set.contains t q))

pub slot-adds : AddsUp (λ s. s.lines) slot_behind AlwaysFits
slot-adds = record {
  wide_none = refl;
  wide_plus = λ s t. refl;
  behind_none = λ a i. record a { is_odd = either_none a.is_odd _ (set.contains-empty nat_cmp a.slot.0) i };
  behind_plus = λ a s t i. record a { is_odd = slot_more a.is_odd s.parity t.parity a.slot.0 i };
  fits_within = λ a s t u fits. tt;
}

pub sum-adds : AddsUp (λ s. s.lines) sum_behind SumFits
sum-adds = record {
  wide_none = refl;
  wide_plus = λ s t. refl;
  behind_none = λ a i. record { sum = plus-no_text a.sum i };
  behind_plus = λ a s t i. record { sum = sym (plus-associative a.sum s t) i };
  fits_within = λ a s t u fits. record {
    lines = add_within a.sum.lines s.lines t.lines u.lines fits.lines;
    characters = add_within a.sum.characters s.characters t.characters u.characters fits.characters;
    marks = add_within a.sum.marks s.marks t.marks u.marks fits.marks;
  };
}
