-- What is counted of a line, from how many characters and marks it has and from its toggles.
use Rattle.segments.proofs.Common.{◌≡◌, ℕ, ◌+◌, ◌<◌, true, false, ◌||◌, List, drop, get_or, length, sym, ap, ◌∙◌}
use Rattle.segments.proofs.Common.{drop_more, nat_cmp_total, differing, differing-empty, empty-differing, empty-union}
use Rattle.segments.proofs.Common.{union-empty, Count, CountsFit, counting, plus, with_toggles_of, Toggled, LineContent}
use Rattle.segments.proofs.Common.{line_count, any_of, Rise, Inside}
use Rattle.segments.proofs.MarkPlaceLaws.{len-marks}
use Rattle.segments.proofs.RichLaws.{as_long, seen}
use Rattle.std.specs.FinMap as finite
use Rattle.std.specs.FinSet as set

-- a line has so many characters and marks
pub record HasSize (line : LineContent) (len many : ℕ) : Type 0 where
  pub characters : len ≡ length line.columns
  pub marks : many ≡ finite.len line.marks

pub sized : (inside : Inside) {line : LineContent} {len marks : ℕ} → seen inside ≡ line → Rise inside.marks.items →
    len ≡ length inside.text → marks ≡ length inside.marks.items → HasSize line len marks
sized inside is rise long many = record {
  characters = long ∙ as_long inside is;
  marks = many ∙ sym (len-marks inside.marks.items rise) ∙ ap (λ (l : LineContent). finite.len l.marks) is;
}

module _ {line : LineContent} {len marks : ℕ} (has : HasSize line len marks) where
  pub counted : with_toggles_of (line_count line) (counting 1 len marks) ≡ line_count line
  counted = λ i. record {
    lines = 1;
    characters = has.characters i;
    marks = has.marks i;
    parity = empty-differing (line_count line).parity i;
    presence = empty-union (line_count line).presence i;
  }

  pub counted_more : (old : Count) → with_toggles_of (line_count line) (plus old (counting 1 len marks))
      ≡ plus old (line_count line)
  counted_more old = λ i. record {
    lines = old.lines + 1;
    characters = old.characters + has.characters i;
    marks = old.marks + has.marks i;
    parity = differing (differing-empty old.parity i) (line_count line).parity;
    presence = set.union (union-empty old.presence i) (line_count line).presence;
  }

  pub fits_more : (old : Count) → CountsFit old (line_count line) → CountsFit old (counting 1 len marks)
  fits_more old fits = record {
    lines = fits.lines;
    characters = rw has.characters fits.characters;
    marks = rw has.marks fits.marks;
  }

-- ---- whether a slot is in one of some entries
pub met_slot : (entries : List Toggled) (i : ℕ) (d : Toggled) (slot : ℕ) → i < length entries →
    set.contains (get_or entries i d).slots slot ≡ true → set.contains (any_of (drop i entries)) slot ≡ true
met_slot entries i d slot within has =
    ap (λ es. set.contains (any_of es) slot) (drop_more entries i d within)
    ∙ set.contains-union nat_cmp_total (get_or entries i d).slots (any_of (drop (i + 1) entries)) slot
    ∙ ap (λ b. b || set.contains (any_of (drop (i + 1) entries)) slot) has

pub passed_slot : (entries : List Toggled) (i : ℕ) (d : Toggled) (slot : ℕ) → i < length entries →
    set.contains (get_or entries i d).slots slot ≡ false
    → set.contains (any_of (drop i entries)) slot ≡ set.contains (any_of (drop (i + 1) entries)) slot
passed_slot entries i d slot within hasn't =
    ap (λ es. set.contains (any_of es) slot) (drop_more entries i d within)
    ∙ set.contains-union nat_cmp_total (get_or entries i d).slots (any_of (drop (i + 1) entries)) slot
    ∙ ap (λ b. b || set.contains (any_of (drop (i + 1) entries)) slot) hasn't
