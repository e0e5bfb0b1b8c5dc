-- A text with newlines goes into the text of a draft line by line.
use Rattle.line_lists.proofs.Common.{◌≡◌, ℕ, ◌+◌, ◌<◌, ◌≤◌, Bool, true, false, ◌&&◌, ◌||◌, ◌==◌, List, [], ◌∷◌, ◌++◌}
use Rattle.line_lists.proofs.Common.{Option, None, Some, length, take, drop, refl, sym, ap, ap₂, subst, ◌∙◌, arith}
use Rattle.line_lists.proofs.Common.{append_assoc, length-append, take-append-drop, nat_cmp, if◌then◌else◌, nat_lt}
use Rattle.line_lists.proofs.Common.{option_map, or_parts, nat_tests, append-nil, length-map, length-take-le}
use Rattle.line_lists.proofs.Common.{map-append, Place, Marks, map_marks, goes_behind, inserted, is_right, moved}
use Rattle.line_lists.proofs.Common.{get-map_marks, same_marks, inserted-append_right, LineContent, after_text, joined}
use Rattle.line_lists.proofs.Common.{joined_marks, later, plain_columns, plain_line, get-joined_marks, or_else}
use Rattle.line_lists.proofs.Common.{StandRight, AreApart, AreRows, GoesBefore, IsLine, StandBefore, whole}
use Rattle.line_lists.proofs.EditLaws.{rows-stand}
use Rattle.line_lists.proofs.MarkRows.{moved_before}
use Rattle.line_lists.proofs.RowLaws.{AreAmong, Makes, free-joined, rows-before, rows-behind}
use Rattle.line_lists.proofs.WholeLaws.{whole-append}
use Rattle.std.specs.FinMap as finite

-- ---- one text behind another
moves_twice : (a n m : ℕ) (first second : Bool) (place : Place) → first ≡ goes_behind a place →
    (first ≡ true → goes_behind (a + n) (record place { offset = place.offset + n }) ≡ true)
    → (first ≡ false → goes_behind (a + n) place ≡ false) →
    moved (a + n) m (if first then record place { offset = place.offset + n } else place)
    ≡ (if first then record place { offset = place.offset + (n + m) } else place)
moves_twice a n m true second place is behind before =
    ap (λ b. if b then record place { offset = (place.offset + n) + m }
    else record place { offset = place.offset + n }) (behind refl)
    ∙ ap (λ offset. record place { offset = offset }) (let same : (place.offset + n) + m
    ≡ place.offset + (n + m) = omega arith in same)
moves_twice a n m false second place is behind before =
    ap (λ b. if b then record place { offset = place.offset + m } else place) (before refl)

moved-twice : (a n m : ℕ) (place : Place) → 0 < n → moved (a + n) m (moved a n place) ≡ moved a (n + m) place
moved-twice a n m place some =
    moves_twice a n m (goes_behind a place) true place refl
    (λ is. (let alike : goes_behind (a + n) (record place { offset = place.offset + n }) ≡ goes_behind a place =
    ap₂ (λ less same. less || (same && is_right place.gravity))
    (let less : nat_lt (a + n) (place.offset + n) ≡ nat_lt a place.offset = grind (arith, nat_tests) in less)
    (let same : (place.offset + n == a + n) ≡ (place.offset == a) = grind (arith, nat_tests) in same) in alike) ∙ is)
    (λ is. not_yet a n place some is)
  where
    not_yet : (a n : ℕ) (place : Place) → 0 < n → goes_behind a place ≡ false → goes_behind (a + n) place ≡ false
    not_yet a n place some is =
        let no : nat_lt a place.offset ≡ false = (or_parts (nat_lt a place.offset) ((place.offset == a)
        && is_right place.gravity) is).0 in
        ap₂ (λ less same. less || (same && is_right place.gravity))
        (let less : nat_lt (a + n) place.offset ≡ false = grind (arith, nat_tests) in less)
        (let same : (place.offset == a + n) ≡ false = grind (arith, nat_tests) in same)

map_twice : (f g h : Place → Place) (marks : Marks) → ((place : Place) → g (f place) ≡ h place) →
    map_marks g (map_marks f marks) ≡ map_marks h marks
map_twice f g h marks alike =
    same_marks _ _ (λ q.
    get-map_marks g (map_marks f marks) q ∙ ap (option_map g) (get-map_marks f marks q) ∙ one (finite.get marks q)
    ∙ sym (get-map_marks h marks q))
  where
    one : (found : Option Place) → option_map g (option_map f found) ≡ option_map h found
    one None = refl
    one (Some place) = ap (λ p. Some p) (alike place)

inserted-twice : {A : Type 0} (at : ℕ) (first second xs : List A) → at ≤ length xs →
    inserted (at + length first) second (inserted at first xs) ≡ inserted at (first ++ second) xs
inserted-twice at first second xs within =
    let front = take at xs ++ first in
    let long : at + length first ≡ length front + 0 = omega (
      arith,
      length-append (take at xs) first,
      length-take-le at xs within,
    ) in
    ap (λ n. inserted n second (front ++ drop at xs)) long
    ∙ inserted-append_right 0 second front (drop at xs)
    ∙ sym (append_assoc front second (drop at xs))
    ∙ ap (λ part. part ++ drop at xs) (append_assoc (take at xs) first second)

pub text-twice : (at : ℕ) (first second : List ℕ) (line : LineContent) → at ≤ length line.columns → 0 < length first
    → after_text (at + length first) second (after_text at first line) ≡ after_text at (first ++ second) line
text-twice at first second line within some =
    let columns =
    ap (λ n. inserted (at + n) (plain_columns second) (inserted at (plain_columns first) line.columns))
    (sym (length-map first _))
    ∙ inserted-twice at (plain_columns first) (plain_columns second) line.columns within
    ∙ ap (λ new. inserted at new line.columns) (sym (map-append _ first second)) in
    let marks =
    map_twice (moved at (length first)) (moved (at + length first) (length second))
    (moved at (length first + length second)) line.marks
    (λ place. moved-twice at (length first) (length second) place some)
    ∙ ap (λ n. map_marks (moved at n) line.marks) (sym (length-append first second)) in
    λ i. record { columns = columns i; marks = marks i }

-- nothing goes in
stays_put : (b : Bool) (place : Place) → (if b then record place { offset = place.offset + 0 } else place) ≡ place
stays_put true place =
    ap (λ offset. record place { offset = offset }) (let same : place.offset + 0 ≡ place.offset = omega arith in same)
stays_put false place = refl

map_none : (f : Place → Place) (marks : Marks) → ((place : Place) → f place ≡ place) → map_marks f marks ≡ marks
map_none f marks alike = same_marks _ _ (λ q. get-map_marks f marks q ∙ one (finite.get marks q))
  where
    one : (found : Option Place) → option_map f found ≡ found
    one None = refl
    one (Some place) = ap (λ p. Some p) (alike place)

pub text-none : (at : ℕ) (line : LineContent) → after_text at [] line ≡ line
text-none at line =
    let columns = ap (λ part. part ++ drop at line.columns) (append-nil (take at line.columns))
    ∙ take-append-drop at line.columns in
    λ i. record {
      columns = columns i;
      marks = map_none (moved at 0) line.marks (λ place. stays_put (goes_behind at place) place) i;
    }

-- ---- behind a text that went in stand marks with right gravity alone
right_one : (at count : ℕ) (from place : Place) (b : Bool) → 0 < count → goes_behind at from ≡ b →
    (if b then record from { offset = from.offset + count } else from) ≡ place → place.offset ≡ at + count →
    is_right place.gravity ≡ true
right_one at count from place true some test is stands =
    let offset : from.offset ≡ at = omega (arith, ap (λ (p : Place). p.offset) is, stands) in
    let less : nat_lt at from.offset ≡ false = grind (arith, nat_tests) in
    let same : (from.offset == at) ≡ true = grind (arith, nat_tests) in
    ap (λ (p : Place). is_right p.gravity) (sym is)
    ∙ ap₂ (λ l s. l || (s && is_right from.gravity)) (sym less) (sym same) ∙ test
right_one at count from place false some test is stands =
    let less = (or_parts (nat_lt at from.offset) ((from.offset == at) && is_right from.gravity) test).0 in
    let far : at < from.offset = omega (arith, ap (λ (p : Place). p.offset) is, stands, some) in
    absurd (not_less at from.offset far less)
  where
    not_less : (a b : ℕ) → a < b → nat_lt a b ≡ false → ⊥
    not_less a b less is = grind (arith, nat_tests)

pub right-moved : (at count : ℕ) (marks : Marks) → 0 < count →
    StandRight (at + count) (map_marks (moved at count) marks)
right-moved at count marks some number place is stands =
    one (finite.get marks number) (sym (get-map_marks (moved at count) marks number) ∙ is)
  where
    one : (found : Option Place) → option_map (moved at count) found ≡ Some place → is_right place.gravity ≡ true
    one None there = absurd (let none : None ≡ Some place = there in cc)
    one (Some from) here = right_one at count from place (goes_behind at from) some refl (let same : moved at count from
        ≡ place = cc in same) stands

-- ---- a line goes in between two lines
moved_right : (p count : ℕ) (place : Place) → (place.offset + p ≡ p → is_right place.gravity ≡ true) →
    moved p count (later p place) ≡ later p (later count place)
moved_right p count place right =
    ap (λ b. if b then record place { offset = (place.offset + p) + count }
    else later p place) (goes (nat_lt p (place.offset + p)) (place.offset + p == p) (λ no. grind (arith, nat_tests))
    (λ same. right (grind (arith, nat_tests))))
    ∙ ap (λ offset. record place { offset = offset }) (let same : (place.offset + p) + count
    ≡ (place.offset + count) + p = omega arith in same)
  where
    goes : (less same : Bool) → (less ≡ false → same ≡ true) → (same ≡ true → is_right place.gravity ≡ true) →
        (less || (same && is_right place.gravity)) ≡ true
    goes true same other right_there = refl
    goes false true other right_there = right_there refl
    goes false false other right_there = other refl

row_one : (p count : ℕ) (second first : Option Place) →
    ((place : Place) → second ≡ Some place → place.offset + p ≡ p → is_right place.gravity ≡ true) →
    ((place : Place) → first ≡ Some place → place.offset < p)
    → option_map (moved p count) (or_else (option_map (later p) second) first)
    ≡ or_else (option_map (later p) (or_else (option_map (later count) second) None)) first
row_one p count (Some place) first right before = ap (λ q. Some q) (moved_right p count place (right place refl))
row_one p count None None right before = refl
row_one p count None (Some place) right before = ap (λ q. Some q) (moved_before p count place (before place refl))

later_there : (p : ℕ) (second first : Option Place) (place : Place) → second ≡ Some place →
    or_else (option_map (later p) second) first ≡ Some (later p place)
later_there p second first place is = ap (λ found. or_else (option_map (later p) found) first) is

between-marks : (p count : ℕ) (first second : Marks) → StandBefore p first → StandRight p (joined_marks p first second)
    → map_marks (moved p count) (joined_marks p first second)
    ≡ joined_marks p first (joined_marks count finite.empty second)
between-marks p count first second before right =
    same_marks _ _ (λ q.
    get-map_marks (moved p count) (joined_marks p first second) q
    ∙ ap (option_map (moved p count)) (get-joined_marks p first second q)
    ∙ row_one p count (finite.get second q) (finite.get first q)
    (λ place is at. right q (later p place) (get-joined_marks p first second q
    ∙ later_there p (finite.get second q) (finite.get first q) place is) at)
    (before q)
    ∙ sym (get-joined_marks p first (joined_marks count finite.empty second) q
    ∙ ap (λ found. or_else (option_map (later p) found) (finite.get first q))
    (get-joined_marks count finite.empty second q
    ∙ ap (or_else (option_map (later count) (finite.get second q))) (finite.get-empty nat_cmp q))))

line-between : (text : List ℕ) (first second : LineContent) → StandBefore (length first.columns) first.marks →
    StandRight (length first.columns) (joined first second).marks
    → joined first (joined (plain_line text) second) ≡ after_text (length first.columns) text (joined first second)
line-between text first second before right =
    let p = length first.columns in
    let columns =
    sym (ap (λ n. inserted n (plain_columns text) (first.columns ++ second.columns)) (let same : p
    ≡ p + 0 = omega arith in same)
    ∙ inserted-append_right 0 (plain_columns text) first.columns second.columns) in
    let marks =
    ap (λ n. joined_marks p first.marks (joined_marks n finite.empty second.marks)) (length-map text _)
    ∙ sym (between-marks p (length text) first.marks second.marks before right) in
    λ i. record { columns = columns i; marks = marks i }

plain-goes : (text : List ℕ) (behind : List LineContent) → 0 < length behind → GoesBefore (plain_line text) behind
plain-goes text [] some = absurd (omega (arith, some))
plain-goes text (next ∷ others) some =
    let stand : StandBefore (length (plain_columns text)) finite.empty = λ number place is.
    absurd (let no : None ≡ Some place = sym (finite.get-empty nat_cmp number) ∙ is in cc) in
    let apart : AreApart finite.empty (whole (next ∷ others)).marks = λ number place is.
    absurd (let no : None ≡ Some place = sym (finite.get-empty nat_cmp number) ∙ is in cc) in
    (stand, apart)

pub line-makes : (before behind old : List LineContent) (text : List ℕ) → before ++ behind ≡ old → 0 < length behind →
    AreRows old → IsLine (plain_line text)
    → StandRight (length (whole before).columns) (whole old).marks →
    Makes (after_text (length (whole before).columns) text) old (before ++ plain_line text ∷ behind)
line-makes before behind old text old_is some rows is right =
    let here = subst AreRows (sym old_is) rows in
    let joins : whole old ≡ joined (whole before) (whole behind) = ap whole (sym old_is) ∙ whole-append before behind in
    let among : AreAmong (whole (plain_line text ∷ behind)).marks (whole behind).marks = λ number free.
    free-joined (plain_line text) (whole behind) number (finite.get-empty nat_cmp number) free in
    record {
      rows = λ _. rows-before before behind (plain_line text ∷ behind) some (omega arith) here (
        is,
        plain-goes text behind some,
        rows-behind before behind here,
      ) among;
      whole =
          whole-append before (plain_line text ∷ behind)
          ∙ line-between text (whole before) (whole behind) (rows-stand before behind some here)
          (subst (λ (all : LineContent). StandRight (length (whole before).columns) all.marks) joins right)
          ∙ ap (after_text (length (whole before).columns) text) (sym joins);
    }
