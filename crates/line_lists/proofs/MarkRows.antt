-- The marks of lines in a row.
use Rattle.line_lists.proofs.Common.{◌≡◌, ℕ, ◌+◌, ◌-◌, ◌<◌, ◌≤◌, Bool, true, false, ◌&&◌, ◌||◌, ◌==◌, Option, None}
use Rattle.line_lists.proofs.Common.{Some, refl, sym, ap, ap₂, ◌∙◌, arith, nat_cmp, if◌then◌else◌, nat_lt, option_map}
use Rattle.line_lists.proofs.Common.{nat_tests, Place, Marks, map_marks, drawn, goes_behind, is_right, moved}
use Rattle.line_lists.proofs.Common.{get-map_marks, same_marks, joined_marks, later, get-joined_marks, or_else}
use Rattle.std.specs.FinMap as finite

-- ---- three in a row
later_twice : (one two : ℕ) (place : Place) → later one (later two place) ≡ later (one + two) place
later_twice one two place = ap (λ offset. record place { offset = offset }) (let same : (place.offset + two) + one
    ≡ place.offset + (one + two) = omega arith in same)

three : (one two : ℕ) (x y z : Option Place)
    → or_else (option_map (later one) (or_else (option_map (later two) z) y)) x
    ≡ or_else (option_map (later (one + two)) z) (or_else (option_map (later one) y) x)
three one two x y None = refl
three one two x y (Some place) = ap (λ p. Some p) (later_twice one two place)

pub joined_marks-associative : (one two : ℕ) (a b c : Marks) →
    joined_marks one a (joined_marks two b c) ≡ joined_marks (one + two) (joined_marks one a b) c
joined_marks-associative one two a b c =
    same_marks _ _ (λ q.
    get-joined_marks one a (joined_marks two b c) q
    ∙ ap (λ found. or_else (option_map (later one) found) (finite.get a q)) (get-joined_marks two b c q)
    ∙ three one two (finite.get a q) (finite.get b q) (finite.get c q)
    ∙ sym (get-joined_marks (one + two) (joined_marks one a b) c q
    ∙ ap (or_else (option_map (later (one + two)) (finite.get c q))) (get-joined_marks one a b q)))

not_later : (found : Option Place) → or_else (option_map (later 0) found) None ≡ found
not_later None = refl
not_later (Some place) = ap (λ offset. Some (record place { offset = offset })) (let same : place.offset + 0
    ≡ place.offset = omega arith in same)

pub none-joined_marks : (marks : Marks) → joined_marks 0 finite.empty marks ≡ marks
none-joined_marks marks =
    same_marks _ _ (λ q.
    get-joined_marks 0 finite.empty marks q
    ∙ ap (or_else (option_map (later 0) (finite.get marks q))) (finite.get-empty nat_cmp q)
    ∙ not_later (finite.get marks q))

-- ---- a function on the marks of three in a row is one on those of the second, if it keeps the first and takes the
-- third along
abbrev pub row : ℕ → ℕ → Marks → Marks → Marks → Marks
row one two a b c = joined_marks one a (joined_marks two b c)

pub get-row : (one two : ℕ) (a b c : Marks) (q : ℕ)
    → finite.get (row one two a b c) q
    ≡ or_else (option_map (later one) (or_else (option_map (later two) (finite.get c q)) (finite.get b q)))
    (finite.get a q)
get-row one two a b c q =
    get-joined_marks one a (joined_marks two b c) q
    ∙ ap (λ found. or_else (option_map (later one) found) (finite.get a q)) (get-joined_marks two b c q)

pub record Lifts (f g : Place → Place) (one two new : ℕ) (a b : Marks) : Type 0 where
  pub first : (number : ℕ) (place : Place) → finite.get a number ≡ Some place → f place ≡ place
  pub second : (number : ℕ) (place : Place) → finite.get b number ≡ Some place →
      f (later one place) ≡ later one (g place)
  pub third : (place : Place) → f (later one (later two place)) ≡ later one (later new place)

lift_one : (f g : Place → Place) (one two new : ℕ) (x y z : Option Place) →
    ((place : Place) → x ≡ Some place → f place ≡ place)
    → ((place : Place) → y ≡ Some place → f (later one place) ≡ later one (g place)) →
    ((place : Place) → f (later one (later two place)) ≡ later one (later new place))
    → option_map f (or_else (option_map (later one) (or_else (option_map (later two) z) y)) x)
    ≡ or_else (option_map (later one) (or_else (option_map (later new) z) (option_map g y))) x
lift_one f g one two new x y (Some place) first second third = ap (λ p. Some p) (third place)
lift_one f g one two new x (Some place) None first second third = ap (λ p. Some p) (second place refl)
lift_one f g one two new (Some place) None None first second third = ap (λ p. Some p) (first place refl)
lift_one f g one two new None None None first second third = refl

pub map_marks-row : (f g : Place → Place) (one two new : ℕ) (a b c : Marks) → Lifts f g one two new a b
    → map_marks f (row one two a b c) ≡ row one new a (map_marks g b) c
map_marks-row f g one two new a b c lifts =
    same_marks _ _ (λ q.
    get-map_marks f (row one two a b c) q ∙ ap (option_map f) (get-row one two a b c q)
    ∙ lift_one f g one two new (finite.get a q) (finite.get b q) (finite.get c q) (lifts.first q) (lifts.second q)
    lifts.third
    ∙ sym (get-row one new a (map_marks g b) c q
    ∙ ap (λ found. or_else (option_map (later one) (or_else (option_map (later new) (finite.get c q)) found))
    (finite.get a q)) (get-map_marks g b q)))

-- no mark stands at or behind a column, and none stands behind it
abbrev pub StandBefore : ℕ → Marks → Type 0
StandBefore end marks = (number : ℕ) (place : Place) → finite.get marks number ≡ Some place → place.offset < end

abbrev pub StandWithin : ℕ → Marks → Type 0
StandWithin end marks = (number : ℕ) (place : Place) → finite.get marks number ≡ Some place → place.offset ≤ end

-- an insertion in the second
pub moved_before : (at count : ℕ) (place : Place) → place.offset < at → moved at count place ≡ place
moved_before at count place before =
    ap (λ b. if b then record place { offset = place.offset + count } else place)
    (ap₂ (λ less same. less || (same && is_right place.gravity)) (let no : nat_lt at place.offset
    ≡ false = grind (arith, nat_tests) in no) (let no : (place.offset == at) ≡ false = grind (arith, nat_tests) in
    no))

moved_behind : (at count : ℕ) (place : Place) → at < place.offset →
    moved at count place ≡ record place { offset = place.offset + count }
moved_behind at count place behind =
    ap (λ b. if b then record place { offset = place.offset + count }
    else place) (ap (λ less. less || ((place.offset == at) && is_right place.gravity))
    (let yes : nat_lt at place.offset ≡ true = grind (arith, nat_tests) in yes))

later_if : (b : Bool) (one count : ℕ) (place : Place)
    → (if b then record place { offset = (place.offset + one) + count } else later one place)
    ≡ later one (if b then record place { offset = place.offset + count } else place)
later_if true one count place = ap (λ offset. record place { offset = offset }) (let same : (place.offset + one) + count
    ≡ (place.offset + count) + one = omega arith in same)
later_if false one count place = refl

moved_later : (one at count : ℕ) (place : Place) → moved (one + at) count (later one place)
    ≡ later one (moved at count place)
moved_later one at count place =
    ap₂ (λ less same. if less || (same && is_right place.gravity)
    then record place { offset = (place.offset + one) + count } else later one place)
    (let alike : nat_lt (one + at) (place.offset + one) ≡ nat_lt at place.offset = grind (arith, nat_tests) in alike)
    (let alike : (place.offset + one == one + at) ≡ (place.offset == at) = grind (arith, nat_tests) in alike)
    ∙ later_if (goes_behind at place) one count place

pub moved-Lifts : (one two at count : ℕ) (a b : Marks) → StandBefore one a → at < two →
    Lifts (moved (one + at) count) (moved at count) one two (two + count) a b
moved-Lifts one two at count a b before within = record {
  first = λ number place is. let stands = before number place is in
      moved_before (one + at) count place (omega (arith, stands));
  second = λ number place is. moved_later one at count place;
  third = λ place.
      moved_later one at count (later two place)
      ∙ ap (later one) (moved_behind at count (later two place) (omega arith)
      ∙ ap (λ offset. record place { offset = offset }) (let same : (place.offset + two) + count
      ≡ place.offset + (two + count) = omega arith in same));
}

-- a removal in the second
drawn_later : (one from to : ℕ) (place : Place) → drawn (one + from) (one + to) (later one place)
    ≡ later one (drawn from to place)
drawn_later one from to place = ap (λ offset. record place { offset = offset }) (omega arith)

pub drawn-Lifts : (one two from to : ℕ) (a b : Marks) → StandWithin one a → from ≤ to → to ≤ two
    → Lifts (drawn (one + from) (one + to)) (drawn from to) one two (from + (two - to)) a b
drawn-Lifts one two from to a b within ordered inside = record {
  first = λ number place is. let stands = within number place is in
      ap (λ offset. record place { offset = offset }) (omega (arith, stands));
  second = λ number place is. drawn_later one from to place;
  third = λ place. ap (λ offset. record place { offset = offset }) (omega arith);
}
