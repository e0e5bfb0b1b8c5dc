-- Steps that stand apart may be made in either order.
use Rattle.edit_ops.proofs.Common.{◌≡◌, ℕ, ◌+◌, ◌-◌, ◌<◌, ◌≤◌, ◌==◌, ◌||◌, ◌&&◌, Bool, true, false, List, [], ◌∷◌, ◌++◌}
use Rattle.edit_ops.proofs.Common.{length, take, drop, Option, Some, None, refl, sym, ap, ap₂, ◌∙◌, arith, subst, inl}
use Rattle.edit_ops.proofs.Common.{inr, get_or, option_map, if◌then◌else◌, min, nat_lt, IfSome, append_assoc}
use Rattle.edit_ops.proofs.Common.{length-take-le, cases_lt, nat_tests, Step, Remove, Insert, SetTag, ClearTags}
use Rattle.edit_ops.proofs.Common.{ClearSlot, PutMark, TakeMark, Place, Content, Marks, Slots, map_marks, inserted}
use Rattle.edit_ops.proofs.Common.{removed, goes_behind, is_right, moved, drawn, cells_of, Fits, after, after_step}
use Rattle.edit_ops.proofs.Common.{inserted-append_left, inserted-append_right, removed-append_left}
use Rattle.edit_ops.proofs.Common.{removed-append_right, length-cells_inserted, length-removed, length-inserted}
use Rattle.edit_ops.proofs.Common.{length-cells_of, after-append, Fits-append, moved_le, Reach, Span, AreAlike, at_span}
use Rattle.edit_ops.proofs.Common.{IsLowered, LetsPass, steps_in, AreWatched, Passes, take-append-drop, append-nil}
use Rattle.text_model.proofs.PlaceLaws.{get-map_marks, same_marks}
use Rattle.edit_ops.specs.declared.orders.Watched.{Watched}
use Rattle.std.specs.FinMap as finite

-- ---- steps that make the same

pub alike-refl : (steps : List Step) → AreAlike steps steps
alike-refl steps content fits = (fits, refl)

pub alike-trans : (one two three : List Step) → AreAlike one two → AreAlike two three → AreAlike one three
alike-trans one two three first second content fits =
    let a = first content fits in
    let b = second content a.0 in
    (b.0, b.1 ∙ a.1)

pub alike-is : (one two : List Step) → one ≡ two → AreAlike one two
alike-is one two is = subst (AreAlike one) is (alike-refl one)

fits-front : (steps others : List Step) (content : Content) → Fits (steps ++ others) content → Fits steps content
fits-front [] others content fits = tt
fits-front (step ∷ steps) others content fits = (fits.0, fits-front steps others (after_step step content) fits.1)

fits-back : (steps others : List Step) (content : Content) → Fits (steps ++ others) content →
    Fits others (after steps content)
fits-back [] others content fits = fits
fits-back (step ∷ steps) others content fits = fits-back steps others (after_step step content) fits.1

pub alike-behind : (steps one two : List Step) → AreAlike one two → AreAlike (steps ++ one) (steps ++ two)
alike-behind steps one two alike content fits =
    let rest = alike (after steps content) (fits-back steps one content fits) in (
      Fits-append steps two content (fits-front steps one content fits) rest.0,
      after-append steps two content ∙ rest.1 ∙ sym (after-append steps one content),
    )

pub alike-before : (steps one two : List Step) → AreAlike one two → AreAlike (one ++ steps) (two ++ steps)
alike-before steps one two alike content fits =
    let front = alike content (fits-front one steps content fits) in
    let back = fits-back one steps content fits in (
      Fits-append two steps content front.0 (subst (Fits steps) (sym front.1) back),
      after-append two steps content ∙ ap (after steps) front.1 ∙ sym (after-append one steps content),
    )

-- ---- two steps on cells

-- a list with a function of its front and one of its back
insert-insert-parts : {A : Type 0} (a b k : ℕ) (new other xs ys : List A) → a ≤ length xs → k ≡ length xs + b →
    inserted (k + length new) other (inserted a new (xs ++ ys)) ≡ inserted a new (inserted k other (xs ++ ys))
insert-insert-parts a b k new other xs ys within is =
    ap₂ (λ n zs. inserted n other zs)
    (let same : k + length new ≡ length (inserted a new xs) + b = omega (arith, length-inserted a new xs within, is) in
    same)
    (inserted-append_left a new xs ys within)
    ∙ inserted-append_right b other (inserted a new xs) ys
    ∙ sym (inserted-append_left a new xs (inserted b other ys) within)
    ∙ ap (inserted a new) (sym (inserted-append_right b other xs ys) ∙ ap (λ n. inserted n other (xs ++ ys)) (sym is))

insert-remove-parts : {A : Type 0} (a b c k l : ℕ) (new xs ys : List A) → a ≤ length xs → k ≡ length xs + b →
    l ≡ length xs + c
    → removed (k + length new) (l + length new) (inserted a new (xs ++ ys)) ≡ inserted a new (removed k l (xs ++ ys))
insert-remove-parts a b c k l new xs ys within is ends =
    let long = length-inserted a new xs within in
    let from : k + length new ≡ length (inserted a new xs) + b = omega (arith, long, is) in
    let to : l + length new ≡ length (inserted a new xs) + c = omega (arith, long, ends) in
    ap₂ (λ n zs. removed n (l + length new) zs) from (inserted-append_left a new xs ys within)
    ∙ ap (λ n. removed (length (inserted a new xs) + b) n (inserted a new xs ++ ys)) to
    ∙ removed-append_right b c (inserted a new xs) ys
    ∙ sym (inserted-append_left a new xs (removed b c ys) within)
    ∙ ap (inserted a new) (sym (removed-append_right b c xs ys)
    ∙ ap₂ (λ n m. removed n m (xs ++ ys)) (sym is) (sym ends))

remove-insert-parts : {A : Type 0} (f t b k j : ℕ) (other xs ys : List A) → f ≤ t → t ≤ length xs →
    k ≡ length xs + b → k ≡ j + (t - f)
    → inserted j other (removed f t (xs ++ ys)) ≡ removed f t (inserted k other (xs ++ ys))
remove-insert-parts f t b k j other xs ys ordered within is low =
    let at : j ≡ length (removed f t xs) + b = omega (arith, length-removed f t xs ordered within, is, low, ordered) in
    ap₂ (λ n zs. inserted n other zs) at (removed-append_left f t xs ys ordered within)
    ∙ inserted-append_right b other (removed f t xs) ys
    ∙ sym (removed-append_left f t xs (inserted b other ys) ordered within)
    ∙ ap (removed f t) (sym (inserted-append_right b other xs ys) ∙ ap (λ n. inserted n other (xs ++ ys)) (sym is))

remove-remove-parts : {A : Type 0} (f t b c k l i j : ℕ) (xs ys : List A) → f ≤ t → t ≤ length xs →
    k ≡ length xs + b → l ≡ length xs + c → k ≡ i + (t - f) → l ≡ j + (t - f)
    → removed i j (removed f t (xs ++ ys)) ≡ removed f t (removed k l (xs ++ ys))
remove-remove-parts f t b c k l i j xs ys ordered within is ends low high =
    let long = length-removed f t xs ordered within in
    let from : i ≡ length (removed f t xs) + b = omega (arith, long, is, low, ordered) in
    let to : j ≡ length (removed f t xs) + c = omega (arith, long, ends, high, ordered) in
    ap₂ (λ n zs. removed n j zs) from (removed-append_left f t xs ys ordered within)
    ∙ ap (λ n. removed (length (removed f t xs) + b) n (removed f t xs ++ ys)) to
    ∙ removed-append_right b c (removed f t xs) ys
    ∙ sym (removed-append_left f t xs (removed b c ys) ordered within)
    ∙ ap (removed f t) (sym (removed-append_right b c xs ys) ∙ ap₂ (λ n m. removed n m (xs ++ ys)) (sym is) (sym ends))

-- ---- two steps on a mark

abbrev shifted : ℕ → Place → Place
shifted offset place = record place { offset = offset }

moved-high : (at count : ℕ) (place : Place) → at < place.offset →
    moved at count place ≡ shifted (place.offset + count) place
moved-high at count place above = ap (λ less. if less || (place.offset == at && is_right place.gravity)
    then shifted (place.offset + count) place else place)
    (let less : nat_lt at place.offset ≡ true = grind (arith, nat_tests) in less)

moved-low : (at count : ℕ) (place : Place) → place.offset < at → moved at count place ≡ place
moved-low at count place below =
    ap₂ (λ less same. if less || (same && is_right place.gravity) then shifted (place.offset + count) place else place)
    (let less : nat_lt at place.offset ≡ false = grind (arith, nat_tests) in less)
    (let same : (place.offset == at) ≡ false = grind (arith, nat_tests) in same)

drawn-low : (from to : ℕ) (place : Place) → from ≤ to → place.offset ≤ from → drawn from to place ≡ place
drawn-low from to place ordered below = ap (λ offset. shifted offset place)
    (let same : min place.offset from + (place.offset - to) ≡ place.offset = omega arith in same)

drawn-within : (from to : ℕ) (place : Place) → from ≤ place.offset → place.offset ≤ to →
    drawn from to place ≡ shifted from place
drawn-within from to place above below = ap (λ offset. shifted offset place)
    (let same : min place.offset from + (place.offset - to) ≡ from = omega arith in same)

drawn-high : (from to : ℕ) (place : Place) → from ≤ to → to ≤ place.offset →
    drawn from to place ≡ shifted (place.offset - (to - from)) place
drawn-high from to place ordered above = ap (λ offset. shifted offset place)
    (let same : min place.offset from + (place.offset - to) ≡ place.offset - (to - from) = omega arith in same)

along : (k n : ℕ) (place : Place) → goes_behind (k + n) (shifted (place.offset + n) place) ≡ goes_behind k place
along k n place =
    ap₂ (λ less same. less || (same && is_right place.gravity))
    (let less : nat_lt (k + n) (place.offset + n) ≡ nat_lt k place.offset = grind (arith, nat_tests) in less)
    (let same : (place.offset + n == k + n) ≡ (place.offset == k) = grind (arith, nat_tests) in same)

along-back : (k j d : ℕ) (place : Place) → k ≡ j + d → k ≤ place.offset →
    goes_behind j (shifted (place.offset - d) place) ≡ goes_behind k place
along-back k j d place is above =
    ap₂ (λ less same. less || (same && is_right place.gravity))
    (let less : nat_lt j (place.offset - d) ≡ nat_lt k place.offset = grind (arith, nat_tests) in less)
    (let same : (place.offset - d == j) ≡ (place.offset == k) = grind (arith, nat_tests) in same)

moved_if : (b : Bool) (a n m : ℕ) (place : Place) → a < place.offset →
    (if b then shifted ((place.offset + n) + m) place else shifted (place.offset + n) place)
    ≡ moved a n (if b then shifted (place.offset + m) place else place)
moved_if true a n m place above =
    ap (λ offset. shifted offset place)
    (let same : (place.offset + n) + m ≡ (place.offset + m) + n = omega arith in same)
    ∙ sym (moved-high a n (shifted (place.offset + m) place) (omega (arith, above)))
moved_if false a n m place above = sym (moved-high a n place above)

drawn_if : (b : Bool) (f t m : ℕ) (place : Place) → f ≤ t → t ≤ place.offset →
    (if b then shifted ((place.offset - (t - f)) + m) place else shifted (place.offset - (t - f)) place)
    ≡ drawn f t (if b then shifted (place.offset + m) place else place)
drawn_if true f t m place ordered above =
    ap (λ offset. shifted offset place)
    (let same : (place.offset - (t - f)) + m ≡ (place.offset + m) - (t - f) = omega arith in same)
    ∙ sym (drawn-high f t (shifted (place.offset + m) place) ordered (omega (arith, above)))
drawn_if false f t m place ordered above = sym (drawn-high f t place ordered above)

drawn_below : (f t k j : ℕ) (place : Place) → f ≤ t → t < k → k ≡ j + (t - f) → place.offset < k →
    (drawn f t place).offset < j
drawn_below f t k j place ordered apart is below = omega arith

insert-insert-mark : (a n k m : ℕ) → a < k → (place : Place) →
    moved (k + n) m (moved a n place) ≡ moved a n (moved k m place)
insert-insert-mark a n k m apart place = elim (cases_lt place.offset k) [
  | inl below ↦
      moved-low (k + n) m (moved a n place)
      (let within = moved_le a n place.offset place (omega arith) in omega (arith, within, below))
      ∙ ap (moved a n) (sym (moved-low k m place below))
  | inr above ↦
      ap (moved (k + n) m) (moved-high a n place (omega (arith, above, apart)))
      ∙ ap (λ b. if b then shifted ((place.offset + n) + m) place else shifted (place.offset + n) place)
      (along k n place)
      ∙ moved_if (goes_behind k place) a n m place (omega (arith, above, apart))
]

insert-remove-mark : (a n k l : ℕ) → a < k → k ≤ l → (place : Place) →
    drawn (k + n) (l + n) (moved a n place) ≡ moved a n (drawn k l place)
insert-remove-mark a n k l apart ordered place = elim (cases_lt place.offset k) [
  | inl below ↦
      drawn-low (k + n) (l + n) (moved a n place) (omega (arith, ordered))
      (let within = moved_le a n place.offset place (omega arith) in omega (arith, within, below))
      ∙ ap (moved a n) (sym (drawn-low k l place ordered (omega (arith, below))))
  | inr above ↦
      ap (drawn (k + n) (l + n)) (moved-high a n place (omega (arith, above, apart)))
      ∙ elim (cases_lt place.offset l) [
        | inl inside ↦
            drawn-within (k + n) (l + n) (shifted (place.offset + n) place) (omega (arith, above))
            (omega (arith, inside))
            ∙ sym (moved-high a n (shifted k place) apart)
            ∙ ap (moved a n) (sym (drawn-within k l place (omega (arith, above)) (omega (arith, inside))))
        | inr past ↦
            drawn-high (k + n) (l + n) (shifted (place.offset + n) place) (omega (arith, ordered)) (omega (arith, past))
            ∙ ap (λ offset. shifted offset place)
            (let same : (place.offset + n) - ((l + n) - (k + n)) ≡ (place.offset - (l - k)) + n =
            omega (arith, past, ordered) in same)
            ∙ sym (moved-high a n (shifted (place.offset - (l - k)) place) (omega (arith, past, ordered, apart)))
            ∙ ap (moved a n) (sym (drawn-high k l place ordered (omega (arith, past))))
      ]
]

remove-insert-mark : (f t k j m : ℕ) → f ≤ t → t < k → k ≡ j + (t - f) → (place : Place) →
    moved j m (drawn f t place) ≡ drawn f t (moved k m place)
remove-insert-mark f t k j m ordered apart is place = elim (cases_lt place.offset k) [
  | inl below ↦
      moved-low j m (drawn f t place) (drawn_below f t k j place ordered apart is below)
      ∙ ap (drawn f t) (sym (moved-low k m place below))
  | inr above ↦
      ap (moved j m) (drawn-high f t place ordered (omega (arith, above, apart)))
      ∙ ap (λ b. if b then shifted ((place.offset - (t - f)) + m) place else shifted (place.offset - (t - f)) place)
      (along-back k j (t - f) place is (omega (arith, above)))
      ∙ drawn_if (goes_behind k place) f t m place ordered (omega (arith, above, apart))
]

remove-remove-mark : (f t k l i j : ℕ) → f ≤ t → t < k → k ≤ l → k ≡ i + (t - f) → l ≡ j + (t - f) →
    (place : Place) → drawn i j (drawn f t place) ≡ drawn f t (drawn k l place)
remove-remove-mark f t k l i j ordered apart behind is ends place = elim (cases_lt place.offset k) [
  | inl below ↦
      drawn-low i j (drawn f t place) (omega (arith, behind, is, ends))
      (let within = drawn_below f t k i place ordered apart is below in omega (arith, within))
      ∙ ap (drawn f t) (sym (drawn-low k l place behind (omega (arith, below))))
  | inr above ↦
      ap (drawn i j) (drawn-high f t place ordered (omega (arith, above, apart)))
      ∙ elim (cases_lt place.offset l) [
        | inl inside ↦
            drawn-within i j (shifted (place.offset - (t - f)) place) (omega (arith, above, is, ordered, apart))
            (omega (arith, inside, ends, ordered, apart, above))
            ∙ ap (λ offset. shifted offset place) (let same : i ≡ k - (t - f) = omega (arith, is) in same)
            ∙ sym (drawn-high f t (shifted k place) ordered (omega (arith, apart)))
            ∙ ap (drawn f t) (sym (drawn-within k l place (omega (arith, above)) (omega (arith, inside))))
        | inr past ↦
            drawn-high i j (shifted (place.offset - (t - f)) place) (omega (arith, behind, is, ends))
            (omega (arith, past, ends))
            ∙ ap (λ offset. shifted offset place)
            (let same : (place.offset - (t - f)) - (j - i) ≡ (place.offset - (l - k)) - (t - f) =
            omega (arith, is, ends, past, behind, apart) in same)
            ∙ sym (drawn-high f t (shifted (place.offset - (l - k)) place) ordered
            (omega (arith, past, behind, apart)))
            ∙ ap (drawn f t) (sym (drawn-high k l place behind (omega (arith, past))))
      ]
]

map_both : (f g h k : Place → Place) (marks : Marks) → ((place : Place) → f (g place) ≡ h (k place)) →
    map_marks f (map_marks g marks) ≡ map_marks h (map_marks k marks)
map_both f g h k marks alike =
    same_marks _ _ (λ q.
    get-map_marks f (map_marks g marks) q ∙ ap (option_map f) (get-map_marks g marks q) ∙ one (finite.get marks q)
    ∙ sym (get-map_marks h (map_marks k marks) q ∙ ap (option_map h) (get-map_marks k marks q)))
  where
    one : (found : Option Place) → option_map f (option_map g found) ≡ option_map h (option_map k found)
    one None = refl
    one (Some place) = ap (λ p. Some p) (alike place)

-- ---- two steps

pub insert-insert : (a k j : ℕ) (text : List ℕ) (slots : Slots) (other : List ℕ) (others : Slots) → a < k →
    j ≡ k + length text
    → AreAlike (Insert a text slots ∷ Insert j other others ∷ []) (Insert k other others ∷ Insert a text slots ∷ [])
insert-insert a k j text slots other others apart is content fits =
    let cells = content.cells in
    let long = length-cells_inserted a text slots cells (omega (arith, fits.0)) in
    let within : k < length cells = omega (arith, long, fits.1.0, is) in
    let longer = length-cells_inserted k other others cells (omega (arith, within)) in
    let split = take-append-drop k cells in
    let front = length-take-le k cells (omega (arith, within)) in
    let texts : length (cells_of text slots) ≡ length text = length-cells_of text slots in
    let marks = map_both (moved j (length other)) (moved a (length text)) (moved a (length text))
    (moved k (length other)) content.marks
    (λ place. ap (λ n. moved n (length other) (moved a (length text) place)) is
    ∙ insert-insert-mark a (length text) k (length other) apart place) in
    let same : inserted j (cells_of other others) (inserted a (cells_of text slots) cells)
    ≡ inserted a (cells_of text slots) (inserted k (cells_of other others) cells) =
    ap₂ (λ n zs. inserted n (cells_of other others) (inserted a (cells_of text slots) zs))
    (let at : j ≡ k + length (cells_of text slots) = omega (arith, is, texts) in at) (sym split)
    ∙ insert-insert-parts a 0 k (cells_of text slots) (cells_of other others) (take k cells) (drop k cells)
    (omega (arith, front, apart)) (omega (arith, front))
    ∙ ap (λ zs. inserted a (cells_of text slots) (inserted k (cells_of other others) zs)) split in
    ((within, (omega (arith, fits.0, longer), tt)), sym (λ i. record { cells = same i; marks = marks i }))

pub insert-remove : (a k l i j : ℕ) (text : List ℕ) (slots : Slots) → a < k → k ≤ l → i ≡ k + length text →
    j ≡ l + length text
    → AreAlike (Insert a text slots ∷ Remove i j ∷ []) (Remove k l ∷ Insert a text slots ∷ [])
insert-remove a k l i j text slots apart ordered is ends content fits =
    let cells = content.cells in
    let long = length-cells_inserted a text slots cells (omega (arith, fits.0)) in
    let within : l < length cells = omega (arith, long, fits.1.0, ends) in
    let shorter = length-removed k l cells ordered (omega (arith, within)) in
    let split = take-append-drop k cells in
    let front = length-take-le k cells (omega (arith, within, ordered)) in
    let texts : length (cells_of text slots) ≡ length text = length-cells_of text slots in
    let marks = map_both (drawn i j) (moved a (length text)) (moved a (length text)) (drawn k l) content.marks
    (λ place. ap₂ (λ n m. drawn n m (moved a (length text) place)) is ends
    ∙ insert-remove-mark a (length text) k l apart ordered place) in
    let same : removed i j (inserted a (cells_of text slots) cells)
    ≡ inserted a (cells_of text slots) (removed k l cells) =
    ap₂ (λ n m. removed n m (inserted a (cells_of text slots) cells))
    (let at : i ≡ k + length (cells_of text slots) = omega (arith, is, texts) in at)
    (let at : j ≡ l + length (cells_of text slots) = omega (arith, ends, texts) in at)
    ∙ ap (λ zs. removed (k + length (cells_of text slots)) (l + length (cells_of text slots))
    (inserted a (cells_of text slots) zs)) (sym split)
    ∙ insert-remove-parts a 0 (l - k) k l (cells_of text slots) (take k cells) (drop k cells)
    (omega (arith, front, apart)) (omega (arith, front)) (omega (arith, front, ordered))
    ∙ ap (λ zs. inserted a (cells_of text slots) (removed k l zs)) split in (
      ((ordered, within), (omega (arith, apart, within, ordered, shorter), tt)),
      sym (λ i. record { cells = same i; marks = marks i }),
    )

pub remove-insert : (f t k j : ℕ) (other : List ℕ) (others : Slots) → f ≤ t → t < k → k ≡ j + (t - f) →
    AreAlike (Remove f t ∷ Insert j other others ∷ []) (Insert k other others ∷ Remove f t ∷ [])
remove-insert f t k j other others ordered apart is content fits =
    let cells = content.cells in
    let inside : t < length cells = fits.0.1 in
    let short = length-removed f t cells ordered (omega (arith, inside)) in
    let within : k < length cells = omega (arith, short, fits.1.0, is, ordered, inside) in
    let longer = length-cells_inserted k other others cells (omega (arith, within)) in
    let split = take-append-drop k cells in
    let front = length-take-le k cells (omega (arith, within)) in
    let marks = map_both (moved j (length other)) (drawn f t) (drawn f t) (moved k (length other)) content.marks
    (remove-insert-mark f t k j (length other) ordered apart is) in
    let same : inserted j (cells_of other others) (removed f t cells)
    ≡ removed f t (inserted k (cells_of other others) cells) =
    ap (λ zs. inserted j (cells_of other others) (removed f t zs)) (sym split)
    ∙ remove-insert-parts f t 0 k j (cells_of other others) (take k cells) (drop k cells) ordered
    (omega (arith, front, apart)) (omega (arith, front)) is
    ∙ ap (λ zs. removed f t (inserted k (cells_of other others) zs)) split in (
      (within, ((ordered, omega (arith, inside, longer)), tt)),
      sym (λ i. record { cells = same i; marks = marks i }),
    )

pub remove-remove : (f t k l i j : ℕ) → f ≤ t → t < k → k ≤ l → k ≡ i + (t - f) → l ≡ j + (t - f) →
    AreAlike (Remove f t ∷ Remove i j ∷ []) (Remove k l ∷ Remove f t ∷ [])
remove-remove f t k l i j ordered apart behind is ends content fits =
    let cells = content.cells in
    let inside : t < length cells = fits.0.1 in
    let short = length-removed f t cells ordered (omega (arith, inside)) in
    let within : l < length cells = omega (arith, short, fits.1.0.1, ends, ordered, inside) in
    let shorter = length-removed k l cells behind (omega (arith, within)) in
    let split = take-append-drop k cells in
    let front = length-take-le k cells (omega (arith, within, behind)) in
    let marks = map_both (drawn i j) (drawn f t) (drawn f t) (drawn k l) content.marks
    (remove-remove-mark f t k l i j ordered apart behind is ends) in
    let same : removed i j (removed f t cells) ≡ removed f t (removed k l cells) =
    ap (λ zs. removed i j (removed f t zs)) (sym split)
    ∙ remove-remove-parts f t 0 (l - k) k l i j (take k cells) (drop k cells) ordered (omega (arith, front, apart))
    (omega (arith, front)) (omega (arith, front, behind)) is ends
    ∙ ap (λ zs. removed f t (removed k l zs)) split in (
      ((behind, within), ((ordered, omega (arith, apart, behind, within, shorter)), tt)),
      sym (λ i. record { cells = same i; marks = marks i }),
    )

-- ---- a step over a row of steps

-- over one more of them
over-one : (first step lower high : Step) (steps : List Step) → AreAlike (steps ++ step ∷ []) (lower ∷ steps) →
    AreAlike (first ∷ lower ∷ []) (high ∷ first ∷ [])
    → AreAlike (first ∷ steps ++ step ∷ []) (high ∷ first ∷ steps)
over-one first step lower high steps rest pair =
    alike-trans (first ∷ steps ++ step ∷ []) (first ∷ lower ∷ steps) (high ∷ first ∷ steps)
    (alike-behind (first ∷ []) (steps ++ step ∷ []) (lower ∷ steps) rest)
    (alike-before steps (first ∷ lower ∷ []) (high ∷ first ∷ []) pair)

pub over-insert : (reach new : Reach) (a : ℕ) (text : List ℕ) (slots : Slots) → a ≤ new.top →
    reach.top ≤ new.top + length text → new.added ≡ reach.added + length text → new.taken ≡ reach.taken →
    (steps : List Step) → LetsPass steps reach → LetsPass (Insert a text slots ∷ steps) new
over-insert reach new a text slots first rest added taken steps passes (Insert at other others) span low =
    let lower : Span = record { from = span.from + length text; to = span.from + length text } in
    over-one (Insert a text slots) (Insert at other others) (Insert lower.from other others)
    (Insert span.from other others) steps
    (passes (Insert at other others) lower
    (omega (arith, low.0, added, taken), omega (arith, low.1, rest)))
    (insert-insert a span.from lower.from text slots other others (omega (arith, first, low.1)) refl)
over-insert reach new a text slots first rest added taken steps passes (Remove from to) span low =
    let ordered = low.0 in
    let begins = low.1 in
    let ends = low.2 in
    let lower : Span = record { from = span.from + length text; to = span.to + length text } in
    over-one (Insert a text slots) (Remove from to) (Remove lower.from lower.to) (Remove span.from span.to) steps
    (passes (Remove from to) lower (
      ordered,
      (omega (arith, begins.0, added, taken), omega (arith, begins.1, rest)),
      (omega (arith, ends.0, added, taken), omega (arith, ends.1, rest)),
    ))
    (insert-remove a span.from span.to lower.from lower.to text slots (omega (arith, first, begins.1))
    (omega (arith, ordered, begins.0, ends.0)) refl refl)
over-insert reach new a text slots first rest added taken steps passes (SetTag from to slot on) span low = absurd low
over-insert reach new a text slots first rest added taken steps passes (ClearTags at) span low = absurd low
over-insert reach new a text slots first rest added taken steps passes (ClearSlot slot) span low = absurd low
over-insert reach new a text slots first rest added taken steps passes (PutMark number place) span low = absurd low
over-insert reach new a text slots first rest added taken steps passes (TakeMark number) span low = absurd low

pub over-remove : (reach new : Reach) (f t count : ℕ) → f ≤ t → count ≡ t - f → t ≤ new.top →
    reach.top + count ≤ new.top → new.added ≡ reach.added → new.taken ≡ reach.taken + count →
    (steps : List Step) → LetsPass steps reach → LetsPass (Remove f t ∷ steps) new
over-remove reach new f t count ordered counted first rest added taken steps passes (Insert at other others) span low =
    let lower : Span = record { from = span.from - count; to = span.from - count } in
    over-one (Remove f t) (Insert at other others) (Insert lower.from other others) (Insert span.from other others)
    steps
    (passes (Insert at other others) lower
    (omega (arith, low.0, low.1, added, taken, first, counted), omega (arith, low.1, rest)))
    (remove-insert f t span.from lower.from other others ordered (omega (arith, first, low.1))
    (omega (arith, low.1, first, counted)))
over-remove reach new f t count ordered counted first rest added taken steps passes (Remove from to) span low =
    let begins = low.1 in
    let ends = low.2 in
    let lower : Span = record { from = span.from - count; to = span.to - count } in
    over-one (Remove f t) (Remove from to) (Remove lower.from lower.to) (Remove span.from span.to) steps
    (passes (Remove from to) lower (
      low.0,
      (omega (arith, begins.0, begins.1, added, taken, first, counted), omega (arith, begins.1, rest)),
      (omega (arith, ends.0, ends.1, added, taken, first, counted), omega (arith, ends.1, rest)),
    ))
    (remove-remove f t span.from span.to lower.from lower.to ordered (omega (arith, first, begins.1))
    (omega (arith, low.0, begins.0, ends.0)) (omega (arith, begins.1, first, counted))
    (omega (arith, ends.1, first, counted)))
over-remove reach new f t count ordered counted first rest added taken steps passes (SetTag from to slot on) span low =
    absurd low
over-remove reach new f t count ordered counted first rest added taken steps passes (ClearTags at) span low = absurd low
over-remove reach new f t count ordered counted first rest added taken steps passes (ClearSlot slot) span low = absurd low
over-remove reach new f t count ordered counted first rest added taken steps passes (PutMark number place) span low =
    absurd low
over-remove reach new f t count ordered counted first rest added taken steps passes (TakeMark number) span low =
    absurd low

-- a step that may pass, from behind a row with others behind it
pub passed : (steps rest : List Step) (reach : Reach) (step : Step) (span : Span) → LetsPass steps reach →
    IsLowered reach step span → AreAlike (steps ++ step ∷ rest) (at_span step span ∷ steps ++ rest)
passed steps rest reach step span passes low =
    alike-trans (steps ++ step ∷ rest) ((steps ++ step ∷ []) ++ rest) (at_span step span ∷ steps ++ rest)
    (alike-is _ _ (sym (append_assoc steps (step ∷ []) rest)))
    (alike-before rest (steps ++ step ∷ []) (at_span step span ∷ steps) (passes step span low))

passes-some : (first : List Step) (rest : List Step) (reach : Reach) (step : Step) (lowered : Option Span) →
    LetsPass first reach → IfSome lowered (IsLowered reach step)
    → IfSome lowered (λ span. Passes span first (step ∷ rest))
passes-some first rest reach step None passes low = tt
passes-some first rest reach step (Some span) passes low = passed first rest reach step span passes low

pub passes-first : (first : List Watched) (second : List Step) (watched : Watched) (reach : Reach) (step : Step)
    (lowered : Option Span) → AreWatched first → 0 < length first → watched ≡ get_or first 0 watched →
    watched.reach ≡ Some reach → 0 < length second → step ≡ get_or second 0 step → IfSome lowered (IsLowered reach step)
    → IfSome lowered (λ span. Passes span (steps_in first) second)
passes-first [] second watched reach step lowered are some is known others steps low = absurd (omega (arith, some))
passes-first (one ∷ first) [] watched reach step lowered are some is known others steps low =
    absurd (omega (arith, others))
passes-first (one ∷ first) (next ∷ rest) watched reach step lowered are some is known others steps low =
    let reached : one.reach ≡ Some reach = ap (λ (w : Watched). w.reach) (sym is) ∙ known in
    passes-some (one.step ∷ steps_in first) rest reach next lowered
    (subst (λ found. IfSome found (LetsPass (one.step ∷ steps_in first))) reached are.0)
    (subst (λ s. IfSome lowered (IsLowered reach s)) steps low)

-- what was taken from the front of rows goes behind what was taken before
pub one-more : (all made made' rows rows' : List Step) (step : Step) → AreAlike all (made ++ rows) →
    AreAlike rows (step ∷ rows') → made' ≡ made ++ step ∷ [] → AreAlike all (made' ++ rows')
one-more all made made' rows rows' step so_far next is =
    alike-trans all (made ++ rows) (made' ++ rows') so_far
    (alike-trans (made ++ rows) (made ++ step ∷ rows') (made' ++ rows') (alike-behind made rows (step ∷ rows') next)
    (alike-is _ _ (sym (ap (λ xs. xs ++ rows') is ∙ append_assoc made (step ∷ []) rows'))))

pub no-more : (all made rows : List Step) → AreAlike all (made ++ rows) → rows ≡ [] → AreAlike all made
no-more all made rows so_far none = subst (AreAlike all) (ap (λ xs. made ++ xs) none ∙ append-nil made) so_far

pub both-halves : (at : ℕ) (steps one two first second : List Step) → one ≡ take at steps → two ≡ drop at steps →
    AreAlike one first → AreAlike two second → AreAlike steps (first ++ second)
both-halves at steps one two first second front back alike other =
    alike-trans steps (one ++ two) (first ++ second)
    (alike-is _ _ (sym (ap₂ (λ xs ys. xs ++ ys) front back ∙ take-append-drop at steps)))
    (alike-trans (one ++ two) (first ++ two) (first ++ second) (alike-before two one first alike)
    (alike-behind first two second other))
