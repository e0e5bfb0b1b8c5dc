-- The groups at the border between those that are done and those that are undone.
use Rattle.undo_stack.proofs.Common.{◌≡◌, ℕ, zero, suc, ◌+◌, ◌-◌, ◌<◌, ◌≤◌, Bool, false, List, [], ◌∷◌, ◌++◌, length}
use Rattle.undo_stack.proofs.Common.{take, drop, get_or, Option, Some, None, refl, sym, ap, ap₂, ◌∙◌, arith}
use Rattle.undo_stack.proofs.Common.{length-drop, length-take, sum, slice_get, min, drop-drop, take_more, drop_more}
use Rattle.undo_stack.proofs.Common.{take-append-drop, get_or-take, get_or_read, Action, EditKind, next_undo, next_redo}
use Rattle.undo_stack.proofs.Common.{after_undo, grouped, history_of, AreGroups}
use Rattle.undo_stack.proofs.GroupLaws.{sum-append, sum-one, take-grouped, grouped-append, slice_get-grouped}
use Rattle.undo_stack.proofs.RingLaws.{count-groups, part-within}

-- the sum through a group is the sum before it and its length
pub sum-through : (lengths : List ℕ) (k : ℕ) → k < length lengths →
    sum (take (k + 1) lengths) ≡ sum (take k lengths) + get_or lengths k 0
sum-through lengths k within = ap sum (take_more lengths k 0 within) ∙ sum-one (take k lengths) (get_or lengths k 0)

take-fewer : {A : Type 0} (k n : ℕ) (xs : List A) → k ≤ n → take k (take n xs) ≡ take k xs
take-fewer zero n xs less = refl
take-fewer (suc k) zero xs less = absurd (omega arith)
take-fewer (suc k) (suc n) [] less = refl
take-fewer (suc k) (suc n) (x ∷ xs) less = ap (λ ys. x ∷ ys) (take-fewer k n xs (omega arith))

-- the last group that is done
pub last-group : (lengths : List ℕ) (xs : List Action) (k d : ℕ) (takes_more : Bool) (last : Option EditKind)
    → k < length lengths → sum (take (k + 1) lengths) ≡ d
    → next_undo (history_of lengths xs (k + 1) d takes_more last)
    ≡ Some (take (get_or lengths k 0) (drop (d - get_or lengths k 0) xs))
last-group lengths xs k d takes_more last within part =
    let n = get_or lengths k 0 in
    let through : sum (take k lengths) + n ≡ d = sym (sum-through lengths k within) ∙ part in
    ap (λ j. slice_get (grouped (take (k + 1) lengths) xs) (j - 1)) (count-groups lengths xs (k + 1) (omega arith))
    ∙ ap (slice_get (grouped (take (k + 1) lengths) xs)) (let e : k + 1 - 1 ≡ k = omega arith in e)
    ∙ slice_get-grouped (take (k + 1) lengths) k xs (rw (length-take (k + 1) lengths) (omega arith))
    ∙ ap₂ (λ m j. Some (take m (drop j xs))) (get_or-take (k + 1) lengths k 0 (omega arith))
    (ap sum (take-fewer k (k + 1) lengths (omega arith)) ∙ omega (arith, through))

-- it is undone
pub border-back : (lengths : List ℕ) (xs : List Action) (k d : ℕ) (takes_more : Bool) (last : Option EditKind)
    → k < length lengths → sum (take (k + 1) lengths) ≡ d
    → history_of lengths xs k (d - get_or lengths k 0) false None
    ≡ after_undo (take (get_or lengths k 0) (drop (d - get_or lengths k 0) xs))
    (history_of lengths xs (k + 1) d takes_more last)
border-back lengths xs k d takes_more last within part =
    let n = get_or lengths k 0 in
    let through : sum (take k lengths) + n ≡ d = sym (sum-through lengths k within) ∙ part in
    let groups : grouped (take k lengths) xs
    ≡ take (length (grouped (take (k + 1) lengths) xs) - 1) (grouped (take (k + 1) lengths) xs) =
    ap (λ ns. grouped ns xs) (sym (take-fewer k (k + 1) lengths (omega arith)))
    ∙ sym (take-grouped k (take (k + 1) lengths) xs)
    ∙ ap (λ j. take j (grouped (take (k + 1) lengths) xs)) (let e : k ≡ k + 1 - 1 = omega arith in
    e ∙ ap (λ j. j - 1) (sym (count-groups lengths xs (k + 1) (omega arith)))) in
    let undone : grouped (drop k lengths) (drop (d - n) xs)
    ≡ take n (drop (d - n) xs) ∷ grouped (drop (k + 1) lengths) (drop d xs) =
    ap (λ ns. grouped ns (drop (d - n) xs)) (drop_more lengths k 0 within)
    ∙ ap (λ ys. take n (drop (d - n) xs) ∷ grouped (drop (k + 1) lengths) ys) (drop-drop n (d - n) xs
    ∙ ap (λ j. drop j xs) (let e : d - n + n ≡ d = omega (arith, through) in e)) in
    ap₂ (λ (gs us : List (List Action)). record { groups = gs; takes_more = false; last = None; undone = us }) groups
    undone

-- the group undone last
pub first-undone : (lengths : List ℕ) (xs : List Action) (g d : ℕ) (takes_more : Bool) (last : Option EditKind) →
    g < length lengths
    → next_redo (history_of lengths xs g d takes_more last) ≡ Some (take (get_or lengths g 0) (drop d xs))
first-undone lengths xs g d takes_more last within =
    ap (λ ns. slice_get (grouped ns (drop d xs)) 0) (drop_more lengths g 0 within)

-- it is redone
pub border-on : (lengths : List ℕ) (xs : List Action) (g d : ℕ) (takes_more : Bool) (last : Option EditKind) →
    g < length lengths → sum (take g lengths) ≡ d
    → history_of lengths xs (g + 1) (d + get_or lengths g 0) false None
    ≡ record {
      groups = grouped (take g lengths) xs ++ take (get_or lengths g 0) (drop d xs) ∷ [];
      takes_more = false;
      last = None;
      undone = drop 1 (grouped (drop g lengths) (drop d xs));
    }
border-on lengths xs g d takes_more last within part =
    let n = get_or lengths g 0 in
    let groups : grouped (take (g + 1) lengths) xs ≡ grouped (take g lengths) xs ++ take n (drop d xs) ∷ [] =
    ap (λ ns. grouped ns xs) (take_more lengths g 0 within)
    ∙ grouped-append (take g lengths) (n ∷ []) xs
    ∙ ap (λ j. grouped (take g lengths) xs ++ take n (drop j xs) ∷ []) part in
    let undone : grouped (drop (g + 1) lengths) (drop (d + n) xs) ≡ drop 1 (grouped (drop g lengths) (drop d xs)) =
    ap (grouped (drop (g + 1) lengths)) (sym (drop-drop n d xs))
    ∙ sym (ap (λ ns. drop 1 (grouped ns (drop d xs))) (drop_more lengths g 0 within)) in
    ap₂ (λ (gs us : List (List Action)). record { groups = gs; takes_more = false; last = None; undone = us }) groups
    undone

-- the last group of those that are done, by the length that stands there
pub record LastGroup (lengths : List ℕ) (xs : List Action) (g d n : ℕ) (takes_more : Bool) (last : Option EditKind) :
    Type 0 where
  pub found : next_undo (history_of lengths xs g d takes_more last) ≡ Some (take n (drop (d - n) xs))
  pub moved : history_of lengths xs (g - 1) (d - n) false None
      ≡ after_undo (take n (drop (d - n) xs)) (history_of lengths xs g d takes_more last)
  pub long : length (take n (drop (d - n) xs)) ≡ n

pub last-moves : (lengths : List ℕ) (xs : List Action) (count g d n : ℕ) (takes_more : Bool) (last : Option EditKind)
    → AreGroups lengths count g d takes_more → count ≡ length xs → (g ≡ 0 → ⊥) → n ≡ get_or lengths (g - 1) n →
    LastGroup lengths xs g d n takes_more last
last-moves lengths xs count g d n takes_more last are counted some is =
    let k = g - 1 in
    let next : g - 1 + 1 ≡ g = omega (arith, some) in
    let within : g - 1 < length lengths = omega (arith, are.within, some) in
    let zeroed : n ≡ get_or lengths k 0 = get_or_read lengths k n within is 0 in
    let part : sum (take (g - 1 + 1) lengths) ≡ d = ap (λ j. sum (take j lengths)) next ∙ are.part in
    let through : sum (take k lengths) + get_or lengths k 0 ≡ d = sym (sum-through lengths k within) ∙ part in
    let whole = part-within lengths count g d takes_more are in
    record {
      found = ap (λ j. next_undo (history_of lengths xs j d takes_more last)) (sym next)
          ∙ last-group lengths xs k d takes_more last within part
          ∙ ap (λ m. Some (take m (drop (d - m) xs))) (sym zeroed);
      moved = ap (λ m. history_of lengths xs k (d - m) false None) zeroed
          ∙ border-back lengths xs k d takes_more last within part
          ∙ ap₂ (λ m j. after_undo (take m (drop (d - m) xs)) (history_of lengths xs j d takes_more last)) (sym zeroed)
          next;
      long = length-take n (drop (d - n) xs) ∙ ap (λ j. min n j) (length-drop (d - n) xs)
          ∙ omega (arith, through, zeroed, whole, counted);
    }

-- the first of those that are undone
pub record NextGroup (lengths : List ℕ) (xs : List Action) (g d n count : ℕ) (takes_more : Bool)
    (last : Option EditKind) : Type 0 where
  pub found : next_redo (history_of lengths xs g d takes_more last) ≡ Some (take n (drop d xs))
  pub moved : history_of lengths xs (g + 1) (d + n) false None ≡ record {
    groups = grouped (take g lengths) xs ++ take n (drop d xs) ∷ [];
    takes_more = false;
    last = None;
    undone = drop 1 (grouped (drop g lengths) (drop d xs));
  }
  pub long : length (take n (drop d xs)) ≡ n
  pub within : d + n ≤ count

pub next-moves : (lengths : List ℕ) (xs : List Action) (count g d n : ℕ) (takes_more : Bool) (last : Option EditKind)
    → AreGroups lengths count g d takes_more → count ≡ length xs → g < length lengths → n ≡ get_or lengths g n →
    NextGroup lengths xs g d n count takes_more last
next-moves lengths xs count g d n takes_more last are counted within is =
    let zeroed : n ≡ get_or lengths g 0 = get_or_read lengths g n within is 0 in
    let through : sum (take (g + 1) lengths) ≡ sum (take g lengths)
    + get_or lengths g 0 = sum-through lengths g within in
    let parts : sum lengths ≡ sum (take (g + 1) lengths) + sum (drop (g + 1) lengths) =
    ap sum (sym (take-append-drop (g + 1) lengths)) ∙ sum-append (take (g + 1) lengths) (drop (g + 1) lengths) in
    let inside : d + n ≤ count = omega (arith, zeroed, through, parts, are.whole, are.part) in
    record {
      found = first-undone lengths xs g d takes_more last within ∙ ap (λ m. Some (take m (drop d xs))) (sym zeroed);
      moved = ap (λ m. history_of lengths xs (g + 1) (d + m) false None) zeroed
          ∙ border-on lengths xs g d takes_more last within are.part
          ∙ ap (λ m. record {
            groups = grouped (take g lengths) xs ++ take m (drop d xs) ∷ [];
            takes_more = false;
            last = None;
            undone = drop 1 (grouped (drop g lengths) (drop d xs));
          }) (sym zeroed);
      long = length-take n (drop d xs) ∙ ap (λ j. min n j) (length-drop d xs) ∙ omega (arith, inside, counted);
      within = inside;
    }
