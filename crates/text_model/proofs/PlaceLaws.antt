-- Marks that are kept as a list of places by their numbers, and what becomes of each mark.
use Rattle.text_model.proofs.Common.{◌≡◌, ◌≢◌, ℕ, zero, suc, ◌+◌, ◌<◌, ◌≤◌, Bool, true, false, cond, ◌&&◌, ◌==◌, T}
use Rattle.text_model.proofs.Common.{List, [], ◌∷◌, ◌++◌, Option, Some, None, map, length, get_or, set, take, drop}
use Rattle.text_model.proofs.Common.{replicate, refl, sym, ap, ◌∙◌, inl, inr, arith, get_or-set_same, get_or-set_other}
use Rattle.text_model.proofs.Common.{option_map, IfSome, find, is_sorted, nat_cmp-IsAntisymmetric, All, nat_cmp}
use Rattle.text_model.proofs.Common.{eq_by_cmp, is_lt, nat_cmp_total, unsigned_tied, cases_eq, nat_tests}
use Rattle.text_model.proofs.Common.{get_or_default, get_or_past, map_over_more, All-cons, All-nil, Place, Marks}
use Rattle.text_model.proofs.Common.{map_marks, places_from, plain_marks}
use Rattle.std.specs.FinMap as finite

abbrev entry_at : (Place → Place) → ℕ × Place → ℕ × Place
entry_at f entry = (entry.0, f entry.1)

find-map : (f : Place → Place) (entries : List (ℕ × Place)) (number : ℕ) →
    find nat_cmp number (map (entry_at f) entries) ≡ option_map f (find nat_cmp number entries)
find-map f [] number = refl
find-map f (entry ∷ entries) number =
    elim (eq_by_cmp nat_cmp number entry.0) as (λ b.
    cond b (Some (f entry.1)) (find nat_cmp number (map (entry_at f) entries))
    ≡ option_map f (cond b (Some entry.1) (find nat_cmp number entries))) [
      | true ↦ refl
      | false ↦ find-map f entries number
    ]

-- each mark stands where the function puts it
pub get-map_marks : (f : Place → Place) (marks : Marks) (number : ℕ) →
    finite.get (map_marks f marks) number ≡ option_map f (finite.get marks number)
get-map_marks f marks number =
    finite.get-from_entries nat_cmp_total (map (entry_at f) (finite.entries marks)) number
    ∙ find-map f (finite.entries marks) number ∙ ap (option_map f) (sym (finite.get-entries marks number))

-- marks that stand alike are the same
pub same_marks : (one other : Marks) → ((number : ℕ) → finite.get one number ≡ finite.get other number) → one ≡ other
same_marks one other alike = finite.same_map nat_cmp_total nat_cmp-IsAntisymmetric one other alike

other_number : (q number : ℕ) → q ≢ number → eq_by_cmp nat_cmp q number ≡ false
other_number q number other = unsigned_tied q number ∙ grind (arith, nat_tests)

same_number : (q number : ℕ) → q ≡ number → eq_by_cmp nat_cmp q number ≡ true
same_number q number same = unsigned_tied q number ∙ grind (arith, nat_tests)

two_parts : (first second third rest : Bool) → T ((first && second) && (third && rest)) →
    (first ≡ true) × T (second && rest)
two_parts true true true rest all = (refl, all)
two_parts true true false rest all = absurd all
two_parts true false third rest all = absurd all
two_parts false second third rest all = absurd all

second_part : (first rest : Bool) → T (first && rest) → T rest
second_part true rest both = both
second_part false rest both = absurd both

apart : (a b : ℕ) → is_lt (nat_cmp a b) ≡ true → eq_by_cmp nat_cmp a b ≡ false
apart a b less = unsigned_tied a b ∙ grind (arith, nat_tests)

not_behind : (entry : ℕ × Place) (entries : List (ℕ × Place)) → T (is_sorted nat_cmp (entry ∷ entries)) →
    find nat_cmp entry.0 entries ≡ None
not_behind entry [] sorted = refl
not_behind entry (next ∷ entries) sorted =
    let parts = two_parts (is_lt (nat_cmp entry.0 next.0)) _ _ _ sorted in
    ap (λ b. cond b (Some next.1) (find nat_cmp entry.0 entries)) (apart entry.0 next.0 parts.0)
    ∙ not_behind entry entries parts.1

found_behind : (tied : Bool) (value : Place) (rest : Option Place) (place : Place) → rest ≡ Some place →
    (tied ≡ true → rest ≡ None) → cond tied (Some value) rest ≡ Some place
found_behind true value rest place is none = absurd (let no : None ≡ Some place = sym (none refl) ∙ is in cc)
found_behind false value rest place is none = is

tied_same : (a b : ℕ) → eq_by_cmp nat_cmp a b ≡ true → a ≡ b
tied_same a b tied = let test : (a == b) ≡ true = sym (unsigned_tied a b) ∙ tied in grind (arith, nat_tests)

each_entry : (P : ℕ × Place → Type 0) (entries : List (ℕ × Place)) → T (is_sorted nat_cmp entries) →
    ((number : ℕ) (place : Place) → find nat_cmp number entries ≡ Some place → P (number, place)) → All P entries
each_entry P [] sorted each = All-nil P
each_entry P (entry ∷ entries) sorted each =
    let here = each entry.0 entry.1 (ap (λ b. cond b (Some entry.1) (find nat_cmp entry.0 entries))
    (same_number entry.0 entry.0 refl)) in
    All-cons P entry entries here (each_entry P entries (second_part _ _ sorted) (λ number place is.
    each number place (found_behind (eq_by_cmp nat_cmp number entry.0) entry.1 (find nat_cmp number entries) place is
    (λ tied. ap (λ n. find nat_cmp n entries) (tied_same number entry.0 tied) ∙ not_behind entry entries sorted))))

-- what holds of each mark that a number has holds of each entry
pub All-entries : (marks : Marks) (P : ℕ × Place → Type 0) →
    ((number : ℕ) (place : Place) → finite.get marks number ≡ Some place → P (number, place)) →
    All P (finite.entries marks)
All-entries marks P each =
    each_entry P (finite.entries marks) (finite.entries_sorted marks) (λ number place is.
    each number place (finite.get-entries marks number ∙ is))

below : (a b : ℕ) → a < b → is_lt (nat_cmp a b) ≡ true
below a b less = grind (arith, nat_tests)

in_order : (less first rest second : Bool) → less ≡ true → T (first && rest) → T (second && rest) →
    T ((less && first) && (second && rest))
in_order true true rest second is one two = two
in_order true false rest second is one two = one
in_order false first rest second is one two = absurd (let f : false ≡ true = is in cc)

sorted_behind : (low number : ℕ) (place : Place) (places : List (Option Place)) → low < number →
    T (is_sorted nat_cmp ((low, place) ∷ places_from number places))
sorted_behind low number place [] less = tt
sorted_behind low number place (None ∷ places) less = sorted_behind low (number + 1) place places (omega arith)
sorted_behind low number place (Some here ∷ places) less =
    in_order (is_lt (nat_cmp low number)) _ _ _ (below low number less)
    (sorted_behind low (number + 1) place places (omega arith))
    (sorted_behind number (number + 1) here places (omega arith))

places_sorted : (number : ℕ) (places : List (Option Place)) → T (is_sorted nat_cmp (places_from number places))
places_sorted number [] = tt
places_sorted number (None ∷ places) = places_sorted (number + 1) places
places_sorted number (Some place ∷ places) = sorted_behind number (number + 1) place places (omega arith)

pub entries-plain_marks : (places : List (Option Place)) → finite.entries (plain_marks places) ≡ places_from 0 places
entries-plain_marks places = finite.entries-from_sorted nat_cmp (places_from 0 places) (places_sorted 0 places)

find_before : (places : List (Option Place)) (number q : ℕ) → q < number →
    find nat_cmp q (places_from number places) ≡ None
find_before [] number q before = refl
find_before (None ∷ places) number q before = find_before places (number + 1) q (omega arith)
find_before (Some place ∷ places) number q before =
    ap (λ b. cond b (Some place) (find nat_cmp q (places_from (number + 1) places)))
    (other_number q number (omega arith)) ∙ find_before places (number + 1) q (omega arith)

find_at : (places : List (Option Place)) (number k q : ℕ) → q ≡ number + k →
    find nat_cmp q (places_from number places) ≡ get_or places k None
find_at [] number k q is = refl
find_at (None ∷ places) number zero q is = find_before places (number + 1) q (omega arith)
find_at (Some place ∷ places) number zero q is = ap (λ b.
    cond b (Some place) (find nat_cmp q (places_from (number + 1) places))) (same_number q number (omega arith))
find_at (None ∷ places) number (suc k) q is = find_at places (number + 1) k q (omega arith)
find_at (Some place ∷ places) number (suc k) q is =
    ap (λ b. cond b (Some place) (find nat_cmp q (places_from (number + 1) places)))
    (other_number q number (omega arith)) ∙ find_at places (number + 1) k q (omega arith)

pub get-plain_marks : (places : List (Option Place)) (number : ℕ) →
    finite.get (plain_marks places) number ≡ get_or places number None
get-plain_marks places number =
    finite.get-from_sorted nat_cmp (places_from 0 places) number (places_sorted 0 places)
    ∙ find_at places 0 number number (omega arith)

get_or-option_map : (f : Place → Place) (places : List (Option Place)) (number : ℕ) →
    get_or (map (option_map f) places) number None ≡ option_map f (get_or places number None)
get_or-option_map f [] number = refl
get_or-option_map f (place ∷ places) zero = refl
get_or-option_map f (place ∷ places) (suc number) = get_or-option_map f places number

-- to put each place elsewhere is to put each mark there
pub plain_marks-map : (f : Place → Place) (places : List (Option Place)) →
    plain_marks (map (option_map f) places) ≡ map_marks f (plain_marks places)
plain_marks-map f places =
    same_marks _ _ (λ number.
    get-plain_marks (map (option_map f) places) number ∙ get_or-option_map f places number
    ∙ ap (option_map f) (sym (get-plain_marks places number)) ∙ sym (get-map_marks f (plain_marks places) number))

get_or-padded : (places : List (Option Place)) (count number : ℕ) →
    get_or (places ++ replicate count None) number None ≡ get_or places number None
get_or-padded [] zero number = refl
get_or-padded [] (suc count) zero = refl
get_or-padded [] (suc count) (suc number) = get_or-padded [] count number
get_or-padded (place ∷ places) count zero = refl
get_or-padded (place ∷ places) count (suc number) = get_or-padded places count number

-- numbers without a mark make no difference
pub plain_marks-padded : (places : List (Option Place)) (count : ℕ) →
    plain_marks (places ++ replicate count None) ≡ plain_marks places
plain_marks-padded places count =
    same_marks _ _ (λ number. get-plain_marks (places ++ replicate count None) number
    ∙ get_or-padded places count number ∙ sym (get-plain_marks places number))

get_or-put : (places : List (Option Place)) (k q : ℕ) (place : Option Place) → k < length places →
    get_or (set places k place) q None ≡ cond (eq_by_cmp nat_cmp q k) place (get_or places q None)
get_or-put places k q place within =
    elim (cases_eq q k) [
      | inl same ↦ ap (λ n. get_or (set places k place) n None) same ∙ get_or-set_same places k place None within
          ∙ sym (ap (λ b. cond b place (get_or places q None)) (same_number q k same))
      | inr other ↦ get_or-set_other places k q place None other
          ∙ sym (ap (λ b. cond b place (get_or places q None)) (other_number q k other))
    ]

pub plain_marks-put : (places : List (Option Place)) (number : ℕ) (place : Place) → number < length places →
    plain_marks (set places number (Some place)) ≡ finite.insert (plain_marks places) number place
plain_marks-put places number place within =
    same_marks _ _ (λ q.
    get-plain_marks (set places number (Some place)) q ∙ get_or-put places number q (Some place) within
    ∙ ap (cond (eq_by_cmp nat_cmp q number) (Some place)) (sym (get-plain_marks places q))
    ∙ sym (finite.get-insert nat_cmp_total (plain_marks places) number place q))

pub plain_marks-take : (places : List (Option Place)) (number : ℕ) → number < length places →
    plain_marks (set places number None) ≡ finite.remove (plain_marks places) number
plain_marks-take places number within =
    same_marks _ _ (λ q.
    get-plain_marks (set places number None) q ∙ get_or-put places number q None within
    ∙ ap (cond (eq_by_cmp nat_cmp q number) None) (sym (get-plain_marks places q))
    ∙ sym (finite.get-remove nat_cmp_total (plain_marks places) number q))

none_there : (b : Bool) (place : Option Place) → (b ≡ true → place ≡ None) → place ≡ cond b None place
none_there true place none = none refl
none_there false place none = refl

pub plain_marks_none : (places : List (Option Place)) (number : ℕ) → length places ≤ number →
    plain_marks places ≡ finite.remove (plain_marks places) number
plain_marks_none places number past =
    same_marks _ _ (λ q.
    none_there (eq_by_cmp nat_cmp q number) (finite.get (plain_marks places) q)
    (λ tied. get-plain_marks places q ∙ get_or_past places q None (let same : q ≡ number = let t : (q == number)
    ≡ true = sym (unsigned_tied q number) ∙ tied in grind (arith, nat_tests) in omega arith))
    ∙ sym (finite.get-remove nat_cmp_total (plain_marks places) number q))

-- a loop that puts each place elsewhere: one place more
pub place_more : (f : Place → Place) (old places : List (Option Place)) (i : ℕ) (here there : Option Place) →
    i < length old → length places ≡ length old
    → places ≡ map (option_map f) (take i old) ++ drop i old → get_or places i None ≡ here → there ≡ option_map f here
    → set places i there ≡ map (option_map f) (take (i + 1) old) ++ drop (i + 1) old
place_more f old places i here there within long so_far here_is there_is =
    let inside : i < length places = rw long within in
    ap (set places i) (there_is ∙ ap (option_map f) (sym here_is))
    ∙ map_over_more (option_map f) old places i (get_or places i None) within so_far
    (get_or_default places i None _ inside)

pub stands_if_some : (place : Option Place) (end : ℕ) → ((here : Place) → place ≡ Some here → here.offset ≤ end) →
    IfSome place (λ here. here.offset ≤ end)
stands_if_some None end within = tt
stands_if_some (Some place) end within = within place refl
