-- The seats of widgets, as a loop goes over them.
use Rattle.documents.proofs.Common.{◌≡◌, ℕ, Bool, cond, zero, suc, ◌+◌, ◌<◌, true, false, List, [], ◌∷◌, ◌++◌, take}
use Rattle.documents.proofs.Common.{drop, length, refl, sym, ap, subst, ◌∙◌, arith, remove, filter, not, Some}
use Rattle.documents.proofs.Common.{map-append, length-append, none-some, same_Some, Named, numbers_of, is_among}
use Rattle.documents.proofs.Common.{filter-append, filter-in, filter-out, take-found, Goes, numbers_gone, seats_left}
use Rattle.documents.proofs.Common.{slice_get, append_assoc, Names, Option, IfSome, chars, take_all, take-append-le}
use Rattle.documents.proofs.Common.{goes_on}
use Rattle.name_list.specs.Names.{names_of}

-- the seat of a name at a place
pub record SeatAt (seats : List Named) (place : ℕ) (name : List ℕ) : Type 0 where
  pub seat : Named
  pub stands : slice_get seats place ≡ Some seat
  pub named : seat.name ≡ name
  pub number : slice_get (numbers_of seats) place ≡ Some seat.number
  pub inside : place < length seats

pub seat-named : (seats : List Named) (place : ℕ) (name : List ℕ) → slice_get (names_of seats) place ≡ Some name →
    SeatAt seats place name
seat-named [] place name is = absurd (none-some name is)
seat-named (seat ∷ seats) zero name is =
    record { seat = seat; stands = refl; named = same_Some seat.name name is; number = refl; inside = omega arith }
seat-named (seat ∷ seats) (suc place) name is =
    let rest = seat-named seats place name is in
    let inside = rest.inside in
    record {
      seat = rest.seat;
      stands = rest.stands;
      named = rest.named;
      number = rest.number;
      inside = omega (arith, inside);
    }

-- ---- a seat put last

abbrev with_seat : Names → List ℕ → ℕ → Names
with_seat seats text number = record seats {
  entries = seats.entries ++ record { name = chars text; number = number } ∷ [];
}

abbrev before : List Named → Names → Names
before entries seats = record seats { entries = take (length entries) seats.entries }

-- the seat that is made, and those before it
pub seat-put : (old new : Names) {text name : List ℕ} {made : Option ℕ} {slot : ℕ} → made ≡ Some slot → text ≡ name
    → IfSome made (λ number. new ≡ with_seat old text number)
    → record { last : new ≡ with_seat old name slot; front : before old.entries new ≡ old }
seat-put old new {text} {name} {made} {slot} is named last =
    let seat : Named = record { name = chars name; number = slot } in
    let put : new ≡ with_seat old name slot =
    subst (λ m. IfSome m (λ number. new ≡ with_seat old text number)) is last ∙ ap (λ n. with_seat old n slot) named in
    let front : take (length old.entries) (old.entries ++ seat ∷ []) ≡ old.entries =
    take-append-le (length old.entries) old.entries (seat ∷ []) (omega arith)
    ∙ take_all (length old.entries) old.entries (omega arith) in
    record { last = put; front = ap (before old.entries) put ∙ ap (λ entries. record old { entries = entries }) front }

-- seats that stay
pub seats-same : (old new : Names) → new ≡ old → before old.entries new ≡ old
seats-same old new is =
    ap (before old.entries) is
    ∙ ap (λ entries. record old { entries = entries }) (take_all (length old.entries) old.entries (omega arith))

-- ---- slots of names

pub gone-in : (seats : List Named) (names : List (List ℕ)) (place number : ℕ) (name : List ℕ) →
    slice_get (names_of seats) place ≡ Some name → slice_get (numbers_of seats) place ≡ Some number
    → is_among name names ≡ true → numbers_gone names (take (place + 1) seats)
    ≡ numbers_gone names (take place seats) ++ number ∷ []
gone-in seats names place number name is at among =
    let found = seat-named seats place name is in
    let goes : Named → _ = λ seat. is_among seat.name names in
    ap numbers_of (filter-in goes seats place found.seat found.stands (ap (λ n. is_among n names) found.named ∙ among))
    ∙ map-append (λ (seat : Named). seat.number) (filter goes (take place seats)) (found.seat ∷ [])
    ∙ ap (λ n. numbers_gone names (take place seats) ++ n ∷ [])
    (same_Some found.seat.number number (sym found.number ∙ at))

pub gone-out : (seats : List Named) (names : List (List ℕ)) (place : ℕ) (name : List ℕ) →
    slice_get (names_of seats) place ≡ Some name → is_among name names ≡ false
    → numbers_gone names (take (place + 1) seats) ≡ numbers_gone names (take place seats)
gone-out seats names place name is among =
    let found = seat-named seats place name is in
    ap numbers_of (filter-out (λ (seat : Named). is_among seat.name names) seats place found.seat found.stands
    (ap (λ n. is_among n names) found.named ∙ among))

-- ---- seats of other names

pub left-in : (seats : List Named) (names : List (List ℕ)) (place : ℕ) (name : List ℕ) →
    slice_get (names_of seats) place ≡ Some name → is_among name names ≡ false
    → (seat : Named) × (seats_left names (take (place + 1) seats) ≡ seats_left names (take place seats) ++ seat ∷ [])
left-in seats names place name is among =
    let found = seat-named seats place name is in (
      found.seat,
      filter-in (λ (seat : Named). not (is_among seat.name names)) seats place found.seat found.stands
          (ap (λ n. not (is_among n names)) found.named ∙ ap not among),
    )

pub left-out : (seats : List Named) (names : List (List ℕ)) (place : ℕ) (name : List ℕ) →
    slice_get (names_of seats) place ≡ Some name → is_among name names ≡ true
    → seats_left names (take (place + 1) seats) ≡ seats_left names (take place seats)
left-out seats names place name is among =
    let found = seat-named seats place name is in
    filter-out (λ (seat : Named). not (is_among seat.name names)) seats place found.seat found.stands
    (ap (λ n. not (is_among n names)) found.named ∙ ap not among)

pub take_rest : {A : Type 0} (xs : List A) (place : ℕ) → take place xs ++ drop place xs ≡ xs
take_rest [] zero = refl
take_rest [] (suc place) = refl
take_rest (x ∷ xs) zero = refl
take_rest (x ∷ xs) (suc place) = ap (λ ys. x ∷ ys) (take_rest xs place)

-- where one stays, some are left
pub left-some : (seats : List Named) (names : List (List ℕ)) (place : ℕ) (name : List ℕ) →
    slice_get (names_of seats) place ≡ Some name → is_among name names ≡ false
    → 0 < length (seats_left names seats)
left-some seats names place name is among =
    let front = left-in seats names place name is among in
    let whole = ap (seats_left names) (take_rest seats (place + 1)) in
    let parts = filter-append (λ (seat : Named). not (is_among seat.name names)) (take (place + 1) seats)
    (drop (place + 1) seats) in
    let counted = ap length (sym whole ∙ parts ∙ ap (λ xs. xs ++ seats_left names (drop (place + 1) seats)) front.1) in
    let one = length-append (seats_left names (take place seats) ++ front.0 ∷ [])
    (seats_left names (drop (place + 1) seats)) in
    let two = length-append (seats_left names (take place seats)) (front.0 ∷ []) in
    omega (arith, counted, one, two)

-- ---- seats that are taken out one by one

drop-next : (seats : List Named) (place : ℕ) (seat : Named) → slice_get seats place ≡ Some seat →
    drop place seats ≡ seat ∷ drop (suc place) seats
drop-next [] place seat is = absurd (none-some seat is)
drop-next (other ∷ seats) zero seat is = ap (λ s. s ∷ seats) (same_Some other seat is)
drop-next (other ∷ seats) (suc place) seat is = drop-next seats place seat is

one_more : (place : ℕ) → suc place ≡ place + 1
one_more place = omega arith

drop-found : (seats : List Named) (place : ℕ) (seat : Named) → slice_get seats place ≡ Some seat →
    drop place seats ≡ seat ∷ drop (place + 1) seats
drop-found seats place seat is = drop-next seats place seat is ∙ ap (λ n. seat ∷ drop n seats) (one_more place)

removed-front : (seats : List Named) (place : ℕ) (seat : Named) → slice_get seats place ≡ Some seat →
    take place (remove seats place) ≡ take place seats
removed-front [] place seat is = absurd (none-some seat is)
removed-front (other ∷ seats) zero seat is = refl
removed-front (other ∷ seats) (suc place) seat is = ap (λ xs. other ∷ xs) (removed-front seats place seat is)

removed-next : (seats : List Named) (place : ℕ) (seat : Named) → slice_get seats place ≡ Some seat →
    drop place (remove seats place) ≡ drop (suc place) seats
removed-next [] place seat is = absurd (none-some seat is)
removed-next (other ∷ seats) zero seat is = refl
removed-next (other ∷ seats) (suc place) seat is = removed-next seats place seat is

removed-behind : (seats : List Named) (place : ℕ) (seat : Named) → slice_get seats place ≡ Some seat →
    drop place (remove seats place) ≡ drop (place + 1) seats
removed-behind seats place seat is = removed-next seats place seat is ∙ ap (λ n. drop n seats) (one_more place)

-- the seats before a place, and those left of the others
abbrev pub left_from : List (List ℕ) → ℕ → List Named → List Named
left_from names place seats = take place seats ++ seats_left names (drop place seats)

pub left-removed : (seats : List Named) (names : List (List ℕ)) (place : ℕ) (name : List ℕ) →
    slice_get (names_of seats) place ≡ Some name → is_among name names ≡ true
    → left_from names place (remove seats place) ≡ left_from names place seats
left-removed seats names place name is among =
    let found = seat-named seats place name is in
    let gone : (not (is_among found.seat.name names)) ≡ false = ap (λ n. not (is_among n names)) found.named
    ∙ ap not among in
    ap (λ xs. xs ++ seats_left names (drop place (remove seats place)))
    (removed-front seats place found.seat found.stands)
    ∙ ap (λ xs. take place seats ++ seats_left names xs) (removed-behind seats place found.seat found.stands)
    ∙ sym (ap (λ xs. take place seats ++ seats_left names xs) (drop-found seats place found.seat found.stands)
    ∙ ap (λ b. take place seats ++ cond b (found.seat ∷ seats_left names (drop (place + 1) seats))
    (seats_left names (drop (place + 1) seats))) gone)

pub left-kept : (seats : List Named) (names : List (List ℕ)) (place : ℕ) (name : List ℕ) →
    slice_get (names_of seats) place ≡ Some name → is_among name names ≡ false
    → left_from names (place + 1) seats ≡ left_from names place seats
left-kept seats names place name is among =
    let found = seat-named seats place name is in
    let stays : (not (is_among found.seat.name names)) ≡ true = ap (λ n. not (is_among n names)) found.named
    ∙ ap not among in
    ap (λ xs. xs ++ seats_left names (drop (place + 1) seats)) (take-found seats place found.seat found.stands)
    ∙ append_assoc (take place seats) (found.seat ∷ []) (seats_left names (drop (place + 1) seats))
    ∙ sym (ap (λ xs. take place seats ++ seats_left names xs) (drop-found seats place found.seat found.stands)
    ∙ ap (λ b. take place seats ++ cond b (found.seat ∷ seats_left names (drop (place + 1) seats))
    (seats_left names (drop (place + 1) seats))) stays)

-- ---- names that are written

pub goes_passing : (old between new : List ℕ) (names : List (List ℕ)) (passes : List ℕ →
    Bool) (at : ℕ) (name : List ℕ) → Goes old between (filter passes (take at names)) → Goes between new (name ∷ [])
    → slice_get names at ≡ Some name → passes name ≡ true → Goes old new (filter passes (take (at + 1) names))
goes_passing old between new names passes at name first second is pass =
    subst (Goes old new) (sym (filter-in passes names at name is pass))
    (goes_on old between new (filter passes (take at names)) (name ∷ []) first second)

pub goes_failing : (old between : List ℕ) (names : List (List ℕ)) (passes : List ℕ → Bool) (at : ℕ) (name : List ℕ) →
    Goes old between (filter passes (take at names))
    → slice_get names at ≡ Some name → passes name ≡ false → Goes old between (filter passes (take (at + 1) names))
goes_failing old between names passes at name first is fail =
    subst (Goes old between) (sym (filter-out passes names at name is fail)) first
