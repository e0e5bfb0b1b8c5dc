-- The columns that characters and toggles make.
use Rattle.segments.proofs.Common.{◌≡◌, ℕ, zero, suc, ◌+◌, ◌*◌, ◌<◌, ◌≤◌, min, Bool, true, false, ◌||◌, List, [], ◌∷◌}
use Rattle.segments.proofs.Common.{◌++◌, length, take, drop, inl, inr, refl, sym, ap, ap₂, ◌∙◌, arith, length-take}
use Rattle.segments.proofs.Common.{take-append-drop, cases_eq, false≢true, take_all, nat_cmp_total, Slots, differing}
use Rattle.segments.proofs.Common.{WORDS, parity, presence, contains-differing, differing-associative, either}
use Rattle.segments.proofs.Common.{empty-differing, empty-union, same_slots, union-associative, Toggled, Column}
use Rattle.segments.proofs.Common.{characters, plain_columns, tags_before, toggles, LieIn, RiseIn, any_of, odd_of}
use Rattle.segments.proofs.Common.{place_of, toggled_at, columns_from}
use Rattle.segments.proofs.EntryLaws.{LieIn-both, RiseIn-take, front_alone, met, none_before, none_below, own_slot}
use Rattle.segments.proofs.EntryLaws.{passed}
use Rattle.std.specs.FinSet as set

pub length-columns : (at : ℕ) (text : List ℕ) (entries : List Toggled) →
    length (columns_from at text entries) ≡ length text
length-columns at [] entries = refl
length-columns at (character ∷ text) entries = ap suc (length-columns (suc at) text entries)

pub characters-columns : (at : ℕ) (text : List ℕ) (entries : List Toggled) →
    characters (columns_from at text entries) ≡ text
characters-columns at [] entries = refl
characters-columns at (character ∷ text) entries = ap (λ xs. character ∷ xs) (characters-columns (suc at) text entries)

pub columns-plain : (at : ℕ) (text : List ℕ) → columns_from at text [] ≡ plain_columns text
columns-plain at [] = refl
columns-plain at (character ∷ text) =
    ap (λ (columns : List Column). record { character = character; toggled = set.empty } ∷ columns)
    (columns-plain (suc at) text)

pub take-columns : (n at : ℕ) (text : List ℕ) (entries : List Toggled) →
    take n (columns_from at text entries) ≡ columns_from at (take n text) entries
take-columns zero at text entries = refl
take-columns (suc n) at [] entries = refl
take-columns (suc n) at (character ∷ text) entries =
    ap (λ (columns : List Column). record { character = character; toggled = toggled_at entries at } ∷ columns)
    (take-columns n (suc at) text entries)

pub drop-columns : (n at : ℕ) (text : List ℕ) (entries : List Toggled) →
    drop n (columns_from at text entries) ≡ columns_from (at + n) (drop n text) entries
drop-columns zero at text entries =
    let same : at ≡ at + 0 = omega arith in
    ap (λ n. columns_from n text entries) same
drop-columns (suc n) at [] entries = refl
drop-columns (suc n) at (character ∷ text) entries =
    let same : suc at + n ≡ at + suc n = omega arith in
    drop-columns n (suc at) text entries ∙ ap (λ m. columns_from m (drop n text) entries) same

pub columns-append : (at : ℕ) (front behind : List ℕ) (entries : List Toggled) →
    columns_from at (front ++ behind) entries ≡ columns_from at front entries
    ++ columns_from (at + length front) behind entries
columns-append at [] behind entries =
    let same : at ≡ at + 0 = omega arith in
    ap (λ n. columns_from n behind entries) same
columns-append at (character ∷ front) behind entries =
    let same : suc at + length front ≡ at + suc (length front) = omega arith in
    ap (λ (columns : List Column). record { character = character; toggled = toggled_at entries at } ∷ columns)
    (columns-append (suc at) front behind entries
    ∙ ap (λ n. columns_from (suc at) front entries ++ columns_from n behind entries) same)

-- entries before the first column and behind the last one make no difference
columns-passed : (at : ℕ) (text : List ℕ) (entry : Toggled) (entries : List Toggled) → entry.column < at →
    columns_from at text (entry ∷ entries) ≡ columns_from at text entries
columns-passed at [] entry entries before = refl
columns-passed at (character ∷ text) entry entries before =
    ap₂ (λ slots (columns : List Column). record { character = character; toggled = slots } ∷ columns)
    (passed entry entries at (omega arith)) (columns-passed (suc at) text entry entries (omega arith))

pub columns-front : (at from to : ℕ) (text : List ℕ) (front behind : List Toggled) → LieIn from to behind →
    at + length text ≤ from → columns_from at text (front ++ behind) ≡ columns_from at text front
columns-front at from to [] front behind lie far = refl
columns-front at from to (character ∷ text) front behind lie far =
    ap₂ (λ slots (columns : List Column). record { character = character; toggled = slots } ∷ columns)
    (front_alone front behind at (none_before from to behind at lie (omega arith)))
    (columns-front (suc at) from to text front behind lie (omega arith))

-- the parity of the columns is that of the entries
parity-rise : (at from to : ℕ) (text : List ℕ) (entries : List Toggled) → to ≡ at + length text →
    RiseIn from (WORDS * to) entries → WORDS * at ≤ from →
    parity (toggles (columns_from at text entries)) ≡ odd_of entries
parity-rise at from to [] [] is rise low = refl
parity-rise at from to [] (entry ∷ entries) is rise low = absurd (omega (arith, rise.0, rise.1))
parity-rise at from to (character ∷ text) [] is rise low =
    ap (differing set.empty) (parity-rise (suc at) (WORDS * suc at) to text [] (omega arith) tt (omega arith))
    ∙ empty-differing set.empty
parity-rise at from to (character ∷ text) (entry ∷ entries) is rise low =
    elim (cases_eq entry.column at) [
      | inl here ↦
          let behind = parity (toggles (columns_from (suc at) text entries)) in
          ap₂ differing (met entry entries at here)
          (ap (λ columns. parity (toggles columns)) (columns-passed (suc at) text entry entries (omega arith)))
          ∙ differing-associative entry.slots (toggled_at entries at) behind
          ∙ ap (differing entry.slots)
          (parity-rise at (suc (place_of entry)) to (character ∷ text) entries is rise.3 (omega (arith, rise.0)))
      | inr other ↦
          let rising : RiseIn (WORDS * suc at) (WORDS * to) (entry ∷ entries) = (
            omega (arith, rise.0, other, rise.2.within),
            rise.1,
            rise.2,
            rise.3,
          ) in
          ap₂ differing
          (none_below (WORDS * suc at) (WORDS * to) (entry ∷ entries) at rising (omega arith))
          (parity-rise (suc at) (WORDS * suc at) to text (entry ∷ entries) (omega arith) rising (omega arith))
          ∙ empty-differing (odd_of (entry ∷ entries))
    ]

pub parity-columns : (at to : ℕ) (text : List ℕ) (entries : List Toggled) → to ≡ at + length text →
    LieIn at to entries → parity (toggles (columns_from at text entries)) ≡ odd_of entries
parity-columns at to text entries is lie = parity-rise at (WORDS * at) to text entries is lie (omega arith)

-- two sets without a common slot differ in all of theirs
apart_test : (a b : Bool) → (a ≡ true → b ≡ false) → either a b ≡ (a || b)
apart_test true true apart = absurd (false≢true (sym (apart refl)))
apart_test true false apart = refl
apart_test false true apart = refl
apart_test false false apart = refl

apart_union : (first second : Slots) → ((q : ℕ) → set.contains first q ≡ true → set.contains second q ≡ false) →
    differing first second ≡ set.union first second
apart_union first second apart =
    same_slots _ _ (λ q. contains-differing first second q
    ∙ apart_test (set.contains first q) (set.contains second q) (apart q)
    ∙ sym (set.contains-union nat_cmp_total first second q))

-- the presence of the columns is that of the entries
presence-rise : (at from to : ℕ) (text : List ℕ) (entries : List Toggled) → to ≡ at + length text →
    RiseIn from (WORDS * to) entries → WORDS * at ≤ from →
    presence (toggles (columns_from at text entries)) ≡ any_of entries
presence-rise at from to [] [] is rise low = refl
presence-rise at from to [] (entry ∷ entries) is rise low = absurd (omega (arith, rise.0, rise.1))
presence-rise at from to (character ∷ text) [] is rise low =
    ap (set.union set.empty) (presence-rise (suc at) (WORDS * suc at) to text [] (omega arith) tt (omega arith))
    ∙ empty-union set.empty
presence-rise at from to (character ∷ text) (entry ∷ entries) is rise low =
    elim (cases_eq entry.column at) [
      | inl here ↦
          let behind = presence (toggles (columns_from (suc at) text entries)) in
          let own : toggled_at (entry ∷ entries) at ≡ set.union entry.slots (toggled_at entries at) =
          met entry entries at here
          ∙ apart_union entry.slots (toggled_at entries at) (λ q has.
          ap (λ n. set.contains (toggled_at entries n) q) (sym here)
          ∙ own_slot (WORDS * to) entry entries q rise.2 rise.3 has) in
          ap₂ set.union own
          (ap (λ columns. presence (toggles columns)) (columns-passed (suc at) text entry entries (omega arith)))
          ∙ union-associative entry.slots (toggled_at entries at) behind
          ∙ ap (set.union entry.slots)
          (presence-rise at (suc (place_of entry)) to (character ∷ text) entries is rise.3 (omega (arith, rise.0)))
      | inr other ↦
          let rising : RiseIn (WORDS * suc at) (WORDS * to) (entry ∷ entries) = (
            omega (arith, rise.0, other, rise.2.within),
            rise.1,
            rise.2,
            rise.3,
          ) in
          ap₂ set.union
          (none_below (WORDS * suc at) (WORDS * to) (entry ∷ entries) at rising (omega arith))
          (presence-rise (suc at) (WORDS * suc at) to text (entry ∷ entries) (omega arith) rising (omega arith))
          ∙ empty-union (any_of (entry ∷ entries))
    ]

pub presence-columns : (at to : ℕ) (text : List ℕ) (entries : List Toggled) → to ≡ at + length text →
    LieIn at to entries → presence (toggles (columns_from at text entries)) ≡ any_of entries
presence-columns at to text entries is lie = presence-rise at (WORDS * at) to text entries is lie (omega arith)

-- the slots toggled an odd number of times in the first columns are those of the entries in them
pub front-entries : (text : List ℕ) (entries : List Toggled) (count n : ℕ) → LieIn 0 (length text) entries →
    LieIn 0 n (take count entries) → LieIn n (length text) (drop count entries)
    → odd_of (take count entries) ≡ parity (toggles (take n (columns_from 0 text entries)))
front-entries text entries count n lie front behind =
    let long : length (take n text) ≡ min n (length text) = length-take n text in
    let within : 0 + length (take n text) ≤ n = omega (arith, long) in
    let sum : min n (length text) ≡ 0 + length (take n text) = omega (arith, long) in
    sym (ap (λ columns. parity (toggles columns)) (take-columns n 0 text entries
    ∙ ap (columns_from 0 (take n text)) (sym (take-append-drop count entries))
    ∙ columns-front 0 n (length text) (take n text) (take count entries) (drop count entries) behind within)
    ∙ parity-columns 0 (min n (length text)) (take n text) (take count entries) sum
    (LieIn-both 0 n (length text) (take count entries) front
    (RiseIn-take (WORDS * 0) (WORDS * length text) count entries lie)))

-- and at the end of the line those of all entries
pub tags-whole : (text : List ℕ) (entries : List Toggled) → LieIn 0 (length text) entries →
    odd_of entries ≡ tags_before (length text) (columns_from 0 text entries)
tags-whole text entries lie =
    sym (ap (λ columns. parity (toggles columns))
    (take_all (length text + 1) (columns_from 0 text entries) (omega (arith, length-columns 0 text entries)))
    ∙ parity-columns 0 (length text) text entries (omega arith) lie)
