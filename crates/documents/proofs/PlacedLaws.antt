-- The marks of a table with where they stand in a store.
use Rattle.documents.proofs.Common.{◌≡◌, ℕ, suc, ◌+◌, ◌≤◌, true, false, cond, List, [], ◌∷◌, length, map, refl, ap, ap₂}
use Rattle.documents.proofs.Common.{◌∙◌, arith, inl, inr, ◌⊎◌, bytes_eq, find, slice_get, is_some, unwrap_or}
use Rattle.documents.proofs.Common.{if◌then◌else◌, AllByRecursion, position_from, false≢true, length-map, none-some}
use Rattle.documents.proofs.Common.{bytes_eq-Decides, Mark, SharedMarks, number_of, Gravity, Place, Marks, map_marks}
use Rattle.documents.proofs.Common.{goes_behind, moved, AreMarked, IsMarked, is_own, is_same, SharedMark, mark_of}
use Rattle.documents.proofs.Common.{placed, new_mark, Option, None, Some, option_map, is_named}
use Rattle.mark_table.specs.SharedMarks.{names_of, numbers_of}
use Rattle.text_model.proofs.PlaceLaws.{get-map_marks}
use Rattle.std.specs.FinMap as finite

-- a mark that is there moves, and stays there
pub mark_of-moved : (f : Place → Place) (marks : Marks) (number : ℕ) → is_some (finite.get marks number) ≡ true →
    mark_of (map_marks f marks) number ≡ f (mark_of marks number)
mark_of-moved f marks number there =
    ap (λ found. unwrap_or found new_mark) (get-map_marks f marks number)
    ∙ elim (finite.get marks number) as (λ o. is_some o ≡ true →
    unwrap_or (option_map f o) new_mark ≡ f (unwrap_or o new_mark)) [
      | None ↦ λ none. absurd (false≢true none)
      | Some place ↦ λ _. refl
    ] there

pub mark-there : (f : Place → Place) (marks : Marks) (number : ℕ) → is_some (finite.get marks number) ≡ true →
    is_some (finite.get (map_marks f marks) number) ≡ true
mark-there f marks number there =
    ap is_some (get-map_marks f marks number)
    ∙ elim (finite.get marks number) as (λ o. is_some o ≡ true → is_some (option_map f o) ≡ true) [
      | None ↦ λ none. none
      | Some place ↦ λ _. refl
    ] there

is_there : (found : Option Place) (gravity : Gravity) → option_map (λ (place : Place). place.gravity) found
    ≡ Some gravity → is_some found ≡ true
is_there None gravity is = absurd (none-some gravity is)
is_there (Some place) gravity is = refl

-- what is there is what stands there
pub there_is : (found : Option Place) → is_some found ≡ true → found ≡ Some (unwrap_or found new_mark)
there_is None none = absurd (false≢true none)
there_is (Some place) there = refl

-- a mark of the table is in the store
pub marked-there : (places : Marks) (mark : Mark) → IsMarked places mark →
    is_some (finite.get places mark.number) ≡ true
marked-there places mark marked = is_there (finite.get places mark.number) mark.gravity marked.stands

-- ---- all of them

pub placed-length : (places : Marks) (marks : List Mark) → length (placed places marks) ≡ length marks
placed-length places marks =
    length-map marks (λ (mark : Mark). record { name = mark.name; place = mark_of places mark.number })

pub placed-names : (places : Marks) (marks : List Mark) →
    map (λ (mark : SharedMark). mark.name) (placed places marks) ≡ names_of marks
placed-names places [] = refl
placed-names places (mark ∷ marks) = ap (λ names. mark.name ∷ names) (placed-names places marks)

pub placed-words : (places : Marks) (marks : List Mark) → AllByRecursion (IsMarked places) marks →
    AllByRecursion (λ (mark : SharedMark). is_own mark.name ≡ false) (placed places marks)
placed-words places [] each = tt
placed-words places (mark ∷ marks) each = (each.0.shared, placed-words places marks each.1)

-- a mark that is there, or one at the start
pub offset-within : (found : Option Place) (end : ℕ) → ((place : Place) → found ≡ Some place → place.offset ≤ end) →
    (unwrap_or found new_mark).offset ≤ end
offset-within None end within = omega arith
offset-within (Some place) end within = within place refl

pub placed-within : (places : Marks) (end : ℕ) (marks : List Mark) →
    ((number : ℕ) (place : Place) → finite.get places number ≡ Some place → place.offset ≤ end)
    → AllByRecursion (λ (mark : SharedMark). mark.place.offset ≤ end) (placed places marks)
placed-within places end [] within = tt
placed-within places end (mark ∷ marks) within =
    (offset-within (finite.get places mark.number) end (within mark.number), placed-within places end marks within)

-- ---- marks that move

pub gravity-moved : (at count : ℕ) (place : Place) → (moved at count place).gravity ≡ place.gravity
gravity-moved at count place = elim (goes_behind at place) as (λ b.
    (if b then record place { offset = place.offset + count } else place).gravity ≡ place.gravity) [
      | true ↦ refl
      | false ↦ refl
    ]

pub placed-moved : (f : Place → Place) (places : Marks) (marks : List Mark) → AllByRecursion (IsMarked places) marks
    → placed (map_marks f places) marks ≡ map (λ (mark : SharedMark). record mark { place = f mark.place })
    (placed places marks)
placed-moved f places [] each = refl
placed-moved f places (mark ∷ marks) each =
    ap₂ (λ place others. record { name = mark.name; place = place } ∷ others)
    (mark_of-moved f places mark.number (marked-there places mark each.0)) (placed-moved f places marks each.1)

pub marked-moved : (f : Place → Place) (places : Marks) (marks : List Mark) →
    ((place : Place) → (f place).gravity ≡ place.gravity) → AllByRecursion (IsMarked places) marks
    → AllByRecursion (IsMarked (map_marks f places)) marks
marked-moved f places [] same each = tt
marked-moved f places (mark ∷ marks) same each = (
  record {
    stands = ap (option_map (λ (place : Place). place.gravity)) (get-map_marks f places mark.number)
        ∙ kept (finite.get places mark.number) ∙ each.0.stands;
    shared = each.0.shared;
  },
  marked-moved f places marks same each.1,
)
  where
    kept : (found : Option Place) → option_map (λ (place : Place). place.gravity) (option_map f found)
        ≡ option_map (λ (place : Place). place.gravity) found
    kept None = refl
    kept (Some place) = ap Some (same place)

pub are-moved : (f : Place → Place) (table : SharedMarks) (places : Marks) →
    ((place : Place) → (f place).gravity ≡ place.gravity) → AreMarked table places →
    AreMarked table (map_marks f places)
are-moved f table places same marked = record {
  marks = marked.marks;
  roomy = marked.roomy;
  each = marked-moved f places table.marks same marked.each;
}

-- ---- marks of another store

-- a store has the marks of these numbers where another one has them
abbrev pub AreAlike : Marks → Marks → List Mark → Type 0
AreAlike one other marks =
    (at : ℕ) (mark : Mark) → slice_get marks at ≡ Some mark → finite.get one mark.number ≡ finite.get other mark.number

pub placed-alike : (one other : Marks) (marks : List Mark) → AreAlike one other marks →
    placed one marks ≡ placed other marks
placed-alike one other [] alike = refl
placed-alike one other (mark ∷ marks) alike =
    ap₂ (λ found others. record { name = mark.name; place = unwrap_or found new_mark } ∷ others) (alike 0 mark refl)
    (placed-alike one other marks (λ at. alike (suc at)))

pub marked-alike : (one other : Marks) (marks : List Mark) → AreAlike one other marks →
    AllByRecursion (IsMarked other) marks → AllByRecursion (IsMarked one) marks
marked-alike one other [] alike each = tt
marked-alike one other (mark ∷ marks) alike each = (
  record {
    stands = ap (option_map (λ (place : Place). place.gravity)) (alike 0 mark refl) ∙ each.0.stands;
    shared = each.0.shared;
  },
  marked-alike one other marks (λ at. alike (suc at)) each.1,
)

-- ---- a mark by its name

-- an unknown name, and one that stands in a table, at a place
abbrev pub IsUnknownMark : Marks → List ℕ → List Mark → ℕ → Type 0
IsUnknownMark places word marks at =
    (number_of word marks ≡ None)
    × (position_from (λ (mark : SharedMark). is_same word mark.name) at (placed places marks) ≡ None)
    × (find (λ (mark : SharedMark). is_same word mark.name) (placed places marks) ≡ None)

pub record StandsMark (places : Marks) (word : List ℕ) (marks : List Mark) (at : ℕ) : Type 0 where
  pub mark : Mark
  pub place : ℕ
  pub named : word ≡ mark.name
  pub marked : IsMarked places mark
  pub number : number_of word marks ≡ Some mark.number
  pub sought : find (λ (mark : SharedMark). is_same word mark.name) (placed places marks)
      ≡ Some (record { name = mark.name; place = mark_of places mark.number })
  pub listed : slice_get marks place ≡ Some mark
  pub numbered : slice_get (numbers_of marks) place ≡ Some mark.number
  pub found : position_from (λ (mark : SharedMark). is_same word mark.name) at (placed places marks) ≡ Some (at + place)
  pub stands : slice_get (placed places marks) place
      ≡ Some (record { name = mark.name; place = mark_of places mark.number })

pub found_mark : (places : Marks) (word : List ℕ) (marks : List Mark) (at : ℕ) →
    AllByRecursion (IsMarked places) marks → IsUnknownMark places word marks at ⊎ StandsMark places word marks at
found_mark places word [] at each = inl (refl, refl, refl)
found_mark places word (mark ∷ marks) at each =
    elim (bytes_eq word mark.name) as (λ b. bytes_eq word mark.name ≡ b →
    IsUnknownMark places word (mark ∷ marks) at ⊎ StandsMark places word (mark ∷ marks) at) [
      | true ↦ λ same. inr (record {
        mark = mark;
        place = 0;
        named = (bytes_eq-Decides word mark.name).0 same;
        marked = each.0;
        number = ap (λ b. option_map (λ (m : Mark). m.number) (cond b (Some mark) (find (is_named word) marks))) same;
        sought = ap (λ b. cond b (Some (record { name = mark.name; place = mark_of places mark.number }))
            (find (λ (m : SharedMark). is_same word m.name) (placed places marks))) same;
        listed = refl;
        numbered = refl;
        found = ap (λ b. cond b (Some at) (position_from (λ (m : SharedMark). is_same word m.name) (at + 1)
            (placed places marks))) same ∙ ap Some (let h : at ≡ at + 0 = omega arith in h);
        stands = refl;
      })
      | false ↦ λ other.
          let number = ap (λ b. option_map (λ (m : Mark). m.number) (cond b (Some mark) (find (is_named word) marks)))
          other in
          let sought = ap (λ b. cond b (Some (record { name = mark.name; place = mark_of places mark.number }))
          (find (λ (m : SharedMark). is_same word m.name) (placed places marks))) other in
          let found = ap (λ b. cond b (Some at)
          (position_from (λ (m : SharedMark). is_same word m.name) (at + 1) (placed places marks))) other in
          elim (found_mark places word marks (at + 1) each.1) [
            | inl none ↦ inl (number ∙ none.0, found ∙ none.1, sought ∙ none.2)
            | inr there ↦ inr (record {
              mark = there.mark;
              place = suc there.place;
              named = there.named;
              marked = there.marked;
              number = number ∙ there.number;
              sought = sought ∙ there.sought;
              listed = there.listed;
              numbered = there.numbered;
              found = found ∙ there.found
                  ∙ ap Some (let h : at + 1 + there.place ≡ at + suc there.place = omega arith in h);
              stands = there.stands;
            })
          ]
    ] refl
