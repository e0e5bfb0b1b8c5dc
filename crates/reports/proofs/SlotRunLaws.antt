-- What runs of characters that get slots, or lose them, make of a store's characters with their keys.
use Rattle.reports.proofs.Common.{◌≡◌, ℕ, ◌+◌, ◌<◌, ◌≤◌, ◌&&◌, ◌||◌, ◌⊎◌, Bool, true, false, cond, not, inl, inr, List}
use Rattle.reports.proofs.Common.{[], ◌∷◌, ◌++◌, map, length, get_or, refl, sym, ap, ap₂, ◌∙◌, arith, subst, suc, zero}
use Rattle.reports.proofs.Common.{true≢false, filter, Some, All, cases_lt, eq_by_cmp, list_any, list_any-append}
use Rattle.reports.proofs.Common.{false_from_ne_true, length-map, map-append, append-nil, map-map, map-changed, changed}
use Rattle.reports.proofs.Common.{changed-same, slice_get, get_or_from_slice_get, slice_get_within, stands_map}
use Rattle.reports.proofs.Common.{AreApart-head, AreApart-tail, Named, AreTags, Tag, Tags, Cell, Slots, slot_sets}
use Rattle.reports.proofs.Common.{without_slots, with_slots, slotted, AreBareRuns, IsLostRun, bared, SlotRun, Key}
use Rattle.reports.proofs.Common.{key_cmp, key_pairs, keyed, keys_of, is_shared, seat_pair, tag_pair, AreSeats}
use Rattle.reports.proofs.Common.{AreDistinct, AreRising, TellsRuns, characters, in_run, is_turned, TagChange}
use Rattle.reports.proofs.Common.{get_or-drop, get_or-take, slice_range, length-take-le, length-drop, ◌-◌, drop}
use Rattle.reports.proofs.Common.{nat_cmp, Span, IsBareRun, get_or-changed_before, get_or-changed_behind}
use Rattle.reports.proofs.Common.{get_or-changed_within, inside, inside-before, inside-behind, inside-is, AreApart}
use Rattle.reports.proofs.BridgeLaws.{key_tied, keys_of-empty, or_none}
use Rattle.reports.proofs.KeyRunLaws.{key-run-of, keys_in}
use Rattle.reports.proofs.LookupLaws.{AreApart-filter}
use Rattle.reports.proofs.KeyedLaws.{characters-keyed}
use Rattle.reports.proofs.TagRunLaws.{TurnsAs, flag}
use Rattle.reports.proofs.TagsToldLaws.{bare-behind}
use Rattle.text_model.specs.Content as model
use Rattle.std.specs.FinSet as set

-- ---- the slots at an offset

abbrev pub tags_at : List Cell → ℕ → Slots
tags_at cells at = get_or (slot_sets cells) at set.empty

get_or-mapped : {A B : Type 0} (f : A → B) (xs : List A) (k : ℕ) (d : A) → get_or (map f xs) k (f d) ≡ f (get_or xs k d)
get_or-mapped f [] k d = refl
get_or-mapped f (x ∷ xs) zero d = refl
get_or-mapped f (x ∷ xs) (suc k) d = get_or-mapped f xs k d

none-of : (pairs : List (ℕ × Key)) (key : Key) → set.contains (keys_of pairs set.empty) key ≡ false
none-of pairs key = ap (λ keys. set.contains keys key) (keys_of-empty pairs) ∙ set.contains-empty key_cmp key

flag-keyed : (pairs : List (ℕ × Key)) (cells : List Cell) (key : Key) (at : ℕ) →
    flag key (keyed pairs cells) at ≡ set.contains (keys_of pairs (tags_at cells at)) key
flag-keyed pairs cells key at =
    let has : Slots → Bool = λ slots. set.contains (keys_of pairs slots) key in
    ap₂ (λ (flags : List Bool) b. get_or flags at b) (map-map _ _ cells ∙ sym (map-map has (λ (cell : Cell). cell.tags) cells))
    (sym (none-of pairs key))
    ∙ get_or-mapped has (slot_sets cells) at set.empty

-- a change of the slots between two offsets
module _ (f : Cell → Cell) (slots : Slots) (sets : (cell : Cell) → (f cell).tags ≡ slots) (from to : ℕ)
    (cells : List Cell) (ordered : from ≤ to) (within : to ≤ length cells) where
  long : length (slot_sets cells) ≡ length cells
  long = length-map cells (λ (cell : Cell). cell.tags)

  made : slot_sets (changed f from to cells) ≡ changed (λ _. slots) from to (slot_sets cells)
  made = map-changed (λ (cell : Cell). cell.tags) f (λ _. slots) sets from to cells

  pub tags-within : (at : ℕ) → from ≤ at → at < to → tags_at (changed f from to cells) at ≡ slots
  tags-within at above below =
      ap (λ sets. get_or sets at set.empty) made
      ∙ get_or-changed_within (λ _. slots) from to (slot_sets cells) at set.empty (omega (arith, long, within)) above below

  pub tags-before : (at : ℕ) → at < from → tags_at (changed f from to cells) at ≡ tags_at cells at
  tags-before at before =
      ap (λ sets. get_or sets at set.empty) made
      ∙ get_or-changed_before (λ _. slots) from to (slot_sets cells) at set.empty (omega (arith, long, ordered, within))
      before

  pub tags-behind : (at : ℕ) → to ≤ at → tags_at (changed f from to cells) at ≡ tags_at cells at
  tags-behind at behind =
      ap (λ sets. get_or sets at set.empty) made
      ∙ get_or-changed_behind (λ _. slots) from to (slot_sets cells) at set.empty ordered (omega (arith, long, within))
      behind

-- ---- runs that turn slots

-- What becomes of the slots at an offset by some runs: those of its run, if it is in one, come or go.
pub record TurnsSlots (on : Bool) (runs : List SlotRun) (old new : List Cell) (at : ℕ) : Type 0 where
  pub slots : Slots
  pub turned : (slot : ℕ) → in_run slot runs at ≡ set.contains slots slot
  pub either : (slots ≡ set.empty) × (tags_at new at ≡ tags_at old at)
      ⊎ (tags_at old at ≡ cond on set.empty slots) × (tags_at new at ≡ cond on slots set.empty)

pub rising-bare : (at : ℕ) (runs : List SlotRun) (cells : List Cell) → AreBareRuns at runs cells → AreRising at runs
rising-bare at [] cells bare = tt
rising-bare at (run ∷ runs) cells bare = (bare.0, bare.1.some, rising-bare run.to runs cells bare.2)

run-behind : (from : ℕ) (runs : List SlotRun) (slot at : ℕ) → AreRising from runs → at < from → in_run slot runs at ≡ false
run-behind from [] slot at rising before = refl
run-behind from (run ∷ runs) slot at rising before =
    let above = rising.0 in let some = rising.1 in
    ap₂ (λ a b. (a && set.contains run.slots slot) || b)
    (inside-before (record { from = run.from; to = run.to }) at (omega (arith, above, before)))
    (run-behind run.to runs slot at rising.2 (omega (arith, above, some, before)))

slotted-before : (from : ℕ) (runs : List SlotRun) (cells : List Cell) (at : ℕ) → AreBareRuns from runs cells → at < from →
    tags_at (slotted runs cells) at ≡ tags_at cells at
slotted-before from [] cells at bare before = refl
slotted-before from (run ∷ runs) cells at bare before =
    let above = bare.0 in let is = bare.1 in let some = is.some in
    slotted-before run.to runs (changed (with_slots run.slots) run.from run.to cells) at
    (bare-behind (with_slots run.slots) run.from run.to run.to runs cells (omega (arith, some)) is.within (omega arith)
    bare.2) (omega (arith, above, some, before))
    ∙ tags-before (with_slots run.slots) run.slots (λ cell. refl) run.from run.to cells (omega (arith, some)) is.within at
    (omega (arith, above, before))

-- a cell of a bare run has no slots
bare-at : (from to : ℕ) (cells : List Cell) (at : ℕ) → to ≤ length cells →
    All (λ (cell : Cell). cell.tags ≡ set.empty) (slice_range cells from to) → from ≤ at → at < to
    → tags_at cells at ≡ set.empty
bare-at from to cells at within bare above below =
    let no_cell : Cell = record { character = 0; tags = set.empty } in
    let k = at - from in
    let here : from + k ≡ at = omega (arith, above) in
    let inner : k < length (slice_range cells from to) = rw (length-take-le (to - from) (drop from cells)
    (omega (arith, length-drop from cells, within))) (omega (arith, above, below)) in
    get_or-mapped (λ (cell : Cell). cell.tags) cells at no_cell
    ∙ ap (λ (cell : Cell). cell.tags) (ap (λ n. get_or cells n no_cell) (sym here)
    ∙ sym (get_or-take (to - from) (drop from cells) k no_cell (omega (arith, above, below))
    ∙ get_or-drop from cells k no_cell))
    ∙ bare k no_cell inner

pub slotted-turns : (from : ℕ) (runs : List SlotRun) (cells : List Cell) (at : ℕ) → AreBareRuns from runs cells →
    TurnsSlots true runs cells (slotted runs cells) at
slotted-turns from [] cells at bare =
    record { slots = set.empty; turned = λ slot. sym (set.contains-empty nat_cmp slot); either = inl (refl, refl) }
slotted-turns from (run ∷ runs) cells at bare =
    let later = slotted-turns run.to runs (changed (with_slots run.slots) run.from run.to cells) at rest in
    elim (cases_lt at run.from) [
      | inl before ↦ same later (inside-before span at before)
          (tags-before f run.slots (λ cell. refl) run.from run.to cells ordered own.within at before)
      | inr above ↦ elim (cases_lt at run.to) [
        | inl below ↦ record {
          slots = run.slots;
          turned = λ slot. ap₂ (λ a b. (a && set.contains run.slots slot) || b) (inside-is span at above below)
              (run-behind run.to runs slot at (rising-bare run.to runs cells bare.2) below)
              ∙ or_none (set.contains run.slots slot);
          either = inr (
            bare-at run.from run.to cells at own.within own.bare above below,
            slotted-before run.to runs between at rest below
                ∙ tags-within f run.slots (λ cell. refl) run.from run.to cells ordered own.within at above below,
          );
        }
        | inr behind ↦ same later (inside-behind span at behind)
            (tags-behind f run.slots (λ cell. refl) run.from run.to cells ordered own.within at behind)
      ]
    ]
  where
    f : Cell → Cell
    f = with_slots run.slots

    own : IsBareRun cells run
    own = bare.1

    span : Span
    span = record { from = run.from; to = run.to }

    ordered : run.from ≤ run.to
    ordered = let some = own.some in omega (arith, some)

    between : List Cell
    between = changed (with_slots run.slots) run.from run.to cells

    rest : AreBareRuns run.to runs between
    rest = bare-behind (with_slots run.slots) run.from run.to run.to runs cells ordered own.within (omega arith) bare.2

    same : TurnsSlots true runs (changed (with_slots run.slots) run.from run.to cells)
        (slotted runs (changed (with_slots run.slots) run.from run.to cells)) at
        → inside (record { from = run.from; to = run.to }) at ≡ false
        → tags_at (changed (with_slots run.slots) run.from run.to cells) at ≡ tags_at cells at
        → TurnsSlots true (run ∷ runs) cells (slotted (run ∷ runs) cells) at
    same later out kept = record {
      slots = later.slots;
      turned = λ slot. ap (λ a. (a && set.contains run.slots slot) || in_run slot runs at) out ∙ later.turned slot;
      either = elim later.either [
        | inl idle ↦ inl (idle.0, idle.1 ∙ kept)
        | inr turned ↦ inr (sym kept ∙ turned.0, turned.1)
      ];
    }

-- a cell that loses its slots
pub lost-turns : (run : SlotRun) (cells : List Cell) (at : ℕ) → IsLostRun cells (Some run) →
    TurnsSlots false (run ∷ []) cells (bared (Some run) cells) at
lost-turns run cells at (one, slots) =
    elim (cases_lt at run.from) [
      | inl before ↦ same (inside-before span at before)
          (tags-before without_slots set.empty (λ cell. refl) run.from run.to cells ordered within at before)
      | inr above ↦ elim (cases_lt at run.to) [
        | inl below ↦ record {
          slots = run.slots;
          turned = λ slot. or_none (inside span at && set.contains run.slots slot)
              ∙ ap (λ b. b && set.contains run.slots slot) (inside-is span at above below);
          either = inr (
            ap (tags_at cells) (omega (arith, above, below, one))
                ∙ get_or_from_slice_get (slot_sets cells) run.from run.slots set.empty slots,
            tags-within without_slots set.empty (λ cell. refl) run.from run.to cells ordered within at above below,
          );
        }
        | inr behind ↦ same (inside-behind span at behind)
            (tags-behind without_slots set.empty (λ cell. refl) run.from run.to cells ordered within at behind)
      ]
    ]
  where
    span : Span
    span = record { from = run.from; to = run.to }

    ordered : run.from ≤ run.to
    ordered = omega (arith, one)

    within : run.to ≤ length cells
    within = omega (
      arith,
      one,
      slice_get_within (slot_sets cells) run.from run.slots slots,
      length-map cells (λ (cell : Cell). cell.tags),
    )

    same : inside (record { from = run.from; to = run.to }) at ≡ false
        → tags_at (changed without_slots run.from run.to cells) at ≡ tags_at cells at
        → TurnsSlots false (run ∷ []) cells (bared (Some run) cells) at
    same out kept = record {
      slots = set.empty;
      turned = λ slot. ap (λ a. (a && set.contains run.slots slot) || false) out ∙ sym (set.contains-empty nat_cmp slot);
      either = inl (refl, kept);
    }

-- ---- and keys

itself : (b : Bool) → cond b true false ≡ b
itself true = refl
itself false = refl

none-left : (b : Bool) → cond b false b ≡ false
none-left true = refl
none-left false = refl

pub runs-turn : (pairs : List (ℕ × Key)) (on : Bool) (runs : List SlotRun) (old new : List Cell)
    (told more : List TagChange) → ((at : ℕ) → TurnsSlots on runs old new at)
    → model.characters new ≡ model.characters old → AreDistinct (keys_in pairs)
    → (tells : TellsRuns pairs on runs told more) → TurnsAs on tells.added (keyed pairs old) (keyed pairs new)
runs-turn pairs on runs old new told more turns same distinct tells = record {
  shaped = tells.shaped;
  gapped = tells.gapped distinct;
  unlike = λ key at turned. flag-keyed pairs old key at ∙ unlike-by key at (sym (turned-is key at) ∙ turned) (turns at).either;
  made = λ key at. flag-keyed pairs new key at ∙ made-by key at (turns at).either
      ∙ sym (ap₂ (λ b had. cond b on had) (turned-is key at) (flag-keyed pairs old key at));
  same = characters-keyed pairs new ∙ same ∙ sym (characters-keyed pairs old);
}
  where
    keys : Slots → Key → Bool
    keys slots key = set.contains (keys_of pairs slots) key

    turned-is : (key : Key) (at : ℕ) → is_turned key at tells.added
        ≡ set.contains (keys_of pairs (turns at).slots) key
    turned-is key at = tells.turns key at ∙ key-run-of key pairs runs at (turns at).slots (turns at).turned

    of-old : (on : Bool) (slots : Slots) (key : Key) → set.contains (keys_of pairs slots) key ≡ true
        → set.contains (keys_of pairs (cond on set.empty slots)) key ≡ not on
    of-old true slots key there = none-of pairs key
    of-old false slots key there = there

    of-both : (on : Bool) (slots : Slots) (key : Key) →
        set.contains (keys_of pairs (cond on slots set.empty)) key
        ≡ cond (set.contains (keys_of pairs slots) key) on (set.contains (keys_of pairs (cond on set.empty slots)) key)
    of-both true slots key =
        let has = set.contains (keys_of pairs slots) key in
        sym (itself has) ∙ ap (cond has true) (sym (none-of pairs key))
    of-both false slots key = none-of pairs key ∙ sym (none-left (set.contains (keys_of pairs slots) key))

    unlike-by : (key : Key) (at : ℕ) → set.contains (keys_of pairs (turns at).slots) key ≡ true
        → (((turns at).slots ≡ set.empty) × (tags_at new at ≡ tags_at old at))
        ⊎ ((tags_at old at ≡ cond on set.empty (turns at).slots) × (tags_at new at ≡ cond on (turns at).slots set.empty))
        → set.contains (keys_of pairs (tags_at old at)) key ≡ not on
    unlike-by key at there (inl idle) =
        absurd (true≢false (sym there ∙ ap (λ slots. set.contains (keys_of pairs slots) key) idle.0 ∙ none-of pairs key))
    unlike-by key at there (inr both) =
        ap (λ slots. set.contains (keys_of pairs slots) key) both.0 ∙ of-old on (turns at).slots key there

    made-by : (key : Key) (at : ℕ) → (((turns at).slots ≡ set.empty) × (tags_at new at ≡ tags_at old at))
        ⊎ ((tags_at old at ≡ cond on set.empty (turns at).slots) × (tags_at new at ≡ cond on (turns at).slots set.empty))
        → set.contains (keys_of pairs (tags_at new at)) key ≡ cond (set.contains (keys_of pairs (turns at).slots) key) on
        (set.contains (keys_of pairs (tags_at old at)) key)
    made-by key at (inl idle) =
        let had = set.contains (keys_of pairs (tags_at old at)) key in
        ap (λ slots. set.contains (keys_of pairs slots) key) idle.1
        ∙ sym (ap (λ b. cond b on had) (ap (λ slots. set.contains (keys_of pairs slots) key) idle.0 ∙ none-of pairs key))
    made-by key at (inr both) =
        let has = set.contains (keys_of pairs (turns at).slots) key in
        ap (λ slots. set.contains (keys_of pairs slots) key) both.1 ∙ of-both on (turns at).slots key
        ∙ ap (λ slots. cond has on (set.contains (keys_of pairs slots) key)) (sym both.0)

pub characters-slotted : (from : ℕ) (runs : List SlotRun) (cells : List Cell) → AreBareRuns from runs cells →
    model.characters (slotted runs cells) ≡ model.characters cells
characters-slotted from [] cells bare = refl
characters-slotted from (run ∷ runs) cells bare =
    let is = bare.1 in let some = is.some in
    characters-slotted run.to runs (changed (with_slots run.slots) run.from run.to cells)
    (bare-behind (with_slots run.slots) run.from run.to run.to runs cells (omega (arith, some)) is.within (omega arith)
    bare.2)
    ∙ map-changed (λ (cell : Cell). cell.character) (with_slots run.slots) (λ c. c) (λ cell. refl) run.from run.to cells
    ∙ changed-same run.from run.to (model.characters cells) (omega (arith, some))

pub characters-lost : (run : SlotRun) (cells : List Cell) → run.to ≡ run.from + 1 →
    model.characters (bared (Some run) cells) ≡ model.characters cells
characters-lost run cells one =
    map-changed (λ (cell : Cell). cell.character) without_slots (λ c. c) (λ cell. refl) run.from run.to cells
    ∙ changed-same run.from run.to (model.characters cells) (omega (arith, one))

-- ---- names that are apart make keys that are distinct

-- in front of others
no-key : {A : Type 0} (f : A → Key) (key : Key) (xs : List A) →
    ((at : ℕ) (x : A) → slice_get xs at ≡ Some x → key ≡ f x → ⊥)
    → list_any (eq_by_cmp key_cmp key) (map f xs) ≡ false
no-key f key [] apart = refl
no-key f key (x ∷ xs) apart = ap₂ (λ a b. a || b)
    (false_from_ne_true (eq_by_cmp key_cmp key (f x)) (λ same. apart 0 x refl (key_tied key (f x) same)))
    (no-key f key xs (λ at y is. apart (suc at) y is))

distinct-apart : {A : Type 0} (f : A → Key) (rest : List Key) (xs : List A) →
    AreApart (map (λ x. (f x).name) xs) → ((x : A) → list_any (eq_by_cmp key_cmp (f x)) rest ≡ false)
    → AreDistinct rest → AreDistinct (map f xs ++ rest)
distinct-apart f rest [] apart other distinct = distinct
distinct-apart {A} f rest (x ∷ xs) apart other distinct =
    let names = map (λ (y : A). (f y).name) xs in (
      list_any-append (eq_by_cmp key_cmp (f x)) (map f xs) rest
          ∙ ap₂ (λ a b. a || b) (no-key f (f x) xs (λ at y is same.
          let there = stands_map (λ (z : A). (f z).name) xs y (at, is) in
          AreApart-head (f x).name names there.0 apart (there.1 ∙ ap (λ (key : Key). Some key.name) (sym same))))
          (other x),
      distinct-apart f rest xs (AreApart-tail (f x).name names apart) other distinct,
    )

kinds-apart : (key other : Key) → key.selects ≡ true → other.selects ≡ false → key ≡ other → ⊥
kinds-apart key other one two same = true≢false (sym one ∙ ap (λ (k : Key). k.selects) same ∙ two)

pub distinct-pairs : (seats : List Named) (table : Tags) → AreSeats seats → AreTags table →
    AreDistinct (keys_in (key_pairs seats table.tags))
distinct-pairs seats table seated sound =
    let shared = filter is_shared table.tags in
    let own : List Key = map (λ (seat : Named). (seat_pair seat).1) seats in
    let others : List Key = map (λ (tag : Tag). (tag_pair tag).1) shared in
    let parts : keys_in (key_pairs seats table.tags) ≡ own ++ others =
    map-append (λ (p : ℕ × Key). p.1) (map seat_pair seats) (map tag_pair shared)
    ∙ ap₂ (λ xs ys. xs ++ ys) (map-map (λ (p : ℕ × Key). p.1) seat_pair seats)
    (map-map (λ (p : ℕ × Key). p.1) tag_pair shared) in
    subst AreDistinct (sym parts)
    (distinct-apart (λ (seat : Named). (seat_pair seat).1) others seats seated.names_apart
    (λ seat. no-key (λ (tag : Tag). (tag_pair tag).1) (seat_pair seat).1 shared (λ at tag is.
    kinds-apart (seat_pair seat).1 (tag_pair tag).1 refl refl))
    (subst AreDistinct (append-nil others)
    (distinct-apart (λ (tag : Tag). (tag_pair tag).1) [] shared
    (AreApart-filter (λ (tag : Tag). tag.name) is_shared table.tags sound.names_apart) (λ tag. refl) tt)))
