-- Lines in which no slot is toggled: none is on before any of their columns.
use Rattle.line_lists.proofs.Common.{◌≡◌, ℕ, ◌+◌, ◌<◌, List, [], ◌∷◌, Some, length, take, drop, refl, sym, ap, ◌∙◌}
use Rattle.line_lists.proofs.Common.{arith, take-append-drop, slice_get, nat_cmp_total, nat_cmp, or_parts, take-map}
use Rattle.line_lists.proofs.Common.{Slots, slot_sets, slots_left_of, differing, differing-empty, same_slots}
use Rattle.line_lists.proofs.Common.{union-commutative, parity, presence, presence-append, Column, LineContent, toggles}
use Rattle.line_lists.proofs.Common.{count_of, content_of, whole, tags_left_of}
use Rattle.line_lists.proofs.CountRows.{count-presence}
use Rattle.line_lists.proofs.PlaceRows.{length-content, tags-behind, tags-column}
use Rattle.std.specs.FinSet as set

pub none-first : (s t : Slots) → set.union s t ≡ set.empty → s ≡ set.empty
none-first s t none =
    same_slots _ _ (λ q. (or_parts (set.contains s q) (set.contains t q)
    (sym (set.contains-union nat_cmp_total s t q) ∙ ap (λ u. set.contains u q) none ∙ set.contains-empty nat_cmp q)).0
    ∙ sym (set.contains-empty nat_cmp q))

pub none-second : (s t : Slots) → set.union s t ≡ set.empty → t ≡ set.empty
none-second s t none = none-first t s (union-commutative t s ∙ none)

pub both-none : (s t : Slots) → s ≡ set.empty → t ≡ set.empty → differing s t ≡ set.empty
both-none s t first second = (λ i. differing (first i) (second i)) ∙ differing-empty set.empty

pub none-odd : (ts : List Slots) → presence ts ≡ set.empty → parity ts ≡ set.empty
none-odd [] none = refl
none-odd (here ∷ ts) none =
    both-none here (parity ts) (none-first here (presence ts) none) (none-odd ts (none-second here (presence ts) none))

none-front : (n : ℕ) (ts : List Slots) → presence ts ≡ set.empty → presence (take n ts) ≡ set.empty
none-front n ts none =
    none-first (presence (take n ts)) (presence (drop n ts))
    (sym (presence-append (take n ts) (drop n ts)) ∙ ap presence (take-append-drop n ts) ∙ none)

none-left : (n : ℕ) (columns : List Column) → presence (toggles columns) ≡ set.empty →
    tags_left_of (take n columns) ≡ set.empty
none-left n columns none =
    ap parity (sym (take-map (λ (column : Column). column.toggled) n columns))
    ∙ none-odd (take n (toggles columns)) (none-front n (toggles columns) none)

none-in : (lines : List LineContent) → (count_of lines).presence ≡ set.empty →
    presence (toggles (whole lines).columns) ≡ set.empty
none-in lines none = sym (count-presence lines) ∙ none

-- no slot is on at an offset, and none before it
pub bare-at : (lines : List LineContent) (offset : ℕ) → (count_of lines).presence ≡ set.empty →
    offset < length (content_of lines).cells → slice_get (slot_sets (content_of lines).cells) offset ≡ Some set.empty
bare-at lines offset none within =
    let columns = (whole lines).columns in
    tags-column columns offset (omega (arith, length-content lines, within))
    ∙ ap (λ s. Some s) (none-left (offset + 1) columns (none-in lines none))

pub bare-before : (lines : List LineContent) (offset : ℕ) → (count_of lines).presence ≡ set.empty →
    offset < length (content_of lines).cells → slots_left_of offset (content_of lines).cells ≡ set.empty
bare-before lines offset none within =
    let columns = (whole lines).columns in
    tags-behind columns offset (omega (arith, length-content lines, within))
    ∙ none-left offset columns (none-in lines none)
