-- What `dump` answers (text(n), "dump"): at each place the tags that end there, those that begin there, the marks, and
-- the text up to the next place where it is cut.
use Rattle.std.specs.Prelude.{ℕ, zero, suc, ◌-◌, nat_le, nat_lt, Bool, not, ◌&&◌, ◌||◌, ◌==◌, List, [], ◌∷◌, ◌++◌, map}
use Rattle.std.specs.Prelude.{filter, length, take, drop, codes, if◌then◌else◌, slice_index_or}
use Rattle.std.specs.List.{flat_map, list_any, prefix_len}
use Rattle.mark_table.specs.Order.{usable}
use Rattle.mark_table.specs.SharedMarks.{Mark, names_of, numbers_of}
use Rattle.mark_table.specs.declared.order.Shown.{Shown}
use Rattle.tag_table.specs.Tags.{Tag}
use Rattle.text_model.specs.Changes.{flag_at}
use Rattle.text_model.specs.Content.{Slots}
use Rattle.std.specs.FinSet as set
use Rattle.text_index.specs.Positions.{position_text}
use Rattle.text_index.specs.Ranges.{tag_ranges}
use Rattle.text_index.specs.Values.{column_of}
use Rattle.text_index.specs.Views.{Part, shown, shown_flags}
use Rattle.text_index.specs.declared.ranges.TagRange.{TagRange}
use Rattle.search_dump.specs.Matches.{places}
use Rattle.search_dump.specs.declared.dumping.Listed.{Listed}

-- a tag by its name, with its ranges
pub record Tagged : Type 0 where
  pub name : List ℕ
  pub ranges : List TagRange

-- a mark by its name, with its place
pub record Marked : Type 0 where
  pub name : List ℕ
  pub place : ℕ

-- What a widget sees: the characters of its view, the tags from lowest to highest, and the marks that it can use; those
-- at one place stand in their order.
pub record Seen : Type 0 where
  pub text : List ℕ
  pub tags : List Tagged
  pub marks : List Marked

-- whether the flag before a place is set
abbrev pub flag_before : List Bool → ℕ → Bool
flag_before flags place = nat_lt 0 place && flag_at flags (place - 1)

-- ---- what stands at a place

abbrev pub begins_at : ℕ → Tagged → Bool
begins_at place tag = list_any (λ (range : TagRange). range.start == place) tag.ranges

abbrev pub ends_at : ℕ → Tagged → Bool
ends_at place tag = list_any (λ (range : TagRange). range.end == place) tag.ranges

abbrev pub stands_at : ℕ → Marked → Bool
stands_at place mark = mark.place == place

-- text is cut where a line begins, and where a mark stands or a tag begins or ends
abbrev pub is_cut : Seen → ℕ → Bool
is_cut seen place =
    column_of seen.text place == 0
    || (list_any (stands_at place) seen.marks || list_any (λ tag. begins_at place tag || ends_at place tag) seen.tags)

-- the text from a place on up to the next cut, or up to a last place
abbrev pub piece : Seen → ℕ → ℕ → List ℕ
piece seen to place =
    take (suc (prefix_len (λ later. not (is_cut seen later)) (places (suc place) to))) (drop place seen.text)

-- ---- elements: what it is, its name or characters, and where

abbrev pub element : List ℕ → List ℕ → ℕ → List ℕ → List (List ℕ)
element key text place value = key ∷ value ∷ position_text text place ∷ []

abbrev pub if_listed : Bool → List (List ℕ) → List (List ℕ)
if_listed listed words = if listed then words else []

abbrev pub tag_elements : List ℕ → (Tagged → Bool) → Seen → ℕ → List (List ℕ)
tag_elements key is seen place = flat_map (λ (tag : Tagged). element key seen.text place tag.name) (filter is seen.tags)

abbrev pub tagoff_elements : Seen → ℕ → List (List ℕ)
tagoff_elements seen place = tag_elements (codes "tagoff") (ends_at place) seen place

abbrev pub tagon_elements : Seen → ℕ → List (List ℕ)
tagon_elements seen place = tag_elements (codes "tagon") (begins_at place) seen place

abbrev pub mark_elements : Seen → ℕ → List (List ℕ)
mark_elements seen place =
    flat_map (λ (mark : Marked). element (codes "mark") seen.text place mark.name) (filter (stands_at place) seen.marks)

-- the text that begins at a place, if it is cut there or the dump begins there
abbrev pub text_elements : Seen → ℕ → ℕ → ℕ → List (List ℕ)
text_elements seen from to place =
    if place == from || is_cut seen place then element (codes "text") seen.text place (piece seen to place) else []

abbrev pub elements_at : Listed → Seen → ℕ → ℕ → ℕ → List (List ℕ)
elements_at listed seen from to place =
    if_listed listed.tags (tagoff_elements seen place)
    ++ (if_listed listed.tags (tagon_elements seen place)
    ++ (if_listed listed.marks (mark_elements seen place)
    ++ if_listed listed.text (text_elements seen from to place)))

-- the end of the text has the tags that end there, and marks
abbrev pub elements_at_end : Listed → Seen → ℕ → ℕ → List (List ℕ)
elements_at_end listed seen from to =
    if nat_le from to && to == length seen.text then if_listed listed.tags (tagoff_elements seen to)
    ++ if_listed listed.marks (mark_elements seen to) else []

-- those of each place from one to before another, and of the last one if it is the end of the text
abbrev pub dump_elements : Listed → Seen → ℕ → ℕ → List (List ℕ)
dump_elements listed seen from to =
    flat_map (elements_at listed seen from to) (places from to) ++ elements_at_end listed seen from to

-- ---- what a widget sees of a document: a part of its text, with its tables of tags and marks and the slot of the
-- widget's own `sel`

pub record Outlook : Type 0 where
  pub part : Part
  pub tags : List Tag
  pub marks : List Mark
  pub widget : ℕ

-- the slot in which the store knows a tag: for `sel`, which has slot 0, that of the widget's own
abbrev pub own_slot : ℕ → ℕ → ℕ
own_slot widget slot = if slot == 0 then widget else slot

abbrev pub tag_seen : Outlook → Tag → Tagged
tag_seen outlook tag =
    record { name = tag.name; ranges = tag_ranges (shown_flags (own_slot outlook.widget tag.slot) outlook.part) }

-- the name of a mark by its rank: the shared ones stand behind the widget's own two
abbrev pub name_of_rank : List (List ℕ) → ℕ → List ℕ
name_of_rank names zero = codes "insert"
name_of_rank names (suc zero) = codes "current"
name_of_rank names (suc (suc at)) = slice_index_or names at []

abbrev pub mark_seen : List Mark → ℕ → Shown → Marked
mark_seen marks start shown = record { name = name_of_rank (names_of marks) shown.rank; place = shown.place - start }

-- the marks that the widget can use in its part
abbrev pub usable_by : Outlook → List Shown
usable_by outlook = usable (record {
  widget = record { 0 = outlook.widget };
  start = outlook.part.start;
  end = outlook.part.end;
}) outlook.part.content.marks (numbers_of outlook.marks)

-- what the widget sees in its part
abbrev pub seen_by : Outlook → Seen
seen_by outlook = record {
  text = shown outlook.part;
  tags = map (tag_seen outlook) outlook.tags;
  marks = map (mark_seen outlook.marks outlook.part.start) (usable_by outlook);
}

-- ---- a tag by the slots of the characters beside a place: it is listed where its slot is on on one side alone

abbrev pub only_in : Slots → Slots → ℕ → List ℕ → List ℕ → ℕ → Tag → List (List ℕ)
only_in on off widget key text place tag =
    if_listed (set.contains on (own_slot widget tag.slot) && not (set.contains off (own_slot widget tag.slot)))
    (element key text place tag.name)
