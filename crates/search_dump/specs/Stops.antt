-- Where a dump stops: from there to the next stop nothing is listed besides text.
use Rattle.std.specs.Prelude.{◌≡◌, ℕ, ◌<◌, ◌≤◌, ◌⊎◌, ◌||◌, Bool, true, false, Option, None, Some, List, ◌++◌, min}
use Rattle.std.specs.List.{list_any}
use Rattle.search_dump.specs.Dump.{Seen, begins_at, ends_at, if_listed, is_cut, stands_at, tagoff_elements}
use Rattle.search_dump.specs.Dump.{tagon_elements}
use Rattle.search_dump.specs.declared.dumping.Listed.{Listed}
use Rattle.search_dump.specs.declared.dumped_marks.Marked.{Marked}

-- whether a tag begins or ends at a place, and whether a mark stands there
abbrev pub has_tag_at : Seen → ℕ → Bool
has_tag_at seen place = list_any (λ tag. begins_at place tag || ends_at place tag) seen.tags

abbrev pub has_mark_at : Seen → ℕ → Bool
has_mark_at seen place = list_any (stands_at place) seen.marks

abbrev pub stops_at_tags : Listed → Bool
stops_at_tags listed = listed.tags || listed.text

abbrev pub stops_at_marks : Listed → Bool
stops_at_marks listed = listed.marks || listed.text

-- a test fails between two places
abbrev pub FailsBetween : (ℕ → Bool) → ℕ → ℕ → Type 0
FailsBetween test place next = (k : ℕ) → place < k → k < next → test k ≡ false

-- a stop before or at a place, up to which a test fails, and at which it holds if the stop stands before that place
pub record IsNextStop (test : ℕ → Bool) (place to next : ℕ) : Type 0 where
  pub fails : FailsBetween test place next
  pub reached : (next ≡ to) ⊎ (test next ≡ true)

-- the place of a mark, if it stands before another place
abbrev pub stop_at_mark : ℕ → Option Marked → ℕ
stop_at_mark to None = to
stop_at_mark to (Some mark) = min to mark.place

-- what is listed of the tags at a place
abbrev pub tag_stops : Listed → Seen → ℕ → List (List ℕ)
tag_stops listed seen place =
    if_listed listed.tags (tagoff_elements seen place) ++ if_listed listed.tags (tagon_elements seen place)

-- the next stop of a dump behind a place
pub record IsStop (listed : Listed) (seen : Seen) (place to next : ℕ) : Type 0 where
  pub above : place < next
  pub below : next ≤ to
  pub tags : listed.tags ≡ true → FailsBetween (has_tag_at seen) place next
  pub marks : listed.marks ≡ true → FailsBetween (has_mark_at seen) place next
  pub cut : listed.text ≡ true → IsNextStop (is_cut seen) place to next
