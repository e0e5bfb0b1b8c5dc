-- The next stop of a dump, and what is listed up to it.
use Rattle.search_dump.proofs.Common.{length-shown_flags, outlook, Outlook, ◌≡◌, ℕ, zero, suc, inl, inr, ◌+◌, ◌-◌, ◌<◌}
use Rattle.search_dump.proofs.Common.{◌≤◌, ◌⊎◌, ◌||◌, ◌==◌, Bool, true, false, Option, None, Some, List, [], ◌∷◌, ◌++◌}
use Rattle.search_dump.proofs.Common.{length, take, drop, refl, sym, ap, ap₂, subst, ◌∙◌, arith, MatchOption, codes}
use Rattle.search_dump.proofs.Common.{not, slice_range, filter, flat_map, list_any, prefix_len, range_with_len}
use Rattle.search_dump.proofs.Common.{option_map, and_left, cases_eq, cases_lt, cond-false, cond-true, eq-eqb}
use Rattle.search_dump.proofs.Common.{false≢true, ne_eqb, or_left, or_parts, or_right, Shown, Goes, goes_nowhere}
use Rattle.search_dump.proofs.Common.{goes_on, flat_map-append, get_or_past, flag_at, length-shown, column_of, IsView}
use Rattle.search_dump.proofs.Common.{shown, shown_flags, Seen, begins_at, element, elements_at, ends_at, flag_before}
use Rattle.search_dump.proofs.Common.{if_listed, is_cut, mark_elements, mark_seen, own_slot, piece, seen_by, stands_at}
use Rattle.search_dump.proofs.Common.{tag_seen, tagoff_elements, tagon_elements, text_elements, Has, IsMarkFrom}
use Rattle.search_dump.proofs.Common.{shown_of, usable_by, places, FailsBetween, IsNextStop, IsStop, has_mark_at}
use Rattle.search_dump.proofs.Common.{has_tag_at, stop_at_mark, stops_at_marks, stops_at_tags, tag_stops, Listed}
use Rattle.search_dump.proofs.Common.{append_assoc, append-nil, earlier_place, get_or_from_slice_get, slice_get-get_or}
use Rattle.search_dump.proofs.Common.{slice_get_within}
use Rattle.search_dump.proofs.DumpLaws.{begins-is}
use Rattle.search_dump.specs.declared.dumped_marks.Marked.{Marked}
use Rattle.search_dump.proofs.MarkOrderLaws.{usable-placed}
use Rattle.search_dump.proofs.PlaceLaws.{places-none, places-split}
use Rattle.search_dump.proofs.TagStops.{any-map, none-of, one-of}

-- ---- marks

any-none : (test : Shown → Bool) (xs : List Shown) → ((y : Shown) → Has xs y → test y ≡ false) →
    list_any test xs ≡ false
any-none test xs none =
    none-of test (record { place = 0; rank = 0 }) xs (λ at within. none _ (at, slice_get-get_or xs at _ within))

any-some : (test : Shown → Bool) (xs : List Shown) (y : Shown) → Has xs y → test y ≡ true → list_any test xs ≡ true
any-some test xs y has is = one-of test y xs has.0 (slice_get_within xs has.0 y has.1)
    (ap test (get_or_from_slice_get xs has.0 y y has.1) ∙ is)

-- the first mark from a place on is that from a later one too, if it doesn't stand before it
pub mark-on : (marks : List Shown) (place later : ℕ) (first : Option Shown) → IsMarkFrom marks place first →
    place ≤ later → MatchOption first (Unit {0}) (λ m. later ≤ m.place) → IsMarkFrom marks later first
mark-on marks place later None from on within = λ mark has. omega (arith, from mark has)
mark-on marks place later (Some first) from on within =
    (from.0, within, λ mark has above. from.2 mark has (omega arith))

stands-same : (outlook : Outlook) (k : ℕ)
    → has_mark_at (seen_by outlook) k
    ≡ list_any (λ (mark : Shown). mark.place - outlook.part.start == k) (usable_by outlook)
stands-same outlook k =
    any-map (stands_at k) (mark_seen outlook.marks outlook.part.start) (usable_by outlook)

no-mark : (outlook : Outlook) (place k : ℕ)
    (mark : Option Marked) → outlook.part.start ≤ outlook.part.end
    → IsMarkFrom (usable_by outlook) (outlook.part.start + place + 1) (option_map (shown_of outlook.part.start) mark) →
    place < k → MatchOption mark (Unit {0}) (λ m. k < m.place)
    → has_mark_at (seen_by outlook) k ≡ false
no-mark outlook place k None ordered from above within =
    stands-same outlook k
    ∙ any-none (λ (mark : Shown). mark.place - outlook.part.start == k) (usable_by outlook) (λ y has.
    ne_eqb (y.place - outlook.part.start) k (λ same. omega (
      arith,
      from y has,
      (usable-placed outlook y ordered has).above,
    )))
no-mark outlook place k (Some mark) ordered from above within =
    stands-same outlook k
    ∙ any-none (λ (other : Shown). other.place - outlook.part.start == k) (usable_by outlook) (λ y has.
    ne_eqb (y.place - outlook.part.start) k (λ same.
    let low = (usable-placed outlook y ordered has).above in
    false≢true (sym (from.2 y has (omega arith)) ∙ earlier_place y (shown_of outlook.part.start mark) (omega arith))))

-- where a mark stops it
stop-bounds : (tag stop : ℕ) (mark : Option Marked) → stop ≡ stop_at_mark tag mark →
    (stop ≤ tag) × MatchOption mark (Unit {0}) (λ m. stop ≤ m.place)
stop-bounds tag stop None is = (omega arith, tt)
stop-bounds tag stop (Some mark) is = (omega arith, omega arith)

stop-reached : (outlook : Outlook) (place tag stop : ℕ)
    (mark : Option Marked)
    → IsMarkFrom (usable_by outlook) (outlook.part.start + place + 1) (option_map (shown_of outlook.part.start) mark) →
    stop ≡ stop_at_mark tag mark
    → (stop ≡ tag) ⊎ (has_mark_at (seen_by outlook) stop ≡ true)
stop-reached outlook place tag stop None from is = inl is
stop-reached outlook place tag stop (Some mark) from is =
    elim (cases_lt mark.place tag) [
      | inr more ↦ inl (omega arith)
      | inl less ↦ inr (stands-same outlook stop
          ∙ any-some (λ (other : Shown). other.place - outlook.part.start == stop) (usable_by outlook)
          (shown_of outlook.part.start mark) from.0 (eq-eqb (outlook.part.start + mark.place - outlook.part.start) stop (omega arith)))
    ]

within-mark : (k stop : ℕ) (mark : Option Marked) → k < stop → MatchOption mark (Unit {0}) (λ m. stop ≤ m.place) →
    MatchOption mark (Unit {0}) (λ m. k < m.place)
within-mark k stop None below within = tt
within-mark k stop (Some mark) below within = omega arith

shown-within : (start stop at_mark : ℕ) (mark : Option Marked) → stop ≤ at_mark →
    MatchOption mark (Unit {0}) (λ m. at_mark ≤ m.place) →
    MatchOption (option_map (shown_of start) mark) (Unit {0}) (λ m. start + stop ≤ m.place)
shown-within start stop at_mark None below within = tt
shown-within start stop at_mark (Some mark) below within = omega arith

module _ (outlook : Outlook) (listed : Listed)
    (mark : Option Marked) (place to tag at_mark stop : ℕ) (ordered : outlook.part.start ≤ outlook.part.end)
    (at_tag : stops_at_tags listed ≡ true →
    IsNextStop (has_tag_at (seen_by outlook)) place to tag)
    (from : stops_at_marks listed ≡ true →
    IsMarkFrom (usable_by outlook) (outlook.part.start + place + 1) (option_map (shown_of outlook.part.start) mark))
    (is_mark : at_mark ≡ stop_at_mark tag mark)
    (at_line : listed.text ≡ true → IsNextStop (λ k. column_of (shown outlook.part) k == 0) place at_mark stop)
    (above : place < stop) (below : stop ≤ at_mark) (tag_below : tag ≤ to) where
  bounds : (at_mark ≤ tag) × MatchOption mark (Unit {0}) (λ m. at_mark ≤ m.place)
  bounds = stop-bounds tag at_mark mark is_mark

  no-tags : stops_at_tags listed ≡ true →
      FailsBetween (has_tag_at (seen_by outlook)) place stop
  no-tags stops k low high = (at_tag stops).fails k low (omega (arith, bounds.0))

  no-marks : stops_at_marks listed ≡ true →
      FailsBetween (has_mark_at (seen_by outlook)) place stop
  no-marks stops k low high =
      no-mark outlook place k mark ordered (from stops) low
      (within-mark k at_mark mark (omega arith) bounds.1)

  cut-from : (k : ℕ) → (column_of (shown outlook.part) k == 0) ≡ false →
      has_mark_at (seen_by outlook) k ≡ false
      → has_tag_at (seen_by outlook) k ≡ false →
      is_cut (seen_by outlook) k ≡ false
  cut-from k column marked tagged =
      ap₂ (λ a b. a || b) column (ap₂ (λ a b. a || b) marked tagged)

  cut-at : (k : ℕ) → ((column_of (shown outlook.part) k == 0) ≡ true)
      ⊎ ((has_mark_at (seen_by outlook) k ≡ true)
      ⊎ (has_tag_at (seen_by outlook) k ≡ true))
      → is_cut (seen_by outlook) k ≡ true
  cut-at k is =
      let seen = seen_by outlook in
      elim is [
        | inl column ↦ or_left (column_of (shown outlook.part) k == 0) (has_mark_at seen k
            || has_tag_at seen k) column
        | inr other ↦ or_right (column_of (shown outlook.part) k == 0) (has_mark_at seen k
            || has_tag_at seen k) (elim other [
              | inl marked ↦ or_left (has_mark_at seen k) (has_tag_at seen k) marked
              | inr tagged ↦ or_right (has_mark_at seen k) (has_tag_at seen k) tagged
            ])
      ]

  pub stop-is : IsStop listed (seen_by outlook) place to stop
  stop-is =
      let seen = seen_by outlook in
      record {
        above = above;
        below = omega (arith, bounds.0);
        tags = λ is. no-tags (or_left listed.tags listed.text is);
        marks = λ is. no-marks (or_left listed.marks listed.text is);
        cut = λ is.
            let stops-tags = or_right listed.tags listed.text is in
            let stops-marks = or_right listed.marks listed.text is in
            record {
              fails = λ k low high. cut-from k ((at_line is).fails k low high) (no-marks stops-marks k low high)
                  (no-tags stops-tags k low high);
              reached = elim (at_line is).reached [
                | inr column ↦ inr (cut-at stop (inl column))
                | inl same ↦ elim (stop-reached outlook place tag at_mark mark
                    (from stops-marks) is_mark) [
                      | inr marked ↦ inr (cut-at stop (inr (inl (ap (has_mark_at seen) same ∙ marked))))
                      | inl also ↦ elim (at_tag stops-tags).reached [
                        | inl end-is ↦ inl (same ∙ also ∙ end-is)
                        | inr tagged ↦ inr (cut-at stop (inr (inr (ap (has_tag_at seen) (same ∙ also) ∙ tagged))))
                      ]
                    ]
              ];
            };
      }

  pub mark-stays : stops_at_marks listed ≡ true →
      IsMarkFrom (usable_by outlook) (outlook.part.start + stop) (option_map (shown_of outlook.part.start) mark)
  mark-stays stops = mark-on (usable_by outlook) (outlook.part.start + place + 1) (outlook.part.start + stop)
      (option_map (shown_of outlook.part.start) mark) (from stops) (omega arith)
      (shown-within outlook.part.start stop at_mark mark below bounds.1)

-- ---- what is listed

if-none : (listed : Bool) (xs : List (List ℕ)) → (listed ≡ true → xs ≡ []) → if_listed listed xs ≡ []
if-none true xs none = none refl
if-none false xs none = refl

filter-nothing : {A : Type 0} (test : A → Bool) (xs : List A) → list_any test xs ≡ false → filter test xs ≡ []
filter-nothing test [] none = refl
filter-nothing test (x ∷ xs) none =
    let parts = or_parts (test x) (list_any test xs) none in
    cond-false (test x) (x ∷ filter test xs) (filter test xs) parts.0 ∙ filter-nothing test xs parts.1

any-left : {A : Type 0} (first second : A → Bool) (xs : List A) → list_any (λ x. first x || second x) xs ≡ false →
    (list_any first xs ≡ false) × (list_any second xs ≡ false)
any-left first second [] none = (refl, refl)
any-left first second (x ∷ xs) none =
    let parts = or_parts (first x || second x) (list_any (λ y. first y || second y) xs) none in
    let both = or_parts (first x) (second x) parts.0 in
    let rest = any-left first second xs parts.1 in
    (ap₂ (λ a b. a || b) both.0 rest.0, ap₂ (λ a b. a || b) both.1 rest.1)

tagoffs-none : (seen : Seen) (k : ℕ) → has_tag_at seen k ≡ false → tagoff_elements seen k ≡ []
tagoffs-none seen k none =
    ap (flat_map (λ tag. element (codes "tagoff") seen.text k tag.name))
    (filter-nothing (ends_at k) seen.tags (any-left (begins_at k) (ends_at k) seen.tags none).1)

tagons-none : (seen : Seen) (k : ℕ) → has_tag_at seen k ≡ false → tagon_elements seen k ≡ []
tagons-none seen k none =
    ap (flat_map (λ tag. element (codes "tagon") seen.text k tag.name))
    (filter-nothing (begins_at k) seen.tags (any-left (begins_at k) (ends_at k) seen.tags none).0)

-- the stop of the tags and marks isn't behind that of the tags
pub stop-within : (tag at_mark : ℕ) (mark : Option Marked) → at_mark ≡ stop_at_mark tag mark → at_mark ≤ tag
stop-within tag at_mark mark is = (stop-bounds tag at_mark mark is).0

marks-none : (seen : Seen) (k : ℕ) → has_mark_at seen k ≡ false → mark_elements seen k ≡ []
marks-none seen k none =
    ap (flat_map (λ mark. element (codes "mark") seen.text k mark.name)) (filter-nothing (stands_at k) seen.marks none)

text-none : (seen : Seen) (from to k : ℕ) → from < k → is_cut seen k ≡ false → text_elements seen from to k ≡ []
text-none seen from to k above none =
    cond-false (k == from || is_cut seen k) (element (codes "text") seen.text k (piece seen to k)) []
    (ap₂ (λ a b. a || b) (ne_eqb k from (λ same. omega arith)) none)

-- between two stops nothing is listed
between-none : (listed : Listed) (seen : Seen) (from place to next k : ℕ) → from ≤ place →
    IsStop listed seen place to next → place < k → k < next → elements_at listed seen from to k ≡ []
between-none listed seen from place to next k begun stop low high =
    ap₂ (λ a b. a ++ b) (if-none listed.tags (tagoff_elements seen k) (λ is.
    tagoffs-none seen k (stop.tags is k low high)))
    (ap₂ (λ a b. a ++ b) (if-none listed.tags (tagon_elements seen k) (λ is.
    tagons-none seen k (stop.tags is k low high)))
    (ap₂ (λ a b. a ++ b) (if-none listed.marks (mark_elements seen k) (λ is.
    marks-none seen k (stop.marks is k low high)))
    (if-none listed.text (text_elements seen from to k) (λ is.
    text-none seen from to k (omega arith) ((stop.cut is).fails k low high)))))

flat-range : (f : ℕ → List (List ℕ)) (n low : ℕ) → ((k : ℕ) → low ≤ k → k < low + n → f k ≡ []) →
    flat_map f (range_with_len low n) ≡ []
flat-range f zero low none = refl
flat-range f (suc n) low none = ap₂ (λ a b. a ++ b) (none low (omega arith) (omega arith))
    (flat-range f n (low + 1) (λ k above below. none k (omega arith) (omega arith)))

-- from one stop to the next
flat-on : (f : ℕ → List (List ℕ)) (from place next : ℕ) → from ≤ place → place < next →
    ((k : ℕ) → place < k → k < next → f k ≡ []) → flat_map f (places from next)
    ≡ flat_map f (places from place) ++ f place
flat-on f from place next begun above none =
    ap (flat_map f) (places-split from place next begun (omega arith)
    ∙ ap (λ xs. places from place ++ xs) (places-split place (place + 1) next (omega arith) (omega arith)))
    ∙ flat_map-append f (places from place) (places place (place + 1) ++ places (place + 1) next)
    ∙ ap (λ xs. flat_map f (places from place) ++ xs)
    (flat_map-append f (places place (place + 1)) (places (place + 1) next)
    ∙ ap₂ (λ a b. a ++ b) (ap (λ n. flat_map f (range_with_len place n)) (let e : place + 1 - place ≡ 1 = omega arith in
    e) ∙ append-nil (f place))
    (flat-range f (next - (place + 1)) (place + 1) (λ k low high. none k (omega arith) (omega arith)))
    ∙ append-nil (f place))

prefix-range : (test : ℕ → Bool) (count low n : ℕ) → low ≤ n → n ≤ low + count →
    ((k : ℕ) → low ≤ k → k < n → test k ≡ true) → (n ≡ low + count) ⊎ (test n ≡ false) →
    prefix_len test (range_with_len low count) ≡ n - low
prefix-range test zero low n above below passes ends = omega arith
prefix-range test (suc count) low n above below passes ends =
    elim (cases_eq low n) [
      | inl same ↦
          let stops : test low ≡ false = elim ends [
            | inl far ↦ absurd (omega arith)
            | inr fails ↦ ap test same
                ∙ fails
          ] in
          cond-false (test low) (1 + prefix_len test (range_with_len (low + 1) count)) 0 stops ∙ omega arith
      | inr other ↦
          cond-true (test low) (1 + prefix_len test (range_with_len (low + 1) count)) 0
          (passes low (omega arith) (omega arith))
          ∙ ap (λ m. 1 + m) (prefix-range test count (low + 1) n (omega arith) (omega arith) (λ k low-k high.
          passes k (omega arith) high)
          (elim ends [ inl far ↦ inl (omega arith) | inr fails ↦ inr fails ]))
          ∙ omega arith
    ]

-- the text up to the next stop
piece-is : (seen : Seen) (place to next : ℕ) → place < next → next ≤ to → IsNextStop (is_cut seen) place to next →
    piece seen to place ≡ slice_range seen.text place next
piece-is seen place to next above below stop =
    ap (λ n. take n (drop place seen.text))
    (ap suc (prefix-range (λ later. not (is_cut seen later)) (to - suc place) (suc place) next (omega arith)
    (omega arith) (λ k low high. ap not (stop.fails k (omega arith) high))
    (elim stop.reached [ inl end-is ↦ inl (omega arith) | inr cut ↦ inr (ap not cut) ]))
    ∙ omega arith)

text-is : (listed : Bool) (seen : Seen) (from to place next : ℕ) → place < next → next ≤ to →
    (listed ≡ true → IsNextStop (is_cut seen) place to next) →
    (listed ≡ true → (place == from || is_cut seen place) ≡ true)
    → if_listed listed (text_elements seen from to place)
    ≡ if_listed listed (element (codes "text") seen.text place (slice_range seen.text place next))
text-is false seen from to place next above below stop begins = refl
text-is true seen from to place next above below stop begins =
    cond-true (place == from || is_cut seen place) (element (codes "text") seen.text place (piece seen to place)) []
    (begins refl)
    ∙ ap (element (codes "text") seen.text place) (piece-is seen place to next above below (stop refl))

pub dump-on : (listed : Listed) (seen : Seen) (from to place next : ℕ) (old now tagged marked new : List ℕ) →
    from ≤ place → IsStop listed seen place to next
    → (listed.text ≡ true → (place == from || is_cut seen place) ≡ true)
    → Goes old now (flat_map (elements_at listed seen from to) (places from place)) →
    Goes now tagged (tag_stops listed seen place) →
    Goes tagged marked (if_listed listed.marks (mark_elements seen place))
    →
    Goes marked new (if_listed listed.text
    (element (codes "text") seen.text place (slice_range seen.text place next)))
    → Goes old new (flat_map (elements_at listed seen from to) (places from next))
dump-on listed seen from to place next old now tagged marked new begun stop begins before tags marks text =
    let f = elements_at listed seen from to in
    let off = if_listed listed.tags (tagoff_elements seen place) in
    let on = if_listed listed.tags (tagon_elements seen place) in
    let mark = if_listed listed.marks (mark_elements seen place) in
    let written = if_listed listed.text (element (codes "text") seen.text place (slice_range seen.text place next)) in
    let here : (off ++ on) ++ (mark ++ written) ≡ f place =
    append_assoc off on (mark ++ written)
    ∙ sym (ap (λ xs. off ++ (on ++ (mark ++ xs)))
    (text-is listed.text seen from to place next stop.above stop.below stop.cut begins)) in
    subst (Goes old new)
    (ap (λ xs. flat_map f (places from place) ++ xs) here
    ∙ sym (flat-on f from place next begun stop.above (λ k low high.
    between-none listed seen from place to next k begun stop low high)))
    (goes_on old now new (flat_map f (places from place)) ((off ++ on) ++ (mark ++ written)) before
    (goes_on now tagged new (off ++ on) (mark ++ written) tags (goes_on tagged marked new mark written marks text)))

pub dump-begun : (f : ℕ → List (List ℕ)) (from : ℕ) (old : List ℕ) → Goes old old (flat_map f (places from from))
dump-begun f from old =
    subst (λ xs. Goes old old (flat_map f xs)) (sym (places-none from from (omega arith))) (goes_nowhere old)

pub cut-there : (place to : ℕ) (cut : Bool) → place < to → (place ≡ to) ⊎ (cut ≡ true) → cut ≡ true
cut-there place to cut before is = elim is [ inl end-is ↦ absurd (omega arith) | inr there ↦ there ]

pub cut-next : (seen : Seen) (from to next : ℕ) → (next ≡ to) ⊎ (is_cut seen next ≡ true) →
    (next ≡ to) ⊎ ((next == from || is_cut seen next) ≡ true)
cut-next seen from to next reached =
    elim reached [ inl end-is ↦ inl end-is | inr cut ↦ inr (or_right (next == from) (is_cut seen next) cut) ]

-- ---- the end of the text

any-never : {A : Type 0} (test : A → Bool) (xs : List A) → ((x : A) → test x ≡ false) → list_any test xs ≡ false
any-never test [] never = refl
any-never test (x ∷ xs) never = ap (λ b. b || list_any test xs) (never x) ∙ any-never test xs never

-- no tag begins there
tagons-end : (outlook : Outlook) (place : ℕ) →
    IsView outlook.part → place ≡ length (shown outlook.part)
    → tagon_elements (seen_by outlook) place ≡ []
tagons-end outlook place view is =
    let seen = seen_by outlook in
    ap (flat_map (λ tag. element (codes "tagon") seen.text place tag.name))
    (filter-nothing (begins_at place) seen.tags
    (any-map (begins_at place) (tag_seen outlook) outlook.tags
    ∙ any-never (λ tag. begins_at place (tag_seen outlook tag)) outlook.tags (λ tag.
    let all = shown_flags (own_slot outlook.widget tag.slot) outlook.part in
    let long = length-shown_flags outlook.part (own_slot outlook.widget tag.slot) view in
    begins-is all place ∙ and_left (flag_at all place) (not (flag_before all place))
    (get_or_past all place false (omega (arith, long, length-shown outlook.part view))))))

pub end-goes : (listed : Listed) (outlook : Outlook) (place : ℕ) (old between new : List ℕ) → IsView outlook.part → place ≡ length (shown outlook.part)
    → Goes old between (tag_stops listed (seen_by outlook) place) →
    Goes between new (if_listed listed.marks (mark_elements (seen_by outlook) place))
    → Goes old new (if_listed listed.tags (tagoff_elements (seen_by outlook) place)
    ++ if_listed listed.marks (mark_elements (seen_by outlook) place))
end-goes listed outlook place old between new view is first second =
    let seen = seen_by outlook in
    let off = if_listed listed.tags (tagoff_elements seen place) in
    let none : off ++ if_listed listed.tags (tagon_elements seen place) ≡ off =
    ap (λ xs. off ++ xs) (if-none listed.tags (tagon_elements seen place) (λ _.
    tagons-end outlook place view is)) ∙ append-nil off in
    goes_on old between new off (if_listed listed.marks (mark_elements seen place))
    (subst (Goes old between) none first) second
