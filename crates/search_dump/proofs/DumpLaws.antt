-- What is listed of the tags at a place.
use Rattle.search_dump.proofs.Common.{◌≡◌, ℕ, zero, suc, ◌+◌, ◌-◌, ◌<◌, ◌≤◌, ◌&&◌, ◌||◌, ◌==◌, Bool, true, false, cond}
use Rattle.search_dump.proofs.Common.{List, [], ◌∷◌, ◌++◌, length, map, take, get_or, refl, sym, ap, ap₂, subst, ◌∙◌}
use Rattle.search_dump.proofs.Common.{arith, not, slice_index_or, filter, flat_map, list_any, prefix_len, eq-eqb}
use Rattle.search_dump.proofs.Common.{lt-ltb, ne_eqb, flat_map_more, get_or-map, take_more, Tag, slots_of, Goes}
use Rattle.search_dump.proofs.Common.{goes_on, flag_at, Slots, is_set, ranges_behind, tag_ranges, TagRange, slot_of_row}
use Rattle.search_dump.proofs.Common.{element, flag_before, if_listed, only_in, own_slot}
use Rattle.tag_table.specs.Tags.{names_of}
use Rattle.std.specs.FinSet as set

-- one element more of a list that is made of several for each
pub goes_flat : {A : Type 0} (f : A → List (List ℕ)) (old between new : List ℕ) (xs : List A) (at : ℕ) (d : A)
    (more : List (List ℕ)) → at < length xs → more ≡ f (get_or xs at d)
    → Goes old between (flat_map f (take at xs)) → Goes between new more → Goes old new (flat_map f (take (at + 1) xs))
goes_flat f old between new xs at d more within is first second =
    subst (Goes old new)
    (ap (λ ys. flat_map f (take at xs) ++ ys) is ∙ flat_map_more f [] (take at xs) (get_or xs at d)
    ∙ ap (flat_map f) (sym (take_more xs at d within)))
    (goes_on old between new (flat_map f (take at xs)) more first second)

pub no_tag : Tag
no_tag = record { name = []; slot = 0 }

pub slot-there : (widget : ℕ) (tags : List Tag) (at : ℕ) → at < length tags →
    slot_of_row widget (slots_of tags) at ≡ own_slot widget (get_or tags at no_tag).slot
slot-there widget tags at within =
    ap (own_slot widget) (get_or-map (λ (tag : Tag). tag.slot) tags at no_tag 0 within)

-- the tag at a place of the table
pub tag-row : (on off : Slots) (widget : ℕ) (key text : List ℕ) (place : ℕ) (tags : List Tag) (at : ℕ) (d : Tag)
    (is : Bool) (slot : ℕ) → at < length tags
    → is ≡ (set.contains on slot && not (set.contains off slot)) →
    slot ≡ own_slot widget (slice_index_or (slots_of tags) at 0)
    → if_listed is (element key text place (slice_index_or (names_of tags) at []))
    ≡ only_in on off widget key text place (get_or tags at d)
tag-row on off widget key text place tags at d is slot within is_only is_slot =
    let same : slot ≡ own_slot widget (get_or tags at d).slot = is_slot
    ∙ ap (own_slot widget) (get_or-map (λ (tag : Tag). tag.slot) tags at d 0 within) in
    ap (λ b. if_listed b (element key text place (slice_index_or (names_of tags) at []))) (is_only
    ∙ ap (λ s. set.contains on s && not (set.contains off s)) same)
    ∙ ap (λ name. if_listed (set.contains on (own_slot widget (get_or tags at d).slot)
    && not (set.contains off (own_slot widget (get_or tags at d).slot))) (element key text place name))
    (get_or-map (λ (tag : Tag). tag.name) tags at d [] within)

-- a tag that is on in both sets or in none isn't listed
same-only : (b : Bool) → (b && not b) ≡ false
same-only true = refl
same-only false = refl

pub alike-none : (on off : Slots) (widget : ℕ) (key text : List ℕ) (place : ℕ) (tags : List Tag) (at : ℕ) →
    at < length tags
    → set.contains on (slot_of_row widget (slots_of tags) at) ≡ set.contains off (slot_of_row widget (slots_of tags) at)
    → only_in on off widget key text place (get_or tags at no_tag) ≡ []
alike-none on off widget key text place tags at within same =
    let tag = get_or tags at no_tag in
    let there = slot-there widget tags at within in
    ap (λ b. if_listed (b && not (set.contains off (own_slot widget tag.slot))) (element key text place tag.name))
    (sym (ap (set.contains on) there) ∙ same ∙ ap (set.contains off) there)
    ∙ ap (λ b. if_listed b (element key text place tag.name)) (same-only (set.contains off (own_slot widget tag.slot)))

-- elements of which nothing comes, before some place and from it on
pub flat-front : {A : Type 0} (f : A → List (List ℕ)) (d : A) (xs : List A) (n : ℕ) →
    ((at : ℕ) → at < length xs → at < n → f (get_or xs at d) ≡ []) → flat_map f (take n xs) ≡ []
flat-front f d xs zero none = refl
flat-front f d [] (suc n) none = refl
flat-front f d (x ∷ xs) (suc n) none =
    ap₂ (λ a b. a ++ b) (none 0 (omega arith) (omega arith))
    (flat-front f d xs n (λ at within below. none (suc at) (omega arith) (omega arith)))

pub flat-rest : {A : Type 0} (f : A → List (List ℕ)) (d : A) (xs : List A) (n : ℕ) →
    ((at : ℕ) → at < length xs → n ≤ at → f (get_or xs at d) ≡ []) → flat_map f (take n xs) ≡ flat_map f xs
flat-rest f d [] zero none = refl
flat-rest f d [] (suc n) none = refl
flat-rest f d (x ∷ xs) zero none =
    sym (ap₂ (λ a b. a ++ b) (none 0 (omega arith) (omega arith))
    (sym (flat-rest f d xs zero (λ at within above. none (suc at) (omega arith) (omega arith)))))
flat-rest f d (x ∷ xs) (suc n) none =
    ap (λ ys. f x ++ ys) (flat-rest f d xs n (λ at within above. none (suc at) (omega arith) (omega arith)))

flat-cond : {B : Type 0} (b : Bool) (x : B) (xs : List B) (g : B → List (List ℕ)) →
    flat_map g (cond b (x ∷ xs) xs) ≡ if_listed b (g x) ++ flat_map g xs
flat-cond true x xs g = refl
flat-cond false x xs g = refl

pub flat-filter : {A B : Type 0} (g : B → List (List ℕ)) (is : B → Bool) (f : A → B) (h : A → List (List ℕ)) (d : A)
    (xs : List A)
    → ((at : ℕ) → at < length xs → if_listed (is (f (get_or xs at d))) (g (f (get_or xs at d))) ≡ h (get_or xs at d))
    → flat_map g (filter is (map f xs)) ≡ flat_map h xs
flat-filter g is f h d [] each = refl
flat-filter g is f h d (x ∷ xs) each =
    flat-cond (is (f x)) (f x) (filter is (map f xs)) g
    ∙ ap (λ ys. ys ++ flat_map g (filter is (map f xs))) (each 0 (omega arith))
    ∙ ap (λ ys. h x ++ ys) (flat-filter g is f h d xs (λ at within. each (suc at) (omega arith)))

-- ---- where the ranges of a tag begin and end

-- whether the flag before a place is set, where another flag stands before all
abbrev flag_behind : Bool → List Bool → ℕ → Bool
flag_behind before flags zero = before
flag_behind before flags (suc k) = flag_at flags k

no-start : (before : Bool) (at place : ℕ) (flags : List Bool) → place < at →
    list_any (λ (range : TagRange). range.start == place) (ranges_behind before at flags) ≡ false
no-start before at place [] past = refl
no-start before at place (false ∷ flags) past = no-start false (suc at) place flags (omega arith)
no-start true at place (true ∷ flags) past = no-start true (suc at) place flags (omega arith)
no-start false at place (true ∷ flags) past =
    ap (λ b. b || list_any (λ (range : TagRange). range.start == place) (ranges_behind true (suc at) flags))
    (ne_eqb at place (λ same. omega arith)) ∙ no-start true (suc at) place flags (omega arith)

no-end : (before : Bool) (at place : ℕ) (flags : List Bool) → place ≤ at →
    list_any (λ (range : TagRange). range.end == place) (ranges_behind before at flags) ≡ false
no-end before at place [] past = refl
no-end before at place (false ∷ flags) past = no-end false (suc at) place flags (omega arith)
no-end true at place (true ∷ flags) past = no-end true (suc at) place flags (omega arith)
no-end false at place (true ∷ flags) past =
    ap (λ b. b || list_any (λ (range : TagRange). range.end == place) (ranges_behind true (suc at) flags))
    (ne_eqb (suc at + prefix_len is_set flags) place (λ same. omega arith))
    ∙ no-end true (suc at) place flags (omega arith)

behind-more : (before flag : Bool) (flags : List Bool) (k : ℕ) →
    flag_behind before (flag ∷ flags) (suc k) ≡ flag_behind flag flags k
behind-more before flag flags zero = refl
behind-more before flag flags (suc k) = refl

starts-there : (before : Bool) (at k place : ℕ) (flags : List Bool) → at + k ≡ place
    → list_any (λ (range : TagRange). range.start == place) (ranges_behind before at flags)
    ≡ (flag_at flags k && not (flag_behind before flags k))
starts-there before at k place [] is = refl
starts-there before at zero place (false ∷ flags) is = no-start false (suc at) place flags (omega arith)
starts-there before at (suc k) place (false ∷ flags) is =
    starts-there false (suc at) k place flags (omega arith)
    ∙ ap (λ b. flag_at flags k && not b) (sym (behind-more before false flags k))
starts-there true at zero place (true ∷ flags) is = no-start true (suc at) place flags (omega arith)
starts-there true at (suc k) place (true ∷ flags) is =
    starts-there true (suc at) k place flags (omega arith)
    ∙ ap (λ b. flag_at flags k && not b) (sym (behind-more true true flags k))
starts-there false at zero place (true ∷ flags) is =
    ap (λ b. b || list_any (λ (range : TagRange). range.start == place) (ranges_behind true (suc at) flags))
    (eq-eqb at place (omega arith))
starts-there false at (suc k) place (true ∷ flags) is =
    ap (λ b. b || list_any (λ (range : TagRange). range.start == place) (ranges_behind true (suc at) flags))
    (ne_eqb at place (λ same. omega arith))
    ∙ starts-there true (suc at) k place flags (omega arith)
    ∙ ap (λ b. flag_at flags k && not b) (sym (behind-more false true flags k))

-- the run that is open ends somewhere too
abbrev ends_open : Bool → ℕ → List Bool → ℕ → Bool
ends_open before at flags place =
    cond before ((at + prefix_len is_set flags == place)
    || list_any (λ (range : TagRange). range.end == place) (ranges_behind true at flags))
    (list_any (λ (range : TagRange). range.end == place) (ranges_behind false at flags))

ends-there : (before : Bool) (at k place : ℕ) (flags : List Bool) → at + k ≡ place →
    ends_open before at flags place ≡ (flag_behind before flags k && not (flag_at flags k))
ends-there false at zero place [] is = refl
ends-there false at (suc k) place [] is = refl
ends-there true at zero place [] is = ap (λ b. b || false) (eq-eqb (at + 0) place (omega arith))
ends-there true at (suc k) place [] is = ap (λ b. b || false) (ne_eqb (at + 0) place (λ same. omega arith))
ends-there false at zero place (false ∷ flags) is = no-end false (suc at) place flags (omega arith)
ends-there false at (suc k) place (false ∷ flags) is =
    ends-there false (suc at) k place flags (omega arith)
    ∙ ap (λ b. b && not (flag_at flags k)) (sym (behind-more false false flags k))
ends-there true at zero place (false ∷ flags) is =
    ap (λ b. b || list_any (λ (range : TagRange). range.end == place) (ranges_behind false (suc at) flags))
    (eq-eqb (at + 0) place (omega arith))
ends-there true at (suc k) place (false ∷ flags) is =
    ap (λ b. b || list_any (λ (range : TagRange). range.end == place) (ranges_behind false (suc at) flags))
    (ne_eqb (at + 0) place (λ same. omega arith))
    ∙ ends-there false (suc at) k place flags (omega arith)
    ∙ ap (λ b. b && not (flag_at flags k)) (sym (behind-more true false flags k))
ends-there true at zero place (true ∷ flags) is =
    ap (λ b. b || list_any (λ (range : TagRange). range.end == place) (ranges_behind true (suc at) flags))
    (ne_eqb (at + (1 + prefix_len is_set flags)) place (λ same. omega arith))
    ∙ no-end true (suc at) place flags (omega arith)
ends-there true at (suc k) place (true ∷ flags) is =
    ap (λ n. (n == place) || list_any (λ (range : TagRange). range.end == place) (ranges_behind true (suc at) flags))
    (omega arith)
    ∙ ends-there true (suc at) k place flags (omega arith)
    ∙ ap (λ b. b && not (flag_at flags k)) (sym (behind-more true true flags k))
ends-there false at zero place (true ∷ flags) is =
    ap (λ b. b || list_any (λ (range : TagRange). range.end == place) (ranges_behind true (suc at) flags))
    (ne_eqb (suc at + prefix_len is_set flags) place (λ same. omega arith))
    ∙ no-end true (suc at) place flags (omega arith)
ends-there false at (suc k) place (true ∷ flags) is =
    ends-there true (suc at) k place flags (omega arith)
    ∙ ap (λ b. b && not (flag_at flags k)) (sym (behind-more false true flags k))

before-is : (flags : List Bool) (place : ℕ) → flag_behind false flags place ≡ flag_before flags place
before-is flags zero = refl
before-is flags (suc k) =
    sym (ap (λ b. b && flag_at flags (suc k - 1)) (lt-ltb 0 (suc k) (omega arith)) ∙ ap (flag_at flags) (omega arith))

-- a range begins where a flag is set behind one that isn't, and ends where it is the other way round
pub begins-is : (flags : List Bool) (place : ℕ) →
    list_any (λ (range : TagRange). range.start == place) (tag_ranges flags)
    ≡ (flag_at flags place && not (flag_before flags place))
begins-is flags place = starts-there false 0 place place flags (omega arith)
    ∙ ap (λ b. flag_at flags place && not b) (before-is flags place)

pub ends-is : (flags : List Bool) (place : ℕ) → list_any (λ (range : TagRange). range.end == place) (tag_ranges flags)
    ≡ (flag_before flags place && not (flag_at flags place))
ends-is flags place = ends-there false 0 place place flags (omega arith)
    ∙ ap (λ b. b && not (flag_at flags place)) (before-is flags place)
