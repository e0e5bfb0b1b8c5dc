-- Lists of elements as they are written.
use Rattle.documents.proofs.Common.{◌≡◌, ℕ, zero, suc, ◌+◌, ◌-◌, ◌<◌, ◌≤◌, Bool, true, false, List, [], ◌∷◌, ◌++◌}
use Rattle.documents.proofs.Common.{length, refl, sym, ap, subst, ◌∙◌, arith, None, Some, IfSome, slice_get, filter}
use Rattle.documents.proofs.Common.{if◌then◌else◌, none-some, same_Some, chars-nil, Tag, names_of, slots_of}
use Rattle.documents.proofs.Common.{append_assoc, append-nil, map-append, ranges_from-first, goes_nowhere, goes_on}
use Rattle.documents.proofs.Common.{Goes, Option, chars, take, position_text, tag_ranges, ranges_from, and_later}
use Rattle.documents.proofs.Common.{take-found, filter-in, filter-out, is_filled, range_words, TagRange}

range_words-append : (text : List ℕ) (ranges more : List TagRange) →
    range_words text (ranges ++ more) ≡ range_words text ranges ++ range_words text more
range_words-append text [] more = refl
range_words-append text (range ∷ ranges) more =
    ap (λ ws. position_text text range.start ∷ position_text text range.end ∷ ws) (range_words-append text ranges more)

-- The ranges before one, if there is one, are listed.
pub record IsListed (text : List ℕ) (flags : List Bool) (old new : List ℕ) (next : Option TagRange) : Type 0 where
  pub done : List TagRange
  pub ranges : tag_ranges flags ≡ done ++ and_later flags next
  pub goes : Goes old new (range_words text done)

pub listed-none : (text : List ℕ) (flags : List Bool) (bytes : List ℕ) (next : Option TagRange) →
    ranges_from flags 0 ≡ and_later flags next → IsListed text flags bytes bytes next
listed-none text flags bytes next later =
    record { done = []; ranges = sym (ranges_from-first flags) ∙ later; goes = goes_nowhere bytes }

pub listed-more : (text : List ℕ) (flags : List Bool) (old between new : List ℕ) (found : Option TagRange)
    (range : TagRange) (next : Option TagRange) → IsListed text flags old between found → found ≡ Some range →
    ranges_from flags range.end ≡ and_later flags next → Goes between new (range_words text (range ∷ [])) →
    IsListed text flags old new next
listed-more text flags old between new found range next listed is later goes = record {
  done = listed.done ++ range ∷ [];
  ranges = listed.ranges ∙ ap (λ r. listed.done ++ and_later flags r) is
      ∙ ap (λ rs. listed.done ++ range ∷ rs) later
      ∙ sym (append_assoc listed.done (range ∷ []) (and_later flags next));
  goes = subst (Goes old new) (sym (range_words-append text listed.done (range ∷ [])))
      (goes_on old between new (range_words text listed.done) _ listed.goes goes);
}

-- How far the first of the ranges that aren't listed begins before the end of a view: its columns go from one to another.
abbrev pub left_of : ℕ → ℕ → Option TagRange → ℕ
left_of first end None = 0
left_of first end (Some range) = suc (end - (first + range.start))

pub left-less : (first end : ℕ) (found : Option TagRange) (range : TagRange) (next : Option TagRange) →
    found ≡ Some range → range.start < range.end → first + range.end ≤ end →
    IfSome next (λ later. range.end ≤ later.start) → left_of first end next < left_of first end found
left-less first end found range None is some within behind =
    subst (λ r. 0 < left_of first end r) (sym is) (let e : 0 < suc (end - (first + range.start)) = omega arith in e)
left-less first end found range (Some later) is some within behind =
    subst (λ r. left_of first end (Some later) < left_of first end r) (sym is)
    (let e : suc (end - (first + later.start)) < suc (end - (first + range.start)) = omega (arith, some, within, behind) in e)

-- a name more
pub goes_name : (old between new : List ℕ) (names : List (List ℕ)) (at : ℕ) (name : List ℕ) →
    Goes old between (take at names) → Goes between new (name ∷ []) → slice_get names at ≡ Some name
    → Goes old new (take (at + 1) names)
goes_name old between new names at name first second is =
    subst (Goes old new) (sym (take-found names at name is))
    (goes_on old between new (take at names) (name ∷ []) first second)

-- a tag more, whose name is taken in if that is wanted
pub goes_wanted : (old between new : List ℕ) (tags : List Tag) (wanted : Tag → Bool) (at slot : ℕ) (name : List ℕ) →
    Goes old between (names_of (filter wanted (take at tags)))
    → slice_get (names_of tags) at ≡ Some name → slice_get (slots_of tags) at ≡ Some slot
    → Goes between new (if wanted (record { name = name; slot = slot }) then name ∷ [] else []) →
    Goes old new (names_of (filter wanted (take (at + 1) tags)))
goes_wanted old between new tags wanted at slot name first named is second =
    let tag : slice_get tags at ≡ Some (record { name = name; slot = slot }) = tag_at tags at name slot named is in
    elim (wanted (record { name = name; slot = slot })) as (λ b. wanted (record { name = name; slot = slot }) ≡ b →
    Goes between new (if b then name ∷ [] else []) → Goes old new (names_of (filter wanted (take (at + 1) tags)))) [
      | true ↦ λ passes goes.
          subst (Goes old new) (sym (ap names_of (filter-in wanted tags at _ tag passes)
          ∙ map-append (λ (t : Tag). t.name) (filter wanted (take at tags))
          (record { name = name; slot = slot } ∷ [])))
          (goes_on old between new (names_of (filter wanted (take at tags))) (name ∷ []) first goes)
      | false ↦ λ fails goes.
          subst (Goes old new) (append-nil (names_of (filter wanted (take at tags)))
          ∙ sym (ap names_of (filter-out wanted tags at _ tag fails)))
          (goes_on old between new (names_of (filter wanted (take at tags))) [] first goes)
    ] refl second
  where
    tag_at : (tags : List Tag) (at : ℕ) (name : List ℕ) (slot : ℕ) → slice_get (names_of tags) at ≡ Some name →
        slice_get (slots_of tags) at ≡ Some slot
        → slice_get tags at ≡ Some (record { name = name; slot = slot })
    tag_at [] at name slot named is = absurd (none-some name named)
    tag_at (tag ∷ tags) zero name slot named is =
        λ i. Some (record { name = same_Some tag.name name named i; slot = same_Some tag.slot slot is i })
    tag_at (tag ∷ tags) (suc at) name slot named is = tag_at tags at name slot named is

-- a text of no bytes isn't listed
pub unfilled : (bytes text : List ℕ) → chars bytes ≡ text → length bytes ≡ 0 → is_filled text ≡ false
unfilled [] text is none = ap is_filled (sym is ∙ chars-nil)
unfilled (b ∷ bytes) text is none = absurd (omega (arith, none))
