-- What a widget sees at a place, as the store tells it.
use Rattle.search_dump.proofs.Common.{outlook, Outlook, ◌≡◌, ℕ, ◌<◌, ◌&&◌, Bool, List, length, get_or, refl, sym, ap}
use Rattle.search_dump.proofs.Common.{ap₂, subst, ◌∙◌, codes, not, flat_map, Tag, flag_at, Slots, shown, shown_flags}
use Rattle.search_dump.proofs.Common.{AreAt, AreBefore, begins_at, element, ends_at, flag_before, if_listed, only_in}
use Rattle.search_dump.proofs.Common.{own_slot, seen_by, tag_seen, tagoff_elements, tagon_elements}
use Rattle.std.specs.Str.{chars}
use Rattle.search_dump.proofs.DumpLaws.{begins-is, ends-is, flat-filter, no_tag, slot-there}
use Rattle.std.specs.FinSet as set

pub tagoff-characters : chars (codes "tagoff") ≡ codes "tagoff"
unfolding chars
tagoff-characters = refl

pub tagon-characters : chars (codes "tagon") ≡ codes "tagon"
unfolding chars
tagon-characters = refl

pub mark-characters : chars (codes "mark") ≡ codes "mark"
unfolding chars
mark-characters = refl

pub text-characters : chars (codes "text") ≡ codes "text"
unfolding chars
text-characters = refl

module _ (outlook : Outlook) (place : ℕ)
    (before behind : Slots) (are_before : AreBefore outlook place before)
    (are_behind : AreAt outlook place behind) where
  abbrev flags_of : Tag → List Bool
  flags_of tag = shown_flags (own_slot outlook.widget tag.slot) outlook.part

  before-there : (at : ℕ) → at < length outlook.tags → set.contains before (own_slot outlook.widget (get_or outlook.tags at no_tag).slot)
      ≡ flag_before (flags_of (get_or outlook.tags at no_tag)) place
  before-there at within =
      subst (λ slot. set.contains before slot ≡ flag_before (shown_flags slot outlook.part) place)
      (slot-there outlook.widget outlook.tags at within) (are_before at within)

  behind-there : (at : ℕ) → at < length outlook.tags → set.contains behind (own_slot outlook.widget (get_or outlook.tags at no_tag).slot)
      ≡ flag_at (flags_of (get_or outlook.tags at no_tag)) place
  behind-there at within =
      subst (λ slot. set.contains behind slot ≡ flag_at (shown_flags slot outlook.part) place)
      (slot-there outlook.widget outlook.tags at within) (are_behind at within)

  abbrev written : List ℕ → Tag → List (List ℕ)
  written key tag = element key (shown outlook.part) place tag.name

  pub tagoffs-are : flat_map (only_in before behind outlook.widget (codes "tagoff") (shown outlook.part) place) outlook.tags
      ≡ tagoff_elements (seen_by outlook) place
  tagoffs-are =
      sym (flat-filter (λ tag. element (codes "tagoff") (shown outlook.part) place tag.name) (ends_at place)
      (tag_seen outlook)
      (only_in before behind outlook.widget (codes "tagoff") (shown outlook.part) place) no_tag outlook.tags (λ at within.
      let tag = get_or outlook.tags at no_tag in
      ap (λ b. if_listed b (written (codes "tagoff") tag))
      (ends-is (flags_of tag) place
      ∙ sym (ap₂ (λ a b. a && not b) (before-there at within) (behind-there at within)))))

  pub tagons-are : flat_map (only_in behind before outlook.widget (codes "tagon") (shown outlook.part) place) outlook.tags
      ≡ tagon_elements (seen_by outlook) place
  tagons-are =
      sym (flat-filter (λ tag. element (codes "tagon") (shown outlook.part) place tag.name) (begins_at place)
      (tag_seen outlook)
      (only_in behind before outlook.widget (codes "tagon") (shown outlook.part) place) no_tag outlook.tags (λ at within.
      let tag = get_or outlook.tags at no_tag in
      ap (λ b. if_listed b (written (codes "tagon") tag))
      (begins-is (flags_of tag) place
      ∙ sym (ap₂ (λ a b. a && not b) (behind-there at within) (before-there at within)))))
