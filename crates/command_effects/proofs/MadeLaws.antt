-- Tables of tags as tags are made.
use Rattle.command_effects.proofs.Common.{◌≡◌, ℕ, suc, ◌+◌, ◌<◌, ◌≤◌, true, false, cond, List, [], ◌∷◌, ◌++◌, length}
use Rattle.command_effects.proofs.Common.{take, refl, sym, ap, subst, ◌∙◌, arith, inl, inr, ◌⊎◌, String, chars}
use Rattle.command_effects.proofs.Common.{string_bytes, get_or, IfSome, Option, None, Some, find, bytes_eq, slice_get}
use Rattle.command_effects.proofs.Common.{◌||◌, if◌then◌else◌, position_from, option_or, length-map, map-append}
use Rattle.command_effects.proofs.Common.{take_all, take-append-le, take-append-drop, length-append, find-append}
use Rattle.command_effects.proofs.Common.{texts_of, none-some, bytes_eq-Decides, Tag, Tags, names_of, slot_of, is_named}
use Rattle.command_effects.proofs.Common.{with_name, with_names, IsFront, is_among, is_same, drop, take-take, take_more}
use Rattle.command_effects.proofs.Common.{drop-cons}
use Rattle.std.specs.Prelude.{option_map}

-- an unknown name, and one that stands in a table, at a place
abbrev pub IsUnknown : List ℕ → List Tag → ℕ → Type 0
IsUnknown word tags at = (slot_of word tags ≡ None) × (position_from (is_same word) at (names_of tags) ≡ None)
    × (is_among word (names_of tags) ≡ false)

pub record Stands (word : List ℕ) (tags : List Tag) (at : ℕ) : Type 0 where
  pub tag_slot : ℕ
  pub place : ℕ
  pub slot : slot_of word tags ≡ Some tag_slot
  pub found : position_from (is_same word) at (names_of tags) ≡ Some (at + place)
  pub named : slice_get (names_of tags) place ≡ Some word
  pub among : is_among word (names_of tags) ≡ true

pub found_tag : (word : List ℕ) (tags : List Tag) (at : ℕ) → IsUnknown word tags at ⊎ Stands word tags at
found_tag word [] at = inl (refl, refl, refl)
found_tag word (tag ∷ tags) at =
    elim (bytes_eq word tag.name) as (λ b. bytes_eq word tag.name ≡ b →
    IsUnknown word (tag ∷ tags) at ⊎ Stands word (tag ∷ tags) at) [
      | true ↦ λ same.
          let named : word ≡ tag.name = (bytes_eq-Decides word tag.name).0 same in
          inr (record {
            tag_slot = tag.slot;
            place = 0;
            slot = ap (λ b. option_map (λ (t : Tag). t.slot) (cond b (Some tag) (find (is_named word) tags))) same;
            found = ap (λ b. cond b (Some at) (position_from (is_same word) (at + 1) (names_of tags))) same
                ∙ ap Some (let h : at ≡ at + 0 = omega arith in h);
            named = ap Some (sym named);
            among = ap (λ b. b || is_among word (names_of tags)) same;
          })
      | false ↦ λ other.
          let slot = ap (λ b. option_map (λ (t : Tag). t.slot) (cond b (Some tag) (find (is_named word) tags))) other in
          let found = ap (λ b. cond b (Some at) (position_from (is_same word) (at + 1) (names_of tags))) other in
          let among = ap (λ b. b || is_among word (names_of tags)) other in
          elim (found_tag word tags (at + 1)) [
            | inl none ↦ inl (slot ∙ none.0, found ∙ none.1, among ∙ none.2)
            | inr there ↦ inr (record {
              tag_slot = there.tag_slot;
              place = suc there.place;
              slot = slot ∙ there.slot;
              found = found ∙ there.found
                  ∙ ap Some (let h : at + 1 + there.place ≡ at + suc there.place = omega arith in h);
              named = there.named;
              among = among ∙ there.among;
            })
          ]
    ] refl

pub among_slot : (name : List ℕ) (tags : List Tag) (slot : ℕ) → slot_of name tags ≡ Some slot →
    is_among name (names_of tags) ≡ true
among_slot name tags slot is = elim (found_tag name tags 0) [
  | inl none ↦ absurd (none-some slot (sym none.0 ∙ is))
  | inr there ↦ there.among
]

pub absent_slot : (name : List ℕ) (tags : List Tag) → slot_of name tags ≡ None → is_among name (names_of tags) ≡ false
absent_slot name tags is = elim (found_tag name tags 0) [
  | inl none ↦ none.2
  | inr there ↦ absurd (none-some there.tag_slot (sym is ∙ there.slot))
]

pub with_name-known : (name : List ℕ) (tags : List Tag) (slot : ℕ) → slot_of name tags ≡ Some slot →
    names_of tags ≡ with_name (names_of tags) name
with_name-known name tags slot is =
    ap (λ b. if b then names_of tags else names_of tags ++ name ∷ []) (sym (among_slot name tags slot is))

with_name-new : (name : List ℕ) (tags : List Tag) → slot_of name tags ≡ None →
    with_name (names_of tags) name ≡ names_of tags ++ name ∷ []
with_name-new name tags is =
    ap (λ b. if b then names_of tags else names_of tags ++ name ∷ []) (absent_slot name tags is)

pub with_name-full : (name : List ℕ) (tags : List Tag) (limit : ℕ) → slot_of name tags ≡ None → limit < length tags →
    limit + 1 < length (with_name (names_of tags) name)
with_name-full name tags limit is full =
    rw (with_name-new name tags is) (omega (
      arith,
      length-append (names_of tags) (name ∷ []),
      length-map tags (λ (tag : Tag). tag.name),
      full,
    ))

slot_made : (name : List ℕ) (tags : List Tag) (slot : ℕ) → slot_of name tags ≡ None →
    slot_of name (tags ++ record { name = name; slot = slot } ∷ []) ≡ Some slot
slot_made name [] slot is = ap (λ b. option_map (λ (tag : Tag). tag.slot)
    (cond b (Some (record { name = name; slot = slot })) None)) ((bytes_eq-Decides name name).1 refl)
slot_made name (tag ∷ tags) slot is =
    elim (is_named name tag) as (λ b. option_map (λ (t : Tag). t.slot) (cond b (Some tag) (find (is_named name) tags))
    ≡ None
    → option_map (λ (t : Tag). t.slot) (cond b (Some tag)
    (find (is_named name) (tags ++ record { name = name; slot = slot } ∷ []))) ≡ Some slot) [
      | true ↦ λ some. absurd (none-some tag.slot (sym some))
      | false ↦ λ none. slot_made name tags slot none
    ] is

-- the names of a longer list are more
with_name-longer : (names : List (List ℕ)) (name : List ℕ) → length names ≤ length (with_name names name)
with_name-longer names name =
    elim (is_among name names) as (λ b. length names ≤ length (if b then names else names ++ name ∷ [])) [
      | true ↦ omega arith
      | false ↦ omega (arith, length-append names (name ∷ []))
    ]

with_names-longer : (names more : List (List ℕ)) → length names ≤ length (with_names names more)
with_names-longer names [] = omega arith
with_names-longer names (name ∷ more) =
    omega (arith, with_name-longer names name, with_names-longer (with_name names name) more)

pub with_names-append : (names some more : List (List ℕ)) →
    with_names names (some ++ more) ≡ with_names (with_names names some) more
with_names-append names [] more = refl
with_names-append names (name ∷ some) more = with_names-append (with_name names name) some more

-- a table stands at the front of itself, and at the front of what stands behind it
pub front_same : (tags : Tags) → IsFront tags tags
front_same tags =
    record { tags = take_all (length tags.tags) tags.tags (omega arith); longer = omega arith; limit = refl }

-- what a tag that is made leaves
pub tag-made : {old new : Tags} (name : List ℕ) (slot : ℕ) → slot_of name old.tags ≡ None →
    new ≡ record old { tags = old.tags ++ record { name = name; slot = slot } ∷ [] } → record {
      front : IsFront old new;
      made : names_of new.tags ≡ with_name (names_of old.tags) name;
      slot : slot_of name new.tags ≡ Some slot;
    }
tag-made {old} {new} name slot unknown is =
    let tag : Tag = record { name = name; slot = slot } in
    record {
      front = subst (IsFront old) (sym is) (record {
        tags = take-append-le (length old.tags) old.tags (tag ∷ []) (omega arith)
            ∙ take_all (length old.tags) old.tags (omega arith);
        longer = omega (arith, length-append old.tags (tag ∷ []));
        limit = refl;
      });
      made = ap (λ (t : Tags). names_of t.tags) is ∙ map-append (λ (tag : Tag). tag.name) old.tags (tag ∷ [])
          ∙ sym (with_name-new name old.tags unknown);
      slot = ap (λ (t : Tags). slot_of name t.tags) is ∙ slot_made name old.tags slot unknown;
    }

pub front_on : (old between new : Tags) → IsFront old between → IsFront between new → IsFront old new
front_on old between new first second = record {
  tags = sym (take-take (length old.tags) (length between.tags) new.tags first.longer)
      ∙ ap (take (length old.tags)) second.tags ∙ first.tags;
  longer = omega (arith, first.longer, second.longer);
  limit = second.limit ∙ first.limit;
}

-- a tag keeps its slot where others come to stand behind
pub slot_of-front : (name : List ℕ) (old new : Tags) (slot : ℕ) → IsFront old new → slot_of name old.tags ≡ Some slot →
    slot_of name new.tags ≡ Some slot
slot_of-front name old new slot front is =
    let more : List Tag = drop (length old.tags) new.tags in
    let whole : new.tags ≡ old.tags ++ more = sym (take-append-drop (length old.tags) new.tags)
    ∙ ap (λ ts. ts ++ more) front.tags in
    ap (slot_of name) whole
    ∙ ap (option_map (λ (tag : Tag). tag.slot)) (find-append (is_named name) old.tags more)
    ∙ elim (find (is_named name) old.tags) as (λ o. option_map (λ (tag : Tag). tag.slot) o ≡ Some slot →
    option_map (λ (tag : Tag). tag.slot) (option_or o (find (is_named name) more)) ≡ Some slot) [
      | None ↦ λ none. absurd (none-some slot none)
      | Some tag ↦ λ there. there
    ] is

-- what is said of a value holds of it
pub of_some : {A : Type 0} (P : A → Type 0) (found : Option A) (value : A) → found ≡ Some value → IfSome found P →
    P value
of_some P found value is holds = subst (λ o. IfSome o P) is holds

pub take-more : {A : Type 0} (xs : List A) (at : ℕ) (x : A) → at < length xs → x ≡ get_or xs at x →
    take (at + 1) xs ≡ take at xs ++ x ∷ []
take-more xs at x within is = take_more xs at x within ∙ ap (λ y. take at xs ++ y ∷ []) (sym is)

-- the words from one on
pub texts-left : {Z : Type 0} (words : List (String Z)) (at : ℕ) (word : String Z) (bytes : List ℕ) →
    at < length words → word ≡ get_or words at word → bytes ≡ string_bytes word
    → texts_of (drop at words) ≡ chars bytes ∷ texts_of (drop (at + 1) words)
texts-left words at word bytes within is bytes_are =
    ap texts_of (drop-cons words at word within)
    ∙ ap (λ bs. chars bs ∷ texts_of (drop (suc at) words)) (sym (bytes_are ∙ ap string_bytes is))
    ∙ ap (λ n. chars bytes ∷ texts_of (drop n words)) (let h : suc at ≡ at + 1 = omega arith in h)

-- where names are too many with some more, they are too many with all
pub too_many : (names more rest all : List (List ℕ)) (limit : ℕ) → limit < length (with_names names more) →
    with_names names (more ++ rest) ≡ all → limit < length all
too_many names more rest all limit many is = omega (
  arith,
  many,
  with_names-longer (with_names names more) rest,
  ap length (sym (with_names-append names more rest) ∙ is),
)
