-- Tags as a list of names with numbers: the slots of names, and moves in their order by places.
use Rattle.tag_table.proofs.Common.{◌≡◌, ◌≢◌, ℕ, zero, suc, ◌+◌, ◌-◌, ◌<◌, ◌≤◌, Bool, true, false, nat_lt}
use Rattle.tag_table.proofs.Common.{if◌then◌else◌, Option, None, Some, List, [], ◌∷◌, ◌++◌, length, map, slice_get}
use Rattle.tag_table.proofs.Common.{Contains, refl, sym, ap, ◌∙◌, subst, arith, lit<, true≢false, position, find}
use Rattle.tag_table.proofs.Common.{insert, remove, is_some, bytes_eq, chars, IsUtf8, IsAscii, IsNone, IfSome}
use Rattle.tag_table.proofs.Common.{option_map, nat_tests, length-map, none-some, same_Some, slice_get-map}
use Rattle.tag_table.proofs.Common.{slice_get-get_or, slice_get_within, Named, Names, AreNames, AreApart, place_of}
use Rattle.tag_table.proofs.Common.{bytes_eq-chars, map-move_index, AreKept, GoesTo, tag, tags_kept, slot_of_number}
use Rattle.tag_table.proofs.Common.{Order, IsOrdered, is_tag, raised, lowered, deleted, Tag, Tags, AreTags, IsLeastFree}
use Rattle.tag_table.proofs.Common.{names_of, slots_of, slot_of, is_named, sel, cond, ◌||◌, list_any, get_push}
use Rattle.tag_table.proofs.Common.{get_remove_other, Stands, stands_map, stood_at, stands_from_Contains}
use Rattle.tag_table.proofs.Common.{Contains-from_stands}
use Rattle.std.proofs.lemmas.Slice.Eq.{bytes_eq-Decides}
use Rattle.name_list.specs.Moves.{move_index, without, put_behind, put_before}
use Rattle.std.proofs.lemmas.Str.{IsUtf8-from_ascii, chars-IsAscii}
use Rattle.name_list.proofs.PlaceLaws.{stands_move, stood_before_move, length-move}
use Rattle.name_list.proofs.MoveLaws.{position-cons, position-passes, position-some, position-map, position-remove}
use Rattle.name_list.proofs.MoveLaws.{position_within, first_is, none_found, found_at, not_found, without-push}
use Rattle.name_list.proofs.MoveLaws.{without-remove, without_none, put_behind-insert, put_before-insert, insert-remove}
use Rattle.name_list.proofs.MoveLaws.{moved_at, moved_last}
use Rattle.name_list.specs.Names as list

-- what is seen of the list
pub names_seen : (es : List Named) → names_of (map tag es) ≡ list.names_of es
names_seen [] = refl
names_seen (e ∷ es) = ap (λ ns. e.name ∷ ns) (names_seen es)

pub place_seen : (name : List ℕ) (es : List Named) → position (bytes_eq name) (names_of (map tag es)) ≡ place_of name es
place_seen name es =
    ap (position (bytes_eq name)) (names_seen es) ∙ position-map (λ (e : Named). e.name) (bytes_eq name) es

pub slots_seen : (es : List Named) → slots_of (map tag es) ≡ map slot_of_number (list.numbers_of es)
slots_seen [] = refl
slots_seen (e ∷ es) = ap (λ ns. slot_of_number e.number ∷ ns) (slots_seen es)

slots_apart : (a b : ℕ) → slot_of_number a ≡ slot_of_number b → a ≡ b
slots_apart a b same = grind (arith, nat_tests)

own_slot : (number : ℕ) → number ≢ 0 → 64 ≤ slot_of_number number
own_slot number some = grind (arith, nat_tests)

below_slot : (number k : ℕ) → number ≢ 0 → 64 ≤ k → k < slot_of_number number → k - 63 < number
below_slot number k some own less = grind (arith, nat_tests)

back_slot : (k : ℕ) → 64 ≤ k → slot_of_number (k - 63) ≡ k
back_slot k own = grind (arith, nat_tests)

slot_bounds : (number slot limit : ℕ) → slot_of_number number ≡ slot → slot ≢ 0 → number < limit → 0 < limit →
    (64 ≤ slot) × (slot < 64 + (limit - 1))
slot_bounds number slot limit is some below positive = (grind (arith, nat_tests), grind (arith, nat_tests))

-- a new slot
pub IsLeastFree-slot : (es : List Named) (number : ℕ) → Contains (list.numbers_of es) 0 →
    list.IsLeastFree (list.numbers_of es) number → IsLeastFree (slots_of (map tag es)) (slot_of_number number)
IsLeastFree-slot es number taken least =
    let numbers = list.numbers_of es in
    let some : number ≢ 0 = λ e. least.free (subst (Contains numbers) (sym e) taken) in
    rw (slots_seen es) (record {
      own = own_slot number some;
      free = λ has.
          let slot = stands_from_Contains (map slot_of_number numbers) _ has in
          let old = stood_at slot_of_number numbers slot.0 _ slot.1 in
          least.free (Contains-from_stands numbers number (
            slot.0,
            old.1
                ∙ ap (λ n. Some n) (slots_apart old.0 number old.2),
          ));
      below = λ k own less.
          let old = stands_from_Contains numbers (k - 63) (least.below (k - 63) (below_slot number k some own less)) in
          Contains-from_stands _ k (subst (Stands (map slot_of_number numbers)) (back_slot k own)
          (stands_map slot_of_number numbers (k - 63) old));
    })

-- a tag is where its name is, and its slot is the one there
by_name : (name : List ℕ) (tags : List Tag) → position (is_named name) tags ≡ position (bytes_eq name) (names_of tags)
by_name name tags = sym (position-map (λ (t : Tag). t.name) (bytes_eq name) tags)

named_at : (name : List ℕ) (names : List (List ℕ)) (at : ℕ) → position (bytes_eq name) names ≡ Some at →
    slice_get names at ≡ Some name
named_at name names at is =
    let first = first_is (bytes_eq name) names at is in
    first.1 ∙ ap (λ n. Some n) (sym ((bytes_eq-Decides name first.0).0
    (position-passes (bytes_eq name) names at first.0 is first.1)))

pub slot_at : (name : List ℕ) (tags : List Tag) (at : ℕ) → position (bytes_eq name) (names_of tags) ≡ Some at →
    slot_of name tags ≡ slice_get (slots_of tags) at
slot_at name tags at is =
    ap (option_map (λ (t : Tag). t.slot)) (found_at (is_named name) tags at (by_name name tags ∙ is))
    ∙ sym (slice_get-map (λ (t : Tag). t.slot) tags at)

pub no_slot : (name : List ℕ) (tags : List Tag) → position (bytes_eq name) (names_of tags) ≡ None →
    slot_of name tags ≡ None
no_slot name tags none =
    ap (option_map (λ (t : Tag). t.slot)) (not_found (is_named name) tags (by_name name tags ∙ none))

-- a tag has a slot where it stands with it
pub slot_standing : (name : List ℕ) (slot : ℕ) (tags : List Tag) → AreApart (names_of tags) →
    Stands tags (record { name = name; slot = slot }) → slot_of name tags ≡ Some slot
slot_standing name slot tags apart (at, is) =
    let there = slice_get-map (λ (t : Tag). t.name) tags at ∙ ap (option_map (λ (t : Tag). t.name)) is in
    let first = position-some (bytes_eq name) (names_of tags) at name there ((bytes_eq-Decides name name).1 refl) in
    let same = apart first.0 at name (named_at name (names_of tags) first.0 first.1) there in
    slot_at name tags at (first.1 ∙ ap (λ i. Some i) same) ∙ slice_get-map (λ (t : Tag). t.slot) tags at
    ∙ ap (option_map (λ (t : Tag). t.slot)) is

pub stands_with : (name : List ℕ) (slot : ℕ) (tags : List Tag) → slot_of name tags ≡ Some slot →
    Stands tags (record { name = name; slot = slot })
stands_with name slot [] none = absurd (none-some slot none)
stands_with name slot (tag ∷ tags) is =
    elim (bytes_eq name tag.name) as (λ b. bytes_eq name tag.name ≡ b →
    option_map (λ (t : Tag). t.slot) (if b then Some tag else find (is_named name) tags) ≡ Some slot
    → Stands (tag ∷ tags) (record { name = name; slot = slot })) [
      | true ↦ λ same found.
          let named : name ≡ tag.name = (bytes_eq-Decides name tag.name).0 same in
          (0, λ i. Some (record { name = sym named i; slot = same_Some _ _ found i }))
      | false ↦ λ _ found. let rest = stands_with name slot tags found in (suc rest.0, rest.1)
    ] refl is

-- where the same tags stand each name has its slot
same_slots : (old new : List Tag) → AreApart (names_of old) → AreApart (names_of new) →
    ((tag : Tag) → Stands old tag → Stands new tag) → ((tag : Tag) → Stands new tag → Stands old tag)
    → (name : List ℕ) → slot_of name new ≡ slot_of name old
same_slots old new old_apart new_apart stays stood name = by (slot_of name old) (slot_of name new) refl refl
  where
    by : (was now : Option ℕ) → slot_of name old ≡ was → slot_of name new ≡ now → slot_of name new ≡ slot_of name old
    by None None was is = is ∙ sym was
    by (Some slot) now was is = slot_standing name slot new new_apart (stays _ (stands_with name slot old was))
        ∙ sym was
    by None (Some slot) was is =
        is ∙ sym (slot_standing name slot old old_apart (stood _ (stands_with name slot new is)))

-- the laws of a table
pub AreTags-kept : (names : Names) → AreNames names → AreKept names → AreTags (tags_kept names)
AreTags-kept names are kept =
    let es = names.entries in
    let apart : AreApart (names_of (map tag es)) = rw (names_seen es) are.names_apart in
    record {
      names_apart = apart;
      slots_apart = λ i j slot is also.
          let one = stood_at slot_of_number (list.numbers_of es) i slot (ap (λ ss. slice_get ss i) (sym (slots_seen es))
          ∙ is) in
          let two = stood_at slot_of_number (list.numbers_of es) j slot (ap (λ ss. slice_get ss j) (sym (slots_seen es))
          ∙ also) in
          are.numbers_apart i j one.0 one.1 (two.1 ∙ ap (λ n. Some n) (slots_apart two.0 one.0 (two.2 ∙ sym one.2)));
      selection = slot_standing sel 0 (map tag es) apart (stands_map tag es _ kept.selection);
      others = λ at slot is some.
          let old = stood_at slot_of_number (list.numbers_of es) at slot
          (ap (λ ss. slice_get ss at) (sym (slots_seen es)) ∙ is) in
          let below = are.below at old.0 old.1 in
          slot_bounds old.0 slot names.limit old.2 some below kept.some;
      room = let fits = are.room in let some = kept.some in rw length-map (omega arith);
      limit = let few = kept.few in omega arith;
    }

pub AreTags-seen : {names : Names} {tags : Tags} → tags_kept names ≡ tags → AreNames names → AreKept names →
    AreTags tags
AreTags-seen {names} seen are kept = subst AreTags seen (AreTags-kept names are kept)

pub no_place : (name : List ℕ) (es : List Named) → slot_of name (map tag es) ≡ None → place_of name es ≡ None
no_place name es none =
    sym (position-map tag (is_named name) es)
    ∙ none_found (is_named name) (map tag es) (no_tag (find (is_named name) (map tag es)) none)
  where
    no_tag : (o : Option Tag) → option_map (λ (t : Tag). t.slot) o ≡ None → o ≡ None
    no_tag None e = refl
    no_tag (Some t) e = absurd (none-some t.slot (sym e))

-- ---- names in another order

any-position : {A : Type 0} (test : A → Bool) (xs : List A) → list_any test xs ≡ is_some (position test xs)
any-position test [] = refl
any-position test (x ∷ xs) =
    elim (test x) as (λ b. (b || list_any test xs)
    ≡ is_some (cond b (Some 0) (option_map (λ i. suc i) (position test xs)))) [
      | true ↦ refl
      | false ↦ any-position test xs ∙ later (position test xs)
    ] ∙ ap is_some (sym (position-cons test x xs))
  where
    later : (o : Option ℕ) → is_some o ≡ is_some (option_map (λ i. suc i) o)
    later None = refl
    later (Some i) = refl

-- a name is one of a tag where it has a place
pub placed : (name : List ℕ) (tags : List Tag) (place : Option ℕ) → position (bytes_eq name) (names_of tags) ≡ place →
    is_tag name tags ≡ is_some place
placed name tags place is = any-position (bytes_eq name) (names_of tags) ∙ ap is_some is

module _ (name : List ℕ) (names : List (List ℕ)) (from : ℕ) (is : position (bytes_eq name) names ≡ Some from) where
  here : slice_get names from ≡ Some name
  here = named_at name names from is

  rest : without (bytes_eq name) names ≡ remove names from
  rest = without-remove (bytes_eq name) names from is

  pub raised-last : raised names name None ≡ move_index names from (length names - 1)
  raised-last = ap (λ left. left ++ name ∷ []) rest ∙ sym (moved_last names from name here)

  pub lowered-first : lowered names name None ≡ move_index names from 0
  lowered-first = ap (λ left. name ∷ left) rest ∙ sym (moved_at names from 0 name here)

  -- next to another name, which may be the same one
  beside : (other : List ℕ) (made : List (List ℕ)) (at to : ℕ) → position (bytes_eq other) names ≡ Some at →
      (at ≡ from → to ≡ from) → (at ≢ from → made ≡ insert (remove names from) to name)
      → (if bytes_eq name other then names else made) ≡ move_index names from to
  beside other made at to also itself apart =
      elim (bytes_eq name other) as (λ b. bytes_eq name other ≡ b →
      (if b then names else made) ≡ move_index names from to) [
        | true ↦ λ same.
            let one = same_Some at from (sym also
            ∙ ap (λ n. position (bytes_eq n) names) (sym ((bytes_eq-Decides name other).0 same)) ∙ is) in
            sym (ap (move_index names from) (itself one) ∙ moved_at names from from name here
            ∙ insert-remove names from name here)
        | false ↦ λ differ.
            apart (λ one. true≢false (sym ((bytes_eq-Decides name other).1 (same_Some name other (sym here
            ∙ ap (slice_get names) (sym one) ∙ named_at other names at also))) ∙ differ))
            ∙ sym (moved_at names from to name here)
      ] refl

  pub raised-above : (other : List ℕ) (at to : ℕ) → position (bytes_eq other) names ≡ Some at →
      to ≡ (if nat_lt at from then at + 1 else at) → raised names name (Some other) ≡ move_index names from to
  raised-above other at to also goes =
      beside other (put_behind (bytes_eq other) name (without (bytes_eq name) names)) at to also
      (λ same. grind (arith, nat_tests)) (λ apart. ap (put_behind (bytes_eq other) name) rest
      ∙ put_behind-insert (bytes_eq other) name (remove names from) _
      (position-remove (bytes_eq other) names from at also apart)
      ∙ ap (λ k. insert (remove names from) k name) (let d : (if nat_lt at from then at else at - 1) + 1
      ≡ to = grind (arith, nat_tests) in d))

  pub lowered-below : (other : List ℕ) (at to : ℕ) → position (bytes_eq other) names ≡ Some at →
      to ≡ (if nat_lt from at then at - 1 else at) → lowered names name (Some other) ≡ move_index names from to
  lowered-below other at to also goes =
      beside other (put_before (bytes_eq other) name (without (bytes_eq name) names)) at to also
      (λ same. grind (arith, nat_tests)) (λ apart. ap (put_before (bytes_eq other) name) rest
      ∙ put_before-insert (bytes_eq other) name (remove names from) _
      (position-remove (bytes_eq other) names from at also apart)
      ∙ ap (λ k. insert (remove names from) k name) (let d : (if nat_lt at from then at else at - 1)
      ≡ to = grind (arith, nat_tests) in d))

-- ---- where a tag goes

place_within : (name : List ℕ) (tags : List Tag) (at : ℕ) → position (bytes_eq name) (names_of tags) ≡ Some at →
    at < length tags
place_within name tags at is = let within = position_within (bytes_eq name) (names_of tags) at is in
    omega (arith, within, length-map tags (λ (t : Tag). t.name))

pub goes-highest : (from len : ℕ) (tags : List Tag) → from < length tags → len ≡ length tags →
    GoesTo raised from None tags (len - 1)
goes-highest from len tags within many = record {
  neighbour = tt;
  names = λ name is. raised-last name (names_of tags) from is
      ∙ ap (λ n. move_index (names_of tags) from (n - 1)) (length-map tags (λ (t : Tag). t.name) ∙ sym many);
  within = omega (arith, within, many);
}

pub goes-above : (from at to : ℕ) (other : List ℕ) (tags : List Tag) → from < length tags →
    position (bytes_eq other) (names_of tags) ≡ Some at → to ≡ (if nat_lt at from then at + 1 else at)
    → GoesTo raised from (Some other) tags to
goes-above from at to other tags within is goes = record {
  neighbour = placed other tags (Some at) is;
  names = λ name here. raised-above name (names_of tags) from here other at to is goes;
  within = let there = place_within other tags at is in grind (arith, nat_tests);
}

pub goes-lowest : (from : ℕ) (tags : List Tag) → from < length tags → GoesTo lowered from None tags 0
goes-lowest from tags within = record {
  neighbour = tt;
  names = λ name is. lowered-first name (names_of tags) from is;
  within = omega (arith, within);
}

pub goes-below : (from at to : ℕ) (other : List ℕ) (tags : List Tag) → from < length tags →
    position (bytes_eq other) (names_of tags) ≡ Some at → to ≡ (if nat_lt from at then at - 1 else at)
    → GoesTo lowered from (Some other) tags to
goes-below from at to other tags within is goes = record {
  neighbour = placed other tags (Some at) is;
  names = λ name here. lowered-below name (names_of tags) from here other at to is goes;
  within = let there = place_within other tags at is in grind (arith, nat_tests);
}

-- the place of a name, of which the list says where it is
pub place_of_tag : (name : List ℕ) (names : Names) (tags : Tags) (place : Option ℕ) → tags_kept names ≡ tags →
    place ≡ place_of name names.entries → position (bytes_eq name) (names_of tags.tags) ≡ place
place_of_tag name names tags place seen is =
    ap (λ (ts : Tags). position (bytes_eq name) (names_of ts.tags)) (sym seen) ∙ place_seen name names.entries ∙ sym is

-- a tag moved to where it goes
pub ordered-move : (order : Order) (name : List ℕ) (other : Option (List ℕ)) (names new : Names) (tags : Tags)
    (from to : ℕ) → tags_kept names ≡ tags → AreTags tags → AreTags (tags_kept new)
    → new ≡ record names { entries = move_index names.entries from to }
    → position (bytes_eq name) (names_of tags.tags) ≡ Some from → GoesTo order from other tags.tags to
    → IsOrdered order name other tags.tags (map tag new.entries)
ordered-move order name other names new tags from to seen sound still moved at goes =
    let is : map tag new.entries ≡ move_index tags.tags from to = ap (λ (ns : Names). map tag ns.entries) moved
    ∙ map-move_index tag names.entries from to ∙ ap (λ (ts : Tags). move_index ts.tags from to) seen in
    let apart = subst (λ ts. AreApart (names_of ts)) is still.names_apart in
    let old = stood_at (λ (t : Tag). t.name) tags.tags from name (named_at name (names_of tags.tags) from at) in
    record {
      known = placed name tags.tags (Some from) at;
      neighbour = goes.neighbour;
      names = ap names_of is ∙ map-move_index (λ (t : Tag). t.name) tags.tags from to ∙ sym (goes.names name at);
      slots = λ n. ap (slot_of n) is ∙ same_slots tags.tags (move_index tags.tags from to) sound.names_apart apart
          (stands_move tags.tags from to old.0 old.1 goes.within)
          (stood_before_move tags.tags from to old.0 old.1 goes.within) n;
      many = ap length is ∙ length-move tags.tags from to old.0 old.1 goes.within;
    }

-- the table stays one
pub AreKept-push : (names : Names) (entry : Named) → AreKept names →
    AreKept (record names { entries = names.entries ++ entry ∷ [] })
AreKept-push names entry kept = record {
  some = kept.some;
  few = kept.few;
  selection = let at = kept.selection in (at.0, get_push names.entries entry at.0 _ at.1);
}

pub AreKept-move : (names : Names) (from to : ℕ) → from < length names.entries → to < length names.entries →
    AreKept names → AreKept (record names { entries = move_index names.entries from to })
AreKept-move names from to within room kept =
    let here = slice_get-get_or names.entries from (record { name = []; number = 0 }) within in
    record {
      some = kept.some;
      few = kept.few;
      selection = stands_move names.entries from to _ here room _ kept.selection;
    }

pub AreKept-remove : (names : Names) (name : List ℕ) (at : ℕ) → place_of name names.entries ≡ Some at →
    bytes_eq name sel ≡ false → AreKept names → AreKept (record names { entries = remove names.entries at })
AreKept-remove names name at is other kept =
    let entry = first_is (λ (e : Named). bytes_eq name e.name) names.entries at is in
    let passes = position-passes (λ (e : Named). bytes_eq name e.name) names.entries at entry.0 is entry.1 in
    let selection = kept.selection in
    let apart : selection.0 ≢ at = λ e.
    let same = same_Some _ entry.0 (sym selection.1 ∙ ap (slice_get names.entries) e ∙ entry.1) in
    true≢false (sym passes ∙ ap (λ (x : Named). bytes_eq name x.name) (sym same) ∙ other) in
    record {
      some = kept.some;
      few = kept.few;
      selection = get_remove_other names.entries at selection.0 _ (slice_get_within names.entries at entry.0 entry.1)
          apart selection.1;
    }

first_number : (number : ℕ) → list.IsLeastFree [] number → number ≡ 0
first_number zero least = refl
first_number (suc n) least = absurd (none-some 0 (stands_from_Contains [] 0 (least.below 0 (omega arith))).1)

-- the first name of a list gets the number 0
pub first_name : (names new : Names) (limit : ℕ) (name : List ℕ) (made : Option ℕ) →
    names ≡ record { entries = []; limit = limit + 1 } → (IsNone made → list.IsFull names) →
    IfSome made (list.IsLeastFree (list.numbers_of names.entries))
    → IfSome made (λ number. new ≡ record names {
      entries = names.entries ++ record { name = name; number = number }
          ∷ [];
    }) → new ≡ record { entries = record { name = name; number = 0 } ∷ []; limit = limit + 1 }
first_name names new limit name None empty full least last = let none : list.IsFull
    (record { entries = []; limit = limit + 1 }) = subst list.IsFull empty (full refl) in absurd (omega arith)
first_name names new limit name (Some number) empty full least last =
    let zero_is : number ≡ 0 = first_number number
    (subst (λ (ns : Names). list.IsLeastFree (list.numbers_of ns.entries) number) empty least) in
    last ∙ ap (λ (ns : Names). record ns { entries = ns.entries ++ record { name = name; number = number } ∷ [] }) empty
    ∙ ap (λ n. record { entries = record { name = name; number = n } ∷ []; limit = limit + 1 }) zero_is

sel_is_ascii : IsAscii sel
sel_is_ascii zero = lit< tt
sel_is_ascii (suc zero) = lit< tt
sel_is_ascii (suc (suc zero)) = lit< tt
sel_is_ascii (suc (suc (suc i))) = lit< tt

pub chars_of_sel : chars sel ≡ sel
chars_of_sel = chars-IsAscii sel sel_is_ascii

-- `sel` in bytes and in characters
pub is_sel : (bytes : List ℕ) → IsUtf8 bytes → bytes_eq bytes sel ≡ bytes_eq (chars bytes) sel
is_sel bytes text =
    bytes_eq-chars bytes sel text (IsUtf8-from_ascii sel sel_is_ascii) ∙ ap (bytes_eq (chars bytes)) chars_of_sel

pub deleted-sel : (name : List ℕ) (tags : List Tag) → bytes_eq name sel ≡ true → deleted name tags ≡ tags
deleted-sel name tags is = ap (λ b. if b then tags else without (is_named name) tags) is

pub deleted-at : (name : List ℕ) (tags : List Tag) (at : ℕ) → bytes_eq name sel ≡ false →
    position (bytes_eq name) (names_of tags) ≡ Some at → deleted name tags ≡ remove tags at
deleted-at name tags at other is = ap (λ b. if b then tags else without (is_named name) tags) other
    ∙ without-remove (is_named name) tags at (by_name name tags ∙ is)

pub deleted-none : (name : List ℕ) (tags : List Tag) → position (bytes_eq name) (names_of tags) ≡ None →
    deleted name tags ≡ tags
deleted-none name tags is =
    elim (bytes_eq name sel) as (λ b. (if b then tags else without (is_named name) tags) ≡ tags) [
      | true ↦ refl
      | false ↦ without_none (is_named name) tags (by_name name tags ∙ is)
    ]

pub sel_number : (names : Names) → AreKept names → Contains (list.numbers_of names.entries) 0
sel_number names kept = let at = kept.selection in
    Contains-from_stands _ 0 (
      at.0,
      slice_get-map (λ (e : Named). e.number) names.entries at.0
          ∙ ap (option_map (λ (e : Named). e.number)) at.1,
    )

-- the tag that was created last is what is taken out
pub deleted-push : (names : Names) (name : List ℕ) (number : ℕ) → AreKept names → place_of name names.entries ≡ None →
    deleted name (map tag names.entries ++ record { name = name; slot = slot_of_number number } ∷ [])
    ≡ map tag names.entries
deleted-push names name number kept none = by (bytes_eq name sel) refl
  where
    by : (b : Bool) → bytes_eq name sel ≡ b →
        deleted name (map tag names.entries ++ record { name = name; slot = slot_of_number number } ∷ [])
        ≡ map tag names.entries
    by true is =
        let selection = kept.selection in
        let there = position-some (λ (e : Named). bytes_eq name e.name) names.entries selection.0 _ selection.1 is in
        absurd (none-some there.0 (sym none ∙ there.1))
    by false other =
        ap (λ b. if b then map tag names.entries ++ record { name = name; slot = slot_of_number number } ∷ []
        else without (is_named name) (map tag names.entries ++ record { name = name; slot = slot_of_number number }
        ∷ [])) other
        ∙ without-push (is_named name) (map tag names.entries) (record { name = name; slot = slot_of_number number })
        (position-map tag (is_named name) names.entries ∙ none) ((bytes_eq-Decides name name).1 refl)
