-- What is seen of a map of names: its names as characters, its numbers and its places.
use Rattle.name_list.proofs.Common.{◌≡◌, ℕ, zero, suc, ◌+◌, ◌<◌, true, cond, not, nat_lt, Option, None, Some, List, []}
use Rattle.name_list.proofs.Common.{◌∷◌, ◌++◌, length, map, take, drop, get_or, slice_get, refl, sym, subst, ap, ap₂}
use Rattle.name_list.proofs.Common.{◌∙◌, arith, true≢false, chars, string_bytes, String, bytes_eq, IsUtf8}
use Rattle.name_list.proofs.Common.{encode_utf8_all, position, insert, remove, position_or_len, IsDistinct, keys_of}
use Rattle.name_list.proofs.Common.{values_of, lookup, option_map, option_map_or, same_from_decides, length-map}
use Rattle.name_list.proofs.Common.{map-append, take-map, drop-map, none-some, slice_get-map, slice_get-get_or}
use Rattle.name_list.proofs.Common.{slice_get_within, get_or_from_slice_get, Named, Names, names_of, numbers_of}
use Rattle.name_list.proofs.Common.{place_of, AreApart, AreNames, AreKept, named, names_kept}
use Rattle.std.specs.String.{string_eq}
use Rattle.std.proofs.lemmas.Map.Keys.{apart_from_distinct}
use Rattle.std.proofs.lemmas.Slice.Eq.{bytes_eq-Decides}
use Rattle.std.proofs.lemmas.Str.{encodes-chars, IsUtf8-string_bytes}
use Rattle.indexmap.specs.IndexMap.{IndexMap, move_index, insert_entry}
use Rattle.indexmap.proofs.CallerLemmas.{insert_entry-new}
use Rattle.indexmap.proofs.MapLemmas.{Missing-position}
use Rattle.name_list.proofs.PlaceLaws.{AreApart-index, within_index}

-- two texts are the same exactly where their characters are
pub bytes_eq-chars : (a b : List ℕ) → IsUtf8 a → IsUtf8 b → bytes_eq a b ≡ bytes_eq (chars a) (chars b)
bytes_eq-chars a b text other =
    let bytes = bytes_eq-Decides a b in
    let characters = bytes_eq-Decides (chars a) (chars b) in
    let back : chars a ≡ chars b → a ≡ b = λ same. sym (encodes-chars a text) ∙ ap encode_utf8_all same
    ∙ encodes-chars b other in
    same_from_decides _ _ bytes (λ same. back (characters.0 same), λ same. characters.1 (ap chars same))

same_place : (i j : ℕ) → ¬ (i < j) → ¬ (j < i) → i ≡ j
same_place i j not_before not_behind = grind arith

module _ {Z : Type 0} where
  pub numbers_seen : (es : List (String Z × ℕ)) → numbers_of (map (named {Z = Z}) es) ≡ values_of es
  numbers_seen [] = refl
  numbers_seen (e ∷ es) = ap (λ ns. e.1 ∷ ns) (numbers_seen es)

  pub names_seen : (es : List (String Z × ℕ)) → names_of (map (named {Z = Z}) es)
      ≡ map (λ (k : String Z). chars (string_bytes k)) (keys_of es)
  names_seen [] = refl
  names_seen (e ∷ es) = ap (λ ns. chars (string_bytes e.0) ∷ ns) (names_seen es)

  or_len_seen : (bytes : List ℕ) → IsUtf8 bytes → (es : List (String Z × ℕ)) →
      position_or_len (λ (entry : Named). bytes_eq (chars bytes) entry.name) (map (named {Z = Z}) es)
      ≡ position_or_len (λ (k : String Z). bytes_eq bytes (string_bytes k)) (keys_of es)
  or_len_seen bytes text [] = refl
  or_len_seen bytes text (e ∷ es) =
      ap₂ (λ b n. cond (not b) (1 + n) 0) (sym (bytes_eq-chars bytes (string_bytes e.0) text (IsUtf8-string_bytes e.0)))
      (or_len_seen bytes text es)

  -- a name stands where its bytes do
  pub place_seen : (bytes : List ℕ) → IsUtf8 bytes → (es : List (String Z × ℕ)) →
      place_of (chars bytes) (map (named {Z = Z}) es)
      ≡ position (λ (k : String Z). bytes_eq bytes (string_bytes k)) (keys_of es)
  place_seen bytes text es =
      ap₂ (λ n len. cond (nat_lt n len) (Some n) None) (or_len_seen bytes text es) (length-map es (named {Z = Z})
      ∙ sym (length-map es (λ e. e.0)))

  pub no_key : (name : String Z) (es : List (String Z × ℕ)) →
      place_of (chars (string_bytes name)) (map (named {Z = Z}) es) ≡ None → lookup (string_eq name) es ≡ None
  no_key name es new = (Missing-position (λ k. bytes_eq (string_bytes name) (string_bytes k)) es
      (sym (place_seen (string_bytes name) (IsUtf8-string_bytes name) es) ∙ new)).value

  distinct_places : (ks : List (String Z)) (i j : ℕ) (x y : String Z) → IsDistinct string_eq ks →
      slice_get ks i ≡ Some x → slice_get ks j ≡ Some y → chars (string_bytes x) ≡ chars (string_bytes y) → ¬ (i < j)
  distinct_places ks i j x y distinct is also same before =
      let within = slice_get_within ks j y also in
      let differ = apart_from_distinct string_eq ks i j x distinct before within in
      let equal : string_eq x y ≡ true = (bytes_eq-Decides (string_bytes x) (string_bytes y)).1
      (sym (encodes-chars (string_bytes x) (IsUtf8-string_bytes x)) ∙ ap encode_utf8_all same
      ∙ encodes-chars (string_bytes y) (IsUtf8-string_bytes y)) in
      true≢false (sym equal ∙ ap₂ string_eq (sym (get_or_from_slice_get ks i x x is))
      (sym (get_or_from_slice_get ks j y x also)) ∙ differ)

  key_at : (ks : List (String Z)) (i : ℕ) (name : List ℕ) →
      slice_get (map (λ (k : String Z). chars (string_bytes k)) ks) i ≡ Some name →
      (k : String Z) × (slice_get ks i ≡ Some k) × (chars (string_bytes k) ≡ name)
  key_at [] i name is = absurd (none-some name is)
  key_at (k ∷ ks) zero name is = (k, refl, cc)
  key_at (k ∷ ks) (suc i) name is = key_at ks i name is

  -- distinct keys are distinct names
  pub AreApart-names : (es : List (String Z × ℕ)) → IsDistinct string_eq (keys_of es) →
      AreApart (names_of (map (named {Z = Z}) es))
  AreApart-names es distinct = λ i j name is also.
      let one = key_at (keys_of es) i name (ap (λ ns. slice_get ns i) (sym (names_seen es)) ∙ is) in
      let two = key_at (keys_of es) j name (ap (λ ns. slice_get ns j) (sym (names_seen es)) ∙ also) in
      let not_before = distinct_places (keys_of es) i j one.0 two.0 distinct one.1 two.1 (one.2 ∙ sym two.2) in
      let not_behind = distinct_places (keys_of es) j i two.0 one.0 distinct two.1 one.1 (two.2 ∙ sym one.2) in
      same_place i j not_before not_behind

-- a list and what is seen of each element, edited alike
pub map-remove : {A B : Type 0} (f : A → B) (xs : List A) (i : ℕ) → map f (remove xs i) ≡ remove (map f xs) i
map-remove f xs i = map-append f (take i xs) (drop (suc i) xs)
    ∙ ap₂ (λ a b. a ++ b) (sym (take-map f i xs)) (sym (drop-map f (suc i) xs))

pub map-insert : {A B : Type 0} (f : A → B) (xs : List A) (i : ℕ) (x : A) →
    map f (insert xs i x) ≡ insert (map f xs) i (f x)
map-insert f xs i x =
    map-append f (take i xs) (x ∷ drop i xs) ∙ ap₂ (λ a b. a ++ f x ∷ b) (sym (take-map f i xs)) (sym (drop-map f i xs))

pub map-move_index : {A B : Type 0} (f : A → B) (xs : List A) (from to : ℕ) →
    map f (move_index xs from to) ≡ move_index (map f xs) from to
map-move_index {A} {B} f xs from to = by (slice_get xs from) refl
    ∙ ap (λ o. option_map_or (λ x. insert (remove (map f xs) from) to x) o (map f xs)) (sym (slice_get-map f xs from))
  where
    by : (o : Option A) → slice_get xs from ≡ o →
        map f (option_map_or (λ x. insert (remove xs from) to x) (slice_get xs from) xs)
        ≡ option_map_or (λ x. insert (remove (map f xs) from) to x) (option_map f (slice_get xs from)) (map f xs)
    by None is = ap (λ o. map f (option_map_or (λ x. insert (remove xs from) to x) o xs)) is
        ∙ ap (λ o. option_map_or (λ x. insert (remove (map f xs) from) to x) (option_map f o) (map f xs)) (sym is)
    by (Some x) is =
        ap (λ o. map f (option_map_or (λ x. insert (remove xs from) to x) o xs)) is
        ∙ map-insert f (remove xs from) to x
        ∙ ap (λ ys. insert ys to (f x)) (map-remove f xs from)
        ∙ ap (λ o. option_map_or (λ x. insert (remove (map f xs) from) to x) (option_map f o) (map f xs)) (sym is)

-- a new name goes last
pub entries-new : {Z S : Type 0} (m : IndexMap (String Z) ℕ S) (new : List (String Z × ℕ)) (name : String Z)
    (number limit : ℕ) (names : Names)
    → names_kept {Z = Z} m.entries limit ≡ names → place_of (chars (string_bytes name)) names.entries ≡ None →
    new ≡ insert_entry string_eq m.entries name number → new ≡ m.entries ++ (name, number) ∷ []
entries-new m new name number limit names seen fresh made =
    made ∙ insert_entry-new string_eq m name number
    (no_key name m.entries (ap (λ (ns : Names). place_of (chars (string_bytes name)) ns.entries) seen ∙ fresh))

-- the number at a place that is seen
pub number_at : {Z : Type 0} (es : List (String Z × ℕ)) (limit : ℕ) (names : Names) (at : ℕ) →
    names_kept {Z = Z} es limit ≡ names → at < length names.entries →
    (at < length (values_of es)) × (slice_get (values_of es) at ≡ Some (get_or (values_of es) at 0))
number_at {Z} es limit names at seen within =
    let kept : at < length (map (named {Z = Z}) es) = subst (λ (ns : Names). at
    < length ns.entries) (sym seen) within in
    let here : at < length (values_of es) = omega (arith, length-map es (named {Z = Z}), length-map es (λ e. e.1)) in
    (here, slice_get-get_or (values_of es) at 0 here)

-- the laws of a list
pub AreNames-kept : {Z : Type 0} (es : List (String Z × ℕ)) (places : List (Option ℕ)) (free limit : ℕ) →
    IsDistinct string_eq (keys_of es) → AreKept (values_of es) places free limit →
    AreNames (names_kept {Z = Z} es limit)
AreNames-kept {Z} es places free limit distinct kept = record {
  names_apart = AreApart-names es distinct;
  numbers_apart = rw (numbers_seen es) (AreApart-index (values_of es) places kept.index);
  below = rw (numbers_seen es) (λ at number is.
      let within = within_index (values_of es) places kept.index at number is in
      let few = kept.few in omega arith);
  room = let fits = kept.room in rw (length-map es (named {Z = Z})) (rw (length-map es (λ e. e.1)) at fits);
}
