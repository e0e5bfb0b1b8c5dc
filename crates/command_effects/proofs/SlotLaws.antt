-- The slots of tag lists, as they are put together.
use Rattle.command_effects.proofs.Common.{◌≡◌, ℕ, Bool, true, false, List, [], ◌∷◌, ◌++◌, length, map, take, refl, sym}
use Rattle.command_effects.proofs.Common.{ap, ◌∙◌, ◌<◌, ◌+◌, Option, None, Some, ◌||◌, String, chars, string_bytes}
use Rattle.command_effects.proofs.Common.{get_or, nat_cmp_total, cons_option, append-nil, map-append, filter_map-append}
use Rattle.command_effects.proofs.Common.{Slots, Tag, texts_of, slots_named, with_found, filter_map}
use Rattle.std.specs.FinMap.{nat_cmp-IsAntisymmetric}
use Rattle.std.specs.Ordering.{eq_by_cmp, nat_cmp}
use Rattle.index_grammar.specs.Names.{known_tags}
use Rattle.command_effects.proofs.MadeLaws.{take-more}
use Rattle.std.specs.FinSet as set

or_swap : (a b c : Bool) → (a || (b || c)) ≡ (b || (a || c))
or_swap true true c = refl
or_swap true false c = refl
or_swap false b c = refl

insert_swap : (slots : Slots) (one other : ℕ) → set.insert (set.insert slots one) other
    ≡ set.insert (set.insert slots other) one
insert_swap slots one other = set.same_set nat_cmp_total nat_cmp-IsAntisymmetric _ _ (λ q.
    set.contains-insert nat_cmp_total (set.insert slots one) other q
    ∙ ap (λ b. eq_by_cmp nat_cmp q other || b) (set.contains-insert nat_cmp_total slots one q)
    ∙ or_swap (eq_by_cmp nat_cmp q other) (eq_by_cmp nat_cmp q one) (set.contains slots q)
    ∙ ap (λ b. eq_by_cmp nat_cmp q one || b) (sym (set.contains-insert nat_cmp_total slots other q))
    ∙ sym (set.contains-insert nat_cmp_total (set.insert slots other) one q))

found_swap : (one other : Option ℕ) (slots : Slots) → with_found one (with_found other slots)
    ≡ with_found other (with_found one slots)
found_swap None other slots = refl
found_swap (Some one) None slots = refl
found_swap (Some one) (Some other) slots = insert_swap slots other one

slots_named-push : (tags : List Tag) (own : ℕ) (names : List (List ℕ)) (name : List ℕ)
    → slots_named tags own (names ++ name ∷ [])
    ≡ with_found (known_tags tags own name) (slots_named tags own names)
slots_named-push tags own [] name = refl
slots_named-push tags own (first ∷ names) name =
    ap (with_found (known_tags tags own first)) (slots_named-push tags own names name)
    ∙ found_swap (known_tags tags own first) (known_tags tags own name) (slots_named tags own names)

-- a word more
pub texts-more : {Z : Type 0} (words : List (String Z)) (at : ℕ) (word : String Z) (bytes : List ℕ) →
    at < length words → word ≡ get_or words at word → bytes ≡ string_bytes word
    → texts_of (take (at + 1) words) ≡ texts_of (take at words) ++ chars bytes ∷ []
texts-more {Z} words at word bytes within is bytes_are =
    ap texts_of (take-more words at word within is)
    ∙ map-append (λ w. chars (string_bytes w)) (take at words) (word ∷ [])
    ∙ ap (λ bs. texts_of (take at words) ++ chars bs ∷ []) (sym bytes_are)

-- the slot of a name more
pub slots_named-step : {Z : Type 0} (tags : List Tag) (own : ℕ) (words : List (String Z)) (at : ℕ) (word : String Z)
    (bytes : List ℕ) → at < length words → word ≡ get_or words at word → bytes ≡ string_bytes word
    → with_found (known_tags tags own (chars bytes)) (slots_named tags own (texts_of (take at words)))
    ≡ slots_named tags own (texts_of (take (at + 1) words))
slots_named-step tags own words at word bytes within is bytes_are =
    sym (slots_named-push tags own (texts_of (take at words)) (chars bytes))
    ∙ ap (slots_named tags own) (sym (texts-more words at word bytes within is bytes_are))

-- ---- the numbers of what is found by names

-- one name more
module _ {A : Type 0} (number : A → ℕ) (find : List ℕ → Option ℕ) {Z : Type 0} (words : List (String Z)) (at : ℕ)
    (word : String Z) (bytes : List ℕ) (within : at < length words) (is : word ≡ get_or words at word)
    (bytes_are : bytes ≡ string_bytes word) where
  found-step : filter_map find (texts_of (take (at + 1) words))
      ≡ filter_map find (texts_of (take at words)) ++ cons_option (find (chars bytes)) []
  found-step = ap (filter_map find) (texts-more words at word bytes within is bytes_are)
      ∙ filter_map-append find (texts_of (take at words)) (chars bytes ∷ [])

  pub found-pushed : (items : List A) (item : A) → map number items ≡ filter_map find (texts_of (take at words))
      → Some (number item) ≡ find (chars bytes)
      → map number (items ++ item ∷ []) ≡ filter_map find (texts_of (take (at + 1) words))
  found-pushed items item old found =
      map-append number items (item ∷ []) ∙ ap (λ ns. ns ++ number item ∷ []) old
      ∙ ap (λ o. filter_map find (texts_of (take at words)) ++ cons_option o []) found ∙ sym found-step

  pub found-kept : (items : List A) → map number items ≡ filter_map find (texts_of (take at words))
      → None ≡ find (chars bytes) → map number items ≡ filter_map find (texts_of (take (at + 1) words))
  found-kept items old none =
      old ∙ sym (append-nil (filter_map find (texts_of (take at words))))
      ∙ ap (λ o. filter_map find (texts_of (take at words)) ++ cons_option o []) none ∙ sym found-step
