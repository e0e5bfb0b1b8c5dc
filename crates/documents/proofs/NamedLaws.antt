-- The slots and the keys of tag lists.
use Rattle.documents.proofs.Common.{◌≡◌, ℕ, true, false, ◌||◌, ◌+◌, List, [], ◌∷◌, ◌++◌, Option, None, Some, map}
use Rattle.documents.proofs.Common.{length, get_or, refl, sym, ap, ap₂, subst, ◌∙◌, arith, get_or-append-add}
use Rattle.documents.proofs.Common.{option_map, ◌==◌, IsScalar, All, All-cons, All-head, All-map, All-nil, All-tail}
use Rattle.documents.proofs.Common.{or_left, or_right, get_or_append_left, list_any-append, sum_by-cons}
use Rattle.documents.proofs.Common.{bytes_eq-Decides, Named, AreTags, Tag, Tags, known_tags, Key, keys_of, key_named}
use Rattle.documents.proofs.Common.{key_pairs, keys_named, AreKnown, AreSeats, SlottedText, Pair, all_names}
use Rattle.documents.proofs.Common.{listed_names, with_name, with_names, piece_of, slots_named, with_found, keyed_text}
use Rattle.documents.proofs.Common.{is_among, is_same, Widget, KeyedText, slice_get, length-append, IfSome, bytes_eq}
use Rattle.documents.proofs.Common.{if◌then◌else◌, names_of, keys_of-empty, keys_of-set_slot, IsKnownPiece, known-named}
use Rattle.documents.proofs.Common.{among-looked, slot_for-named}
use Rattle.edit_ops.specs.Insertions.{total}
use Rattle.std.specs.FinSet as set
use Rattle.command_effects.specs.Lists as texts

-- a name of a tag has a slot for each widget
pub slot_found : (name : List ℕ) (tags : List Tag) (widget : ℕ) → is_among name (names_of tags) ≡ true →
    (slot : ℕ) × (known_tags tags widget name ≡ Some slot)
slot_found name tags widget among =
    let found = among-looked (λ (tag : Tag). tag.name) (λ (tag : Tag). tag.slot) name tags among in
    (if found.0 == 0 then widget else found.0, ap (option_map (λ slot. if slot == 0 then widget else slot)) found.1)

-- every name is that of a tag
abbrev pub AreTagNames : List Tag → List (List ℕ) → Type 0
AreTagNames tags names = All (λ name. is_among name (names_of tags) ≡ true) names

AreNames-front : (tags : List Tag) (xs ys : List (List ℕ)) → AreTagNames tags (xs ++ ys) → AreTagNames tags xs
AreNames-front tags xs ys known k name within =
    subst (λ n. is_among n (names_of tags) ≡ true) (get_or_append_left xs ys name k within)
    (known k name (omega (arith, within, length-append xs ys)))

AreNames-rest : (tags : List Tag) (xs ys : List (List ℕ)) → AreTagNames tags (xs ++ ys) → AreTagNames tags ys
AreNames-rest tags xs ys known k name within =
    subst (λ n. is_among n (names_of tags) ≡ true) (get_or-append-add xs ys k name)
    (known (length xs + k) name (omega (arith, within, length-append xs ys)))

-- a piece with the keys of its slots
abbrev pub keyed_piece : List (ℕ × Key) → SlottedText → KeyedText
keyed_piece pairs piece = record { text = piece.text; keys = option_map (keys_of pairs) piece.slots }

-- a widget of the seats
module _ (seats : List Named) (table : Tags) (seated : AreSeats seats) (sound : AreTags table) (seat_at : ℕ)
    (seat : Named) (sits : slice_get seats seat_at ≡ Some seat) where
  abbrev pairs_of : List (ℕ × Key)
  pairs_of = key_pairs seats table.tags

  -- the keys of the slots of a tag list are those of the list
  pub keys_of-slots_named : (names : List (List ℕ)) → AreTagNames table.tags names →
      keys_of pairs_of (slots_named table.tags seat.number names) ≡ keys_named seat.name names
  keys_of-slots_named [] known = keys_of-empty pairs_of
  keys_of-slots_named (name ∷ names) known =
      let found = slot_found name table.tags seat.number
      (All-head (λ n. is_among n (names_of table.tags) ≡ true) name names known) in
      ap (λ o. keys_of pairs_of (with_found o (slots_named table.tags seat.number names))) found.1
      ∙ keys_of-set_slot seats table seated sound (key_named seat.name name) found.0 true
      (slots_named table.tags seat.number names) (slot_for-named seats table seated sound seat_at seat name sits
      ∙ found.1)
      ∙ ap (λ keys. set.insert keys (key_named seat.name name))
      (keys_of-slots_named names (All-tail (λ n. is_among n (names_of table.tags) ≡ true) name names known))

  keyed-piece : (pair : Pair) → AreTagNames table.tags (listed_names pair.names)
      → keyed_piece pairs_of (piece_of table.tags seat.number pair)
      ≡ record { text = pair.text; keys = option_map (keys_named seat.name) pair.names }
  keyed-piece pair known =
      elim pair.names as (λ o. AreTagNames table.tags (listed_names o)
      → keyed_piece pairs_of (record { text = pair.text; slots = option_map (slots_named table.tags seat.number) o })
      ≡ record { text = pair.text; keys = option_map (keys_named seat.name) o }) [
        | None ↦ λ _. refl
        | Some names ↦ λ all. ap (λ keys. record { text = pair.text; keys = Some keys }) (keys_of-slots_named names all)
      ] known

  -- texts with the slots of their lists have the keys of these
  pub keyed-pieces : (widget : Widget) (pairs : List Pair) → widget.name ≡ seat.name →
      AreTagNames table.tags (all_names pairs)
      → map (keyed_piece pairs_of) (map (piece_of table.tags seat.number) pairs) ≡ map (keyed_text widget) pairs
  keyed-pieces widget [] same known = refl
  keyed-pieces widget (pair ∷ pairs) same known =
      ap₂ (λ text texts. text ∷ texts)
      (keyed-piece pair (AreNames-front table.tags (listed_names pair.names) (all_names pairs) known)
      ∙ ap (λ name. record { text = pair.text; keys = option_map (keys_named name) pair.names }) (sym same))
      (keyed-pieces widget pairs same (AreNames-rest table.tags (listed_names pair.names) (all_names pairs) known))

  -- texts of scalar values are pieces with slots of seats and tags alone
  pub known-pieces : (pairs : List Pair) → All (λ (pair : Pair). All IsScalar pair.text) pairs →
      All (IsKnownPiece seats table.tags) (map (piece_of table.tags seat.number) pairs)
  known-pieces pairs scalars =
      All-map (IsKnownPiece seats table.tags) (piece_of table.tags seat.number) pairs (λ k pair within.
      record { text = scalars k pair within; slots = listed (get_or pairs k pair).names })
    where
      listed : (names : Option (List (List ℕ))) →
          IfSome (option_map (slots_named table.tags seat.number) names) (AreKnown seats table.tags)
      listed None = tt
      listed (Some names) = known-named seats table seated sound seat_at seat sits names

pub total-pieces : (tags : List Tag) (widget : ℕ) (pairs : List Pair) →
    total (map (piece_of tags widget) pairs) ≡ texts.total pairs
total-pieces tags widget [] = refl
total-pieces tags widget (pair ∷ pairs) =
    sum_by-cons (λ (piece : SlottedText). length piece.text) (piece_of tags widget pair) (map (piece_of tags widget) pairs)
    ∙ ap (λ n. length pair.text + n) (total-pieces tags widget pairs)
    ∙ sym (sum_by-cons (λ (p : Pair). length p.text) pair pairs)

-- ---- the tags of lists that are made

among_more : (name other : List ℕ) (tags : List (List ℕ)) → is_among name tags ≡ true →
    is_among name (with_name tags other) ≡ true
among_more name other tags there =
    elim (is_among other tags) as (λ b. is_among name (if b then tags else tags ++ other ∷ []) ≡ true) [
      | true ↦ there
      | false ↦ list_any-append (is_same name) tags (other ∷ [])
          ∙ or_left (is_among name tags) (bytes_eq name other || false) there
    ]

among_new : (name : List ℕ) (tags : List (List ℕ)) → is_among name (with_name tags name) ≡ true
among_new name tags =
    elim (is_among name tags) as (λ b. is_among name tags ≡ b →
    is_among name (if b then tags else tags ++ name ∷ []) ≡ true) [
      | true ↦ λ there. there
      | false ↦ λ _. list_any-append (is_same name) tags (name ∷ [])
          ∙ or_right (is_among name tags) (bytes_eq name name
          || false) (or_left (bytes_eq name name) false ((bytes_eq-Decides name name).1 refl))
    ] refl

among_all : (name : List ℕ) (tags names : List (List ℕ)) → is_among name tags ≡ true →
    is_among name (with_names tags names) ≡ true
among_all name tags [] there = there
among_all name tags (other ∷ names) there =
    among_all name (with_name tags other) names (among_more name other tags there)

-- every name of the lists is a tag's afterwards
pub among-made : (tags names : List (List ℕ)) → All (λ name. is_among name (with_names tags names) ≡ true) names
among-made tags [] = All-nil (λ name. is_among name (with_names tags []) ≡ true)
among-made tags (name ∷ names) =
    All-cons (λ other. is_among other (with_names tags (name ∷ names))
    ≡ true) name names (among_all name (with_name tags name) names (among_new name tags))
    (among-made (with_name tags name) names)
