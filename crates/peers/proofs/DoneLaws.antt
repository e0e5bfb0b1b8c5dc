-- What holds of a document before a command of a widget, and after each edit of it, holds after the command.
use Rattle.peers.proofs.Common.{◌≡◌, ℕ, suc, ◌+◌, ◌≤◌, true, false, List, [], ◌∷◌, Option, Some, None, Ok, Err, length}
use Rattle.peers.proofs.Common.{refl, ap, ◌∙◌, ok_or, ⊤, All, ltb-false, All-cons, All-nil, LimitTable, boolean_of}
use Rattle.peers.proofs.Common.{Command, Insert, Delete, Replace, MarkGravity, MarkSet, MarkUnset, TagAdd, TagRemove}
use Rattle.peers.proofs.Common.{TagDelete, TagRaise, TagLower, Configure, EditUndo, EditRedo, EditModified, EditReset}
use Rattle.peers.proofs.Common.{EditSeparator, PeerCreate, one_or_more_of, two_or_more_of, none_or_one_of}
use Rattle.peers.proofs.Common.{one_or_two_of, two_of, with_value, Pair, pairs_at, is_among, Empty, Word, Fault}
use Rattle.peers.proofs.Common.{BadBoolean, IndexOrder, InvalidCommandName, TooManyWidgets, WindowExists, Settings}
use Rattle.peers.proofs.Common.{delete_places, replace_span, Document, Widget, edit_reset, modified_set, place_at}
use Rattle.peers.proofs.Common.{mark_offset, place_named, is_window_name, settings_of, with_settings, Change, answered}
use Rattle.peers.proofs.Common.{change_with, refused, unless_idle, add_spans, lowered, raised, remove_spans, reordered}
use Rattle.peers.proofs.Common.{insert_at, insertion_offset, shown, view_end, with_peer, Call, done, delete, replace}
use Rattle.peers.proofs.Common.{replace_places, replace_words, gravity_asked, gravity_given, gravity_words}
use Rattle.peers.proofs.Common.{mark_gravity, mark_set, set_at, set_words, configure, settings_given, places_at}
use Rattle.peers.proofs.Common.{add_words, remove_words, tag_add, tag_lower, tag_raise, tag_remove, insert_pairs}
use Rattle.peers.proofs.Common.{insert_words, peer_create, peer_settings, peer_with, Result, nat_le, nat_lt}
use Rattle.peers.proofs.Common.{if◌then◌else◌, Gravity, Place, gravity_of, edit_modified, modified_word, IsCarried}
use Rattle.peers.proofs.Common.{IsTextEdited, IsMarked, IsQuiet, IsTagged, carried-active, carried-with, insert}
use Rattle.documents.proofs.IndexPlaceLaws.{place-within}

-- ---- places of indices

value-there : {A B : Type 0} (found : Result A Fault) (next : A → Result B Fault) (made : B) →
    with_value found next ≡ Ok made
    → (value : A) × (found ≡ Ok value) × (next value ≡ Ok made)
value-there (Ok value) next made is = (value, refl, is)
value-there (Err fault) next made is = absurd (let h : Err fault ≡ Ok made = is in cc)

pub places-within : (document : Document) (widget : Widget) (position : ℕ) (words : List (List ℕ)) (places : List ℕ) →
    view_end document widget ≤ length document.cells
    → places_at document widget position words ≡ Ok places → All (λ place. place ≤ length (shown document widget)) places
places-within document widget position [] [] within is = All-nil (λ place. place ≤ length (shown document widget))
places-within document widget position [] (place ∷ places) within is =
    absurd (let h : Ok [] ≡ Ok (place ∷ places) = is in let e : [] ≡ place ∷ places = cc in cc)
places-within document widget position (word ∷ words) [] within is =
    let one = value-there (place_at document widget position word)
    (λ place. with_value (places_at document widget (suc position) words) (λ places. Ok (place ∷ places))) [] is in
    let place = one.0 in
    let rest = value-there (places_at document widget (suc position) words) (λ places. Ok (place ∷ places)) [] one.2 in
    let others = rest.0 in
    absurd (let h : Ok (place ∷ others) ≡ Ok [] = rest.2 in let e : place ∷ others ≡ [] = cc in cc)
places-within document widget position (word ∷ words) (first ∷ places) within is =
    let one = value-there (place_at document widget position word) (λ place.
    with_value (places_at document widget (suc position) words) (λ places. Ok (place ∷ places)))
    (first ∷ places) is in
    let place = one.0 in
    let rest = value-there (places_at document widget (suc position) words) (λ places. Ok (place ∷ places)) (first ∷ places)
    one.2 in
    let others = rest.0 in
    let whole : Ok (place ∷ others) ≡ Ok (first ∷ places) = rest.2 in
    let same : place ∷ others ≡ first ∷ places = cc in
    let head : place ≡ first = cc in
    let tail : others ≡ places = cc in
    All-cons (λ place. place ≤ length (shown document widget)) first places
    (place-within document widget position word first within (one.1 ∙ ap Ok head))
    (places-within document widget (suc position) words places within (rest.1 ∙ ap Ok tail))

-- ---- by their words

-- a command that makes another edit than those
abbrev pub IsOther : Command → Type 0
IsOther Configure = ⊤
IsOther EditReset = ⊤
IsOther PeerCreate = ⊤
IsOther command = ⊥

-- a command that edits the text
abbrev pub IsTextEdit : Command → Type 0
IsTextEdit Insert = ⊤
IsTextEdit Delete = ⊤
IsTextEdit Replace = ⊤
IsTextEdit EditUndo = ⊤
IsTextEdit EditRedo = ⊤
IsTextEdit command = ⊥

-- a command that puts tags on characters or takes them off
abbrev pub IsTagEdit : Command → Type 0
IsTagEdit TagAdd = ⊤
IsTagEdit TagRemove = ⊤
IsTagEdit TagDelete = ⊤
IsTagEdit command = ⊥

-- a command that sets marks, gives them another gravity or takes them out
abbrev pub IsMarkMove : Command → Type 0
IsMarkMove MarkGravity = ⊤
IsMarkMove MarkSet = ⊤
IsMarkMove MarkUnset = ⊤
IsMarkMove command = ⊥

-- the call of a widget's command with these words
abbrev pub calling : LimitTable → List (List ℕ) → Widget → List (List ℕ) → ℕ → List (List ℕ) → Call
calling limits windows widget switches position arguments = record {
  limits = limits;
  windows = windows;
  widget = widget;
  switches = switches;
  position = position;
  arguments = arguments;
}

-- ---- commands that leave the characters, their tags and the marks

module _ (limits : LimitTable) (document : Document) (widget : Widget) (P : Document →
    Type 0) (quiet : IsQuiet limits document widget P) where
  raises : (position : ℕ) (words : List (List ℕ)) → P (tag_raise document position words).document
  raises position words = carried-with P document (one_or_two_of words) (reordered document position raised) quiet.same
      (λ given _. quiet.ordered position raised given)

  lowers : (position : ℕ) (words : List (List ℕ)) → P (tag_lower document position words).document
  lowers position words = carried-with P document (one_or_two_of words) (reordered document position lowered) quiet.same
      (λ given _. quiet.ordered position lowered given)

  modifies-word : (position : ℕ) (word : Option (List ℕ)) → P (modified_word document position word).document
  modifies-word position None = quiet.same
  modifies-word position (Some word) =
      carried-with P document (ok_or (boolean_of word) (BadBoolean position)) (modified_set document) quiet.same
      (λ flag _. quiet.modified flag)

  modifies : (position : ℕ) (words : List (List ℕ)) → P (edit_modified document position words).document
  modifies position words =
      carried-with P document (none_or_one_of words) (modified_word document position) quiet.same (λ word _.
      modifies-word position word)

  -- any command, where it holds after those that edit the text or tags or move marks, and after three others
  pub quiet-done : (command : Command) (windows switches : List (List ℕ)) (position : ℕ) (arguments : List (List ℕ))
      → let made = (done command document (calling limits windows widget switches position arguments)).document in
      (IsTextEdit command → P made) → (IsTagEdit command → P made) → (IsMarkMove command → P made) →
      (IsOther command → P made) → P made
  quiet-done Insert windows switches position arguments edit tag move other = edit tt
  quiet-done Delete windows switches position arguments edit tag move other = edit tt
  quiet-done Replace windows switches position arguments edit tag move other = edit tt
  quiet-done MarkGravity windows switches position arguments edit tag move other = move tt
  quiet-done MarkSet windows switches position arguments edit tag move other = move tt
  quiet-done MarkUnset windows switches position arguments edit tag move other = move tt
  quiet-done TagAdd windows switches position arguments edit tag move other = tag tt
  quiet-done TagRemove windows switches position arguments edit tag move other = tag tt
  quiet-done TagDelete windows switches position arguments edit tag move other = tag tt
  quiet-done TagRaise windows switches position arguments edit tag move other = raises position arguments
  quiet-done TagLower windows switches position arguments edit tag move other = lowers position arguments
  quiet-done Configure windows switches position arguments edit tag move other = other tt
  quiet-done EditUndo windows switches position arguments edit tag move other = edit tt
  quiet-done EditRedo windows switches position arguments edit tag move other = edit tt
  quiet-done EditModified windows switches position arguments edit tag move other = modifies position arguments
  quiet-done EditReset windows switches position arguments edit tag move other = other tt
  quiet-done EditSeparator windows switches position arguments edit tag move other = quiet.separated
  quiet-done PeerCreate windows switches position arguments edit tag move other = other tt
  quiet-done command windows switches position arguments edit tag move other = quiet.same

-- ---- commands that edit tags

module _ (limits : LimitTable) (document : Document) (widget : Widget) (P : Document → Type 0) (same : P document)
    (tagged : IsTagged limits document widget P) where
  adds : (position : ℕ) (words : List (List ℕ)) → P (tag_add limits document widget position words).document
  adds position words =
      carried-with P document (one_or_more_of words) (add_words limits document widget position) same (λ given _.
      carried-with P document (places_at document widget (position + 1) given.1)
      (add_spans limits document widget given.0) same (λ places _.
      tagged.added given.0 places))

  removes : (position : ℕ) (words : List (List ℕ)) → P (tag_remove document widget position words).document
  removes position words =
      carried-with P document (one_or_more_of words) (remove_words document widget position) same (λ given _.
      carried-with P document (places_at document widget (position + 1) given.1) (remove_spans document widget given.0)
      same (λ places _.
      tagged.removed given.0 places))

  pub tags-done : (command : Command) (windows switches : List (List ℕ)) (position : ℕ) (arguments : List (List ℕ)) →
      IsTagEdit command
      → P (done command document (calling limits windows widget switches position arguments)).document
  tags-done TagAdd windows switches position arguments is = adds position arguments
  tags-done TagRemove windows switches position arguments is = removes position arguments
  tags-done TagDelete windows switches position arguments is = tagged.untagged arguments
  tags-done command windows switches position arguments is = absurd is

-- ---- commands that move marks

module _ (limits : LimitTable) (document : Document) (widget : Widget) (P : Document → Type 0) (same : P document)
    (marked : IsMarked limits document widget P) where
  asks-gravity : (position : ℕ) (found : Option Place) → P (gravity_asked document position found).document
  asks-gravity position None = same
  asks-gravity position (Some place) = same

  gives-gravity : (position : ℕ) (name : List ℕ) (found : Option Place) (gravity : Option Gravity) →
      place_named document widget name ≡ found → P (gravity_given document widget position name found gravity).document
  gives-gravity position name None gravity is = same
  gives-gravity position name (Some place) None is = same
  gives-gravity position name (Some place) (Some gravity) is = marked.turned name place gravity is

  turns-words : (position : ℕ) (words : List ℕ × Option (List ℕ)) →
      P (gravity_words document widget position words).document
  turns-words position (name, None) = asks-gravity position (place_named document widget name)
  turns-words position (name, Some word) =
      gives-gravity position name (place_named document widget name) (gravity_of word) refl

  turns : (position : ℕ) (words : List (List ℕ)) → P (mark_gravity document widget position words).document
  turns position words =
      carried-with P document (one_or_two_of words) (gravity_words document widget position) same (λ given _. turns-words position given)

  sets : (position : ℕ) (words : List (List ℕ)) → P (mark_set limits document widget position words).document
  sets position words =
      carried-with P document (two_of words) (set_words limits document widget position) same (λ given _.
      carried-with P document (place_at document widget (position + 1) given.1) (set_at limits document widget given.0)
      same (λ place _.
      marked.set given.0 (mark_offset document widget given.0 place) (place_named document widget given.0)))

  pub marks-done : (command : Command) (windows switches : List (List ℕ)) (position : ℕ) (arguments : List (List ℕ)) →
      IsMarkMove command
      → P (done command document (calling limits windows widget switches position arguments)).document
  marks-done MarkGravity windows switches position arguments is = turns position arguments
  marks-done MarkSet windows switches position arguments is = sets position arguments
  marks-done MarkUnset windows switches position arguments is = marked.unset arguments
  marks-done command windows switches position arguments is = absurd is

-- ---- commands that edit the text

module _ (limits : LimitTable) (document : Document) (widget : Widget) (P : Document → Type 0) (same : P document)
    (edited : IsTextEdited limits document widget P) where
  inserts : (position : ℕ) (words : List (List ℕ)) → P (insert limits document widget position words).document
  inserts position words =
      carried-with P document (one_or_more_of words) (insert_words limits document widget position) same
      (λ given _.
      carried-with P document (place_at document widget position given.0)
      (insert_pairs limits document widget (pairs_at (position + 1) given.1)) same (λ place _.
      carried-with P document (pairs_at (position + 1) given.1)
      (λ pairs. unless_idle widget document (insert_at limits document widget (insertion_offset document widget place)
      pairs)) same (λ pairs _.
      carried-active P document widget (insert_at limits document widget (insertion_offset document widget place) pairs)
      same
      (edited.inserted place pairs))))

  replaces-places : (second from to : ℕ) (pairs : List Pair) →
      P (replace_places limits document widget second from to pairs).document
  replaces-places second from to pairs =
      let change = replace_span limits document widget (insertion_offset document widget from)
      (insertion_offset document widget to) pairs in
      elim (nat_lt to from) as (λ b. nat_lt to from ≡ b →
      P (if b then refused document (IndexOrder second) else unless_idle widget document change).document) [
        | true ↦ λ _. same
        | false ↦ λ ordered. carried-active P document widget change same (λ busy.
            edited.replaced from to pairs busy (ltb-false to from ordered))
      ] refl

  replaces : (position : ℕ) (words : List (List ℕ)) → P (replace limits document widget position words).document
  replaces position words =
      carried-with P document (two_or_more_of words) (replace_words limits document widget position) same
      (λ given _.
      carried-with P document (place_at document widget position given.0) (λ from.
      change_with document (place_at document widget (position + 1) given.1) (λ to.
      change_with document (pairs_at (position + 2) given.2) (replace_places limits document widget (position + 1) from to)))
      same (λ from _.
      carried-with P document (place_at document widget (position + 1) given.1) (λ to.
      change_with document (pairs_at (position + 2) given.2) (replace_places limits document widget (position + 1) from to))
      same (λ to _.
      carried-with P document (pairs_at (position + 2) given.2) (replace_places limits document widget (position + 1) from to)
      same (λ pairs _.
      replaces-places (position + 1) from to pairs))))

  deletes : (position : ℕ) (words : List (List ℕ)) → P (delete document widget position words).document
  deletes position words =
      carried-with P document (places_at document widget position words) (λ places.
      unless_idle widget document (delete_places document widget places)) same
      (λ places is.
      carried-active P document widget (delete_places document widget places) same (λ busy.
      edited.deleted places busy (λ within. places-within document widget position words places within is)))

  pub edits-done : (command : Command) (windows switches : List (List ℕ)) (position : ℕ) (arguments : List (List ℕ)) →
      IsTextEdit command
      → P (done command document (calling limits windows widget switches position arguments)).document
  edits-done Insert windows switches position arguments is = inserts position arguments
  edits-done Delete windows switches position arguments is = deletes position arguments
  edits-done Replace windows switches position arguments is = replaces position arguments
  edits-done EditUndo windows switches position arguments is = edited.grouped true
  edits-done EditRedo windows switches position arguments is = edited.grouped false
  edits-done command windows switches position arguments is = absurd is

-- ---- any command but three

module _ (limits : LimitTable) (document : Document) (widget : Widget) (P : Document →
    Type 0) (carried : IsCarried limits document widget P) where
  pub carried-done : (command : Command) (windows switches : List (List ℕ)) (position : ℕ) (arguments : List (List ℕ))
      → let made = (done command document (calling limits windows widget switches position arguments)).document in
      (IsOther command → P made) → P made
  carried-done command windows switches position arguments other =
      quiet-done limits document widget P carried.quiet command windows switches position arguments
      (edits-done limits document widget P carried.quiet.same carried.edited command windows switches position arguments)
      (tags-done limits document widget P carried.quiet.same carried.tagged command windows switches position arguments)
      (marks-done limits document widget P carried.quiet.same carried.marked command windows switches position arguments)
      other

-- ---- the three others

module _ (limits : LimitTable) (windows : List (List ℕ)) (document : Document) (widget : Widget) (P : Document →
    Type 0) (same : P document) (configured : (settings : Settings) → P (with_settings widget settings document))
    (peered : (name : List ℕ) (settings : Settings) → P (with_peer name settings document))
    (reset : P (edit_reset document).document) where
  configures : (position : ℕ) (words : List (List ℕ)) → P (configure document widget position words).document
  configures position words =
      carried-with P document (settings_given document position words (settings_of document widget))
      (λ settings. answered (with_settings widget settings document) Empty) same (λ settings _. configured settings)

  peers-with : (position : ℕ) (name : List ℕ) (settings : Settings)
      → P (peer_with limits windows document position name settings).document
  peers-with position name settings =
      let made : Change = answered (with_peer name settings document) (Word position) in
      let few : Change = if nat_le limits.widgets (length windows) then refused document TooManyWidgets else made in
      elim (is_among name windows) as
      (λ b. P (if b then refused document (WindowExists position) else few).document) [
        | true ↦ same
        | false ↦ elim (nat_le limits.widgets (length windows)) as
            (λ b. P (if b then refused document TooManyWidgets else made).document)
            [ true ↦ same | false ↦ peered name settings ]
      ]

  peers : (position : ℕ) (words : List (List ℕ)) → P (peer_create limits windows document widget position words).document
  peers position [] = same
  peers position (name ∷ words) =
      let found = settings_given document (position + 1) words (peer_settings document widget) in
      elim (is_window_name name) as (λ b. P
      (if b then change_with document found (peer_with limits windows document position name)
      else refused document (InvalidCommandName position)).document) [
        | true ↦ carried-with P document found (peer_with limits windows document position name) same
            (λ settings _. peers-with position name settings)
        | false ↦ same
      ]

  -- what holds of a document, after options of its widget, a peer and a reset
  pub other-done : (command : Command) (switches : List (List ℕ)) (position : ℕ) (arguments : List (List ℕ))
      → IsOther command
      → P (done command document (calling limits windows widget switches position arguments)).document
  other-done Configure switches position arguments is = configures position arguments
  other-done EditReset switches position arguments is = reset
  other-done PeerCreate switches position arguments is = peers position arguments
  other-done command switches position arguments is = absurd is
