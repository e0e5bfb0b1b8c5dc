-- A command of a widget that doesn't edit the text makes no edits of it.
use Rattle.peers.proofs.Common.{◌≡◌, ℕ, ◌+◌, Bool, true, false, List, [], Option, Some, None, Ok, Err, Result, refl}
use Rattle.peers.proofs.Common.{ok_or, LimitTable, boolean_of, Command, Insert, Delete, Replace, MarkGravity, MarkSet}
use Rattle.peers.proofs.Common.{TagAdd, TagRemove, TagRaise, TagLower, Configure, EditUndo, EditRedo, EditModified}
use Rattle.peers.proofs.Common.{PeerCreate, one_or_more_of, none_or_one_of, one_or_two_of, two_of, is_among, Fault}
use Rattle.peers.proofs.Common.{BadBoolean, NoSuchTag, TooManyTags, TooManyMarks, InvalidCommandName, TooManyWidgets}
use Rattle.peers.proofs.Common.{WindowExists, Document, Widget, modified_set, place_at, mark_offset, place_named}
use Rattle.peers.proofs.Common.{is_window_name, settings_of, Change, change_with, refused, add_spans, lowered, raised}
use Rattle.peers.proofs.Common.{remove_spans, reordered, set_found, done, gravity_asked, gravity_given, gravity_words}
use Rattle.peers.proofs.Common.{set_at, set_words, settings_given, places_at, add_words, remove_words, peer_settings}
use Rattle.peers.proofs.Common.{peer_with, nat_le, nat_lt, if◌then◌else◌, length, Gravity, Place, gravity_of}
use Rattle.peers.proofs.Common.{modified_word, peer_words}
use Rattle.peers.proofs.DoneLaws.{IsTextEdit, calling}

still-with : {A : Type 0} (document : Document) (value : Result A Fault) (next : A → Change)
    → ((given : A) → (next given).edits ≡ []) → (change_with document value next).edits ≡ []
still-with document (Err fault) next still = refl
still-with document (Ok given) next still = still given

still-if : (test : Bool) (one other : Change) → one.edits ≡ [] → other.edits ≡ []
    → (if test then one else other).edits ≡ []
still-if true one other first second = first
still-if false one other first second = second

module _ (limits : LimitTable) (windows : List (List ℕ)) (document : Document) (widget : Widget) where
  asks : (position : ℕ) (found : Option Place) → (gravity_asked document position found).edits ≡ []
  asks position None = refl
  asks position (Some place) = refl

  gives : (position : ℕ) (name : List ℕ) (found : Option Place) (gravity : Option Gravity)
      → (gravity_given document widget position name found gravity).edits ≡ []
  gives position name None gravity = refl
  gives position name (Some place) None = refl
  gives position name (Some place) (Some gravity) = refl

  turns : (position : ℕ) (words : List ℕ × Option (List ℕ)) → (gravity_words document widget position words).edits ≡ []
  turns position (name, None) = asks position (place_named document widget name)
  turns position (name, Some word) = gives position name (place_named document widget name) (gravity_of word)

  sets-found : (name : List ℕ) (offset : ℕ) (found : Option Place)
      → (set_found limits document widget name offset found).edits ≡ []
  sets-found name offset (Some place) = refl
  sets-found name offset None =
      still-if (nat_le limits.marks (length document.marks)) (refused document TooManyMarks) _ refl refl

  sets : (position : ℕ) (words : List ℕ × List ℕ) → (set_words limits document widget position words).edits ≡ []
  sets position (name, word) =
      still-with document (place_at document widget (position + 1) word) (set_at limits document widget name)
      (λ place. sets-found name (mark_offset document widget name place) (place_named document widget name))

  adds : (position : ℕ) (words : List ℕ × List (List ℕ)) → (add_words limits document widget position words).edits ≡ []
  adds position (name, words) =
      still-with document (places_at document widget (position + 1) words) (add_spans limits document widget name)
      (λ places. still-if (nat_lt (limits.tags + 1) _) (refused document TooManyTags) _ refl refl)

  removes : (position : ℕ) (words : List ℕ × List (List ℕ))
      → (remove_words document widget position words).edits ≡ []
  removes position (name, words) =
      still-with document (places_at document widget (position + 1) words) (remove_spans document widget name)
      (λ places. refl)

  orders : (position : ℕ) (order : List (List ℕ) → List ℕ → Option (List ℕ) → List (List ℕ))
      (words : List ℕ × Option (List ℕ)) → (reordered document position order words).edits ≡ []
  orders position order (name, None) =
      still-if (is_among name document.tags) _ (refused document (NoSuchTag position)) refl refl
  orders position order (name, Some other) =
      still-if (is_among name document.tags) _ (refused document (NoSuchTag position))
      (still-if (is_among other document.tags) _ (refused document (NoSuchTag (position + 1))) refl refl) refl

  modifies : (position : ℕ) (word : Option (List ℕ)) → (modified_word document position word).edits ≡ []
  modifies position None = refl
  modifies position (Some word) =
      still-with document (ok_or (boolean_of word) (BadBoolean position)) (modified_set document) (λ flag. refl)

  creates : (position : ℕ) (words : List ℕ × List (List ℕ))
      → (peer_words limits windows document widget position words).edits ≡ []
  creates position (name, words) =
      still-if (is_window_name name) _ (refused document (InvalidCommandName position))
      (still-with document (settings_given document (position + 1) words (peer_settings document widget))
      (peer_with limits windows document position name)
      (λ settings. still-if (is_among name windows) (refused document (WindowExists position)) _ refl
      (still-if (nat_le limits.widgets (length windows)) (refused document TooManyWidgets) _ refl refl))) refl

  pub still-text : (command : Command) (switches : List (List ℕ)) (position : ℕ) (arguments : List (List ℕ))
      → (IsTextEdit command → ⊥)
      → (done command document (calling limits windows widget switches position arguments)).edits ≡ []
  still-text Insert switches position arguments text = absurd (text tt)
  still-text Delete switches position arguments text = absurd (text tt)
  still-text Replace switches position arguments text = absurd (text tt)
  still-text EditUndo switches position arguments text = absurd (text tt)
  still-text EditRedo switches position arguments text = absurd (text tt)
  still-text MarkGravity switches position arguments text =
      still-with document (one_or_two_of arguments) (gravity_words document widget position) (turns position)
  still-text MarkSet switches position arguments text =
      still-with document (two_of arguments) (set_words limits document widget position) (sets position)
  still-text TagAdd switches position arguments text =
      still-with document (one_or_more_of arguments) (add_words limits document widget position) (adds position)
  still-text TagRemove switches position arguments text =
      still-with document (one_or_more_of arguments) (remove_words document widget position) (removes position)
  still-text TagRaise switches position arguments text =
      still-with document (one_or_two_of arguments) (reordered document position raised) (orders position raised)
  still-text TagLower switches position arguments text =
      still-with document (one_or_two_of arguments) (reordered document position lowered) (orders position lowered)
  still-text Configure switches position arguments text =
      still-with document (settings_given document position arguments (settings_of document widget)) _ (λ settings. refl)
  still-text EditModified switches position arguments text =
      still-with document (none_or_one_of arguments) (modified_word document position) (modifies position)
  still-text PeerCreate switches position arguments text =
      still-with document (one_or_more_of arguments) (peer_words limits windows document widget position) (creates position)
  still-text command switches position arguments text = refl
