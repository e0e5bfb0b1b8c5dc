-- What a command answers where it changes the world: nothing, or the name of a window.
use Rattle.peers.proofs.Common.{◌≡◌, ◌⊎◌, inl, inr, ℕ, suc, ◌+◌, Bool, true, false, List, [], ◌∷◌, ◌++◌, drop, Option}
use Rattle.peers.proofs.Common.{None, Some, Result, Ok, Err, refl, sym, ap, ◌∙◌, subst, is_among, is_same, literal}
use Rattle.peers.proofs.Common.{pairs_at, if◌then◌else◌, length, nat_le, nat_lt, slice_set, ok_or, boolean_of}
use Rattle.peers.proofs.Common.{LimitTable, Command, one_or_more_of, two_or_more_of, none_or_one_of, one_or_two_of}
use Rattle.peers.proofs.Common.{two_of, Empty, Word, Fault, BadBoolean, IndexOrder, TooManyWidgets, WindowExists}
use Rattle.peers.proofs.Common.{InvalidCommandName, Insert, Delete, Replace, MarkGravity, MarkSet, MarkUnset, TagAdd}
use Rattle.peers.proofs.Common.{TagRemove, TagDelete, TagRaise, TagLower, Configure, EditUndo, EditRedo, EditModified}
use Rattle.peers.proofs.Common.{EditReset, PeerCreate, EditSeparator, Settings, Shape, ShapeFault, behind, reading}
use Rattle.peers.proofs.Common.{document_at, World, Outcome, delete_places, replace_span, Document, Widget, place_at}
use Rattle.peers.proofs.Common.{mark_offset, place_named, is_window_name, settings_of, with_settings, Change, answered}
use Rattle.peers.proofs.Common.{change_with, refused, unless_idle, add_spans, remove_spans, lowered, raised, reordered}
use Rattle.peers.proofs.Common.{insert_at, insertion_offset, with_peer, widget_named, Call, call_of, command, done}
use Rattle.peers.proofs.Common.{shaped, replace_places, replace_words, gravity_words, set_at, set_words, places_at}
use Rattle.peers.proofs.Common.{settings_given, add_words, remove_words, insert_pairs, insert_words, peer_create}
use Rattle.peers.proofs.Common.{peer_settings, peer_with, peer_words, changed, create, create_new, create_shaped}
use Rattle.peers.proofs.Common.{create_with, destroy_shaped, on_found, on_home, on_widget, step, home, modified_set}
use Rattle.peers.proofs.Common.{all_windows, first_settings, bare_document, subcommand, refuses, new_document, eqb-true}
use Rattle.peers.proofs.Common.{configure, delete, gravity_asked, gravity_given, mark_set, replace, tag_add, tag_remove}
use Rattle.peers.proofs.Common.{slice_index_or, zero, is_idle, tags_with, within_limits, known_or, set_found, next_redo}
use Rattle.peers.proofs.Common.{next_undo, total, with_name, NoSuchTag, TextTooLong, TooManyMarks, TooManyTags}
use Rattle.peers.proofs.Common.{modified_word, NamesWindow, Gravity, Place, gravity_of, bad_or, shape_in, text_entry}
use Rattle.peers.proofs.Common.{destroy_entry, characters, joined_text, insert, group_found, with_group}
use Rattle.edit_ops.specs.Replays.{replays}
use Rattle.edit_ops.specs.Told.{deletion, insertion}
use Rattle.documents.specs.Promise.{edited}
use Rattle.command_table.specs.declared.shapes.ShapeFault.TheVariants.{WrongArguments}
use Rattle.undo_stack.specs.declared.actions.Action.{Action}
use Rattle.peers.proofs.WorldLaws.{set-same}
use Rattle.command_table.specs.Entries.{bad_option, fits}

-- ---- the name of a window

dotted : (name : List ℕ) → is_window_name name ≡ true → (rest : List ℕ) × (name ≡ 46 ∷ rest)
dotted [] named = absurd (let h : false ≡ true = named in cc)
dotted (character ∷ []) named = absurd (let h : false ≡ true = named in cc)
dotted (character ∷ other ∷ others) named = (other ∷ others, ap (λ c. c ∷ other ∷ others) (eqb-true character 46 named))

-- the word at a position is the first of those that begin there
word-there : (words : List (List ℕ)) (position : ℕ) (name : List ℕ) (rest : List (List ℕ)) →
    drop position words ≡ name ∷ rest → slice_index_or words position [] ≡ name
word-there [] zero name rest is = absurd (let h : [] ≡ name ∷ rest = is in cc)
word-there [] (suc position) name rest is = absurd (let h : [] ≡ name ∷ rest = is in cc)
word-there (word ∷ words) zero name rest is = let h : word ∷ words ≡ name ∷ rest = is in cc
word-there (word ∷ words) (suc position) name rest is = word-there words position name rest is

named-there : (words : List (List ℕ)) (position : ℕ) (name : List ℕ) (rest : List (List ℕ)) →
    drop position words ≡ name ∷ rest → is_window_name name ≡ true
    → NamesWindow words (Ok (Word position))
named-there words position name rest is named =
    let dot = dotted name named in (dot.0, word-there words position name rest is ∙ dot.1)

-- ---- commands of a widget

module _ (words : List (List ℕ)) (document : Document) where
  abbrev pub IsSettled : Change → Type 0
  IsSettled change = (change.document ≡ document) ⊎ NamesWindow words change.reply

  said : (new : Document) → IsSettled (answered new Empty)
  said new = inr tt

  given : {A : Type 0} (found : Result A Fault) (next : A → Change) → ((value : A) → IsSettled (next value))
      → IsSettled (change_with document found next)
  given (Err fault) next each = inl refl
  given (Ok value) next each = each value

  either : (test : Bool) (one other : Change) → IsSettled one → IsSettled other →
      IsSettled (if test then one else other)
  either true one other first second = first
  either false one other first second = second

  refusing : (fault : Fault) → IsSettled (refused document fault)
  refusing fault = inl refl

  busy : (widget : Widget) (change : Change) → IsSettled change → IsSettled (unless_idle widget document change)
  busy widget change settled = either (is_idle document widget) (answered document Empty) change (inl refl) settled

  limited : (limits : LimitTable) (tags chars : ℕ) (change : Change) → IsSettled change
      → IsSettled (within_limits limits document tags chars change)
  limited limits tags chars change settled =
      either (nat_lt (limits.tags + 1) tags) (refused document TooManyTags)
      (if nat_lt limits.chars chars then refused document TextTooLong else change) (refusing TooManyTags)
      (either (nat_lt limits.chars chars) (refused document TextTooLong) change (refusing TextTooLong) settled)

  known : (position : ℕ) (name : List ℕ) (change : Change) → IsSettled change →
      IsSettled (known_or document position name change)
  known position name change settled =
      either (is_among name document.tags) change (refused document (NoSuchTag position)) settled
      (refusing (NoSuchTag position))

  inserts : (limits : LimitTable) (widget : Widget) (position : ℕ) (given : List (List ℕ)) →
      IsSettled (insert limits document widget position given)
  inserts limits widget position arguments =
      given (one_or_more_of arguments) (insert_words limits document widget position) (λ parts.
      given (place_at document widget position parts.0)
      (insert_pairs limits document widget (pairs_at (position + 1) parts.1)) (λ place.
      given (pairs_at (position + 1) parts.1)
      (λ pairs. unless_idle widget document (insert_at limits document widget (insertion_offset document widget place)
      pairs)) (λ pairs.
      busy widget (insert_at limits document widget (insertion_offset document widget place) pairs)
      (limited limits (length (tags_with document pairs)) (length document.cells + total pairs)
      (edited _ (insertion (insertion_offset document widget place) (joined_text pairs) ∷ [])) (said _)))))

  deletes : (widget : Widget) (position : ℕ) (arguments : List (List ℕ)) →
      IsSettled (delete document widget position arguments)
  deletes widget position arguments =
      given (places_at document widget position arguments)
      (λ places. unless_idle widget document (delete_places document widget places)) (λ places.
      busy widget (delete_places document widget places) (said _))

  replaces : (limits : LimitTable) (widget : Widget) (position : ℕ) (arguments : List (List ℕ)) →
      IsSettled (replace limits document widget position arguments)
  replaces limits widget position arguments =
      given (two_or_more_of arguments) (replace_words limits document widget position) (λ parts.
      given (place_at document widget position parts.0) (λ from.
      change_with document (place_at document widget (position + 1) parts.1) (λ to.
      change_with document (pairs_at (position + 2) parts.2)
      (replace_places limits document widget (position + 1) from to))) (λ from.
      given (place_at document widget (position + 1) parts.1) (λ to.
      change_with document (pairs_at (position + 2) parts.2)
      (replace_places limits document widget (position + 1) from to)) (λ to.
      given (pairs_at (position + 2) parts.2) (replace_places limits document widget (position + 1) from to) (λ pairs.
      let change = replace_span limits document widget (insertion_offset document widget from)
      (insertion_offset document widget to) pairs in
      either (nat_lt to from) (refused document (IndexOrder (position + 1))) (unless_idle widget document change)
      (refusing (IndexOrder (position + 1))) (busy widget change (limited limits (length (tags_with document pairs)) _
      (edited _ (deletion (characters document.cells) (insertion_offset document widget from)
      (insertion_offset document widget to)
      ∷ insertion (insertion_offset document widget from) (joined_text pairs) ∷ [])) (said _)))))))

  turns-word : (widget : Widget) (position : ℕ) (name : List ℕ) (place : Option Place) (gravity : Option Gravity) →
      IsSettled (gravity_given document widget position name place gravity)
  turns-word widget position name None gravity = inl refl
  turns-word widget position name (Some place) None = inl refl
  turns-word widget position name (Some place) (Some gravity) = said _

  asks : (position : ℕ) (place : Option Place) → IsSettled (gravity_asked document position place)
  asks position None = inl refl
  asks position (Some place) = inl refl

  turns-words : (widget : Widget) (position : ℕ) (parts : List ℕ × Option (List ℕ)) →
      IsSettled (gravity_words document widget position parts)
  turns-words widget position (name, None) = asks position (place_named document widget name)
  turns-words widget position (name, Some word) =
      turns-word widget position name (place_named document widget name) (gravity_of word)

  set-found : (limits : LimitTable) (widget : Widget) (name : List ℕ) (offset : ℕ) (place : Option Place) →
      IsSettled (set_found limits document widget name offset place)
  set-found limits widget name offset (Some old) = said _
  set-found limits widget name offset None =
      either (nat_le limits.marks (length document.marks)) (refused document TooManyMarks) (answered _ Empty)
      (refusing TooManyMarks) (said _)

  sets : (limits : LimitTable) (widget : Widget) (position : ℕ) (arguments : List (List ℕ)) →
      IsSettled (mark_set limits document widget position arguments)
  sets limits widget position arguments =
      given (two_of arguments) (set_words limits document widget position) (λ parts.
      given (place_at document widget (position + 1) parts.1) (set_at limits document widget parts.0) (λ place.
      set-found limits widget parts.0 (mark_offset document widget parts.0 place)
      (place_named document widget parts.0)))

  adds : (limits : LimitTable) (widget : Widget) (position : ℕ) (arguments : List (List ℕ)) →
      IsSettled (tag_add limits document widget position arguments)
  adds limits widget position arguments =
      given (one_or_more_of arguments) (add_words limits document widget position) (λ parts.
      given (places_at document widget (position + 1) parts.1) (add_spans limits document widget parts.0) (λ places.
      either (nat_lt (limits.tags + 1) (length (with_name document.tags parts.0))) (refused document TooManyTags)
      (answered _ Empty) (refusing TooManyTags) (said _)))

  removes : (widget : Widget) (position : ℕ) (arguments : List (List ℕ)) →
      IsSettled (tag_remove document widget position arguments)
  removes widget position arguments =
      given (one_or_more_of arguments) (remove_words document widget position) (λ parts.
      given (places_at document widget (position + 1) parts.1) (remove_spans document widget parts.0) (λ places. said _))

  orders : (position : ℕ) (order : List (List ℕ) → List ℕ → Option (List ℕ) → List (List ℕ))
      (parts : List ℕ × Option (List ℕ)) → IsSettled (reordered document position order parts)
  orders position order (name, None) = known position name (answered _ Empty) (said _)
  orders position order (name, Some other) =
      known position name (known_or document (position + 1) other (answered _ Empty))
      (known (position + 1) other (answered _ Empty) (said _))

  configures : (widget : Widget) (position : ℕ) (arguments : List (List ℕ)) →
      IsSettled (configure document widget position arguments)
  configures widget position arguments =
      given (settings_given document position arguments (settings_of document widget))
      (λ settings. answered (with_settings widget settings document) Empty) (λ settings. said _)

  groups : (back : Bool) (widget : Widget) (found : Option (List Action)) →
      IsSettled (group_found back document widget found)
  groups back widget None = inl refl
  groups back widget (Some group) =
      busy widget (edited (with_group back widget group document) (replays back group)) (said _)

  modifies-word : (position : ℕ) (word : Option (List ℕ)) → IsSettled (modified_word document position word)
  modifies-word position None = inl refl
  modifies-word position (Some word) =
      given (ok_or (boolean_of word) (BadBoolean position)) (modified_set document) (λ flag. said _)

  -- the name of a new widget is no such line
  peers-named : (limits : LimitTable) (windows : List (List ℕ)) (widget : Widget) (position : ℕ)
      (parts : List ℕ × List (List ℕ)) → drop position words ≡ parts.0 ∷ parts.1
      → IsSettled (peer_words limits windows document widget position parts)
  peers-named limits windows widget position (name, options) there =
      let found = settings_given document (position + 1) options (peer_settings document widget) in
      elim (is_window_name name) as (λ b. is_window_name name ≡ b → IsSettled
      (if b then change_with document found (peer_with limits windows document position name)
      else refused document (InvalidCommandName position))) [
        | true ↦ λ named. given found (peer_with limits windows document position name) (λ settings.
            either (is_among name windows) (refused document (WindowExists position))
            (if nat_le limits.widgets (length windows) then refused document TooManyWidgets
            else answered (with_peer name settings document) (Word position)) (refusing (WindowExists position))
            (either (nat_le limits.widgets (length windows)) (refused document TooManyWidgets)
            (answered (with_peer name settings document) (Word position)) (refusing TooManyWidgets)
            (inr (named-there words position name options there named))))
        | false ↦ λ _. refusing (InvalidCommandName position)
      ] refl

  peers : (limits : LimitTable) (windows : List (List ℕ)) (widget : Widget) (position : ℕ)
      (arguments : List (List ℕ)) → arguments ≡ drop position words
      → IsSettled (peer_create limits windows document widget position arguments)
  peers limits windows widget position [] there = inl refl
  peers limits windows widget position (name ∷ options) there =
      peers-named limits windows widget position (name, options) (sym there)

  -- any command
  does : (command : Command) (call : Call) → call.arguments ≡ drop call.position words →
      IsSettled (done command document call)
  does Insert call there = inserts call.limits call.widget call.position call.arguments
  does Delete call there = deletes call.widget call.position call.arguments
  does Replace call there = replaces call.limits call.widget call.position call.arguments
  does MarkGravity call there =
      given (one_or_two_of call.arguments) (gravity_words document call.widget call.position)
      (turns-words call.widget call.position)
  does MarkSet call there = sets call.limits call.widget call.position call.arguments
  does MarkUnset call there = said _
  does TagAdd call there = adds call.limits call.widget call.position call.arguments
  does TagRemove call there = removes call.widget call.position call.arguments
  does TagDelete call there = said _
  does TagRaise call there =
      given (one_or_two_of call.arguments) (reordered document call.position raised) (orders call.position raised)
  does TagLower call there =
      given (one_or_two_of call.arguments) (reordered document call.position lowered) (orders call.position lowered)
  does Configure call there = configures call.widget call.position call.arguments
  does EditUndo call there =
      either document.undo (group_found true document call.widget (next_undo document.history)) (answered document Empty)
      (groups true call.widget (next_undo document.history)) (inl refl)
  does EditRedo call there =
      either document.undo (group_found false document call.widget (next_redo document.history)) (answered document Empty)
      (groups false call.widget (next_redo document.history)) (inl refl)
  does EditModified call there =
      given (none_or_one_of call.arguments) (modified_word document call.position) (modifies-word call.position)
  does EditReset call there = said _
  does EditSeparator call there = said _
  does PeerCreate call there = peers call.limits call.windows call.widget call.position call.arguments there
  does command call there = inl refl

  does-shaped : (limits : LimitTable) (windows : List (List ℕ)) (widget : Widget) (shape : Result Shape ShapeFault) →
      IsSettled (shaped limits windows document widget words shape)
  does-shaped limits windows widget (Err fault) = inl refl
  does-shaped limits windows widget (Ok shape) = does shape.command (call_of limits windows widget shape words) refl

-- ---- any command

-- a command leaves the world as it was, or answers nothing but perhaps the name of a window
abbrev IsSettledIn : World → List (List ℕ) → Outcome → Type 0
IsSettledIn world words outcome = (outcome.world ≡ world) ⊎ NamesWindow words outcome.reply

-- `text`, whose arguments are all words but the first
creates-with : (world : World) (words : List (List ℕ)) (name : List ℕ) (options : List (List ℕ)) → drop 1 words ≡ name ∷ options
    → is_window_name name ≡ true → (found : Result Settings Fault) → IsSettledIn world words (create_with world name found)
creates-with world words name options there named (Err fault) = inl refl
creates-with world words name options there named (Ok settings) =
    elim (is_among name (all_windows world)) as (λ b. IsSettledIn world words
    (if b then refuses world (WindowExists 1) else create_new world name settings)) [
      | true ↦ inl refl
      | false ↦ elim (nat_le world.limits.widgets (length (all_windows world))) as (λ b. IsSettledIn world words
          (if b then refuses world TooManyWidgets
          else record {
            reply = Ok (Word 1);
            world = record world { documents = world.documents ++ new_document name settings ∷ [] };
            edits = [];
          })) [
            | true ↦ inl refl
            | false ↦ inr (named-there words 1 name options there named)
          ]
    ]

creates : (world : World) (words arguments : List (List ℕ)) → drop 1 words ≡ arguments
    → IsSettledIn world words (create world arguments)
creates world words [] there = inl refl
creates world words (name ∷ options) there =
    elim (is_window_name name) as (λ b. is_window_name name ≡ b → IsSettledIn world words
    (if b then create_with world name (settings_given bare_document 2 options first_settings)
    else refuses world (InvalidCommandName 1))) [
      | true ↦ λ named. creates-with world words name options there named
          (settings_given bare_document 2 options first_settings)
      | false ↦ λ _. inl refl
    ] refl

creates-shaped : (world : World) (words : List (List ℕ)) (bad : Option ℕ) (enough : Bool) (count : ℕ)
    → IsSettledIn world words (create_shaped world words
    (bad_or bad (if enough then Ok (shape_in text_entry 1 1 count) else Err WrongArguments)))
creates-shaped world words (Some position) enough count = inl refl
creates-shaped world words None false count = inl refl
creates-shaped world words None true count = creates world words (drop 1 words) refl

destroys : (world : World) (words : List (List ℕ)) (shape : Result Shape ShapeFault)
    → IsSettledIn world words (destroy_shaped world words shape)
destroys world words (Err fault) = inl refl
destroys world words (Ok shape) = inr tt

found-settled : (world : World) (place : ℕ) (words : List (List ℕ)) (found : Option Widget)
    → IsSettledIn world words (on_found world place (document_at world.documents place) words found)
found-settled world place words None = inl refl
found-settled world place words (Some widget) =
    let document = document_at world.documents place in
    let change = command world.limits (all_windows world) document widget words in
    elim (does-shaped words document world.limits (all_windows world) widget (reading words)) as
    (λ _. IsSettledIn world words (changed world place change)) [
      | inl same ↦ inl (ap (λ documents. record world { documents = documents })
          (ap (slice_set world.documents place) same ∙ set-same world.documents place))
      | inr names ↦ inr names
    ]

home-settled : (world : World) (name : List ℕ) (words : List (List ℕ)) (found : Option ℕ)
    → IsSettledIn world words (on_home world name words found)
home-settled world name words None = inl refl
home-settled world name words (Some place) =
    found-settled world place words (widget_named name (document_at world.documents place))

pub settled : (world : World) (words : List (List ℕ))
    → ((step world words).world ≡ world) ⊎ NamesWindow words (step world words).reply
settled world [] = inl refl
settled world (name ∷ others) =
    let words = name ∷ others in
    elim (is_same name (literal "text")) as (λ b. is_same name (literal "text") ≡ b → IsSettledIn world words
    (if b then create_shaped world words (reading words)
    else (if is_same name (literal "destroy") then destroy_shaped world words (reading words)
    else on_widget world name words))) [
      | true ↦ λ text.
          let read : reading words ≡ behind text_entry 1 others =
          ap (λ b. if b then behind text_entry 1 others
          else (if is_same name (literal "destroy") then behind destroy_entry 1 others else subcommand others)) text in
          subst (λ shape. IsSettledIn world words (create_shaped world words shape)) (sym read)
          (creates-shaped world words (bad_option text_entry.options 1 others) (fits text_entry (length others))
          (length others))
      | false ↦ λ _. elim (is_same name (literal "destroy")) as (λ b. IsSettledIn world words
          (if b then destroy_shaped world words (reading words) else on_widget world name words)) [
            | true ↦ destroys world words (reading words)
            | false ↦ home-settled world name words (home name world.documents)
          ]
    ] refl
