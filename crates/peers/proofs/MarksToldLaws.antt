-- Which marks a command of a widget may displace, and where it leaves the others.
use Rattle.peers.proofs.Common.{◌≡◌, ◌≢◌, ℕ, ◌+◌, ◌<◌, Bool, true, false, List, [], ◌∷◌, Option, None, Some, Ok, refl}
use Rattle.peers.proofs.Common.{sym, ap, ◌∙◌, subst, arith, flat_map, map, take, option_map, true≢false, nat_le, length}
use Rattle.peers.proofs.Common.{length-set, is_among, Empty, if◌then◌else◌, LimitTable, Command, Configure, Delete}
use Rattle.peers.proofs.Common.{EditRedo, EditReset, EditUndo, Insert, MarkGravity, MarkSet, MarkUnset, PeerCreate}
use Rattle.peers.proofs.Common.{Replace, Gravity, Place, edit_reset, gravity_of, TooManyWidgets, WindowExists, Word}
use Rattle.peers.proofs.Common.{InvalidCommandName, Settings, is_window_name, settings_given, settings_of}
use Rattle.peers.proofs.Common.{peer_settings, peer_with, peer_create, with_settings, with_peer, Document, Widget}
use Rattle.peers.proofs.Common.{MarkKey, AreCarried, AreOthers, AreWatched, HasMarksBut, carried_all, mark_at}
use Rattle.peers.proofs.Common.{mark_carried, mark_key, mark_keys, own_keys, watched, TakesMarksBut, Change, mark_unset}
use Rattle.peers.proofs.Common.{answered, change_with, refused, done, mark_set, mark_gravity, set_at, mark_offset}
use Rattle.peers.proofs.Common.{place_named, place_at, gravity_asked, gravity_given, World, document_at, command, Makes}
use Rattle.peers.proofs.Common.{IsWellFormed, IsWellFormedDocument, TellsAt, Told, carried-with, listed-all, marks-made}
use Rattle.peers.proofs.Common.{marks-peered, marks-put, marks-stand, none-watched, one-watched, own-watched, IsPlaced}
use Rattle.peers.proofs.Common.{TellsCells, is_same, literal, current_key, insert_key, still-taken, MarkChange, changed}
use Rattle.edit_ops.specs.declared.changes.TextChange.{TextChange}
use Rattle.documents.proofs.AbsentMarksLaws.{absent-carried}
use Rattle.reports.proofs.WordLaws.{same-word}
use Rattle.documents.proofs.StillMarksLaws.{marks-alike, marks-configured, marks-quiet, marks-tagged}
use Rattle.documents.specs.MarksListed.{shared_key}
use Rattle.peers.proofs.FrontLaws.{set-at}
use Rattle.peers.proofs.StillTextLaws.{still-text}
use Rattle.peers.proofs.TakenLaws.{deletes-take, inserts-take, replaces-take}
use Rattle.peers.proofs.PromiseLaws.{value≢memory}
use Rattle.peers.proofs.WorldLaws.{all-at}
use Rattle.peers.proofs.DoneLaws.{IsMarkMove, IsOther, IsTextEdit, calling, edits-done, quiet-done, tags-done}

-- ---- commands by what they may displace

-- a command that edits the text, or may displace marks
abbrev pub displaces : Command → Bool
displaces Insert = true
displaces Delete = true
displaces Replace = true
displaces EditUndo = true
displaces EditRedo = true
displaces MarkGravity = true
displaces MarkSet = true
displaces MarkUnset = true
displaces PeerCreate = true
displaces command = false

still-edit : (command : Command) → displaces command ≡ false → IsTextEdit command → ⊥
still-edit Insert is edit = true≢false is
still-edit Delete is edit = true≢false is
still-edit Replace is edit = true≢false is
still-edit EditUndo is edit = true≢false is
still-edit EditRedo is edit = true≢false is
still-edit command is edit = edit

still-marks : (command : Command) → displaces command ≡ false → IsMarkMove command → ⊥
still-marks MarkGravity is move = true≢false is
still-marks MarkSet is move = true≢false is
still-marks MarkUnset is move = true≢false is
still-marks command is move = move

-- ---- what each leaves where it was

module _ (limits : LimitTable) (windows : List (List ℕ)) (document : Document) (widget : Widget) where
  -- options of its own, or no groups
  others-still : (command : Command) (switches : List (List ℕ)) (position : ℕ) (arguments : List (List ℕ))
      → displaces command ≡ false → IsOther command
      → HasMarksBut [] document
      (done command document (calling limits windows widget switches position arguments)).document
  others-still Configure switches position arguments is other =
      carried-with (HasMarksBut [] document) document
      (settings_given document position arguments (settings_of document widget))
      (λ settings. answered (with_settings widget settings document) Empty) (λ key _. refl)
      (λ settings _. marks-configured document widget settings)
  others-still EditReset switches position arguments is other =
      marks-alike document (edit_reset document).document refl refl
  others-still PeerCreate switches position arguments is other = absurd (true≢false is)
  others-still _ switches position arguments is other = absurd other

  -- a command that displaces none
  pub marks-still : (command : Command) (switches : List (List ℕ)) (position : ℕ) (arguments : List (List ℕ))
      → displaces command ≡ false
      → HasMarksBut [] document
      (done command document (calling limits windows widget switches position arguments)).document
  marks-still command switches position arguments is =
      quiet-done limits document widget (HasMarksBut [] document) (marks-quiet document limits widget) command windows
      switches position arguments (λ edit. absurd (still-edit command is edit))
      (tags-done limits document widget (HasMarksBut [] document) (λ key _. refl) (marks-tagged document limits widget)
      command windows switches position arguments) (λ move. absurd (still-marks command is move))
      (others-still command switches position arguments is)

  -- a command that doesn't edit the text, and leaves every mark but those of a list
  covers-from : (command : Command) (switches : List (List ℕ)) (position : ℕ) (arguments : List (List ℕ))
      (marks : List MarkChange) → (IsTextEdit command → ⊥)
      → HasMarksBut marks document
      (done command document (calling limits windows widget switches position arguments)).document
      → TakesMarksBut marks document (done command document (calling limits windows widget switches position arguments))
  covers-from command switches position arguments marks quiet stays =
      still-taken marks document (done command document (calling limits windows widget switches position arguments))
      (still-text limits windows document widget command switches position arguments quiet) stays

  covers-still : (command : Command) (switches : List (List ℕ)) (position : ℕ) (arguments : List (List ℕ))
      → displaces command ≡ false
      → TakesMarksBut [] document (done command document (calling limits windows widget switches position arguments))
  covers-still command switches position arguments is =
      covers-from command switches position arguments [] (still-edit command is)
      (marks-still command switches position arguments is)

  -- a command that isn't one of those displaces none
  pub covers-none : (command : Command) (switches : List (List ℕ)) (position : ℕ) (arguments : List (List ℕ))
      → IsPlaced document widget → command ≢ Replace → command ≢ EditUndo → command ≢ EditRedo → command ≢ MarkSet
      → command ≢ MarkGravity → command ≢ MarkUnset → command ≢ PeerCreate
      → TakesMarksBut [] document (done command document (calling limits windows widget switches position arguments))
  covers-none Insert switches position arguments placed replace undo redo set turn unset peer =
      inserts-take limits document widget placed position arguments
  covers-none Delete switches position arguments placed replace undo redo set turn unset peer =
      deletes-take limits document widget placed position arguments
  covers-none Replace switches position arguments placed replace undo redo set turn unset peer =
      absurd (replace refl)
  covers-none EditUndo switches position arguments placed replace undo redo set turn unset peer = absurd (undo refl)
  covers-none EditRedo switches position arguments placed replace undo redo set turn unset peer = absurd (redo refl)
  covers-none MarkSet switches position arguments placed replace undo redo set turn unset peer = absurd (set refl)
  covers-none MarkGravity switches position arguments placed replace undo redo set turn unset peer =
      absurd (turn refl)
  covers-none MarkUnset switches position arguments placed replace undo redo set turn unset peer =
      absurd (unset refl)
  covers-none PeerCreate switches position arguments placed replace undo redo set turn unset peer =
      absurd (peer refl)
  covers-none command switches position arguments placed replace undo redo set turn unset peer =
      covers-still command switches position arguments refl

  -- the mark that is named first
  abbrev pub first_listed : List (List ℕ) → List MarkChange
  first_listed words = map (watched document) (map (mark_key widget) (take 1 words))

  pub sets-first : (position : ℕ) (words : List (List ℕ)) →
      HasMarksBut (first_listed words) document (mark_set limits document widget position words).document
  sets-first position [] = λ key _. refl
  sets-first position (name ∷ []) = λ key _. refl
  sets-first position (name ∷ word ∷ []) =
      carried-with (HasMarksBut (first_listed (name ∷ word ∷ [])) document) document
      (place_at document widget (position + 1) word) (set_at limits document widget name) (λ key _. refl)
      (λ place _. marks-made limits document widget name (mark_offset document widget name place)
      (place_named document widget name) refl)
  sets-first position (name ∷ word ∷ other ∷ words) = λ key _. refl

  turns-given : (position : ℕ) (name word : List ℕ) (found : Option Place) (gravity : Option Gravity) →
      HasMarksBut (first_listed (name ∷ word ∷ [])) document
      (gravity_given document widget position name found gravity).document
  turns-given position name word None gravity = λ key _. refl
  turns-given position name word (Some old) None = λ key _. refl
  turns-given position name word (Some old) (Some gravity) =
      marks-put document widget name (record old { gravity = gravity })

  asks-given : (position : ℕ) (name : List ℕ) (found : Option Place) →
      HasMarksBut (first_listed (name ∷ [])) document (gravity_asked document position found).document
  asks-given position name None = λ key _. refl
  asks-given position name (Some place) = λ key _. refl

  pub turns-first : (position : ℕ) (words : List (List ℕ)) →
      HasMarksBut (first_listed words) document (mark_gravity document widget position words).document
  turns-first position [] = λ key _. refl
  turns-first position (name ∷ []) = asks-given position name (place_named document widget name)
  turns-first position (name ∷ word ∷ []) =
      turns-given position name word (place_named document widget name) (gravity_of word)
  turns-first position (name ∷ word ∷ other ∷ words) = λ key _. refl

  -- the marks of a peer of the name that stands first
  abbrev pub peer_listed : List (List ℕ) → List MarkChange
  peer_listed words = map (watched document) (flat_map own_keys (take 1 words))

  peered : (position : ℕ) (name : List ℕ) (words : List (List ℕ)) (settings : Settings) →
      HasMarksBut (peer_listed (name ∷ words)) document
      (peer_with limits windows document position name settings).document
  peered position name words settings =
      let made : Change = answered (with_peer name settings document) (Word position) in
      let few : Change = if nat_le limits.widgets (length windows) then refused document TooManyWidgets else made in
      let P : Document → Type 0 = HasMarksBut (peer_listed (name ∷ words)) document in
      elim (is_among name windows) as (λ b. P (if b then refused document (WindowExists position) else few).document) [
        | true ↦ λ key _. refl
        | false ↦ elim (nat_le limits.widgets (length windows)) as
            (λ b. P (if b then refused document TooManyWidgets else made).document)
            [ true ↦ λ key _. refl | false ↦ marks-peered document name settings ]
      ]

  pub peers-first : (position : ℕ) (words : List (List ℕ)) →
      HasMarksBut (peer_listed words) document (peer_create limits windows document widget position words).document
  peers-first position [] = λ key _. refl
  peers-first position (name ∷ words) =
      let found = settings_given document (position + 1) words (peer_settings document widget) in
      let P : Document → Type 0 = HasMarksBut (peer_listed (name ∷ words)) document in
      elim (is_window_name name) as (λ b. P
      (if b then change_with document found (peer_with limits windows document position name)
      else refused document (InvalidCommandName position)).document) [
        | true ↦ carried-with P document found (peer_with limits windows document position name) (λ key _. refl)
            (λ settings _. peered position name words settings)
        | false ↦ λ key _. refl
      ]

  -- ---- what is listed covers what a command may displace

  pub covers-edit : (command : Command) (switches : List (List ℕ)) (position : ℕ) (arguments : List (List ℕ))
      (marks : List MarkChange) → IsTextEdit command → marks ≡ map (watched document) (mark_keys document)
      → TakesMarksBut marks document (done command document (calling limits windows widget switches position arguments))
  covers-edit command switches position arguments marks edits is told tells key others =
      let none : mark_at document key ≡ None = listed-all document key (subst (AreOthers key) is others) in
      edits-done limits document widget
      (λ (new : Document). (key : MarkKey) → mark_at document key ≡ None → mark_at new key ≡ None)
      (λ key none. none) (absent-carried limits document widget) command windows switches position arguments
      edits key none
      ∙ sym (ap (option_map (carried_all told.changes)) none)

  pub covers-replace : (command : Command) (switches : List (List ℕ)) (position : ℕ) (arguments : List (List ℕ))
      (marks : List MarkChange) → IsPlaced document widget → command ≡ Replace
      → marks ≡ watched document (mark_key widget (literal "insert")) ∷ []
      → TakesMarksBut marks document (done command document (calling limits windows widget switches position arguments))
  covers-replace command switches position arguments marks placed is same =
      let call = calling limits windows widget switches position arguments in
      let key : mark_key widget (literal "insert") ≡ insert_key widget.name =
      ap (λ b. if b then insert_key widget.name else (if is_same (literal "insert") (literal "current")
      then current_key widget.name else shared_key (literal "insert"))) (same-word (literal "insert")) in
      let listed : watched document (insert_key widget.name) ∷ [] ≡ marks =
      sym (same ∙ ap (λ key. watched document key ∷ []) key) in
      subst (λ command. TakesMarksBut marks document (done command document call)) (sym is)
      (subst (λ marks. TakesMarksBut marks document (done Replace document call)) listed
      (replaces-take limits document widget placed position arguments))

  pub covers-set : (command : Command) (switches : List (List ℕ)) (position : ℕ) (arguments : List (List ℕ))
      (marks : List MarkChange) → command ≡ MarkSet → marks ≡ first_listed arguments
      → TakesMarksBut marks document (done command document (calling limits windows widget switches position arguments))
  covers-set command switches position arguments marks is same =
      subst (λ command. TakesMarksBut marks document (done command document
      (calling limits windows widget switches position arguments))) (sym is)
      (covers-from MarkSet switches position arguments marks (λ edit. edit)
      (subst (λ marks. HasMarksBut marks document (mark_set limits document widget position arguments).document)
      (sym same) (sets-first position arguments)))

  pub covers-turn : (command : Command) (switches : List (List ℕ)) (position : ℕ) (arguments : List (List ℕ))
      (marks : List MarkChange) → command ≡ MarkGravity → marks ≡ first_listed arguments
      → TakesMarksBut marks document (done command document (calling limits windows widget switches position arguments))
  covers-turn command switches position arguments marks is same =
      subst (λ command. TakesMarksBut marks document (done command document
      (calling limits windows widget switches position arguments))) (sym is)
      (covers-from MarkGravity switches position arguments marks (λ edit. edit)
      (subst (λ marks. HasMarksBut marks document (mark_gravity document widget position arguments).document)
      (sym same) (turns-first position arguments)))

  pub covers-unset : (command : Command) (switches : List (List ℕ)) (position : ℕ) (arguments : List (List ℕ))
      (marks : List MarkChange) → command ≡ MarkUnset
      → HasMarksBut marks document (mark_unset document arguments).document
      → TakesMarksBut marks document (done command document (calling limits windows widget switches position arguments))
  covers-unset command switches position arguments marks is left =
      subst (λ command. TakesMarksBut marks document (done command document
      (calling limits windows widget switches position arguments))) (sym is)
      (covers-from MarkUnset switches position arguments marks (λ edit. edit) left)

  pub covers-peer : (command : Command) (switches : List (List ℕ)) (position : ℕ) (arguments : List (List ℕ))
      (marks : List MarkChange) → command ≡ PeerCreate → marks ≡ peer_listed arguments
      → TakesMarksBut marks document (done command document (calling limits windows widget switches position arguments))
  covers-peer command switches position arguments marks is same =
      subst (λ command. TakesMarksBut marks document (done command document
      (calling limits windows widget switches position arguments))) (sym is)
      (covers-from PeerCreate switches position arguments marks (λ edit. edit)
      (subst (λ marks. HasMarksBut marks document
      (peer_create limits windows document widget position arguments).document) (sym same)
      (peers-first position arguments)))

  -- ---- what is listed is as it is

  pub first-watched : (words : List (List ℕ)) → AreWatched document (first_listed words)
  first-watched [] = none-watched document
  first-watched (name ∷ words) = one-watched document (mark_key widget name)

  pub peer-watched : (words : List (List ℕ)) → AreWatched document (peer_listed words)
  peer-watched [] = none-watched document
  peer-watched (name ∷ words) = own-watched document name

-- ---- what a command of a world displaces

-- The changes of a text that a command of a widget reports take the marks of its document, all but those that are
-- listed, to where they are.
pub record AreCarriedBut (changes : List TextChange) (old new : Document) (marks : List MarkChange) : Type 0 where
  pub carried : AreCarried changes old new
  pub others : (key : MarkKey) → AreOthers key marks → mark_at new key ≡ mark_carried changes old key

pub carried-but : (old new : World) (place : ℕ) (change : Change) (told : Told) (marks : List MarkChange) →
    IsWellFormed old → place < length old.documents → Makes old new (Ok told.answer) (changed old place change)
    → TellsAt old new (Some place) change.edits told.edit
    → let document = document_at old.documents place in TakesMarksBut marks document change
    → AreCarriedBut told.edit.changes document (document_at new.documents place) marks
carried-but old new place change told marks formed within makes tells covers =
    let document = document_at old.documents place in
    let is : document_at new.documents place ≡ change.document =
    ap (λ (w : World). document_at w.documents place) (makes.world (value≢memory (Ok told.answer) told.answer refl))
    ∙ set-at old.documents place change.document within in
    let there = all-at (IsWellFormedDocument old.limits) old.documents place formed.documents within in
    let fits = there.fits in
    let most = formed.limits.chars in
    let inside : place < length new.documents = omega (
      arith,
      within,
      ap (λ (w : World). length w.documents) (makes.world (value≢memory (Ok told.answer) told.answer refl)),
      length-set old.documents place change.document,
    ) in
    let same : new.limits ≡ old.limits =
    ap (λ (w : World). w.limits) (makes.world (value≢memory (Ok told.answer) told.answer refl)) in
    let later = subst (λ limits. IsWellFormedDocument limits (document_at new.documents place)) same
    (all-at (IsWellFormedDocument new.limits) new.documents place makes.well_formed.documents inside) in
    record {
      carried = record {
        tells = tells.text;
        falling = tells.exact.falling;
        short = (omega (arith, fits, most), (let after = later.fits in omega (arith, after, most)));
        stand = marks-stand old.limits document there;
      };
      others = λ key others. ap (λ (d : Document). mark_at d key) is
          ∙ covers told.edit
          (subst (λ (d : Document). TellsCells change.edits document.cells d.cells told.edit) is tells) key others;
    }
