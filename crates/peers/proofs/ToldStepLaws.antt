-- What is told of a command of a world.
use Rattle.peers.proofs.Common.{◌≡◌, ℕ, ◌<◌, true, false, List, [], ◌∷◌, Some, None, Ok, Err, refl, sym, ap, ◌∙◌, arith}
use Rattle.peers.proofs.Common.{get_or, String, string_bytes, texts_of, length, Result, IfOk, Fault, subst, true≢false}
use Rattle.peers.proofs.Common.{bytes_eq-Decides, reading, Answer, if◌then◌else◌, step, create_shaped, destroy_shaped}
use Rattle.peers.proofs.Common.{on_widget, is_frugal_reading, are_frugal, is_same, literal, Document, Widget}
use Rattle.peers.proofs.Common.{is_window_name, IsWellFormedDocument, PeerCreate, Makes, changed, peer_create, TellsAt}
use Rattle.peers.proofs.Common.{TellsOf, MarksTellAt, MarksTellOf, no_edit, IsWellFormed, World, all_windows}
use Rattle.peers.proofs.Common.{document_at, home, names_read, IfOk-weaker, Told, TellsCells, MarksTellBy, TellsDropped}
use Rattle.peers.proofs.Common.{IsAt, Outcome}
use Rattle.std.specs.Str.{chars}
use Rattle.peers.specs.Told.{answered}
use Rattle.peers.proofs.FrontLaws.{set-at}
use Rattle.peers.proofs.HomeStepLaws.{home-is}
use Rattle.peers.proofs.NameLaws.{placed-window}
use Rattle.peers.proofs.PromiseLaws.{value≢memory}
use Rattle.peers.proofs.StillTextLaws.{still-text}
use Rattle.peers.proofs.ToldLaws.{cells-done, still-cells}
use Rattle.peers.proofs.WorldLaws.{all-at}

-- ---- a command of a widget

-- a peer that is made changes no character of the document
pub peer-tells : (old new : World) (place position : ℕ) (arguments : List (List ℕ)) (widget : Widget)
    (made : Result Answer Fault) → place < length old.documents → Makes old new made
    (changed old place (peer_create old.limits (all_windows old) (document_at old.documents place) widget position
    arguments))
    → IfOk (answered made) (λ told. TellsAt old new (Some place)
    (peer_create old.limits (all_windows old) (document_at old.documents place) widget position arguments).edits
    told.edit)
peer-tells old new place position arguments widget (Err fault) within makes = tt
peer-tells old new place position arguments widget (Ok answer) within makes =
    let document = document_at old.documents place in
    let made = peer_create old.limits (all_windows old) document widget position arguments in
    let is : document_at new.documents place ≡ made.document =
    ap (λ (w : World). document_at w.documents place) (makes.world (value≢memory (Ok answer) answer refl))
    ∙ set-at old.documents place made.document within in
    subst (λ (d : Document). TellsCells made.edits document.cells d.cells no_edit) (sym is)
    (still-cells made document made.document
    (still-text old.limits (all_windows old) document widget PeerCreate [] position arguments (λ edit. edit))
    (cells-done old.limits (all_windows old) document widget PeerCreate []
    position arguments (λ edit. edit) (λ edit. edit)))

-- what is told of a step at the place of the widget of a name is told of the widget
pub tells-at : (old new : World) (name : List ℕ) (words : List (List ℕ)) {place seat : ℕ} {outcome : Outcome}
    (made : Result Told Fault) → IsAt name old.documents place seat → outcome ≡ on_widget old name words
    → IfOk made (λ told. TellsAt old new (Some place) outcome.edits told.edit)
    → IfOk made (λ told. TellsAt old new (home name old.documents) (on_widget old name words).edits told.edit)
tells-at old new name words {place} made at is tells =
    subst (λ there. IfOk made (λ told. TellsAt old new there (on_widget old name words).edits told.edit)) (sym at.found)
    (subst (λ (outcome : Outcome). IfOk made (λ told. TellsAt old new (Some place) outcome.edits told.edit)) is tells)

-- ---- any command

-- a name that is no window's is no widget's
homeless : (world : World) (name : List ℕ) → IsWellFormed world → is_window_name name ≡ false →
    home name world.documents ≡ None
homeless world name formed none =
    elim (home name world.documents) as (λ o. home name world.documents ≡ o → o ≡ None) [
      | None ↦ λ _. refl
      | Some place ↦ λ is.
          let there = home-is name world.documents place is in
          let document = document_at world.documents place in
          let own = all-at (IsWellFormedDocument world.limits) world.documents place formed.documents there.0 in
          absurd (true≢false (sym (placed-window document name document.widgets own.widgets there.1) ∙ none))
    ] refl

pub text-none : (name : List ℕ) → is_same name (literal "text") ≡ true → is_window_name name ≡ false
unfolding chars
text-none name is = ap is_window_name ((bytes_eq-Decides name (literal "text")).0 is)

pub destroy-none : (name : List ℕ) → is_same name (literal "destroy") ≡ true → is_window_name name ≡ false
unfolding chars
destroy-none name is = ap is_window_name ((bytes_eq-Decides name (literal "destroy")).0 is)

pub text-other : (name : List ℕ) → is_same name (literal "text") ≡ true → is_same name (literal "destroy") ≡ false
unfolding chars
text-other name is = ap (λ n. is_same n (literal "destroy")) ((bytes_eq-Decides name (literal "text")).0 is)

-- ---- by words as they are given

-- the first word and the others
first-word : {Z : Type 0} (words : List (String Z)) (first : String Z) → 0 < length words
    → first ≡ get_or words 0 first → (others : List (List ℕ)) × (texts_of words ≡ chars (string_bytes first) ∷ others)
first-word [] first within is = absurd (omega (arith, within))
first-word {Z} (word ∷ words) first within is =
    (texts_of words, ap (λ (w : String Z). chars (string_bytes w) ∷ texts_of words) (sym is))

-- a command whose first word names no widget tells nothing
pub unnamed : {Z : Type 0} (old new : World) (words : List (String Z)) (first : String Z) (made : Result Answer Fault)
    → IsWellFormed old → 0 < length words → first ≡ get_or words 0 first
    → is_window_name (chars (string_bytes first)) ≡ false
    → is_same (chars (string_bytes first)) (literal "destroy") ≡ false
    → IfOk (answered made) (λ told. TellsOf old new (texts_of words) told.edit
    × MarksTellOf old new (texts_of words) told.edit.changes told.marks)
unnamed old new words first (Err fault) formed within is none other = tt
unnamed old new words first (Ok answer) formed within is none other =
    let name = chars (string_bytes first) in let absent = homeless old name formed none in
    let spelled = first-word words first within is in
    subst (λ ws. TellsOf old new ws no_edit × MarksTellOf old new ws [] []) (sym spelled.1) (
      subst (λ at. TellsAt old new at (step old (name ∷ spelled.0)).edits no_edit) (sym absent) refl,
      subst (λ b. MarksTellBy b old new (name ∷ spelled.0) (home name old.documents) [] []) (sym other)
          (subst (λ at. MarksTellAt old new at [] []) (sym absent) refl),
    )

-- `destroy` tells no changes of a text and of tags, and the marks that it drops
module _ {Z : Type 0} (old new : World) (words : List (String Z)) (first : String Z) (within : 0 < length words)
    (is : first ≡ get_or words 0 first) (destroys : is_same (chars (string_bytes first)) (literal "destroy") ≡ true)
  where
    pub destroyed : IsWellFormed old → (result : Result Told Fault) → IfOk result (λ told. told.edit ≡ no_edit) →
        IfOk result (λ told. TellsOf old new (texts_of words) told.edit)
    destroyed formed result none =
        let name = chars (string_bytes first) in let spelled = first-word words first within is in
        let absent = homeless old name formed (destroy-none name destroys) in
        IfOk-weaker result _ _ (λ told still. subst (λ ws. TellsOf old new ws told.edit) (sym spelled.1)
        (subst (λ at. TellsAt old new at (step old (name ∷ spelled.0)).edits told.edit) (sym absent) still)) none

    pub destroyed-marks : (result : Result Told Fault)
        → IfOk result (λ told. TellsDropped (names_read (texts_of words) (reading (texts_of words))) old.documents
        told.marks)
        → IfOk result (λ told. MarksTellOf old new (texts_of words) told.edit.changes told.marks)
    destroyed-marks result dropped =
        let name = chars (string_bytes first) in let spelled = first-word words first within is in
        let all = name ∷ spelled.0 in
        IfOk-weaker result _ _ (λ told tells. subst (λ ws. MarksTellOf old new ws told.edit.changes told.marks)
        (sym spelled.1)
        (subst (λ b. MarksTellBy b old new all (home name old.documents) told.edit.changes told.marks) (sym destroys)
        (subst (λ names. TellsDropped names old.documents told.marks)
        (sym (ap (λ b. if b then names_read all (reading all) else []) destroys))
        (subst (λ ws. TellsDropped (names_read ws (reading ws)) old.documents told.marks) spelled.1 tells)))) dropped

-- a command of a widget tells what it tells of the document that the widget shows
pub named : {Z : Type 0} (old new : World) (words : List (String Z)) (first : String Z) → 0 < length words
    → first ≡ get_or words 0 first → (result : Result Told Fault)
    → let name = chars (string_bytes first) in let at = home name old.documents in
    IfOk result (λ told. TellsAt old new at (step old (texts_of words)).edits told.edit)
    → IfOk result (λ told. TellsOf old new (texts_of words) told.edit)
named old new words first within is result tells =
    let name = chars (string_bytes first) in let spelled = first-word words first within is in
    subst (λ ws. IfOk result (λ told. TellsOf old new ws told.edit)) (sym spelled.1)
    (subst (λ ws. IfOk result (λ told. TellsAt old new (home name old.documents) (step old ws).edits told.edit))
    spelled.1 tells)

pub named-marks : {Z : Type 0} (old new : World) (words : List (String Z)) (first : String Z) → 0 < length words
    → first ≡ get_or words 0 first → is_same (chars (string_bytes first)) (literal "destroy") ≡ false
    → (result : Result Told Fault) → let at = home (chars (string_bytes first)) old.documents in
    IfOk result (λ told. MarksTellAt old new at told.edit.changes told.marks)
    → IfOk result (λ told. MarksTellOf old new (texts_of words) told.edit.changes told.marks)
named-marks old new words first within is other result tells =
    let name = chars (string_bytes first) in let spelled = first-word words first within is in
    subst (λ ws. IfOk result (λ told. MarksTellOf old new ws told.edit.changes told.marks)) (sym spelled.1)
    (subst (λ b. IfOk result (λ told. MarksTellBy b old new (name ∷ spelled.0) (home name old.documents)
    told.edit.changes told.marks)) (sym other) tells)

-- what a command is, by its first word
module _ {Z : Type 0} (world : World) (words : List (String Z)) (first : String Z) (within : 0 < length words)
    (is : first ≡ get_or words 0 first) where
  pub text-step : is_same (chars (string_bytes first)) (literal "text") ≡ true
      → (step world (texts_of words) ≡ create_shaped world (texts_of words) (reading (texts_of words)))
      × (are_frugal (texts_of words) ≡ false)
  text-step text =
      let spelled = first-word words first within is in let name = chars (string_bytes first) in
      subst (λ ws. (step world ws ≡ create_shaped world ws (reading ws)) × (are_frugal ws ≡ false)) (sym spelled.1) (
        ap (λ b. if b then create_shaped world (name ∷ spelled.0) (reading (name ∷ spelled.0))
            else if is_same name (literal "destroy") then
            destroy_shaped world (name ∷ spelled.0) (reading (name ∷ spelled.0))
            else on_widget world name (name ∷ spelled.0)) text,
        ap (λ b. if b then false else if is_same name (literal "destroy") then false
            else is_frugal_reading (reading (name ∷ spelled.0))) text,
      )

  pub destroy-step : is_same (chars (string_bytes first)) (literal "text") ≡ false
      → is_same (chars (string_bytes first)) (literal "destroy") ≡ true
      → (step world (texts_of words) ≡ destroy_shaped world (texts_of words) (reading (texts_of words)))
      × (are_frugal (texts_of words) ≡ false)
  destroy-step text destroys =
      let spelled = first-word words first within is in let name = chars (string_bytes first) in
      subst (λ ws. (step world ws ≡ destroy_shaped world ws (reading ws)) × (are_frugal ws ≡ false)) (sym spelled.1) (
        ap (λ b. if b then create_shaped world (name ∷ spelled.0) (reading (name ∷ spelled.0))
            else if is_same name (literal "destroy") then
            destroy_shaped world (name ∷ spelled.0) (reading (name ∷ spelled.0))
            else on_widget world name (name ∷ spelled.0)) text
            ∙ ap (λ b. if b then destroy_shaped world (name ∷ spelled.0) (reading (name ∷ spelled.0))
            else on_widget world name (name ∷ spelled.0)) destroys,
        ap (λ b. if b then false else if is_same name (literal "destroy") then false
            else is_frugal_reading (reading (name ∷ spelled.0))) text
            ∙ ap (λ b. if b then false else is_frugal_reading (reading (name ∷ spelled.0))) destroys,
      )

  pub widget-step : is_same (chars (string_bytes first)) (literal "text") ≡ false
      → is_same (chars (string_bytes first)) (literal "destroy") ≡ false
      → (step world (texts_of words) ≡ on_widget world (chars (string_bytes first)) (texts_of words))
      × (are_frugal (texts_of words) ≡ is_frugal_reading (reading (texts_of words)))
  widget-step text destroys =
      let spelled = first-word words first within is in let name = chars (string_bytes first) in
      subst (λ ws. (step world ws ≡ on_widget world name ws) × (are_frugal ws ≡ is_frugal_reading (reading ws)))
      (sym spelled.1) (
        ap (λ b. if b then create_shaped world (name ∷ spelled.0) (reading (name ∷ spelled.0))
            else if is_same name (literal "destroy") then
            destroy_shaped world (name ∷ spelled.0) (reading (name ∷ spelled.0))
            else on_widget world name (name ∷ spelled.0)) text
            ∙ ap (λ b. if b then destroy_shaped world (name ∷ spelled.0) (reading (name ∷ spelled.0))
            else on_widget world name (name ∷ spelled.0)) destroys,
        ap (λ b. if b then false else if is_same name (literal "destroy") then false
            else is_frugal_reading (reading (name ∷ spelled.0))) text
            ∙ ap (λ b. if b then false else is_frugal_reading (reading (name ∷ spelled.0))) destroys,
      )
