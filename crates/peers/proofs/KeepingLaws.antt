-- Options of which none says what is kept leave that, and so do the commands that take options.
use Rattle.peers.proofs.Common.{◌≡◌, ℕ, ◌+◌, Bool, true, false, List, [], ◌∷◌, Ok, Err, refl, ap, ◌∙◌, subst}
use Rattle.peers.proofs.Common.{true≢false, ◌&&◌, ◌||◌, IfOk, Result, drop, is_ok, nat_le, length, if◌then◌else◌}
use Rattle.peers.proofs.Common.{LimitTable, boolean_of, Empty, Word, Fault, BadBoolean, BadInteger, BadOption}
use Rattle.peers.proofs.Common.{InvalidCommandName, StartLineAfterEndLine, TooManyWidgets, WindowExists, Settings}
use Rattle.peers.proofs.Common.{with_value, is_behind, line_of_word, setting_read, settings_checked, settings_read}
use Rattle.peers.proofs.Common.{state_of, is_among, is_same, literal, Document, Widget, characters, is_window_name}
use Rattle.peers.proofs.Common.{AreLines, settings_of, with_settings, Change, answered, change_with, refused, with_peer}
use Rattle.peers.proofs.Common.{Leads, settings-kept, AreNamed, named-peer, named-same, leads-peer, leads-settings}
use Rattle.peers.proofs.Common.{own-lines, configure, settings_given, peer_create, peer_settings, peer_with}
use Rattle.peers.proofs.Common.{sets_keeping, ok_or, or_parts, limit_of}
use Rattle.text_model.specs.Lines.{lines}
use Rattle.peers.proofs.OptionLaws.{given-lines, if-ok, through}

-- ---- options

record Keeps (old new : Settings) : Type 0 where
  pub undo : new.document.undo ≡ old.document.undo
  pub most : new.document.most_undo ≡ old.document.most_undo

keeps-all : (settings : Settings) → Keeps settings settings
keeps-all settings = record { undo = refl; most = refl }

if-not : (P : Settings → Type 0) (test : Bool) (one other : Result Settings Fault) → test ≡ false → IfOk other P →
    IfOk (if test then one else other) P
if-not P true one other not second = absurd (true≢false not)
if-not P false one other not second = second

-- an option other than the first two
one-keeps : (lines position : ℕ) (option value : List ℕ) (settings : Settings) → is_same option (literal "-undo") ≡ false
    → is_same option (literal "-maxundo") ≡ false
    → IfOk (setting_read lines position option value settings) (Keeps settings)
one-keeps lines position option value settings no_undo no_most =
    let P : Settings → Type 0 = Keeps settings in
    if-not P (is_same option (literal "-undo")) _ _ no_undo
    (if-not P (is_same option (literal "-maxundo")) _ _ no_most
    (if-ok P (is_same option (literal "-autoseparators")) _ _
    (through (ok_or (boolean_of value) (BadBoolean position)) _ P (λ _ _. record { undo = refl; most = refl }))
    (if-ok P (is_same option (literal "-state")) _ _
    (through (ok_or (state_of value) (BadOption position)) _ P (λ _ _. record { undo = refl; most = refl }))
    (if-ok P (is_same option (literal "-startline")) _ _
    (through (ok_or (line_of_word value) (BadInteger position)) _ P (λ _ _. record { undo = refl; most = refl }))
    (through (ok_or (line_of_word value) (BadInteger position)) _ P (λ _ _. record { undo = refl; most = refl }))))))

onward : (old : Settings) (found : Result Settings Fault) (next : Settings → Result Settings Fault) →
    IfOk found (Keeps old)
    → ((settings : Settings) → IfOk (next settings) (Keeps settings)) → IfOk (with_value found next) (Keeps old)
onward old (Err fault) next keeps later = tt
onward old (Ok between) next keeps later = last (next between) (later between)
  where
    last : (made : Result Settings Fault) → IfOk made (Keeps between) → IfOk made (Keeps old)
    last (Err fault) kept = tt
    last (Ok new) kept = record { undo = kept.undo ∙ keeps.undo; most = kept.most ∙ keeps.most }

all-keep : (lines position : ℕ) (words : List (List ℕ)) (settings : Settings) → sets_keeping words ≡ false
    → IfOk (settings_read lines position words settings) (Keeps settings)
all-keep lines position [] settings none = keeps-all settings
all-keep lines position (option ∷ []) settings none = tt
all-keep lines position (option ∷ value ∷ words) settings none =
    let parts = or_parts (is_same option (literal "-undo") || is_same option (literal "-maxundo")) (sets_keeping words)
    none in
    let first = or_parts (is_same option (literal "-undo")) (is_same option (literal "-maxundo")) parts.0 in
    onward settings (setting_read lines (position + 1) option value settings) (settings_read lines (position + 2) words)
    (one-keeps lines (position + 1) option value settings first.0 first.1)
    (λ next. all-keep lines (position + 2) words next parts.1)

-- what is given of options: lines of the text, the start not behind the end, and what is kept
record AreGiven (document : Document) (words : List (List ℕ)) (old new : Settings) : Type 0 where
  pub lines : AreLines (lines (characters document.cells)) new
  pub before : is_behind new.start new.end ≡ false
  pub keeps : sets_keeping words ≡ false → Keeps old new

checked : (settings made : Settings) → settings_checked settings ≡ Ok made →
    (settings ≡ made) × (is_behind settings.start settings.end ≡ false)
checked settings made is =
    let tested : Bool → Result Settings Fault = λ b. if b then Err StartLineAfterEndLine else Ok settings in
    elim (is_behind settings.start settings.end) as (λ b. is_behind settings.start settings.end ≡ b → tested b ≡ Ok made
    → (settings ≡ made) × (is_behind settings.start settings.end ≡ false)) [
      | true ↦ λ _ none. absurd (let h : Err StartLineAfterEndLine ≡ Ok made = none in cc)
      | false ↦ λ before there. (let same : settings ≡ made = cc in (same, before))
    ] refl is

given-of : (document : Document) (words : List (List ℕ)) (old made : Settings) (found : Result Settings Fault)
    → IfOk (with_value found settings_checked) (AreLines (lines (characters document.cells)))
    → (sets_keeping words ≡ false → IfOk found (Keeps old)) → with_value found settings_checked ≡ Ok made →
    AreGiven document words old made
given-of document words old made (Err fault) are keeps is = absurd (let h : Err fault ≡ Ok made = is in cc)
given-of document words old made (Ok settings) are keeps is =
    let parts = checked settings made is in
    record {
      lines = subst (λ r. IfOk r (AreLines (lines (characters document.cells)))) is are;
      before = subst (λ (s : Settings). is_behind s.start s.end ≡ false) parts.0 parts.1;
      keeps = λ none. subst (Keeps old) parts.0 (keeps none);
    }

given : (document : Document) (position : ℕ) (words : List (List ℕ)) (settings made : Settings) →
    AreLines (lines (characters document.cells)) settings
    → settings_given document position words settings ≡ Ok made → AreGiven document words settings made
given document position words settings made are is =
    let count = lines (characters document.cells) in
    given-of document words settings made (settings_read count position words settings)
    (given-lines count position words settings are)
    (λ none. all-keep count position words settings none) is

-- ---- `configure`

pub leads-configured : (limit : ℕ) (start : List ℕ) (document : Document) (widget : Widget) (position : ℕ)
    (words : List (List ℕ)) → Leads limit start document
    → (is_ok (configure document widget position words).reply && sets_keeping words) ≡ false →
    Leads limit start (configure document widget position words).document
leads-configured limit start document widget position words leads spared =
    by (settings_given document position words (settings_of document widget)) refl spared
  where
    by : (found : Result Settings Fault) → settings_given document position words (settings_of document widget) ≡ found
        →
        (is_ok (change_with document found (λ settings.
        answered (with_settings widget settings document) Empty)).reply && sets_keeping words) ≡ false
        → Leads limit start (change_with document found (λ settings.
        answered (with_settings widget settings document) Empty)).document
    by (Err fault) is none = leads
    by (Ok settings) is none =
        let are = given document position words (settings_of document widget) settings (own-lines document widget) is in
        let keeps = are.keeps none in
        leads-settings limit start document widget settings leads are.lines are.before (keeps.undo
        ∙ leads.undo) (ap limit_of keeps.most ∙ leads.most)

pub named-configured : (windows : List (List ℕ)) (document : Document) (widget : Widget) (position : ℕ)
    (words : List (List ℕ))
    → AreNamed windows document (configure document widget position words).document
named-configured windows document widget position words = by (settings_given document position words (settings_of document widget))
  where
    by : (found : Result Settings Fault)
        → AreNamed windows document (change_with document found (λ settings.
        answered (with_settings widget settings document) Empty)).document
    by (Err fault) = named-same windows document document refl
    by (Ok settings) =
        named-same windows document (with_settings widget settings document) (settings-kept widget settings document)

-- ---- `peer create`

module _ (limits : LimitTable) (windows : List (List ℕ)) (document : Document) (widget : Widget) (position : ℕ) where
  leads-with : (limit : ℕ) (start name : List ℕ) (settings : Settings) (sets : Bool)
      → ((is_ok (peer_with limits windows document position name settings).reply && sets) ≡ false) →
      Leads limit start document
      → (sets ≡ false → Leads limit start (with_peer name settings document))
      → Leads limit start (peer_with limits windows document position name settings).document
  leads-with limit start name settings sets spared leads next =
      let made : Change = answered (with_peer name settings document) (Word position) in
      let few : Change = if nat_le limits.widgets (length windows) then refused document TooManyWidgets else made in
      elim (is_among name windows) as (λ b. (is_ok (if b then refused document (WindowExists position) else few).reply
      && sets) ≡ false
      → Leads limit start (if b then refused document (WindowExists position) else few).document) [
        | true ↦ λ _. leads
        | false ↦ elim (nat_le limits.widgets (length windows)) as (λ b.
            (is_ok (if b then refused document TooManyWidgets else made).reply && sets) ≡ false
            → Leads limit start (if b then refused document TooManyWidgets else made).document) [
              | true ↦ λ _. leads
              | false ↦ λ none. next none
            ]
      ] spared

  leads-given : (limit : ℕ) (start name : List ℕ) (words : List (List ℕ)) → Leads limit start document →
      (found : Result Settings Fault)
      → settings_given document (position + 1) words (peer_settings document widget) ≡ found
      → (is_ok (change_with document found (peer_with limits windows document position name)).reply && sets_keeping words)
      ≡ false
      → Leads limit start (change_with document found (peer_with limits windows document position name)).document
  leads-given limit start name words leads (Err fault) is spared = leads
  leads-given limit start name words leads (Ok settings) is spared =
      let own = own-lines document widget in
      let are = given document (position + 1) words (peer_settings document widget) settings
      (record { start = own.start; end = own.end }) is in
      leads-with limit start name settings (sets_keeping words) spared leads
      (λ none. let keeps = are.keeps none in
      leads-peer limit start document name settings leads are.lines are.before (keeps.undo
      ∙ leads.undo) (ap limit_of keeps.most ∙ leads.most))

  pub leads-peered : (limit : ℕ) (start : List ℕ) (words : List (List ℕ)) → Leads limit start document
      → (is_ok (peer_create limits windows document widget position words).reply && sets_keeping (drop 1 words)) ≡ false
      → Leads limit start (peer_create limits windows document widget position words).document
  leads-peered limit start [] leads spared = leads
  leads-peered limit start (name ∷ words) leads spared =
      let found = settings_given document (position + 1) words (peer_settings document widget) in
      let made : Change = change_with document found (peer_with limits windows document position name) in
      elim (is_window_name name) as (λ b. (is_ok (if b then made else refused document (InvalidCommandName position)).reply
      && sets_keeping words) ≡ false
      → Leads limit start (if b then made else refused document (InvalidCommandName position)).document) [
        | true ↦ λ none. leads-given limit start name words leads found refl none
        | false ↦ λ _. leads
      ] spared

  named-with : (name : List ℕ) (settings : Settings) → is_window_name name ≡ true
      → AreNamed windows document (peer_with limits windows document position name settings).document
  named-with name settings is =
      let made : Change = answered (with_peer name settings document) (Word position) in
      let few : Change = if nat_le limits.widgets (length windows) then refused document TooManyWidgets else made in
      let same = named-same windows document document refl in
      elim (is_among name windows) as
      (λ b. is_among name windows ≡ b → AreNamed windows document (if b then refused document (WindowExists position)
      else few).document) [
        | true ↦ λ _. same
        | false ↦ λ new. elim (nat_le limits.widgets (length windows)) as
            (λ b. AreNamed windows document (if b then refused document TooManyWidgets else made).document) [
              | true ↦ same
              | false ↦ named-peer windows document name settings is new
            ]
      ] refl

  named-given : (name : List ℕ) → is_window_name name ≡ true → (found : Result Settings Fault)
      → AreNamed windows document (change_with document found (peer_with limits windows document position name)).document
  named-given name is (Err fault) = named-same windows document document refl
  named-given name is (Ok settings) = named-with name settings is

  pub named-peered : (words : List (List ℕ)) →
      AreNamed windows document (peer_create limits windows document widget position words).document
  named-peered [] = named-same windows document document refl
  named-peered (name ∷ words) =
      let found = settings_given document (position + 1) words (peer_settings document widget) in
      elim (is_window_name name) as (λ b. is_window_name name ≡ b
      → AreNamed windows document
      (if b then change_with document found (peer_with limits windows document position name)
      else refused document (InvalidCommandName position)).document) [
        | true ↦ λ is. named-given name is found
        | false ↦ λ _. named-same windows document document refl
      ] refl
