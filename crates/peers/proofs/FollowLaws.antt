-- A document that keeps all its actions leads back to the text from the start, through commands that spare it.
use Rattle.peers.proofs.Common.{◌≡◌, ℕ, zero, suc, ◌<◌, ◌==◌, ◌||◌, Bool, true, false, not, List, [], ◌∷◌, ◌++◌, Option}
use Rattle.peers.proofs.Common.{Some, None, Ok, Err, filter, length, take, refl, sym, ap, ◌∙◌, arith, subst, true≢false}
use Rattle.peers.proofs.Common.{inl, inr, Result, ◌&&◌, is_ok, is_some, nat_le, slice_set, if◌then◌else◌}
use Rattle.peers.proofs.Common.{AllByRecursion, IsDistinct, and_parts, eqb-true, false_from_ne_true, Decides-eqb}
use Rattle.peers.proofs.Common.{length-append, take-append-le, bytes_eq-Decides, LimitTable, reading, Command}
use Rattle.peers.proofs.Common.{Configure, EditReset, PeerCreate, Shape, ShapeFault, among-append, Word, Fault}
use Rattle.peers.proofs.Common.{InvalidCommandName, TooManyWidgets, WindowExists, Settings, first_settings, is_among}
use Rattle.peers.proofs.Common.{is_same, literal, Document, Widget, characters, edit_reset, is_window_name, Change}
use Rattle.peers.proofs.Common.{IsWellFormedDocument, window_names, bare_document, keeps_some, new_document}
use Rattle.peers.proofs.Common.{widget_named, Leads, AreNamed, named-carried, named-same, leads-first, leads-left}
use Rattle.peers.proofs.Common.{arguments_of, command, done, shaped, switches_of, settings_given, Outcome, changed}
use Rattle.peers.proofs.Common.{create, create_new, create_shaped, create_with, destroy, destroy_shaped, on_found}
use Rattle.peers.proofs.Common.{on_home, on_widget, refuses, step, AreSpared, BeginsToKeep, after_all, forgets}
use Rattle.peers.proofs.Common.{forgets_read, is_forgotten, is_spared, names_dropped, names_read, place_after}
use Rattle.peers.proofs.Common.{place_after_all, text_at, IsWellFormed, World, all_windows, document_at, home}
use Rattle.peers.proofs.Common.{windows_of, or_parts, length-set}
use Rattle.std.specs.Str.{chars}
use Rattle.std.proofs.Math.ListN.{get_or-append}
use Rattle.std.proofs.lemmas.Map.Keys.{IsDistinct-head, IsDistinct-tail}
use Rattle.documents.proofs.EditLeadLaws.{found-anchored}
use Rattle.documents.proofs.WidgetLeadLaws.{leads-carried}
use Rattle.peers.proofs.DoneLaws.{IsOther, calling, carried-done}
use Rattle.peers.proofs.FrontLaws.{IsBefore, before-grown, front-changed, front-stays, left-among, left-at, left-front}
use Rattle.peers.proofs.FrontLaws.{set-at, set-other}
use Rattle.peers.proofs.KeepingLaws.{leads-configured, leads-peered, named-configured, named-peered}
use Rattle.peers.proofs.NameLaws.{placed-window}
use Rattle.peers.proofs.WorldLaws.{all-at, own-absent}

-- a document among others, which leads back to a text; each of its widgets has the name of a window, and is found as
-- one of it
pub record Follows (start : List ℕ) (world : World) (place : ℕ) : Type 0 where
  pub within : place < length world.documents
  pub leads : Leads world.limits.chars start (document_at world.documents place)
  pub windows : (name : List ℕ) → is_among name (window_names (document_at world.documents place)) ≡ true →
      is_window_name name ≡ true
  pub before : AllByRecursion (IsBefore (document_at world.documents place)) (take place world.documents)

-- ---- a command of a widget

module _ (limits : LimitTable) (windows : List (List ℕ)) (document : Document) (widget : Widget) where
  leads-other : (start : List ℕ) (switches : List (List ℕ)) (position : ℕ) (arguments : List (List ℕ)) (given : Command) →
      Leads limits.chars start document
      → (is_ok (done given document (calling limits windows widget switches position arguments)).reply && forgets given arguments)
      ≡ false → IsOther given
      → Leads limits.chars start (done given document (calling limits windows widget switches position arguments)).document
  leads-other start switches position arguments Configure leads spared other =
      leads-configured limits.chars start document widget position arguments leads spared
  leads-other start switches position arguments EditReset leads spared other = absurd (true≢false spared)
  leads-other start switches position arguments PeerCreate leads spared other =
      leads-peered limits windows document widget position limits.chars start arguments leads spared
  leads-other start switches position arguments given leads spared other = absurd other

  named-other : (switches : List (List ℕ)) (position : ℕ) (arguments : List (List ℕ)) (given : Command) → IsOther given
      → AreNamed windows document (done given document (calling limits windows widget switches position arguments)).document
  named-other switches position arguments Configure other = named-configured windows document widget position arguments
  named-other switches position arguments EditReset other = named-same windows document (edit_reset document).document refl
  named-other switches position arguments PeerCreate other = named-peered limits windows document widget position arguments
  named-other switches position arguments given other = absurd other

  leads-shaped : (start name : List ℕ) (words : List (List ℕ)) (read : Result Shape ShapeFault) →
      Leads limits.chars start document
      → widget_named name document ≡ Some widget
      → (is_ok (shaped limits windows document widget words read).reply && forgets_read words read) ≡ false
      → Leads limits.chars start (shaped limits windows document widget words read).document
  leads-shaped start name words (Err fault) leads is spared = leads
  leads-shaped start name words (Ok shape) leads is spared =
      let anchored = found-anchored name (characters document.cells) document.widgets widget leads.page.anchored is in
      carried-done limits document widget (Leads limits.chars start)
      (leads-carried limits start document widget leads anchored) shape.command windows
      (switches_of shape words)
      shape.arguments (arguments_of shape words)
      (leads-other start (switches_of shape words) shape.arguments (arguments_of shape words) shape.command leads
      spared)

  named-shaped : (words : List (List ℕ)) (read : Result Shape ShapeFault)
      → AreNamed windows document (shaped limits windows document widget words read).document
  named-shaped words (Err fault) = named-same windows document document refl
  named-shaped words (Ok shape) =
      carried-done limits document widget (AreNamed windows document) (named-carried limits windows document widget)
      shape.command windows
      (switches_of shape words)
      shape.arguments (arguments_of shape words)
      (named-other (switches_of shape words) shape.arguments (arguments_of shape words) shape.command)

-- ---- a document that changes, is added, or ends

module _ (start : List ℕ) (world : World) (place : ℕ) (follows : Follows start world place) where
  abbrev documents : List Document
  documents = world.documents

  abbrev document : Document
  document = document_at documents place

  follows-own : (change : Change) → AreNamed (all_windows world) document change.document →
      Leads world.limits.chars start change.document
      → Follows start (changed world place change).world place
  follows-own change named leads =
      let new = change.document in
      let within = follows.within in
      let here : document_at (slice_set documents place new) place ≡ new = set-at documents place new within in
      let long = length-set documents place new in
      record {
        within = omega (arith, within, long);
        leads = subst (Leads world.limits.chars start) (sym here) leads;
        windows = λ name there. elim (named.known name (ap (λ (d : Document). is_among name (window_names d)) (sym here)
            ∙ there)) [
              | inl was ↦ follows.windows name was
              | inr fresh ↦ fresh.0
            ];
        before = subst (λ (d : Document). AllByRecursion (IsBefore d) (take place (slice_set documents place new)))
            (sym here)
            (front-changed (IsBefore new) documents place place new
            (before-grown documents place document new (λ name there. elim (named.known name there) [
              | inl was ↦ inl was
              | inr fresh ↦ inr fresh.1
            ]) follows.before) (λ less _. absurd (omega (arith, less))));
      }

  follows-beside : (at : ℕ) (change : Change) → (at ≡ place → ⊥) →
      AreNamed (all_windows world) (document_at documents at) change.document
      → Follows start (changed world at change).world place
  follows-beside at change apart named =
      let new = change.document in
      let within = follows.within in
      let here : document_at (slice_set documents at new) place ≡ document = set-other documents at place new apart in
      let long = length-set documents at new in
      record {
        within = omega (arith, within, long);
        leads = subst (Leads world.limits.chars start) (sym here) follows.leads;
        windows = λ name there. follows.windows name (ap (λ (d : Document). is_among name (window_names d)) (sym here)
            ∙ there);
        before =
            subst (λ (d : Document). AllByRecursion (IsBefore d) (take place (slice_set documents at new))) (sym here)
            (front-changed (IsBefore document) documents place at new follows.before (λ _ good. record {
              shown = named.some good.shown;
              apart = λ name there. false_from_ne_true (is_among name (window_names new)) (λ is.
                  elim (named.known name is) [
                    | inl was ↦ true≢false (sym was ∙ good.apart name there)
                    | inr fresh ↦ true≢false (sym there ∙ own-absent name documents place within fresh.1)
                  ]);
            }));
      }

  follows-changed : (at : ℕ) (change : Change) → AreNamed (all_windows world) (document_at documents at) change.document
      → (at ≡ place → Leads world.limits.chars start change.document)
      → Follows start (changed world at change).world place
  follows-changed at change named leads =
      elim (at == place) as (λ b. (at == place) ≡ b → Follows start (changed world at change).world place) [
        | true ↦ λ is.
            let same = eqb-true at place is in
            subst (λ n. Follows start (changed world n change).world place) (sym same)
            (follows-own change (subst (λ n. AreNamed (all_windows world) (document_at documents n) change.document)
            same named) (leads same))
        | false ↦ λ other. follows-beside at change (λ same. true≢false (sym ((Decides-eqb at place).1 same) ∙ other))
            named
      ] refl

  follows-added : (new : Document) → Follows start (record world { documents = documents ++ new ∷ [] }) place
  follows-added new =
      let within = follows.within in
      let here : document_at (documents ++ new ∷ []) place ≡ document =
      get_or-append documents (new ∷ []) bare_document place within in
      let front : take place (documents ++ new ∷ [])
      ≡ take place documents = take-append-le place documents (new ∷ []) (omega (arith, within)) in
      record {
        within = omega (arith, within, length-append documents (new ∷ []));
        leads = subst (Leads world.limits.chars start) (sym here) follows.leads;
        windows = λ name there. follows.windows name (ap (λ (d : Document). is_among name (window_names d)) (sym here)
            ∙ there);
        before = subst (λ (d : Document). AllByRecursion (IsBefore d) (take place (documents ++ new ∷ []))) (sym here)
            (subst (AllByRecursion (IsBefore document)) (sym front) follows.before);
      }

  follows-left : (names : List (List ℕ)) → keeps_some names document ≡ true
      → Follows start (destroy world names).world (length (filter (keeps_some names) (take place documents)))
  follows-left names keeps =
      let there = left-at names documents place follows.within keeps in
      let count = length (filter (keeps_some names) (take place documents)) in
      record {
        within = there.0;
        leads = subst (Leads world.limits.chars start) (sym there.1)
            (leads-left world.limits.chars start document names follows.leads);
        windows = λ name is. follows.windows name
            (left-among names name document (ap (λ (d : Document). is_among name (window_names d)) (sym there.1) ∙ is));
        before = subst (λ (d : Document). AllByRecursion (IsBefore d)
            (take count (destroy world names).world.documents)) (sym there.1)
            (left-front names document documents place follows.before);
      }

  -- ---- any command

  -- a command that drops no widget leaves the place
  stays : (new : World) → Follows start new place →
      Follows start new (length (filter (keeps_some []) (take place documents)))
  stays new goes = (let within = follows.within in
      subst (Follows start new) (sym (front-stays document documents place (omega (arith, within)) follows.before))
      goes)

  follows-create : (words : List (List ℕ)) → Follows start (create world words).world place
  follows-create [] = follows
  follows-create (name ∷ options) =
      let found = settings_given bare_document 2 options first_settings in
      elim (is_window_name name) as (λ b. Follows start (if b then create_with world name found
      else refuses world (InvalidCommandName 1)).world place) [
        | true ↦ with-settings found
        | false ↦ follows
      ]
    where
      with-settings : (given : Result Settings Fault) → Follows start (create_with world name given).world place
      with-settings (Err fault) = follows
      with-settings (Ok settings) =
          let made : Outcome = record {
            reply = Ok (Word 1);
            world = record world { documents = documents ++ new_document name settings ∷ [] };
            edits = [];
          } in
          elim (is_among name (all_windows world)) as
          (λ b. Follows start (if b then refuses world (WindowExists 1)
          else create_new world name settings).world place) [
            | true ↦ follows
            | false ↦ elim (nat_le world.limits.widgets (length (all_windows world))) as
                (λ b. Follows start (if b then refuses world TooManyWidgets else made).world place) [
                  | true ↦ follows
                  | false ↦ follows-added (new_document name settings)
                ]
          ]

  follows-created : (words : List (List ℕ)) (read : Result Shape ShapeFault) →
      Follows start (create_shaped world words read).world place
  follows-created words (Err fault) = follows
  follows-created words (Ok shape) = follows-create (arguments_of shape words)

  follows-destroyed : (words : List (List ℕ)) (read : Result Shape ShapeFault) →
      keeps_some (names_read words read) document ≡ true
      → Follows start (destroy_shaped world words read).world
      (length (filter (keeps_some (names_read words read)) (take place documents)))
  follows-destroyed words (Err fault) keeps = stays world follows
  follows-destroyed words (Ok shape) keeps = follows-left (arguments_of shape words) keeps

  follows-found : (at : ℕ) (name : List ℕ) (words : List (List ℕ)) (found : Option Widget) →
      widget_named name (document_at documents at) ≡ found
      → (is_some (widget_named name document) && is_ok (on_found world at (document_at documents at) words found).reply
      && forgets_read words
      (reading words)) ≡ false
      → Follows start (on_found world at (document_at documents at) words found).world place
  follows-found at name words None is spared = follows
  follows-found at name words (Some widget) is spared =
      let own = document_at documents at in
      let change = command world.limits (all_windows world) own widget words in
      follows-changed at change (named-shaped world.limits (all_windows world) own widget words (reading words))
      (λ same.
      let some : is_some (widget_named name document)
      ≡ true = ap (λ n. is_some (widget_named name (document_at documents n))) (sym same) ∙ ap is_some is in
      leads-shaped world.limits (all_windows world) own widget start name words (reading words)
      (subst (λ n. Leads world.limits.chars start (document_at documents n)) (sym same) follows.leads) is
      (sym (ap (λ b. b && is_ok change.reply && forgets_read words (reading words)) some) ∙ spared))

  follows-home : (name : List ℕ) (words : List (List ℕ)) (found : Option ℕ)
      → (is_some (widget_named name document) && is_ok (on_home world name words found).reply
      && forgets_read words (reading words)) ≡ false
      → Follows start (on_home world name words found).world place
  follows-home name words None spared = follows
  follows-home name words (Some at) spared =
      follows-found at name words (widget_named name (document_at documents at)) refl spared

not-true : (b : Bool) → not b ≡ true → b ≡ false
not-true true is = absurd (true≢false (sym is))
not-true false is = refl

text-apart : (name : List ℕ) → is_same name (literal "text") ≡ true → is_same name (literal "destroy") ≡ false
unfolding chars
text-apart name is = ap (λ n. is_same n (literal "destroy")) ((bytes_eq-Decides name (literal "text")).0 is)

by-cases : (M : Outcome → List (List ℕ) → Type 0) (text destroys : Bool) (made left done : Outcome)
    (names : List (List ℕ)) → (text ≡ true → destroys ≡ false)
    → M made [] → M left names → M done []
    → M (if text then made else (if destroys then left else done)) (if destroys then names else [])
by-cases M true true made left done names apart one two three = absurd (true≢false (apart refl))
by-cases M true false made left done names apart one two three = one
by-cases M false true made left done names apart one two three = two
by-cases M false false made left done names apart one two three = three

follows-step : (start : List ℕ) (world : World) (place : ℕ) (words : List (List ℕ)) → Follows start world place →
    is_spared world place words ≡ true
    → Follows start (step world words).world (place_after world words place)
follows-step start world place [] follows spared = stays start world place follows world follows
follows-step start world place (name ∷ others) follows spared =
    let words = name ∷ others in
    let read = reading words in
    let there = document_at world.documents place in
    let parts = and_parts (not (is_forgotten world place words)) (keeps_some (names_dropped words) there) spared in
    by-cases (λ (outcome : Outcome) names. keeps_some names there ≡ true
    → (is_some (widget_named name there) && is_ok outcome.reply && forgets_read words read) ≡ false
    → Follows start outcome.world (length (filter (keeps_some names) (take place world.documents))))
    (is_same name (literal "text")) (is_same name (literal "destroy")) (create_shaped world words read)
    (destroy_shaped world words read)
    (on_widget world name words) (names_read words read) (text-apart name)
    (λ _ _. stays start world place follows (create_shaped world words read).world
    (follows-created start world place follows words read))
    (λ keeps _. follows-destroyed start world place follows words read keeps)
    (λ _ none. stays start world place follows (on_widget world name words).world
    (follows-home start world place follows name words (home name world.documents) none))
    parts.1 (not-true (is_forgotten world place words) parts.0)

pub follows-all : (start : List ℕ) (commands : List (List (List ℕ))) (world : World) (place : ℕ) →
    Follows start world place → AreSpared world place commands
    → Follows start (after_all world commands) (place_after_all world commands place)
follows-all start [] world place follows spared = follows
follows-all start (words ∷ commands) world place follows spared =
    follows-all start commands (step world words).world (place_after world words place)
    (follows-step start world place words follows spared.0) spared.1

-- ---- the start

none-among : (name : List ℕ) (names : List (List ℕ)) → AllByRecursion (λ other. is_same name other ≡ false) names →
    is_among name names ≡ false
none-among name [] apart = refl
none-among name (other ∷ names) apart = ap (λ b. b || is_among name names) apart.0 ∙ none-among name names apart.1

distinct-behind : (names others : List (List ℕ)) → IsDistinct is_same (names ++ others) → IsDistinct is_same others
distinct-behind [] others distinct = distinct
distinct-behind (name ∷ names) others distinct =
    distinct-behind names others (IsDistinct-tail is_same name (names ++ others) distinct)

-- distinct names stand once
distinct-apart : (name : List ℕ) (names others : List (List ℕ)) → IsDistinct is_same (names ++ others) →
    is_among name others ≡ true
    → is_among name names ≡ false
distinct-apart name [] others distinct there = refl
distinct-apart name (first ∷ names) others distinct there =
    elim (is_same name first) as (λ b. is_same name first ≡ b → (b || is_among name names) ≡ false) [
      | true ↦ λ same.
          let be : name ≡ first = (bytes_eq-Decides name first).0 same in
          let none = none-among first (names ++ others) (IsDistinct-head is_same first (names ++ others) distinct) in
          let apart = or_parts (is_among first names) (is_among first others) (sym (among-append first names others)
          ∙ none) in
          absurd (true≢false (sym there ∙ ap (λ n. is_among n others) be ∙ apart.1))
      | false ↦ λ _. distinct-apart name names others (IsDistinct-tail is_same first (names ++ others) distinct) there
    ] refl

first-before : (documents : List Document) (place : ℕ) → place < length documents
    → AllByRecursion (λ (document : Document). 0 < length document.widgets) documents
    → IsDistinct is_same (windows_of documents) →
    AllByRecursion (IsBefore (document_at documents place)) (take place documents)
first-before documents zero within shown distinct = tt
first-before [] (suc place) within shown distinct = tt
first-before (document ∷ documents) (suc place) within shown distinct =
    let inside : place < length documents = omega (arith, within) in (
      record {
        shown = shown.0;
        apart = λ name there.
            elim (is_among name (windows_of documents)) as (λ b. is_among name (windows_of documents) ≡ b →
            is_among name (window_names document) ≡ false) [
              | true ↦ λ among. distinct-apart name (window_names document) (windows_of documents) distinct among
              | false ↦ λ none. absurd (true≢false (sym there ∙ own-absent name documents place inside none))
            ] refl;
      },
      first-before documents place inside shown.1
          (distinct-behind (window_names document) (windows_of documents) distinct),
    )

pub follows-first : (world : World) (place : ℕ) → IsWellFormed world → place < length world.documents →
    BeginsToKeep (document_at world.documents place)
    → Follows (text_at world place) world place
follows-first world place formed within begins =
    let documents = world.documents in
    let document = document_at documents place in
    let own = all-at (IsWellFormedDocument world.limits) documents place formed.documents within in
    record {
      within = within;
      leads = leads-first world.limits document own begins.undo begins.most begins.groups;
      windows = λ name there. placed-window document name document.widgets own.widgets there;
      before = first-before documents place within formed.shown formed.widget_names;
    }
