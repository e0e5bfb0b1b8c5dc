-- How marks of a document are listed: all of them, that of a name, and the shared ones of some names.
use Rattle.documents.proofs.Common.{◌≡◌, ◌≢◌, ℕ, ◌+◌, Bool, true, false, ◌||◌, List, [], ◌∷◌, ◌++◌, Some, map, take}
use Rattle.documents.proofs.Common.{refl, sym, ap, ap₂, ◌∙◌, inl, inr, option_map, if◌then◌else◌, append_assoc}
use Rattle.documents.proofs.Common.{true≢false, false≢true, All-head, All-nil, All-push, All-tail, arith, map-append}
use Rattle.documents.proofs.Common.{map-map, same_Some, slice_get, take-found, position_from, is_among, is_own, is_same}
use Rattle.documents.proofs.Common.{literal, Document, Parts, SharedMark, Widget, mark_unset, mark_number, placed}
use Rattle.documents.proofs.Common.{Stands, suc, AreListed, shared_key, AreOthers, AreSingle, AreWatched, HasMarksBut}
use Rattle.documents.proofs.Common.{mark_at, mark_key, mark_keys, own_keys, watched, MarkChange, MarkKey}
use Rattle.documents.proofs.Common.{flat_map-append, among-other, words-are}
use Rattle.name_list.specs.Names.{names_of}
use Rattle.documents.proofs.MarkReportLaws.{all-back, all-front, by-kind, current_key, insert_key, own_listed}
use Rattle.documents.proofs.MarksToldLaws.{left-none, left-other, same-number, sought}
use Rattle.documents.proofs.PlacedLaws.{StandsMark, found_mark, placed-names}
use Rattle.documents.proofs.WellFormedLaws.{windows-kept}
use Rattle.mark_table.specs.SharedMarks.{names_of as mark_names}

-- ---- the mark of a name

pub key-insert : (widget : Widget) (name word : List ℕ) → name ≡ widget.name → is_same word (literal "insert") ≡ true →
    insert_key name ≡ mark_key widget word
key-insert widget name word own is =
    ap insert_key own
    ∙ sym (ap (λ b. if b then insert_key widget.name
    else (if is_same word (literal "current") then current_key widget.name else shared_key word)) is)

pub key-current : (widget : Widget) (name word : List ℕ) → name ≡ widget.name →
    is_same word (literal "insert") ≡ false → is_same word (literal "current") ≡ true
    → current_key name ≡ mark_key widget word
key-current widget name word own isn't is =
    ap current_key own
    ∙ sym (ap₂ (λ a b. if a then insert_key widget.name
    else (if b then current_key widget.name else shared_key word)) isn't is)

pub key-shared : (widget : Widget) (word : List ℕ) → is_same word (literal "insert") ≡ false →
    is_same word (literal "current") ≡ false → shared_key word ≡ mark_key widget word
key-shared widget word isn't neither =
    sym (ap₂ (λ a b. if a then insert_key widget.name
    else (if b then current_key widget.name else shared_key word)) isn't neither)

pub listed-one : (document : Document) (marks more : List MarkChange) (key other : MarkKey) → marks ≡ [] →
    more ≡ marks ++ watched document key ∷ [] → key ≡ other → more ≡ watched document other ∷ []
listed-one document marks more key other none is same =
    is ∙ ap₂ (λ (ms : List MarkChange) (k : MarkKey). ms ++ watched document k ∷ []) none same

-- ---- all marks, by the names of widgets and of shared marks

abbrev pub shared_listed : List (List ℕ) → List MarkKey
shared_listed names = map shared_key names

pub own-more : (document : Document) (names : List (List ℕ)) (at : ℕ) (name : List ℕ) (marks more : List MarkChange) →
    slice_get names at ≡ Some name → marks ≡ map (watched document) (own_listed (take at names))
    → more ≡ marks ++ map (watched document) (own_keys name)
    → more ≡ map (watched document) (own_listed (take (at + 1) names))
own-more document names at name marks more is before after =
    let w : MarkKey → MarkChange = watched document in
    after ∙ ap (λ ms. ms ++ map w (own_keys name)) before
    ∙ sym (map-append w (own_listed (take at names)) (own_keys name))
    ∙ ap (map w) (sym (flat_map-append own_keys (take at names) (name ∷ [])) ∙ ap own_listed
    (sym (take-found names at name is)))

pub shared-more : (document : Document) (first : List MarkKey) (names : List (List ℕ)) (at : ℕ) (name : List ℕ)
    (marks more : List MarkChange) → slice_get names at ≡ Some name
    → marks ≡ map (watched document) (first ++ shared_listed (take at names))
    → more ≡ marks ++ watched document (shared_key name) ∷ []
    → more ≡ map (watched document) (first ++ shared_listed (take (at + 1) names))
shared-more document first names at name marks more is before after =
    let w : MarkKey → MarkChange = watched document in
    after ∙ ap (λ ms. ms ++ w (shared_key name) ∷ []) before
    ∙ sym (map-append w (first ++ shared_listed (take at names)) (shared_key name ∷ []))
    ∙ ap (map w) (append_assoc first (shared_listed (take at names)) (shared_key name ∷ [])
    ∙ ap (λ (rest : List MarkKey). first ++ rest) (sym (map-append shared_key (take at names) (name ∷ []))
    ∙ ap shared_listed (sym (take-found names at name is))))

pub keys-kept : {parts : Parts} {document : Document} → Stands parts document →
    own_listed (names_of parts.seats.entries) ++ shared_listed (mark_names parts.marks.marks) ≡ mark_keys document
keys-kept {parts} {document} stands =
    let marks = placed parts.content.marks parts.marks.marks in
    ap₂ (λ (own : List (List ℕ)) (shared : List MarkKey). own_listed own ++ shared) (sym (windows-kept parts))
    (ap shared_listed (sym (placed-names parts.content.marks parts.marks.marks))
    ∙ map-map shared_key (λ (mark : SharedMark). mark.name) marks)
    ∙ ap mark_keys stands.is

-- ---- shared marks among some words

pub listed-none : (document : Document) (seen : ℕ → Bool) → ((number : ℕ) → seen number ≡ false) →
    AreListed document [] seen []
listed-none document seen none = record {
  each = All-nil (λ (mark : MarkChange). mark ≡ watched document mark.key);
  single = tt;
  unseen = λ number name is new. All-nil (λ (mark : MarkChange). mark.key ≢ shared_key name);
  known = λ number name is told others. true≢false (sym told ∙ none number);
  all = λ number name is asked others. false≢true asked;
}

single-push : (marks : List MarkChange) (mark : MarkChange) → AreSingle marks → AreOthers mark.key marks →
    AreSingle (marks ++ mark ∷ [])
single-push [] mark single others = (All-nil (λ (m : MarkChange). m.key ≢ mark.key), tt)
single-push (first ∷ marks) mark single others = (
  All-push (λ (m : MarkChange). m.key ≢ first.key) marks mark single.0
      (λ same. All-head (λ (m : MarkChange). m.key ≢ mark.key) first marks others (sym same)),
  single-push marks mark single.1 (All-tail (λ (m : MarkChange). m.key ≢ mark.key) first marks others),
)

module _ (document : Document) (words : List (List ℕ)) (seen after : ℕ → Bool) (marks : List MarkChange)
    (word : List ℕ) (listed : AreListed document words seen marks) where
  -- a word that is listed already, or not the name of a shared mark
  pub listed-kept : ((number : ℕ) → mark_number document word ≡ Some (2 + number) → seen number ≡ true)
      → ((number : ℕ) → after number ≡ seen number) → AreListed document (words ++ word ∷ []) after marks
  listed-kept told same = record {
    each = listed.each;
    single = listed.single;
    unseen = λ number name is new. listed.unseen number name is (sym (same number) ∙ new);
    known = λ number name is old. listed.known number name is (sym (same number) ∙ old);
    all = λ number name is asked. elim (is_same name word) as (λ b. is_same name word ≡ b →
        AreOthers (shared_key name) marks → ⊥) [
          | true ↦ λ here. listed.known number name is
              (told number (ap (mark_number document) (sym (words-are name word here)) ∙ is))
          | false ↦ λ other. listed.all number name is (sym (among-other name word words other) ∙ asked)
        ] refl;
  }

  -- the name of a shared mark that was seen
  pub listed-seen : (place : ℕ) → mark_number document word ≡ Some (2 + place) → seen place ≡ true
      → ((number : ℕ) → after number ≡ seen number) → AreListed document (words ++ word ∷ []) after marks
  listed-seen place is told same = listed-kept (λ number also.
      let two : 2 + number ≡ 2 + place = same_Some (2 + number) (2 + place) (sym also ∙ is) in
      let one : number ≡ place = omega (arith, two) in
      ap seen one ∙ told) same

  abbrev key : MarkKey
  key = shared_key word

  last-other : (name : List ℕ) → AreOthers (shared_key name) (marks ++ watched document key ∷ []) →
      shared_key word ≢ shared_key name
  last-other name others =
      let P : MarkChange → Type 0 = λ (mark : MarkChange). mark.key ≢ shared_key name in
      All-head P (watched document key) [] (all-back P marks (watched document key ∷ []) others)

  front-other : (name : List ℕ) → AreOthers (shared_key name) (marks ++ watched document key ∷ []) →
      AreOthers (shared_key name) marks
  front-other name others =
      all-front (λ (mark : MarkChange). mark.key ≢ shared_key name) marks (watched document key ∷ []) others

  -- a word that is listed now
  pub listed-more : (place : ℕ) → mark_number document word ≡ Some (2 + place) → seen place ≡ false
      → after place ≡ true → ((number : ℕ) → number ≢ place → after number ≡ seen number)
      → AreListed document (words ++ word ∷ []) after (marks ++ watched document key ∷ [])
  listed-more place is new here elsewhere = record {
    each = All-push (λ (mark : MarkChange). mark ≡ watched document mark.key) marks (watched document key) listed.each
        refl;
    single = single-push marks (watched document key) listed.single (listed.unseen place word is new);
    unseen = λ number name at none.
        let apart : number ≢ place = λ same. true≢false (sym here ∙ ap after (sym same) ∙ none) in
        All-push (λ (mark : MarkChange). mark.key ≢ shared_key name) marks (watched document key)
        (listed.unseen number name at (sym (elsewhere number apart) ∙ none)) (λ same.
        apart (numbers number (sym at ∙ ap (mark_number document) (ap (λ (k : MarkKey). k.name) (sym same)) ∙ is)));
    known = λ number name at told others.
        let apart : number ≢ place = λ same. other-place number name at others same in
        listed.known number name at (sym (elsewhere number apart) ∙ told) (front-other name others);
    all = λ number name at asked. elim (is_same name word) as (λ b. is_same name word ≡ b →
        AreOthers (shared_key name) (marks ++ watched document key ∷ []) → ⊥) [
          | true ↦ λ same others. last-other name others (ap shared_key (sym (words-are name word same)))
          | false ↦ λ other others. listed.all number name at (sym (among-other name word words other) ∙ asked)
              (front-other name others)
        ] refl;
  }
    where
      numbers : (number : ℕ) → Some (2 + number) ≡ Some (2 + place) → number ≡ place
      numbers number same = (let two : 2 + number ≡ 2 + place = same_Some (2 + number) (2 + place) same in
          omega (arith, two))

      other-place : (number : ℕ) (name : List ℕ) → mark_number document name ≡ Some (2 + number) →
          AreOthers (shared_key name) (marks ++ watched document key ∷ []) → number ≢ place
      other-place number name at others same =
          last-other name others (ap shared_key (sym (same-number document name word place
          (at ∙ ap (λ n. Some (2 + n)) same) is)))

-- ---- what is unset

-- a name of a mark that stands is that of a shared one
numbered-mark : {parts : Parts} {document : Document} (stands : Stands parts document) (name : List ℕ) →
    (there : StandsMark parts.content.marks name parts.marks.marks 0)
    → mark_number document name ≡ Some (2 + there.place)
numbered-mark {parts} {document} stands name there =
    let own : is_own name ≡ false = ap is_own there.named ∙ there.marked.shared in
    by (is_same name (literal "insert")) (is_same name (literal "current")) own
    ∙ ap (λ (ms : List SharedMark). option_map (λ k. suc (suc k))
    (position_from (λ (mark : SharedMark). is_same name mark.name) 0 ms))
    (ap (λ (d : Document). d.marks) (sym stands.is))
    ∙ ap (option_map (λ k. suc (suc k))) there.found
    ∙ ap Some (let two : suc (suc (0 + there.place)) ≡ 2 + there.place = omega arith in two)
  where
    by : (b c : Bool) → (b || c) ≡ false → (if b then Some 0 else (if c then Some 1 else option_map (λ k. suc (suc k))
        (position_from (λ (mark : SharedMark). is_same name mark.name) 0 document.marks)))
        ≡ option_map (λ k. suc (suc k))
        (position_from (λ (mark : SharedMark). is_same name mark.name) 0 document.marks)
    by true c own = absurd (true≢false own)
    by false true own = absurd (true≢false own)
    by false false own = refl

pub unset-others : {parts : Parts} {document : Document} (words : List (List ℕ)) (seen : ℕ → Bool)
    (marks : List MarkChange) → Stands parts document → AreListed document words seen marks
    → HasMarksBut marks document (mark_unset document words).document
unset-others {parts} {document} words seen marks stands listed key others =
    by-kind (λ key. AreOthers key marks → mark_at (mark_unset document words).document key ≡ mark_at document key)
    (λ name _. refl) (λ name _. refl)
    (λ name others. elim (is_among name words) as (λ b. is_among name words ≡ b →
    mark_at (mark_unset document words).document (shared_key name) ≡ mark_at document (shared_key name)) [
      | true ↦ λ gone. left-none name words document.marks gone ∙ sym (elim
          (found_mark parts.content.marks name parts.marks.marks 0 stands.sound.marked.each) [
            | inl unknown ↦ ap (λ (d : Document). sought name d.marks) (sym stands.is)
                ∙ ap (option_map (λ (mark : SharedMark). mark.place)) unknown.2
            | inr there ↦ absurd (listed.all there.place name (numbered-mark stands name there) gone others)
          ])
      | false ↦ λ stays. left-other name words document.marks stays
    ] refl)
    key others

pub listed-watched-all : (document : Document) (words : List (List ℕ)) (seen : ℕ → Bool) (marks : List MarkChange) →
    AreListed document words seen marks → AreWatched document marks
listed-watched-all document words seen marks listed = record { each = listed.each; single = listed.single }
