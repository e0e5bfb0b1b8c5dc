-- What is told where tags are deleted, name by name.
use Rattle.reports.proofs.Common.{◌≡◌, ◌≢◌, ℕ, ◌+◌, ◌<◌, Bool, true, false, cond, not, ◌&&◌, ◌||◌, List, [], ◌∷◌, ◌++◌}
use Rattle.reports.proofs.Common.{Option, None, Some, map, length, refl, sym, ap, ap₂, ◌∙◌, arith, subst, true≢false}
use Rattle.reports.proofs.Common.{ne_eqb, eq-eqb, get_or, take, chars, string_bytes, slice_range, nat_cmp_total}
use Rattle.reports.proofs.Common.{unsigned_tied, eq_by_cmp, nat_cmp, false_from_ne_true, append-nil, length-map}
use Rattle.reports.proofs.Common.{none-some, same_Some, Named, AreTags, Tag, Tags, sel, slot_of, texts_of, Slots, flags}
use Rattle.reports.proofs.Common.{changed, Cell, map-alike, map-map, is_among, is_same, KeyedCell, with_key, Key, Keys}
use Rattle.reports.proofs.Common.{key_cmp, key_pairs, keyed, keys_of, set_key, AreSeats, key_stays, without_tags}
use Rattle.reports.proofs.Common.{AreGone, TellsGone, TellsSpan, TellsTags, flags_of, AddsRuns, AreGapped, LiesIn}
use Rattle.reports.proofs.Common.{TagChange, All, All-append, All-nil, All-weaker}
use Rattle.std.specs.declared.string.String.{String}
use Rattle.reports.proofs.BridgeLaws.{contains-set_key, key_itself, key_tied, keys_of-has, keys_same, retained}
use Rattle.reports.proofs.KeyedLaws.{keyed_cell}
use Rattle.reports.proofs.LookupLaws.{has, and_none}
use Rattle.reports.proofs.WordLaws.{among-last, among-other, same-word, texts-more, words-are}
use Rattle.reports.proofs.SlotLaws.{not_selection, same_slot, slot_for, slot_high}
use Rattle.reports.proofs.TagRunLaws.{gapped-append}
use Rattle.reports.proofs.TagsToldLaws.{part-changed}
use Rattle.std.specs.FinSet as set

-- the key of a tag, by its name
abbrev tag_key : List ℕ → Key
tag_key name = record { selects = false; name = name }

-- ---- the keys that stay where one more name goes

-- those of other names, and selections
stays-other : (names : List (List ℕ)) (name : List ℕ) (key : Key) → eq_by_cmp key_cmp key (tag_key name) ≡ false →
    key_stays (names ++ name ∷ []) key ≡ key_stays names key
stays-other names name key other = by key.selects key.name other
  where
    by : (selects : Bool) (own : List ℕ)
        → eq_by_cmp key_cmp (record { selects = selects; name = own }) (tag_key name) ≡ false
        → key_stays (names ++ name ∷ []) (record { selects = selects; name = own })
        ≡ key_stays names (record { selects = selects; name = own })
    by true own apart = refl
    by false own apart = ap not (among-other own name names (false_from_ne_true (is_same own name) (λ same.
        true≢false (sym (key_itself (tag_key own) (tag_key name) (ap tag_key (words-are own name same))) ∙ apart))))

-- the name's own goes
stays-none : (names : List (List ℕ)) (name : List ℕ) → key_stays (names ++ name ∷ []) (tag_key name) ≡ false
stays-none names name = ap not (among-last name name names (same-word name))

-- what goes already goes still
goes-still : (names : List (List ℕ)) (name : List ℕ) (key : Key) → key_stays names key ≡ false →
    key_stays (names ++ name ∷ []) key ≡ false
goes-still names name key goes =
    elim (eq_by_cmp key_cmp key (tag_key name)) as (λ b. eq_by_cmp key_cmp key (tag_key name) ≡ b →
    key_stays (names ++ name ∷ []) key ≡ false) [
      | true ↦ λ tied. ap (key_stays (names ++ name ∷ [])) (key_tied key (tag_key name) tied) ∙ stays-none names name
      | false ↦ λ other. stays-other names name key other ∙ goes
    ] refl

-- without a key that no character has, or that has gone already, nothing more goes
retain-idle : (names : List (List ℕ)) (name : List ℕ) (keys : Keys) →
    (set.contains keys (tag_key name) && key_stays names (tag_key name)) ≡ false
    → set.retain keys (key_stays (names ++ name ∷ [])) ≡ set.retain keys (key_stays names)
retain-idle names name keys none =
    keys_same (λ key. retained (key_stays (names ++ name ∷ [])) keys key
    ∙ elim (eq_by_cmp key_cmp key (tag_key name)) as (λ b. eq_by_cmp key_cmp key (tag_key name) ≡ b →
    (set.contains keys key && key_stays (names ++ name ∷ []) key) ≡ (set.contains keys key && key_stays names key)) [
      | true ↦ λ tied.
          let one = key_tied key (tag_key name) tied in
          ap (λ k. set.contains keys k && key_stays (names ++ name ∷ []) k) one
          ∙ ap (λ b. set.contains keys (tag_key name) && b) (stays-none names name)
          ∙ and_none (set.contains keys (tag_key name)) ∙ sym none
          ∙ sym (ap (λ k. set.contains keys k && key_stays names k) one)
      | false ↦ λ other. ap (λ b. set.contains keys key && b) (stays-other names name key other)
    ] refl
    ∙ sym (retained (key_stays names) keys key))

-- the key of one more name is taken off
retain-more : (names : List (List ℕ)) (name : List ℕ) (keys : Keys) →
    set_key (tag_key name) false (set.retain keys (key_stays names))
    ≡ set.retain keys (key_stays (names ++ name ∷ []))
retain-more names name keys =
    let before = set.retain keys (key_stays names) in
    keys_same (λ key. contains-set_key (tag_key name) false before key
    ∙ ap (cond (eq_by_cmp key_cmp key (tag_key name)) false) (retained (key_stays names) keys key)
    ∙ elim (eq_by_cmp key_cmp key (tag_key name)) as (λ b. eq_by_cmp key_cmp key (tag_key name) ≡ b →
    cond b false (set.contains keys key && key_stays names key)
    ≡ (set.contains keys key && key_stays (names ++ name ∷ []) key)) [
      | true ↦ λ tied.
          sym (ap (λ k. set.contains keys key && key_stays (names ++ name ∷ []) k) (key_tied key (tag_key name) tied)
          ∙ ap (λ b. set.contains keys key && b) (stays-none names name) ∙ and_none (set.contains keys key))
      | false ↦ λ other. ap (λ b. set.contains keys key && b) (sym (stays-other names name key other))
    ] refl
    ∙ sym (retained (key_stays (names ++ name ∷ [])) keys key))

and_true : (b : Bool) → (b && true) ≡ b
and_true true = refl
and_true false = refl

retain-all : (keys : Keys) → set.retain keys (key_stays []) ≡ keys
retain-all keys = keys_same (λ key.
    retained (key_stays []) keys key
    ∙ elim key.selects as (λ b. (set.contains keys key && (b || true)) ≡ set.contains keys key) [
      | true ↦ and_true (set.contains keys key)
      | false ↦ and_true (set.contains keys key)
    ])

-- what a word is found to be is what the name is that it spells
pub found-as : (tags : List Tag) (found : Option ℕ) (word name : List ℕ) → found ≡ slot_of word tags → word ≡ name →
    found ≡ slot_of name tags
found-as tags found word name is spelled = is ∙ ap (λ n. slot_of n tags) spelled

-- the names of words with one more, whose key was made
pub names-more : {Z : Type 0} (words : List (String Z)) (at : ℕ) (word : String Z) (bytes : List ℕ) (key : Key) →
    at < length words → word ≡ get_or words at word → bytes ≡ string_bytes word → key ≡ tag_key (chars bytes)
    → texts_of (take at words) ++ key.name ∷ [] ≡ texts_of (take (at + 1) words)
names-more words at word bytes key within is spelled made =
    ap (λ (k : Key). texts_of (take at words) ++ k.name ∷ []) made ∙ texts-more words at word bytes within is spelled

-- ---- the seats of a document, the table of its tags, and the cells of its store

module _ (seats : List Named) (table : Tags) (seated : AreSeats seats) (sound : AreTags table) (cells : List Cell) where
  abbrev pairs : List (ℕ × Key)
  pairs = key_pairs seats table.tags

  abbrev old : List KeyedCell
  old = keyed pairs cells

  has_tag_key : (slots : Slots) (name : List ℕ) → set.contains (keys_of pairs slots) (tag_key name)
      ≡ has slots (slot_for seats table.tags (tag_key name))
  has_tag_key slots name =
      keys_of-has seats table.tags slots (tag_key name) seated.names_apart sound.names_apart

  own-slot : (name : List ℕ) (slot : ℕ) → slot_of name table.tags ≡ Some slot → slot ≢ 0 →
      slot_for seats table.tags (tag_key name) ≡ Some slot
  own-slot name slot is own =
      ap (λ b. cond (not b) (slot_of name table.tags) None) (not_selection seats table seated sound name slot
      is own) ∙ is

  no-slot : (name : List ℕ) → slot_of name table.tags ≡ None → slot_for seats table.tags (tag_key name) ≡ None
  no-slot name none = elim (is_same name sel) as (λ b. cond (not b) (slot_of name table.tags) None ≡ None) [
    | true ↦ refl
    | false ↦ none
  ]

  selection-slot : (name : List ℕ) → slot_of name table.tags ≡ Some 0 → slot_for seats table.tags (tag_key name) ≡ None
  selection-slot name is = elim (is_same name sel) as (λ b. is_same name sel ≡ b →
      cond (not b) (slot_of name table.tags) None ≡ None) [
        | true ↦ λ _. refl
        | false ↦ λ other. (let high = slot_high seats table seated sound name 0 other is in
            absurd (omega (arith, high)))
      ] refl

  -- ---- a name more of which nothing goes

  gone-idle : (names : List (List ℕ)) (name : List ℕ) (told : List TagChange)
      → ((slots : Slots) → (set.contains (keys_of pairs slots) (tag_key name) && key_stays names (tag_key name)) ≡ false)
      → TellsGone seats table cells names told → TellsGone seats table cells (names ++ name ∷ []) told
  gone-idle names name told none tells =
      subst (TellsTags told old)
      (map-map (without_tags names) (keyed_cell pairs) cells
      ∙ map-alike (λ cell. without_tags names (keyed_cell pairs cell)) (λ cell.
      without_tags (names ++ name ∷ []) (keyed_cell pairs cell)) (λ cell.
      ap (λ (keys : Keys). record { character = cell.character; keys = keys })
      (sym (retain-idle names name (keys_of pairs cell.tags) (none cell.tags)))) cells
      ∙ sym (map-map (without_tags (names ++ name ∷ [])) (keyed_cell pairs) cells)) tells

  none-has : (names : List (List ℕ)) (name : List ℕ) → slot_for seats table.tags (tag_key name) ≡ None →
      (slots : Slots) → (set.contains (keys_of pairs slots) (tag_key name) && key_stays names (tag_key name)) ≡ false
  none-has names name none slots =
      ap (λ b. b && key_stays names (tag_key name)) (has_tag_key slots name ∙ ap (has slots) none)

  -- what was seen stays so where a name more has no slot of its own
  slots-kept : (names : List (List ℕ)) (name : List ℕ) (seen : Slots) (told : List TagChange)
      → AreGone seats table cells names seen told
      → ((slot : ℕ) → slot_of name table.tags ≡ Some slot → slot ≢ 0 → is_among name names ≡ true) →
      (other : List ℕ) (slot : ℕ) → slot_of other table.tags ≡ Some slot → slot ≢ 0
      → set.contains seen slot ≡ is_among other (names ++ name ∷ [])
  slots-kept names name seen told gone passed other slot is own =
      gone.slots other slot is own
      ∙ elim (is_same other name) as (λ b. is_same other name ≡ b →
      is_among other names ≡ is_among other (names ++ name ∷ [])) [
        | true ↦ λ same.
            let one = words-are other name same in
            ap (λ n. is_among n names) one
            ∙ passed slot (ap (λ n. slot_of n table.tags) (sym one) ∙ is) own
            ∙ sym (among-last other name names same)
        | false ↦ λ apart. sym (among-other other name names apart)
      ] refl

  pub gone-none : (told : List TagChange) → told ≡ [] → (seen : Slots) → seen ≡ set.empty →
      AreGone seats table cells [] seen told
  gone-none told none seen empty = record {
    slots = λ name slot is own. ap (λ s. set.contains s slot) empty ∙ set.contains-empty nat_cmp slot;
    tells = subst (λ ts. TellsTags ts old (map (without_tags []) old)) (sym none)
        (map-map (without_tags []) (keyed_cell pairs) cells
        ∙ map-alike (λ cell. without_tags [] (keyed_cell pairs cell)) (keyed_cell pairs) (λ cell.
        ap (λ (keys : Keys). record { character = cell.character; keys = keys }) (retain-all (keys_of pairs cell.tags)))
        cells);
    own = subst (All (λ (change : TagChange). key_stays [] change.key ≡ false)) (sym none)
        (All-nil (λ (change : TagChange). key_stays [] change.key ≡ false));
    gapped = subst AreGapped (sym none) tt;
  }

  module _ (names : List (List ℕ)) (name : List ℕ) (seen : Slots) (told : List TagChange)
      (gone : AreGone seats table cells names seen told) where
    own-more : All (λ (change : TagChange). key_stays (names ++ name ∷ []) change.key ≡ false) told
    own-more = All-weaker (λ (change : TagChange). key_stays names change.key ≡ false)
        (λ (change : TagChange). key_stays (names ++ name ∷ []) change.key ≡ false) (λ change goes.
        goes-still names name change.key goes) told gone.own

    -- an unknown name
    pub gone-unknown : None ≡ slot_of name table.tags → AreGone seats table cells (names ++ name ∷ []) seen told
    gone-unknown none = record {
      slots = slots-kept names name seen told gone (λ slot is own. absurd (none-some slot (none ∙ is)));
      tells = gone-idle names name told (none-has names name (no-slot name (sym none))) gone.tells;
      own = own-more;
      gapped = gone.gapped;
    }

    -- `sel`
    pub gone-selection : (slot : ℕ) → Some slot ≡ slot_of name table.tags → slot ≡ 0 →
        AreGone seats table cells (names ++ name ∷ []) seen told
    gone-selection slot is own = record {
      slots = slots-kept names name seen told gone (λ other other_is some.
          absurd (some (same_Some other slot (sym other_is ∙ sym is) ∙ own)));
      tells = gone-idle names name told
          (none-has names name (selection-slot name (sym is ∙ ap Some own))) gone.tells;
      own = own-more;
      gapped = gone.gapped;
    }

    -- one that has gone already
    pub gone-seen : (slot : ℕ) → Some slot ≡ slot_of name table.tags → slot ≢ 0 → set.contains seen slot ≡ true →
        AreGone seats table cells (names ++ name ∷ []) seen told
    gone-seen slot is own there =
        let among : is_among name names ≡ true = sym (gone.slots name slot (sym is) own) ∙ there in
        record {
          slots = slots-kept names name seen told gone (λ _ _ _. among);
          tells = gone-idle names name told (λ slots.
              ap (λ b. set.contains (keys_of pairs slots) (tag_key name) && not b) among
              ∙ and_none (set.contains (keys_of pairs slots) (tag_key name))) gone.tells;
          own = own-more;
          gapped = gone.gapped;
        }

    -- one that goes now
    pub gone-more : (slot : ℕ) → Some slot ≡ slot_of name table.tags → slot ≢ 0 → set.contains seen slot ≡ false →
        (now : Slots) → now ≡ set.insert seen slot → (more : List TagChange)
        → TellsSpan (tag_key name) false (flags slot cells) 0 (length cells) told more
        → AddsRuns (tag_key name) 0 (length cells) told more → AreGone seats table cells (names ++ name ∷ []) now more
    gone-more slot is own new now made more tells runs =
        let fresh : is_among name names ≡ false = sym (gone.slots name slot (sym is) own) ∙ new in
        let before = map (without_tags names) old in
        let f = with_key (tag_key name) false in
        let long : length before ≡ length cells = length-map old (without_tags names)
        ∙ length-map cells (keyed_cell pairs) in
        let flagged : flags_of (tag_key name) before ≡ flags slot cells =
        map-map (λ (cell : KeyedCell). set.contains cell.keys (tag_key name)) (without_tags names) old
        ∙ map-map (λ (cell : KeyedCell). set.contains (set.retain cell.keys (key_stays names)) (tag_key name))
        (keyed_cell pairs) cells
        ∙ map-alike (λ (cell : Cell). set.contains (set.retain (keys_of pairs cell.tags) (key_stays names))
        (tag_key name)) (λ (cell : Cell). set.contains cell.tags slot) (λ cell.
        retained (key_stays names) (keys_of pairs cell.tags) (tag_key name)
        ∙ ap₂ (λ a b. a && not b) (has_tag_key cell.tags name
        ∙ ap (has cell.tags) (own-slot name slot (sym is) own)) fresh
        ∙ and_true (set.contains cell.tags slot)) cells in
        let all : changed f 0 (length cells) before ≡ map f before =
        ap (changed f 0 (length cells)) (sym (append-nil before))
        ∙ part-changed f [] before [] 0 (length cells) refl (omega (arith, long)) ∙ append-nil (map f before) in
        let left : map f before ≡ map (without_tags (names ++ name ∷ [])) old =
        map-map f (without_tags names) old
        ∙ map-alike (λ (cell : KeyedCell). f (without_tags names cell)) (without_tags (names ++ name ∷ [])) (λ cell.
        ap (λ (keys : Keys). record cell { keys = keys }) (retain-more names name cell.keys)) old in
        record {
          slots = λ other number there some.
              ap (λ s. set.contains s number) made
              ∙ set.contains-insert nat_cmp_total seen slot number
              ∙ elim (is_same other name) as (λ b. is_same other name ≡ b →
              (eq_by_cmp nat_cmp number slot || set.contains seen number) ≡ is_among other (names ++ name ∷ [])) [
                | true ↦ λ same.
                    let one : number ≡ slot = same_Some number slot (sym there
                    ∙ ap (λ n. slot_of n table.tags) (words-are other name same) ∙ sym is) in
                    ap (λ b. b || set.contains seen number) (unsigned_tied number slot ∙ eq-eqb number slot one)
                    ∙ sym (among-last other name names same)
                | false ↦ λ apart.
                    let two : number ≢ slot = λ one. true≢false (sym (same-word name)
                    ∙ ap (λ n. is_same n name) (sym (same_slot seats table seated sound other name slot
                    (there ∙ ap Some one) (sym is))) ∙ apart) in
                    ap (λ b. b || set.contains seen number) (unsigned_tied number slot ∙ ne_eqb number slot two)
                    ∙ gone.slots other number there some ∙ sym (among-other other name names apart)
              ] refl;
          tells = subst (TellsTags more old) (all ∙ left)
              (tells old before (long ∙ sym (length-map cells (λ (cell : Cell). set.contains cell.tags slot)))
              (ap (λ fs. slice_range fs 0 (length cells)) flagged) gone.tells);
          own = subst (All (λ (change : TagChange). key_stays (names ++ name ∷ []) change.key ≡ false)) (sym runs.is)
              (All-append (λ (change : TagChange). key_stays (names ++ name ∷ []) change.key ≡ false) told runs.added
              own-more (All-weaker (LiesIn (tag_key name) 0 (length cells))
              (λ (change : TagChange). key_stays (names ++ name ∷ []) change.key ≡ false) (λ change lies.
              ap (key_stays (names ++ name ∷ [])) lies.same ∙ stays-none names name) runs.added runs.lie));
          gapped = subst AreGapped (sym runs.is) (gapped-append told runs.added gone.gapped runs.gapped
              (λ k d within j e inner same. absurd (true≢false (sym (ap not fresh)
              ∙ ap (key_stays names) (sym (same ∙ (runs.lie j e inner).same)) ∙ gone.own k d within))));
        }
