-- Spans are taken out of a text, the last first.
use Rattle.edit_ops.proofs.Common.{◌≡◌, ℕ, ◌+◌, ◌-◌, ◌<◌, ◌≤◌, Bool, true, false, inl, inr, List, [], ◌∷◌, ◌++◌, map}
use Rattle.edit_ops.proofs.Common.{length, take, drop, refl, sym, ap, ap₂, ◌∙◌, arith, subst, ne_eqb, length-take}
use Rattle.edit_ops.proofs.Common.{nat_le, slice_range, if◌then◌else◌, le-leb, lt-leb, cases_lt, length-map, drop_split}
use Rattle.edit_ops.proofs.Common.{drop_of_length-le, Cell, Step, Remove, ClearTags, Content, characters, line_of}
use Rattle.edit_ops.proofs.Common.{line_start, removed, Fits, after, after_step, after_removal, without_slots}
use Rattle.edit_ops.proofs.Common.{length-removed, map-removed, take-removed, drop-removed, map-changed, changed-same}
use Rattle.edit_ops.proofs.Common.{Fits-append, after-append, EditKind, Delete, Anchors, Recording, Span, next_line}
use Rattle.edit_ops.proofs.Common.{anchors_drawn, in_spans, delete_set, runs_below, AreApart, removed_spans, deleted}
use Rattle.edit_ops.proofs.Common.{removed_span, State, Outline, Log, log_noted, all_noted, outlineed, state_of}
use Rattle.edit_ops.proofs.Common.{length-characters, line-front, next-within, next-behind, no-next, next_line-is}
use Rattle.edit_ops.proofs.Common.{next_line-removed, length-drop, take-take, between_is}
use Rattle.edit_ops.proofs.InsertLaws.{noted-alike, noted-append}
use Rattle.edit_ops.proofs.RunLaws.{runs-are, apart-wider}

pub front-shorter : (n border : ℕ) (xs ys : List ℕ) → n ≤ border → take border xs ≡ take border ys →
    take n xs ≡ take n ys
front-shorter n border xs ys within same =
    sym (take-take n border xs within) ∙ ap (take n) same ∙ take-take n border ys within

pub slice-front : (from to border : ℕ) (xs ys : List ℕ) → from ≤ to → to ≤ border → take border xs ≡ take border ys →
    slice_range xs from to ≡ slice_range ys from to
slice-front from to border xs ys ordered within same =
    between_is xs from to ∙ ap (drop from) (front-shorter to border xs ys within same) ∙ sym (between_is ys from to)

pub length-slice : {A : Type 0} (from to : ℕ) (xs : List A) → from ≤ to → to ≤ length xs
    → length (slice_range xs from to) ≡ to - from
length-slice from to xs ordered within =
    length-take (to - from) (drop from xs) ∙ (let h = length-drop from xs in omega (arith, h))

-- how far it is to the next line, in a text that is the old one up to a border
pub rest-is : (text now : List ℕ) (border rest to behind : ℕ) → take border now ≡ take border text →
    border ≤ length now → border + rest ≤ length text → to ≤ border
    → rest ≡ line_start 1 (drop border now) → behind ≡ next_line text to
    → (if nat_le behind border then behind - to else border - to + rest) ≡ line_start 1 (drop to now)
rest-is text now border rest to behind same within room before rest_is behind_is =
    let front = slice_range text to border in
    let ys = drop border text in let zs = drop border now in
    let long : length front ≡ border - to = length-slice to border text before (omega (arith, room)) in
    let old : drop to text ≡ front ++ ys = drop_split text to border before in
    let new : drop to now ≡ front ++ zs = drop_split now to border before
    ∙ ap (λ xs. xs ++ zs) (slice-front to border border now text before (omega arith) same) in
    let far : behind ≡ to + line_start 1 (front ++ ys) = behind_is ∙ next_line-is text to (omega (arith, room, before))
    ∙ ap (λ xs. to + line_start 1 xs) old in
    elim (cases_lt border behind) [
      | inr inner ↦
          ap (λ b. if b then behind - to else border - to + rest) (le-leb behind border inner)
          ∙ (let e : behind - to ≡ line_start 1 (front ++ ys) = omega (arith, far) in e)
          ∙ sym (next-within front ys zs (omega (arith, far, inner, long, before))
          (λ none. sym rest_is ∙ (let gone = no-next ys none in let h = length-drop border text in
          omega (arith, gone, h, room))))
          ∙ ap (line_start 1) (sym new)
      | inl outer ↦
          ap (λ b. if b then behind - to else border - to + rest) (lt-leb behind border outer)
          ∙ ap₂ (λ a b. a + b) (sym long) rest_is
          ∙ sym (next-behind front ys zs (omega (arith, far, outer, long, before)))
          ∙ ap (line_start 1) (sym new)
    ]

-- and the text has room for that
pub rest-fits : (len border rest to behind : ℕ) → border + rest ≤ len → to ≤ border → behind ≤ len → to ≤ behind →
    to + (if nat_le behind border then behind - to else border - to + rest) ≤ len
rest-fits len border rest to behind room before within above =
    elim (nat_le behind border) as (λ b. to + (if b then behind - to else border - to + rest)
    ≤ len) [ true ↦ omega arith | false ↦ omega arith ]

-- one span more is taken out of an outline
pub span-out : (recording : Recording) (kind : EditKind) (outline new : Outline) (state : State) (text : List ℕ)
    (line next from to : ℕ)
    → new ≡ record {
      steps = outline.steps ++ Remove from to ∷ [];
      anchors = map (anchors_drawn line next from to) outline.anchors;
      actions = outline.actions ++ record { inserts = false; at = from; text = text } ∷ [];
    }
    → from < to
    → (recording.undo ≡ true → text ≡ slice_range (characters (after outline.steps state.content).cells) from to)
    → line ≡ line_start (line_of (characters (after outline.steps state.content).cells) from)
    (characters (after outline.steps state.content).cells)
    → next ≡ next_line (removed from to (characters (after outline.steps state.content).cells)) from
    → outlineed recording kind new state ≡ removed_span recording kind from to (outlineed recording kind outline state)
span-out recording kind outline new state text line next from to made some text_is line_is next_is =
    let before = after outline.steps state.content in
    let now = characters before.cells in
    let noted = all_noted recording kind outline.actions state.log in
    ap (λ (d : Outline). outlineed recording kind d state) made
    ∙ ap₂ (λ c l. state_of c (map (anchors_drawn line next from to) outline.anchors) l)
    (after-append outline.steps (Remove from to ∷ []) state.content)
    (noted-append recording kind outline.actions (record { inserts = false; at = from; text = text } ∷ []) state.log)
    ∙ ap₂ (λ l n. state_of (after_removal from to before) (map (anchors_drawn l n from to) outline.anchors)
    (log_noted recording kind (record { inserts = false; at = from; text = text }) noted)) line_is next_is
    ∙ ap (state_of (after_removal from to before)
    (map (anchors_drawn (line_start (line_of now from) now) (next_line (removed from to now) from) from to)
    outline.anchors))
    (noted-alike recording kind false from text (slice_range now from to) noted text_is)
    ∙ ap (λ b. if b then outlineed recording kind outline state
    else state_of (after_removal from to before)
    (map (anchors_drawn (line_start (line_of now from) now) (next_line (removed from to now) from) from to)
    outline.anchors)
    (log_noted recording kind (record { inserts = false; at = from; text = slice_range now from to }) noted))
    (sym (ne_eqb from to (λ same. omega (arith, same, some))))

-- the first of the spans are taken out, of a text that is the old one up to a border, and these are left
pub record RemovedSoFar (recording : Recording) (kind : EditKind) (outline new : Outline) (state : State) (text : List ℕ)
    (spans left : List Span) (border rest : ℕ) : Type 0 where
  pub fits : Fits new.steps state.content
  pub front : take border (characters (after new.steps state.content).cells) ≡ take border text
  pub long : border ≤ length (characters (after new.steps state.content).cells)
  pub next : rest ≡ line_start 1 (drop border (characters (after new.steps state.content).cells))
  pub makes : removed_spans recording kind left (outlineed recording kind new state)
      ≡ removed_spans recording kind spans (outlineed recording kind outline state)

pub record RemovingSpans (keeps : Bool) (outline new : Outline) (text : List ℕ) (spans left : List Span) (border rest : ℕ) :
    Type 0 where
  pub count : length new.anchors ≡ length outline.anchors
  pub apart : AreApart border left
  pub room : border + rest ≤ length text
  pub goes : (recording : Recording) (kind : EditKind) (state : State) → (recording.undo ≡ true → keeps ≡ true) →
      Fits outline.steps state.content → characters (after outline.steps state.content).cells ≡ text
      → RemovedSoFar recording kind outline new state text spans left border rest

pub removing-first : (keeps : Bool) (outline : Outline) (text : List ℕ) (spans : List Span) (len : ℕ) → length text ≡ len →
    AreApart len spans → RemovingSpans keeps outline outline text spans spans len 0
removing-first keeps outline text spans len long apart = record {
  count = refl;
  apart = apart;
  room = omega (arith, long);
  goes = λ recording kind state _ fits is. record {
    fits = fits;
    front = ap (take len) is;
    long = let h = ap length is in omega (arith, h, long);
    next = sym (ap (line_start 1) (drop_of_length-le (characters (after outline.steps state.content).cells)
        (let h = ap length is in omega (arith, h, long))));
    makes = refl;
  };
}

-- the next of the spans that are left
module _ {keeps : Bool} {outline now : Outline} {text : List ℕ} {spans all left : List Span} {span : Span}
    {border rest : ℕ} (so_far : RemovingSpans keeps outline now text spans all border rest)
    (all_is : all ≡ span ∷ left) where
  apart : AreApart border (span ∷ left)
  apart = subst (AreApart border) all_is so_far.apart

  pub span-within : span.to ≤ next_line text span.to
  span-within = let below = apart.1 in
      let far = next_line-is text span.to (omega (arith, below, so_far.room)) in omega (arith, far)

  -- it is taken out
  pub removing-more : {new : Outline} {taken : List ℕ} {behind line next : ℕ} → behind ≤ length text
      → behind ≡ next_line text span.to → (keeps ≡ true → taken ≡ slice_range text span.from span.to)
      → line ≡ line_start (line_of text span.from) text
      → next ≡ (if nat_le behind border then behind - span.to else border - span.to + rest)
      → new ≡ record {
        steps = now.steps ++ Remove span.from span.to ∷ [];
        anchors = map (anchors_drawn line (span.from + next) span.from span.to) now.anchors;
        actions = now.actions ++ record { inserts = false; at = span.from; text = taken } ∷ [];
      }
      → RemovingSpans keeps outline new text spans left span.from next
  removing-more {new} {taken} {behind} {line} {next} bound behind_is taken_is line_is next_is made =
      let some = apart.0 in let below = apart.1 in
      record {
        count = ap (λ (d : Outline). length d.anchors) made
            ∙ length-map now.anchors (anchors_drawn line (span.from + next) span.from span.to) ∙ so_far.count;
        apart = apart.2;
        room = let fits = rest-fits (length text) border rest span.to behind so_far.room (omega (arith, below)) bound
            (omega (arith, behind_is, span-within)) in
            omega (arith, fits, next_is, some);
        goes = λ recording kind state kept fits is.
            let far = so_far.goes recording kind state kept fits is in
            let content = after now.steps state.content in
            let old = characters content.cells in
            let counted = length-characters content.cells in
            let within : border ≤ length old = far.long in
            let begins : next ≡ line_start 1 (drop span.to old) = next_is ∙ rest-is text old border rest span.to behind
            far.front within so_far.room (omega (arith, below)) far.next behind_is in
            let steps_are : after new.steps state.content ≡ after_removal span.from span.to content =
            ap (λ (d : Outline). after d.steps state.content) made
            ∙ after-append now.steps (Remove span.from span.to ∷ []) state.content in
            let text_is : characters (after new.steps state.content).cells ≡ removed span.from span.to old =
            ap (λ (c : Content). characters c.cells) steps_are
            ∙ map-removed (λ (cell : Cell). cell.character) span.from span.to content.cells in
            let shorter : take span.from old ≡ take span.from text = front-shorter span.from border old text
            (omega (arith, some, below)) far.front in
            record {
              fits = subst (λ (d : Outline). Fits d.steps state.content) (sym made)
                  (Fits-append now.steps (Remove span.from span.to ∷ []) state.content far.fits
                  ((omega (arith, some), omega (arith, below, within, counted)), tt));
              front = ap (take span.from) text_is
                  ∙ take-removed span.from span.to old span.from (omega (arith, some, below, within)) (omega arith)
                  ∙ shorter;
              long = let h = length-removed span.from span.to old (omega (arith, some)) (omega (arith, below, within))
                  in let k = ap length text_is in omega (arith, h, k, some, below, within);
              next = begins ∙ sym (ap (λ xs. line_start 1 (drop span.from xs)) text_is
                  ∙ ap (line_start 1) (drop-removed span.from span.to old span.from (omega (arith, some, below, within))
                  (omega (arith, some)) (omega arith)
                  ∙ ap (λ n. drop n old)
                  (let e : span.from + (span.to - span.from) ≡ span.to = omega (arith, some) in e)));
              makes = ap (removed_spans recording kind left)
                  (span-out recording kind now new state taken line (span.from + next) span.from span.to made some
                  (λ on. taken_is (kept on)
                  ∙ sym (slice-front span.from span.to border old text (omega (arith, some)) (omega (arith, below))
                  far.front))
                  (line_is ∙ sym (line-front old text span.from shorter))
                  (ap (λ n. span.from + n) begins
                  ∙ sym (next_line-removed old span.from span.to (omega (arith, some, below, within)))))
                  ∙ ap (λ ss. removed_spans recording kind ss (outlineed recording kind now state)) (sym all_is)
                  ∙ far.makes;
            };
      }

-- ---- the slots of the last cell that is shown

bare-fits : (b : Bool) (at : ℕ) (content : Content) → at < length content.cells →
    Fits (if b then ClearTags at ∷ [] else []) content
bare-fits true at content within = (within, tt)
bare-fits false at content within = tt

bare-text : (b : Bool) (at : ℕ) (content : Content) →
    characters (after (if b then ClearTags at ∷ [] else []) content).cells ≡ characters content.cells
bare-text true at content =
    map-changed (λ (cell : Cell). cell.character) without_slots (λ c. c) (λ cell. refl) at (at + 1) content.cells
    ∙ changed-same at (at + 1) (characters content.cells) (omega arith)
bare-text false at content = refl

bare-made : (b : Bool) (at : ℕ) (content : Content) (anchors : List Anchors) (log : Log)
    → state_of (after (if b then ClearTags at ∷ [] else []) content) anchors log
    ≡ (if b then state_of (after_step (ClearTags at) content) anchors log else state_of content anchors log)
bare-made true at content anchors log = refl
bare-made false at content anchors log = refl

-- the runs that go of those that hold the spans
pub runs-left : (text : List ℕ) (len start end : ℕ) (spans runs left : List Span) → end ≤ len
    → ((offset : ℕ) → in_spans runs offset ≡ in_spans spans offset) → AreApart end left
    → ((offset : ℕ) → in_spans left offset ≡ delete_set text start end (in_spans runs) offset)
    → left ≡ runs_below len (delete_set text start end (in_spans spans))
runs-left text len start end spans runs left within covers apart left_is =
    let same : in_spans runs ≡ in_spans spans = λ i offset. covers offset i in
    sym (runs-are len (delete_set text start end (in_spans spans)) left
    (apart-wider end (len + 1) left apart (omega (arith, within)))
    (λ offset _. ap (λ set. delete_set text start end set offset) (sym same) ∙ sym (left_is offset)))

pub delete-made : (keeps : Bool) (outline new : Outline) (content : Content) (anchors : List Anchors) (start end : ℕ)
    (spans left : List Span) (takes : Bool) (steps : List Step) → start < end → end ≤ length content.cells
    → takes ≡ in_spans spans (end - 1)
    → left ≡ runs_below (length content.cells) (delete_set (characters content.cells) start end (in_spans spans))
    → steps ≡ (if takes then ClearTags (end - 1) ∷ [] else []) →
    outline ≡ record { steps = steps; anchors = anchors; actions = [] }
    → ((recording : Recording) (kind : EditKind) (state : State) → (recording.undo ≡ true → keeps ≡ true) →
    Fits outline.steps state.content → characters (after outline.steps state.content).cells ≡ characters content.cells
    → Fits new.steps state.content × (outlineed recording kind new state
    ≡ removed_spans recording kind left (outlineed recording kind outline state)))
    → (recording : Recording) (log : Log) → (recording.undo ≡ true → keeps ≡ true)
    → Fits new.steps content × (outlineed recording Delete new (state_of content anchors log)
    ≡ deleted recording start end spans (state_of content anchors log))
delete-made keeps outline new content anchors start end spans left takes steps shows within takes_is left_is
    steps_are begun goes recording log kept =
    let state = state_of content anchors log in
    let bared = (if takes then ClearTags (end - 1) ∷ [] else []) in
    let first : outline ≡ record { steps = bared; anchors = anchors; actions = [] } = begun
    ∙ ap (λ (s : List Step). record { steps = s; anchors = anchors; actions = [] }) steps_are in
    let done = goes recording Delete state kept
    (subst (λ (d : Outline). Fits d.steps content) (sym first)
    (bare-fits takes (end - 1) content (omega (arith, shows, within))))
    (ap (λ (d : Outline). characters (after d.steps content).cells) first ∙ bare-text takes (end - 1) content) in (
      done.0,
      done.1
          ∙ ap (λ (d : Outline). removed_spans recording Delete left (outlineed recording Delete d state)) first
          ∙ ap (removed_spans recording Delete left) (bare-made takes (end - 1) content anchors log)
          ∙ ap₂ (λ rs b. removed_spans recording Delete rs (if b
          then state_of (after_step (ClearTags (end - 1)) content) anchors log else state)) left_is takes_is,
    )
