-- The changes of hunks, the last hunk's first, tell what the hunks make of a text.
use Rattle.edit_ops.proofs.Common.{◌≡◌, ℕ, ◌+◌, ◌-◌, ◌≤◌, List, [], ◌∷◌, ◌++◌, map, length, take, drop, refl, sym, ap}
use Rattle.edit_ops.proofs.Common.{◌∙◌, arith, subst, append-nil, slice_range, take-add, append_assoc, drop_at}
use Rattle.edit_ops.proofs.Common.{length-take-le, reverse-append, take_at, take-append-drop, take-append-le, take-take}
use Rattle.edit_ops.proofs.Common.{Cell, characters, Hunk, SpotWalk, spot_at, end_of, after_change, after_change_by}
use Rattle.edit_ops.proofs.Common.{after_changes_by, hunk_change, hunk_changes, patched, patched_by, AreHunks, IsChange}
use Rattle.edit_ops.proofs.Common.{IsHunk, Tells, reverse, length-append, length-characters, AreExact, AreFalling}
use Rattle.edit_ops.proofs.Common.{AreHunksOf, AreSeparate, Action, ⊤, ◌<◌, TextChange}
use Rattle.edit_ops.proofs.SpotLaws.{spot-end, spot-same}

-- ---- one hunk

-- one change more
tells-snoc : (changes : List TextChange) (change : TextChange) (start text : List ℕ) → Tells changes start text →
    IsChange text change → Tells (changes ++ change ∷ []) start (after_change change text)
tells-snoc [] change start text told is =
    (subst (λ t. IsChange t change) told is, ap (after_change change) told)
tells-snoc (first ∷ changes) change start text told is =
    (told.0, tells-snoc changes change (after_change first start) text told.1 is)

-- the old list up to an offset, and something else behind
abbrev later : {A : Type 0} → List A → ℕ → List A → List A
later list border rest = take border list ++ rest

later-front : {A : Type 0} (list rest : List A) (border at : ℕ) → at ≤ border → border ≤ length list →
    take at (later list border rest) ≡ take at list
later-front list rest border at before within =
    take-append-le at (take border list) rest (omega (arith, length-take-le border list within, before))
    ∙ take-take at border list before

made-after : {A : Type 0} (put : List ℕ → List A) (text : List ℕ) (list rest : List A) (hunk : Hunk)
    → hunk.from ≤ hunk.to → hunk.to ≤ length list
    → after_change_by put (hunk_change text hunk) (later list hunk.to rest)
    ≡ take hunk.from list ++ put hunk.text ++ rest
made-after put text list rest hunk ordered within =
    let mid = later list hunk.to rest in
    let end : hunk.from + (hunk.to - hunk.from) ≡ hunk.to = omega (arith, ordered) in
    ap (λ n. take hunk.from mid ++ put hunk.text ++ drop n mid) end
    ∙ ap (λ xs. take hunk.from mid ++ put hunk.text ++ xs)
    (drop_at (take hunk.to list) rest hunk.to (length-take-le hunk.to list within))
    ∙ ap (λ xs. xs ++ put hunk.text ++ rest) (later-front list rest hunk.to hunk.from ordered within)

made-is : (text rest : List ℕ) (hunk : Hunk) → IsHunk hunk → hunk.to ≤ length text →
    IsChange (later text hunk.to rest) (hunk_change text hunk)
made-is text rest hunk is within =
    let mid = later text hunk.to rest in
    let change = hunk_change text hunk in
    let after = after_change change mid in
    let behind = hunk.from + length hunk.text in
    let end : hunk.from + (hunk.to - hunk.from) ≡ hunk.to = omega (arith, is.ordered) in
    let front : take hunk.from mid ≡ take hunk.from text = later-front text rest hunk.to hunk.from is.ordered within in
    let whole : take hunk.to mid ≡ take hunk.to text = later-front text rest hunk.to hunk.to (omega arith) within in
    let room : hunk.to ≤ length mid =
    omega (arith, length-append (take hunk.to text) rest, length-take-le hunk.to text within) in
    let long : length (take hunk.from text) ≡ hunk.from =
    length-take-le hunk.from text (omega (arith, is.ordered, within)) in
    let made : after ≡ (take hunk.from text ++ hunk.text) ++ rest = made-after (λ put_in. put_in) text text rest hunk is.ordered
    within in
    let new : length (take hunk.from text ++ hunk.text) ≡ behind =
    length-append (take hunk.from text) hunk.text ∙ ap (λ n. n + length hunk.text) long in
    let fits : behind ≤ length after =
    omega (arith, ap length made, length-append (take hunk.from text ++ hunk.text) rest, new) in
    record {
      within = omega (arith, end, room);
      some = λ none. is.some (let e : hunk.from ≡ hunk.to = omega (arith, is.ordered, none) in e);
      start = spot-same text mid hunk.from (sym front);
      old_end = spot-same text mid hunk.to (sym whole) ∙ ap (spot_at mid) (sym end);
      new_end = sym (spot-end after behind fits ∙ ap (λ xs. end_of (take behind xs)) made
          ∙ ap end_of (take_at (take hunk.from text ++ hunk.text) rest behind new));
    }

-- ---- all hunks

pub hunks-within : (at len : ℕ) (hunks : List Hunk) → AreHunks at len hunks → at ≤ len
hunks-within at len [] are = are
hunks-within at len (hunk ∷ hunks) are =
    omega (arith, are.0, are.1.ordered, hunks-within hunk.to len hunks are.2)

-- the change of a hunk, where those behind it are made
hunk-made : {A : Type 0} (put : List ℕ → List A) (text : List ℕ) (at : ℕ) (hunk : Hunk) (list rest : List A)
    → at ≤ hunk.from → hunk.from ≤ hunk.to → hunk.to ≤ length list
    → after_change_by put (hunk_change text hunk) (later list hunk.to rest)
    ≡ take at list ++ (slice_range list at hunk.from ++ put hunk.text ++ rest)
hunk-made put text at hunk list rest before ordered within =
    let between = slice_range list at hunk.from in
    let front : take hunk.from list ≡ take at list ++ between =
    ap (λ n. take n list) (let e : hunk.from ≡ at + (hunk.from - at) = omega (arith, before) in e)
    ∙ take-add at (hunk.from - at) list in
    made-after put text list rest hunk ordered within ∙ ap (λ xs. xs ++ put hunk.text ++ rest) front
    ∙ ap (λ xs. xs ++ rest) (append_assoc (take at list) between (put hunk.text))
    ∙ append_assoc (take at list) (between ++ put hunk.text) rest

changes-cons : (text : List ℕ) (hunk : Hunk) (hunks : List Hunk) →
    hunk_changes text (hunk ∷ hunks) ≡ hunk_changes text hunks ++ hunk_change text hunk ∷ []
changes-cons text hunk hunks = reverse-append (hunk_change text hunk ∷ []) (map (hunk_change text) hunks)

-- one change more
after-snoc : {A : Type 0} (put : List ℕ → List A) (changes : List TextChange) (change : TextChange) (list : List A) →
    after_changes_by put (changes ++ change ∷ []) list ≡ after_change_by put change (after_changes_by put changes list)
after-snoc put [] change list = refl
after-snoc put (first ∷ changes) change list = after-snoc put changes change (after_change_by put first list)

-- the changes of hunks of a text make what the hunks make, of a list with an element for each of its characters
pub hunks-made : {A : Type 0} (put : List ℕ → List A) (text : List ℕ) (at : ℕ) (hunks : List Hunk) (list : List A)
    → AreHunks at (length list) hunks
    → after_changes_by put (hunk_changes text hunks) list ≡ take at list ++ patched_by put at hunks list
hunks-made put text at [] list are = sym (take-append-drop at list)
hunks-made put text at (hunk ∷ hunks) list are =
    ap (λ changes. after_changes_by put changes list) (changes-cons text hunk hunks)
    ∙ after-snoc put (hunk_changes text hunks) (hunk_change text hunk) list
    ∙ ap (after_change_by put (hunk_change text hunk)) (hunks-made put text hunk.to hunks list are.2)
    ∙ hunk-made put text at hunk list (patched_by put hunk.to hunks list) are.0 are.1.ordered
    (hunks-within hunk.to (length list) hunks are.2)

pub hunks-told : (text : List ℕ) (at : ℕ) (hunks : List Hunk) → AreHunks at (length text) hunks →
    Tells (hunk_changes text hunks) text (take at text ++ patched at hunks text)
hunks-told text at [] are = take-append-drop at text
hunks-told text at (hunk ∷ hunks) are =
    let within = hunks-within hunk.to (length text) hunks are.2 in
    let rest = patched hunk.to hunks text in
    let change = hunk_change text hunk in
    let told = tells-snoc (hunk_changes text hunks) change text (later text hunk.to rest)
    (hunks-told text hunk.to hunks are.2) (made-is text rest hunk are.1 within) in
    subst (λ changes. Tells changes text (take at text ++ patched at (hunk ∷ hunks) text))
    (sym (changes-cons text hunk hunks))
    (subst (Tells (hunk_changes text hunks ++ change ∷ []) text)
    (hunk-made (λ put_in. put_in) text at hunk text rest are.0 are.1.ordered within) told)

-- ---- the hunks one after the other

-- the first of the hunks have their changes, and these are left
pub record Telling (cells : List Cell) (hunks : List Hunk) (changes : List TextChange) (walk : SpotWalk)
    (left : List Hunk) : Type 0 where
  pub made : changes ++ map (hunk_change (characters cells)) left ≡ map (hunk_change (characters cells)) hunks
  pub are : AreHunks walk.offset (length cells) left
  pub stands : walk.spot ≡ spot_at (characters cells) walk.offset

-- at an offset, by its spot
abbrev pub walk_at : List ℕ → ℕ → SpotWalk
walk_at text offset = record { offset = offset; spot = spot_at text offset }

pub record IsNext (cells : List Cell) (walk : SpotWalk) (hunk : Hunk) : Type 0 where
  pub before : walk.offset ≤ hunk.from
  pub is : IsHunk hunk
  pub from : hunk.from ≤ length cells
  pub to : hunk.to ≤ length cells

module _ {cells : List Cell} {hunks : List Hunk} {changes : List TextChange} {walk : SpotWalk} {all left : List Hunk}
    {hunk : Hunk} (so_far : Telling cells hunks changes walk all) (is : all ≡ hunk ∷ left) where
  next-are : AreHunks walk.offset (length cells) (hunk ∷ left)
  next-are = subst (AreHunks walk.offset (length cells)) is so_far.are

  pub next-told : IsNext cells walk hunk
  next-told =
      let within = hunks-within hunk.to (length cells) left next-are.2 in
      record {
        before = next-are.0;
        is = next-are.1;
        from = omega (arith, next-are.1.ordered, within);
        to = within;
      }

  pub more-told : {new : List TextChange} {start end : SpotWalk} {change : TextChange}
      → start ≡ walk_at (characters cells) hunk.from → end ≡ walk_at (characters cells) hunk.to
      → ((before : List ℕ) → start.spot ≡ end_of before → change ≡ record {
        at = hunk.from;
        removed = hunk.to - hunk.from;
        inserted = hunk.text;
        start = start.spot;
        old_end = end.spot;
        new_end = end_of (before ++ hunk.text);
      })
      → new ≡ changes ++ change ∷ [] → Telling cells hunks new end left
  more-told {new} {start} {end} {change} start_is end_is change_is new_is =
      let text = characters cells in
      let from : start.spot ≡ spot_at text hunk.from = ap (λ (w : SpotWalk). w.spot) start_is in
      let to : end.spot ≡ spot_at text hunk.to = ap (λ (w : SpotWalk). w.spot) end_is in
      let offset : hunk.to ≡ end.offset = sym (ap (λ (w : SpotWalk). w.offset) end_is) in
      let within : hunk.from ≤ length text = omega (arith, next-told.from, length-characters cells) in
      let plain = change_is (take hunk.from text) (from ∙ spot-end text hunk.from within) in
      let exact : change ≡ hunk_change text hunk = plain ∙ λ i. record {
        at = hunk.from;
        removed = hunk.to - hunk.from;
        inserted = hunk.text;
        start = from i;
        old_end = to i;
        new_end = end_of (take hunk.from text ++ hunk.text);
      } in
      record {
        made = ap (λ xs. xs ++ map (hunk_change text) left) new_is
            ∙ ap (λ c. (changes ++ c ∷ []) ++ map (hunk_change text) left) exact
            ∙ append_assoc changes (hunk_change text hunk ∷ []) (map (hunk_change text) left)
            ∙ sym (ap (λ hs. changes ++ map (hunk_change text) hs) is)
            ∙ so_far.made;
        are = subst (λ n. AreHunks n (length cells) left) offset next-are.2;
        stands = to ∙ ap (spot_at text) offset;
      }

pub all-changes : {cells : List Cell} {hunks : List Hunk} {changes told : List TextChange} {walk : SpotWalk}
    {left : List Hunk} → Telling cells hunks changes walk left → left ≡ [] → told ≡ reverse changes
    → told ≡ hunk_changes (characters cells) hunks
all-changes {cells} {hunks} {changes} so_far none told_is =
    let change = hunk_change (characters cells) in
    told_is ∙ ap reverse (sym (append-nil changes) ∙ sym (ap (λ hs. changes ++ map change hs) none) ∙ so_far.made)

pub all-told : (cells : List Cell) (hunks : List Hunk) (told : List TextChange) → AreHunks 0 (length cells) hunks
    → told ≡ hunk_changes (characters cells) hunks → Tells told (characters cells) (patched 0 hunks (characters cells))
all-told cells hunks told are told_is =
    let text = characters cells in
    subst (λ changes. Tells changes text (patched 0 hunks text)) (sym told_is)
    (hunks-told text 0 hunks (subst (λ n. AreHunks 0 n hunks) (sym (length-characters cells)) are))

-- ---- changes are exactly what actions do

-- each begins above a border
abbrev Begin : ℕ → List TextChange → Type 0
Begin border [] = ⊤
Begin border (change ∷ changes) = (border < change.at) × Begin border changes

begin-more : (border : ℕ) (changes : List TextChange) (change : TextChange) → Begin border changes → border < change.at
    → Begin border (changes ++ change ∷ [])
begin-more border [] change begin above = (above, tt)
begin-more border (first ∷ changes) change begin above = (begin.0, begin-more border changes change begin.1 above)

falling-more : (changes : List TextChange) (change : TextChange) → AreFalling changes
    → Begin (change.at + change.removed) changes → AreFalling (changes ++ change ∷ [])
falling-more [] change falling begin = tt
falling-more (first ∷ []) change falling begin = (begin.0, tt)
falling-more (first ∷ next ∷ changes) change falling begin =
    (falling.0, falling-more (next ∷ changes) change falling.1 begin.1)

-- the changes of hunks that begin above a border
hunks-begin : (text : List ℕ) (border at len : ℕ) (hunks : List Hunk) → border < at → AreHunks at len hunks
    → Begin border (hunk_changes text hunks)
hunks-begin text border at len [] above are = tt
hunks-begin text border at len (hunk ∷ hunks) above are =
    let from = are.0 in
    subst (Begin border) (sym (changes-cons text hunk hunks))
    (begin-more border (hunk_changes text hunks) (hunk_change text hunk)
    (hunks-begin text border hunk.to len hunks (omega (arith, above, from, are.1.ordered)) are.2)
    (omega (arith, above, from)))

-- those behind a hunk, from which a character separates them
others-begin : (text : List ℕ) (border len : ℕ) (hunk : Hunk) (hunks : List Hunk) → border ≡ hunk.to
    → AreHunks hunk.to len hunks → AreSeparate (hunk ∷ hunks) → Begin border (hunk_changes text hunks)
others-begin text border len hunk [] is are apart = tt
others-begin text border len hunk (next ∷ hunks) is are apart =
    hunks-begin text border next.from len (next ∷ hunks) (let h = apart.0 in omega (arith, h, is))
    (let e : next.from ≤ next.from = omega arith in e, are.1, are.2)

separate-tail : (hunk : Hunk) (hunks : List Hunk) → AreSeparate (hunk ∷ hunks) → AreSeparate hunks
separate-tail hunk [] apart = tt
separate-tail hunk (next ∷ hunks) apart = apart.1

changes-fall : (text : List ℕ) (at len : ℕ) (hunks : List Hunk) → AreHunks at len hunks → AreSeparate hunks
    → AreFalling (hunk_changes text hunks)
changes-fall text at len [] are apart = tt
changes-fall text at len (hunk ∷ hunks) are apart =
    subst AreFalling (sym (changes-cons text hunk hunks))
    (falling-more (hunk_changes text hunks) (hunk_change text hunk)
    (changes-fall text hunk.to len hunks are.2 (separate-tail hunk hunks apart))
    (others-begin text (hunk.from + (hunk.to - hunk.from)) len hunk hunks (omega (arith, are.1.ordered)) are.2 apart))

pub changes-exact : (actions : List Action) (len : ℕ) (text : List ℕ) (hunks : List Hunk) → AreHunksOf actions len hunks
    → AreExact actions len (hunk_changes text hunks)
changes-exact actions len text hunks of = record {
  same = λ other long.
      hunks-made (λ put_in. put_in) text 0 hunks other (subst (λ n. AreHunks 0 n hunks) (sym long) of.stand)
      ∙ of.same other long;
  falling = changes-fall text 0 len hunks of.stand of.apart;
}
