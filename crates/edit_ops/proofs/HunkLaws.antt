-- What hunks make of an old text.
use Rattle.edit_ops.proofs.Common.{removed_all, ◌≡◌, ℕ, Bool, ◌+◌, ◌-◌, ◌<◌, ◌≤◌, true, false, List, [], ◌∷◌, ◌++◌}
use Rattle.edit_ops.proofs.Common.{length, take, drop, map, refl, sym, ap, ap₂, ◌∙◌, arith, append-nil, length-take}
use Rattle.edit_ops.proofs.Common.{subst, nat_lt, reverse, slice_range, if◌then◌else◌, lt-ltb, ltb-true, ltb-false}
use Rattle.edit_ops.proofs.Common.{drop-append-le, drop_at, drop-map, map-append, take_at, reverse-append, drop_split}
use Rattle.edit_ops.proofs.Common.{inserted, removed, length-removed, map-slice_range, take-removed, slice-join}
use Rattle.edit_ops.proofs.Common.{AreApart, AreHunks, patched_by, taking, taking_out, Hunk, Span, append_assoc}
use Rattle.edit_ops.proofs.Common.{between_is, AreSeparate, AreHunksOf, replacing, insertion, deletion, after_actions}
use Rattle.edit_ops.proofs.Common.{length-take-le, take-append-drop, ⊤}
use Rattle.edit_ops.proofs.DeleteLaws.{length-slice}
use Rattle.edit_ops.proofs.TellLaws.{hunks-within}

-- ---- parts of a list

pub slice-none : {A : Type 0} (at : ℕ) (list : List A) → slice_range list at at ≡ []
slice-none at list = ap (λ n. take n (drop at list)) (let e : at - at ≡ 0 = omega arith in e)

-- ---- hunks

-- what stands before a place stays, where no hunk begins before it
pub patched-lower : {A : Type 0} (put : List ℕ → List A) (border at len : ℕ) (hunks : List Hunk) (list : List A)
    → border ≤ at → AreHunks at len hunks
    → patched_by put border hunks list ≡ slice_range list border at ++ patched_by put at hunks list
patched-lower put border at len [] list before stand = drop_split list border at before
patched-lower put border at len (hunk ∷ hunks) list before stand =
    let front = slice_range list border at in
    let between = slice_range list at hunk.from in
    let new = put hunk.text in
    let rest = patched_by put hunk.to hunks list in
    ap (λ xs. xs ++ new ++ rest) (sym (slice-join border at hunk.from list before stand.0))
    ∙ ap (λ xs. xs ++ rest) (append_assoc front between new) ∙ append_assoc front (between ++ new) rest

-- a map of what hunks make
pub map-patched : {A B : Type 0} (f : A → B) (put : List ℕ → List A) (put_mapped : List ℕ → List B)
    → ((text : List ℕ) → map f (put text) ≡ put_mapped text) → (at : ℕ) (hunks : List Hunk) (list : List A)
    → map f (patched_by put at hunks list) ≡ patched_by put_mapped at hunks (map f list)
map-patched f put put_mapped same at [] list = sym (drop-map f at list)
map-patched f put put_mapped same at (hunk ∷ hunks) list =
    let between = slice_range list at hunk.from in
    map-append f (between ++ put hunk.text) (patched_by put hunk.to hunks list)
    ∙ ap₂ (λ xs ys. xs ++ ys) (map-append f between (put hunk.text)
    ∙ ap₂ (λ xs ys. xs ++ ys) (map-slice_range f at hunk.from list) (same hunk.text))
    (map-patched f put put_mapped same hunk.to hunks list)

-- ---- texts that are inserted

-- elements of a text are those of its parts
abbrev pub IsPut : {A : Type 0} → (List ℕ → List A) → Type 0
IsPut put = (put [] ≡ []) × ((text more : List ℕ) → put (text ++ more) ≡ put text ++ put more)

-- from an earlier offset on
pub hunks-lower : (border at len : ℕ) (hunks : List Hunk) → border ≤ at → AreHunks at len hunks →
    AreHunks border len hunks
hunks-lower border at len [] before stand = omega (arith, before, stand)
hunks-lower border at len (hunk ∷ hunks) before stand =
    (let h = stand.0 in omega (arith, before, h), stand.1, stand.2)

-- ---- spans that are taken out

abbrev pub taken : Span → Hunk
taken span = record { from = span.from; to = span.to; text = [] }

stand-one-more : (at border len : ℕ) (hunks : List Hunk) (span : Span) → AreHunks at border hunks
    → border ≤ span.from → span.from < span.to → span.to ≤ len → AreHunks at len (hunks ++ taken span ∷ [])
stand-one-more at border len [] span stand before some within = (
  omega (arith, stand, before),
  record {
    ordered = omega (arith, some);
    some = λ none. absurd (omega (arith, none, some));
  },
  within,
)
stand-one-more at border len (hunk ∷ hunks) span stand before some within =
    (stand.0, stand.1, stand-one-more hunk.to border len hunks span stand.2 before some within)

slice-before : {A : Type 0} (at end from to : ℕ) (list : List A) → at ≤ end → end ≤ from → from ≤ length list
    → slice_range (removed from to list) at end ≡ slice_range list at end
slice-before at end from to list ordered before within =
    between_is (removed from to list) at end ∙ ap (drop at) (take-removed from to list end within before)
    ∙ sym (between_is list at end)

drop-before : {A : Type 0} (at from to : ℕ) (list : List A) → at ≤ from → from ≤ length list
    → drop at (removed from to list) ≡ slice_range list at from ++ drop to list
drop-before at from to list before within =
    drop-append-le at (take from list) (drop to list) (let h = length-take from list in omega (arith, h, before, within))
    ∙ ap (λ xs. xs ++ drop to list) (sym (between_is list at from))

-- a span that is taken out above all hunks, or before them
one-more-is : {A : Type 0} (put : List ℕ → List A) (at border : ℕ) (hunks : List Hunk) (span : Span) (list : List A)
    → put [] ≡ [] → AreHunks at border hunks → border ≤ span.from → span.from ≤ span.to → span.to ≤ length list
    → patched_by put at (hunks ++ taken span ∷ []) list ≡ patched_by put at hunks (removed span.from span.to list)
one-more-is put at border [] span list none stand before ordered within =
    ap (λ xs. slice_range list at span.from ++ xs ++ drop span.to list) none
    ∙ ap (λ xs. xs ++ drop span.to list) (append-nil (slice_range list at span.from))
    ∙ sym (drop-before at span.from span.to list (omega (arith, stand, before)) (omega (arith, ordered, within)))
one-more-is put at border (hunk ∷ hunks) span list none stand before ordered within =
    let ends = hunks-within hunk.to border hunks stand.2 in
    let hunk_ordered = stand.1.ordered in
    ap₂ (λ xs ys. xs ++ put hunk.text ++ ys)
    (sym (slice-before at hunk.from span.from span.to list stand.0 (omega (arith, ends, hunk_ordered, before))
    (omega (arith, ordered, within))))
    (one-more-is put hunk.to border hunks span list none stand.2 before ordered within)

taking-more : (span : Span) (spans : List Span) → taking (span ∷ spans) ≡ taking spans ++ taken span ∷ []
taking-more span spans =
    ap (map taken) (reverse-append (span ∷ []) spans) ∙ map-append taken (reverse spans) (span ∷ [])

pub taking-stand : (border len : ℕ) (spans : List Span) → AreApart border spans → border ≤ len + 1
    → AreHunks 0 len (taking spans)
taking-stand border len [] apart below = omega arith
taking-stand border len (span ∷ spans) apart below =
    let some = apart.0 in
    let within = apart.1 in
    subst (AreHunks 0 len) (sym (taking-more span spans))
    (stand-one-more 0 span.from len (taking spans) span (taking-stand span.from span.from spans apart.2 (omega arith))
    (omega arith) some (omega (arith, within, below)))

pub taking-is : {A : Type 0} (put : List ℕ → List A) (border : ℕ) (spans : List Span) (list : List A) → put [] ≡ []
    → AreApart border spans → border ≤ length list → patched_by put 0 (taking spans) list ≡ removed_all spans list
taking-is put border [] list none apart below = refl
taking-is put border (span ∷ spans) list none apart below =
    let some = apart.0 in
    let within = apart.1 in
    let ordered : span.from ≤ span.to = omega (arith, some) in
    let inside : span.to ≤ length list = omega (arith, within, below) in
    let long = length-removed span.from span.to list ordered inside in
    ap (λ hunks. patched_by put 0 hunks list) (taking-more span spans)
    ∙ one-more-is put 0 span.from (taking spans) span list none
    (taking-stand span.from span.from spans apart.2 (omega arith)) (omega arith) ordered inside
    ∙ taking-is put span.from spans (removed span.from span.to list) none apart.2
    (omega (arith, long, inside, ordered))

-- ---- texts in the place of what is taken out

taking-out-stands-if : (test : Bool) (from to len : ℕ) (hunks : List Hunk) → nat_lt from to ≡ test → from ≤ to
    → AreHunks to len hunks
    → AreHunks from len ((if test then record { from = from; to = to; text = [] } ∷ [] else []) ++ hunks)
taking-out-stands-if true from to len hunks is ordered are =
    let some = ltb-true from to is in (
      omega arith,
      record {
        ordered = ordered;
        some = λ same. absurd (omega (arith, some, same));
      },
      are,
    )
taking-out-stands-if false from to len hunks is ordered are = hunks-lower from to len hunks ordered are

pub taking-out-stands : (from to len : ℕ) (hunks : List Hunk) → from ≤ to → AreHunks to len hunks →
    AreHunks from len (taking_out from to ++ hunks)
taking-out-stands from to len hunks ordered are = taking-out-stands-if (nat_lt from to) from to len hunks refl ordered are

taking-out-patched-if : {A : Type 0} (put : List ℕ → List A) (test : Bool) (from to : ℕ) (hunks : List Hunk)
    (list : List A) → put [] ≡ [] → nat_lt from to ≡ test → from ≤ to
    → patched_by put from ((if test then record { from = from; to = to; text = [] } ∷ [] else []) ++ hunks) list
    ≡ patched_by put to hunks list
taking-out-patched-if put true from to hunks list none is ordered =
    ap₂ (λ xs ys. xs ++ ys ++ patched_by put to hunks list) (slice-none from list) none
taking-out-patched-if put false from to hunks list none is ordered =
    let least = ltb-false from to is in
    ap (λ n. patched_by put n hunks list) (let e : from ≡ to = omega (arith, least, ordered) in e)

pub taking-out-patched : {A : Type 0} (put : List ℕ → List A) (from to : ℕ) (hunks : List Hunk) (list : List A)
    → put [] ≡ [] → from ≤ to → patched_by put from (taking_out from to ++ hunks) list ≡ patched_by put to hunks list
taking-out-patched put from to hunks list none ordered =
    taking-out-patched-if put (nat_lt from to) from to hunks list none refl ordered

-- one hunk more, or none where it would do nothing
pub none-more : (from to : ℕ) (text : List ℕ) (hunks : List Hunk) → to ≤ from → text ≡ []
    → hunks ≡ hunks ++ replacing from to text
none-more from to [] hunks below none =
    elim (nat_lt from to) as (λ b. nat_lt from to ≡ b →
    hunks ≡ hunks ++ (if b then record { from = from; to = to; text = [] } ∷ [] else [])) [
      | true ↦ λ less. let never = ltb-true from to less in absurd (omega (arith, never, below))
      | false ↦ λ _. sym (append-nil hunks)
    ] refl
none-more from to (character ∷ text) hunks below none = let e = ap length none in absurd (omega (arith, e))

pub one-more : (from to : ℕ) (text : List ℕ) (hunks now : List Hunk)
    → now ≡ hunks ++ record { from = from; to = to; text = text } ∷ [] → (text ≡ [] → from < to)
    → now ≡ hunks ++ replacing from to text
one-more from to [] hunks now is some =
    is ∙ ap (λ b. hunks ++ (if b then record { from = from; to = to; text = [] } ∷ [] else []))
    (sym (lt-ltb from to (some refl)))
one-more from to (character ∷ text) hunks now is some = is

pub replacing-stands : (from to len : ℕ) (text : List ℕ) (hunks : List Hunk) → from ≤ to → AreHunks to len hunks
    → AreHunks from len (replacing from to text ++ hunks)
replacing-stands from to len [] hunks ordered are = taking-out-stands from to len hunks ordered are
replacing-stands from to len (character ∷ text) hunks ordered are = (
  omega arith,
  record { ordered = ordered; some = λ _ none. let e = ap length none in omega (arith, e) },
  are,
)

pub replacing-patched : {A : Type 0} (put : List ℕ → List A) (from to : ℕ) (text : List ℕ) (hunks : List Hunk)
    (list : List A) → put [] ≡ [] → from ≤ to
    → patched_by put from (replacing from to text ++ hunks) list ≡ put text ++ patched_by put to hunks list
replacing-patched put from to [] hunks list none ordered =
    taking-out-patched put from to hunks list none ordered
    ∙ ap (λ xs. xs ++ patched_by put to hunks list) (sym none)
replacing-patched put from to (character ∷ text) hunks list none ordered =
    ap (λ xs. xs ++ put (character ∷ text) ++ patched_by put to hunks list) (slice-none from list)

-- one hunk alone
alone-stands : (from to len : ℕ) (text : List ℕ) → from ≤ to → to ≤ len → AreHunks from len (replacing from to text)
alone-stands from to len text ordered within =
    subst (AreHunks from len) (append-nil (replacing from to text))
    (replacing-stands from to len text [] ordered within)

pub replacing-stand : (from to len : ℕ) (text : List ℕ) → from ≤ to → to ≤ len → AreHunks 0 len (replacing from to text)
replacing-stand from to len text ordered within =
    hunks-lower 0 from len (replacing from to text) (omega arith) (alone-stands from to len text ordered within)

pub replacing-is : {A : Type 0} (put : List ℕ → List A) (from to : ℕ) (text : List ℕ) (list : List A) → put [] ≡ []
    → from ≤ to → to ≤ length list
    → patched_by put 0 (replacing from to text) list ≡ inserted from (put text) (removed from to list)
replacing-is put from to text list none ordered within =
    let hunks = replacing from to text in
    let front = take from list in
    let rest = drop to list in
    let long : length front ≡ from = length-take-le from list (omega (arith, ordered, within)) in
    patched-lower put 0 from (length list) hunks list (omega arith)
    (alone-stands from to (length list) text ordered within)
    ∙ ap₂ (λ n xs. take n list ++ xs) (let e : from - 0 ≡ from = omega arith in e)
    (ap (λ hs. patched_by put from hs list) (sym (append-nil hunks))
    ∙ replacing-patched put from to text [] list none ordered)
    ∙ sym (ap₂ (λ xs ys. xs ++ put text ++ ys) (take_at front rest from long) (drop_at front rest from long)
    ∙ append_assoc front (put text) rest)

-- ---- a character stays between two hunks

separate-cons : (hunk : Hunk) (at len : ℕ) (hunks : List Hunk) → hunk.to < at → AreHunks at len hunks
    → AreSeparate hunks → AreSeparate (hunk ∷ hunks)
separate-cons hunk at len [] below stand apart = tt
separate-cons hunk at len (next ∷ hunks) below stand apart = (let h = stand.0 in omega (arith, below, h), apart)

pub replacing-separate : (from to at len : ℕ) (text : List ℕ) (hunks : List Hunk) → to < at → AreHunks at len hunks
    → AreSeparate hunks → AreSeparate (replacing from to text ++ hunks)
replacing-separate from to at len [] hunks below stand apart =
    elim (nat_lt from to) as
    (λ b. AreSeparate ((if b then record { from = from; to = to; text = [] } ∷ [] else []) ++ hunks)) [
      | true ↦ separate-cons (record { from = from; to = to; text = [] }) at len hunks below stand apart
      | false ↦ apart
    ]
replacing-separate from to at len (character ∷ text) hunks below stand apart =
    separate-cons (record { from = from; to = to; text = character ∷ text }) at len hunks below stand apart

pub alone-separate : (from to : ℕ) (text : List ℕ) → AreSeparate (replacing from to text)
alone-separate from to text =
    subst AreSeparate (append-nil (replacing from to text))
    (replacing-separate from to (to + 1) (to + 1) text [] (omega arith) (let e : to + 1 ≤ to + 1 = omega arith in e) tt)

-- each ends before a border
abbrev EndBefore : ℕ → List Hunk → Type 0
EndBefore border [] = ⊤
EndBefore border (hunk ∷ hunks) = (hunk.to < border) × EndBefore border hunks

ends-more : (border high : ℕ) (hunks : List Hunk) (hunk : Hunk) → EndBefore border hunks → border ≤ high
    → hunk.to < high → EndBefore high (hunks ++ hunk ∷ [])
ends-more border high [] hunk before below ends = (ends, tt)
ends-more border high (first ∷ hunks) hunk before below ends =
    (let h = before.0 in omega (arith, h, below), ends-more border high hunks hunk before.1 below ends)

separate-more : (hunks : List Hunk) (hunk : Hunk) → AreSeparate hunks → EndBefore hunk.from hunks
    → AreSeparate (hunks ++ hunk ∷ [])
separate-more [] hunk apart before = tt
separate-more (first ∷ []) hunk apart before = (before.0, tt)
separate-more (first ∷ next ∷ hunks) hunk apart before =
    (apart.0, separate-more (next ∷ hunks) hunk apart.1 before.1)

taking-separate : (border : ℕ) (spans : List Span) → AreApart border spans
    → AreSeparate (taking spans) × EndBefore border (taking spans)
taking-separate border [] apart = (tt, tt)
taking-separate border (span ∷ spans) apart =
    let some = apart.0 in
    let below = apart.1 in
    let others = taking-separate span.from spans apart.2 in
    subst (λ hunks. AreSeparate hunks × EndBefore border hunks) (sym (taking-more span spans)) (
      separate-more (taking spans) (taken span) others.0 others.1,
      ends-more span.from border (taking spans) (taken span) others.1 (omega (arith, some, below)) below,
    )

-- ---- hunks are exactly what actions do

pub replacing-of : (old : List ℕ) (from to : ℕ) (text : List ℕ) → from ≤ to → to ≤ length old
    → AreHunksOf (deletion old from to ∷ insertion from text ∷ []) (length old) (replacing from to text)
replacing-of old from to text ordered within =
    let long = length-slice from to old ordered within in
    record {
      stand = replacing-stand from to (length old) text ordered within;
      apart = alone-separate from to text;
      same = λ other counted.
          replacing-is (λ put_in. put_in) from to text other refl ordered (omega (arith, within, counted))
          ∙ ap (λ n. inserted from text (removed from n other))
          (let e : to ≡ from + length (slice_range old from to) = omega (arith, long, ordered) in e);
    }

pub inserting-of : (len at : ℕ) (text : List ℕ) → at ≤ len
    → AreHunksOf (insertion at text ∷ []) len (replacing at at text)
inserting-of len at text within = record {
  stand = replacing-stand at at len text (omega arith) within;
  apart = alone-separate at at text;
  same = λ other counted.
      replacing-is (λ put_in. put_in) at at text other refl (omega arith) (omega (arith, within, counted))
      ∙ ap (inserted at text) (take-append-drop at other);
}

deleted-same : (old : List ℕ) (border : ℕ) (spans : List Span) (text : List ℕ) → AreApart border spans
    → border ≤ length old + 1
    → after_actions (map (λ (span : Span). deletion old span.from span.to) spans) text ≡ removed_all spans text
deleted-same old border [] text apart below = refl
deleted-same old border (span ∷ spans) text apart below =
    let some = apart.0 in
    let within = apart.1 in
    let ordered : span.from ≤ span.to = omega (arith, some) in
    let long = length-slice span.from span.to old ordered (omega (arith, within, below)) in
    ap (λ n. after_actions (map (λ (span : Span). deletion old span.from span.to) spans) (removed span.from n text))
    (let e : span.from + length (slice_range old span.from span.to) ≡ span.to = omega (arith, long, ordered) in e)
    ∙ deleted-same old span.from spans (removed span.from span.to text) apart.2 (omega (arith, some, within, below))

pub taking-of : (old : List ℕ) (spans : List Span) → AreApart (length old) spans
    → AreHunksOf (map (λ (span : Span). deletion old span.from span.to) spans) (length old) (taking spans)
taking-of old spans apart =
    let len = length old in
    record {
      stand = taking-stand len len spans apart (omega arith);
      apart = (taking-separate len spans apart).0;
      same = λ text counted.
          taking-is (λ put_in. put_in) len spans text refl apart (omega (arith, counted))
          ∙ sym (deleted-same old len spans text apart (omega arith));
    }
