-- Where the changes are that are exactly what actions do, and what each of them deletes and inserts.
use Rattle.edit_ops.proofs.Common.{◌≡◌, ℕ, suc, ◌-◌, ◌≤◌, List, [], ◌∷◌, ◌++◌, map, length, refl, sym, ap, ◌∙◌, arith}
use Rattle.edit_ops.proofs.Common.{reverse, reverse-append, map-append, Action, AreApart, AreExact, AreHunksOf, Hunk}
use Rattle.edit_ops.proofs.Common.{Span, deletion, hunk_change, hunk_changes, insertion, patched, replacing, taking}
use Rattle.edit_ops.proofs.Common.{◌≢◌, TextChange}
use Rattle.edit_ops.proofs.TellLaws.{changes-exact, hunks-told}
use Rattle.edit_ops.proofs.HunkLaws.{inserting-of, replacing-of, taking-of}
use Rattle.edit_ops.proofs.RunLaws.{apart-wider}
use Rattle.edit_ops.proofs.DeterminedLaws.{Shape, shape_of, EndBelow, exact-determined, told-below}

-- what a hunk and the deletion of a span do as changes
abbrev pub hunk_shape : Hunk → Shape
hunk_shape hunk = record { at = hunk.from; removed = hunk.to - hunk.from; inserted = hunk.text }

abbrev pub span_shape : Span → Shape
span_shape span = record { at = span.from; removed = span.to - span.from; inserted = [] }

hunk-shapes : (old : List ℕ) (hunks : List Hunk)
    → map shape_of (hunk_changes old hunks) ≡ reverse (map hunk_shape hunks)
hunk-shapes old [] = refl
hunk-shapes old (hunk ∷ hunks) =
    ap (map shape_of) (reverse-append (hunk_change old hunk ∷ []) (map (hunk_change old) hunks))
    ∙ map-append shape_of (hunk_changes old hunks) (hunk_change old hunk ∷ [])
    ∙ ap (λ xs. xs ++ hunk_shape hunk ∷ []) (hunk-shapes old hunks)
    ∙ sym (reverse-append (hunk_shape hunk ∷ []) (map hunk_shape hunks))

taking-shapes : (spans : List Span) → reverse (map hunk_shape (taking spans)) ≡ map span_shape spans
taking-shapes [] = refl
taking-shapes (span ∷ spans) =
    let taken : Span → Hunk = λ (s : Span). record { from = s.from; to = s.to; text = [] } in
    ap (λ xs. reverse (map hunk_shape (map taken xs))) (reverse-append (span ∷ []) spans)
    ∙ ap (λ xs. reverse (map hunk_shape xs)) (map-append taken (reverse spans) (span ∷ []))
    ∙ ap reverse (map-append hunk_shape (taking spans) (taken span ∷ []))
    ∙ reverse-append (map hunk_shape (taking spans)) (span_shape span ∷ [])
    ∙ ap (λ xs. span_shape span ∷ xs) (taking-shapes spans)

-- changes that are exactly what actions do, where hunks are that too: these, the last hunk first
pub exact-hunks : (old : List ℕ) (actions : List Action) (changes : List TextChange) (hunks : List Hunk)
    → AreExact actions (length old) changes → EndBelow (suc (length old)) changes
    → AreHunksOf actions (length old) hunks → map shape_of changes ≡ reverse (map hunk_shape hunks)
exact-hunks old actions changes hunks exact below of =
    let others = hunk_changes old hunks in
    let other_exact = changes-exact actions (length old) old hunks of in
    let other_below = told-below others old (patched 0 hunks old) (hunks-told old 0 hunks of.stand)
    other_exact.falling in
    exact-determined actions (length old) changes others exact other_exact below other_below
    ∙ hunk-shapes old hunks

-- of no action: none
pub exact-none : (old : List ℕ) (changes : List TextChange) → AreExact [] (length old) changes
    → EndBelow (suc (length old)) changes → changes ≡ []
exact-none old changes exact below =
    none changes (exact-hunks old [] changes [] exact below
    (record { stand = omega arith; apart = tt; same = λ text long. refl }))
  where
    none : (changes : List TextChange) → map shape_of changes ≡ [] → changes ≡ []
    none [] is = refl
    none (change ∷ changes) is = absurd (cc)

-- of the replacement of a text by another: one change, or none if it does nothing
pub exact-replacement : (old : List ℕ) (from to : ℕ) (text : List ℕ) (changes : List TextChange) → from ≤ to
    → to ≤ length old → AreExact (deletion old from to ∷ insertion from text ∷ []) (length old) changes
    → EndBelow (suc (length old)) changes → map shape_of changes ≡ reverse (map hunk_shape (replacing from to text))
exact-replacement old from to text changes ordered within exact below =
    exact-hunks old (deletion old from to ∷ insertion from text ∷ []) changes (replacing from to text) exact below
    (replacing-of old from to text ordered within)

-- of an insertion of some text: one change
pub exact-insertion : (old : List ℕ) (at : ℕ) (text : List ℕ) (changes : List TextChange) → at ≤ length old
    → text ≢ [] → AreExact (insertion at text ∷ []) (length old) changes → EndBelow (suc (length old)) changes
    → map shape_of changes ≡ record { at = at; removed = 0; inserted = text } ∷ []
exact-insertion old at text changes within some exact below =
    exact-hunks old (insertion at text ∷ []) changes (replacing at at text) exact below
    (inserting-of (length old) at text within)
    ∙ one at text some
  where
    one : (at : ℕ) (text : List ℕ) → text ≢ []
        → reverse (map hunk_shape (replacing at at text)) ≡ record { at = at; removed = 0; inserted = text } ∷ []
    one at [] some = absurd (some refl)
    one at (character ∷ text) some =
        ap (λ n. record { at = at; removed = n; inserted = character ∷ text } ∷ [])
        (let e : at - at ≡ 0 = omega arith in e)

-- of deletions of spans, the last first, between which a character stays: one change for each, in their order
pub exact-deletions : (old : List ℕ) (end : ℕ) (spans : List Span) (changes : List TextChange) → AreApart end spans
    → end ≤ length old
    → AreExact (map (λ (span : Span). deletion old span.from span.to) spans) (length old) changes
    → EndBelow (suc (length old)) changes → map shape_of changes ≡ map span_shape spans
exact-deletions old end spans changes apart within exact below =
    exact-hunks old (map (λ (span : Span). deletion old span.from span.to) spans) changes (taking spans) exact below
    (taking-of old spans (apart-wider end (length old) spans apart within))
    ∙ taking-shapes spans
