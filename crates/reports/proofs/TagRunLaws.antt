-- Changes of tags, by the flags of each key: changes that leave gaps are whole runs, and which keys they turn where says
-- what they make.
use Rattle.reports.proofs.Common.{◌≡◌, ℕ, ◌+◌, ◌-◌, ◌<◌, ◌≤◌, ◌&&◌, ◌||◌, Bool, true, false, cond, not, inl, inr, List}
use Rattle.reports.proofs.Common.{[], ◌∷◌, ◌++◌, length, drop, get_or, refl, sym, ap, ap₂, ◌∙◌, arith, suc, true≢false}
use Rattle.reports.proofs.Common.{slice_range, All, All-append, All-cons, All-nil, All-tail, All-head, All-from_get_or}
use Rattle.reports.proofs.Common.{cases_lt, eq_by_cmp, false_from_ne_true, or_left, or_right, and_parts, get_or-drop}
use Rattle.reports.proofs.Common.{get_or-map, get_or-take, get_or_past, length-map, length-take-le, length-drop}
use Rattle.reports.proofs.Common.{map-changed, changed, changed-same, flag_at, characters, with_key, KeyedCell, Key}
use Rattle.reports.proofs.Common.{key_cmp, IsTagChange, TellsTags, AreGapped, IsTagRun, LeavesGap, flags_of, is_turned}
use Rattle.reports.proofs.Common.{TagChange, Span, get_or-changed_before, get_or-changed_behind, get_or-changed_within}
use Rattle.reports.proofs.Common.{inside, inside-before, inside-behind, inside-is}
use Rattle.reports.proofs.BridgeLaws.{contains-set_key, key_itself, key_tied, keys_same}
use Rattle.reports.proofs.LookupLaws.{and_none}
use Rattle.reports.proofs.TagsToldLaws.{both-false, either_cond}
use Rattle.std.specs.FinSet as set

-- where a change is
abbrev pub span_of : TagChange → Span
span_of change = record { from = change.from; to = change.to }

abbrev pub flag : Key → List KeyedCell → ℕ → Bool
flag key cells at = flag_at (flags_of key cells) at

abbrev has_key : Key → KeyedCell → Bool
has_key key cell = set.contains cell.keys key

no_cell : KeyedCell
no_cell = record { character = 0; keys = set.empty }

and_true : (b : Bool) → (b && true) ≡ b
and_true true = refl
and_true false = refl

not_both : (on : Bool) → on ≡ not on → ⊥
not_both true both = true≢false both
not_both false both = true≢false (sym both)

-- ---- the flags that a change leaves

pub flag-changed : (key own : Key) (on : Bool) (from to at : ℕ) (cells : List KeyedCell) → from ≤ to →
    to ≤ length cells → flag key (changed (with_key own on) from to cells) at
    ≡ cond (eq_by_cmp key_cmp key own && inside (record { from = from; to = to }) at) on (flag key cells at)
flag-changed key own on from to at cells ordered within =
    let same = eq_by_cmp key_cmp key own in
    let h : Bool → Bool = λ b. cond same on b in
    let flags = flags_of key cells in
    let span : Span = record { from = from; to = to } in
    let long : length flags ≡ length cells = length-map cells (has_key key) in
    let is : (b : Bool) → inside span at ≡ b → cond (same && b) on (flag key cells at)
    ≡ cond (same && inside span at) on (flag key cells at) =
    λ b here. ap (λ c. cond (same && c) on (flag key cells at)) (sym here) in
    ap (λ fs. flag_at fs at) (map-changed (has_key key) (with_key own on) h (λ cell.
    contains-set_key own on cell.keys key) from to cells)
    ∙ elim (cases_lt at from) [
      | inl before ↦
          get_or-changed_before h from to flags at false (omega (arith, long, ordered, within)) before
          ∙ ap (λ c. cond c on (flag key cells at)) (sym (and_none same)) ∙ is false (inside-before span at before)
      | inr above ↦ elim (cases_lt at to) [
        | inl below ↦
            get_or-changed_within h from to flags at false (omega (arith, long, within)) above below
            ∙ ap (λ c. cond c on (flag key cells at)) (sym (and_true same)) ∙ is true (inside-is span at above below)
        | inr behind ↦
            get_or-changed_behind h from to flags at false ordered (omega (arith, long, within)) behind
            ∙ ap (λ c. cond c on (flag key cells at)) (sym (and_none same)) ∙ is false (inside-behind span at behind)
      ]
    ]

-- the flags of a change's characters
place-in : (key : Key) (cells : List KeyedCell) (from to k : ℕ) → k < to - from → to ≤ length cells →
    has_key key (get_or (slice_range cells from to) k no_cell) ≡ flag key cells (from + k)
place-in key cells from to k inside within =
    ap (has_key key) (get_or-take (to - from) (drop from cells) k no_cell inside ∙ get_or-drop from cells k no_cell)
    ∙ sym (get_or-map (has_key key) cells (from + k) no_cell false (omega (arith, inside, within)))

long-part : (cells : List KeyedCell) (from to : ℕ) → to ≤ length cells →
    length (slice_range cells from to) ≡ to - from
long-part cells from to within = length-take-le (to - from) (drop from cells)
    (omega (arith, length-drop from cells, within))

pub unlike-at : (cells : List KeyedCell) (change : TagChange) (at : ℕ) → IsTagChange cells change →
    change.from ≤ at → at < change.to → flag change.key cells at ≡ not change.on
unlike-at cells change at is above below =
    let within = is.within in
    let k = at - change.from in
    let inner : k < change.to - change.from = omega (arith, above, below) in
    ap (flag change.key cells) (omega (arith, above))
    ∙ sym (place-in change.key cells change.from change.to k inner within)
    ∙ is.differs k no_cell (rw (long-part cells change.from change.to within) inner)

-- ---- changes that leave gaps

gap-turned : (one : TagChange) (other : TagChange) (at : ℕ) → LeavesGap one other → one.from ≤ at + 1 → at ≤ one.to →
    (eq_by_cmp key_cmp one.key other.key && inside (span_of other) at) ≡ false
gap-turned one other at gap near until =
    elim (eq_by_cmp key_cmp one.key other.key) as (λ b. eq_by_cmp key_cmp one.key other.key ≡ b →
    (b && inside (span_of other) at) ≡ false) [
      | true ↦ λ tied. elim (gap (key_tied one.key other.key tied)) [
        | inl behind ↦ inside-before (span_of other) at (omega (arith, until, behind))
        | inr before ↦ inside-behind (span_of other) at (omega (arith, near, before))
      ]
      | false ↦ λ _. refl
    ] refl

turned-back : (one other : TagChange) → LeavesGap one other → LeavesGap other one
turned-back one other gap same = elim (gap (sym same)) [
  | inl behind ↦ inr behind
  | inr before ↦ inl before
]

gap-none : (one : TagChange) (changes : List TagChange) (at : ℕ) → All (LeavesGap one) changes → one.from ≤ at + 1 →
    at ≤ one.to → is_turned one.key at changes ≡ false
gap-none one [] at gaps near until = refl
gap-none one (change ∷ changes) at gaps near until =
    ap₂ (λ a b. a || b) (gap-turned one change at (All-head (LeavesGap one) change changes gaps) near until)
    (gap-none one changes at (All-tail (LeavesGap one) change changes gaps) near until)

-- where changes turn nothing, a flag stays
stays : (changes : List TagChange) (old new : List KeyedCell) (key : Key) (at : ℕ) → TellsTags changes old new →
    is_turned key at changes ≡ false → flag key new at ≡ flag key old at
stays [] old new key at told none = ap (λ cells. flag key cells at) told
stays (change ∷ changes) old new key at told none =
    let some = told.0.some in
    let parts = both-false (eq_by_cmp key_cmp key change.key && inside (span_of change) at)
    (is_turned key at changes) none in
    stays changes (changed (with_key change.key change.on) change.from change.to old) new key at told.1 parts.1
    ∙ flag-changed key change.key change.on change.from change.to at old (omega (arith, some)) told.0.within
    ∙ ap (λ b. cond b change.on (flag key old at)) parts.0

-- the first of changes is a whole run
first-run : (change : TagChange) (changes : List TagChange) (old new : List KeyedCell) →
    TellsTags (change ∷ changes) old new → All (LeavesGap change) changes → IsTagRun old new change
first-run change changes old new told gaps = record {
  some = some;
  turned = λ at above below. (
    unlike-at old change at told.0 above below,
    after at (omega (arith, above)) (omega (arith, below))
        ∙ ap₂ (λ a b. cond (a && b) change.on (flag change.key old at)) (key_itself change.key change.key refl)
        (inside-is (span_of change) at above below),
  );
  before = λ at next both. stuck at (omega (arith, next)) (omega (arith, next, some))
      (inside-before (span_of change) at (omega (arith, next))) both.0 both.1;
  after = λ both. stuck change.to (omega (arith, some)) (omega arith)
      (inside-behind (span_of change) change.to (omega arith)) both.0 both.1;
}
  where
    some : change.from < change.to
    some = told.0.some

    after : (at : ℕ) → change.from ≤ at + 1 → at ≤ change.to → flag change.key new at
        ≡ cond (eq_by_cmp key_cmp change.key change.key && inside (span_of change) at) change.on (flag change.key old at)
    after at near until =
        stays changes (changed (with_key change.key change.on) change.from change.to old) new change.key at told.1
        (gap-none change changes at gaps near until)
        ∙ flag-changed change.key change.key change.on change.from change.to at old (omega (arith, some)) told.0.within

    stuck : (at : ℕ) → change.from ≤ at + 1 → at ≤ change.to → inside (span_of change) at ≡ false
        → flag change.key old at ≡ not change.on → flag change.key new at ≡ change.on → ⊥
    stuck at near until out was is =
        let same = eq_by_cmp key_cmp change.key change.key in
        not_both change.on (sym is ∙ after at near until
        ∙ ap (λ b. cond (same && b) change.on (flag change.key old at)) out
        ∙ ap (λ b. cond b change.on (flag change.key old at)) (and_none same) ∙ was)

-- a run behind another change is one of what was before that
earlier-run : (first change : TagChange) (old new : List KeyedCell) → IsTagChange old first → LeavesGap first change →
    IsTagRun (changed (with_key first.key first.on) first.from first.to old) new change → IsTagRun old new change
earlier-run first change old new is gap run = record {
  some = some;
  turned = λ at above below. let both = run.turned at above below in
      (sym (kept at (omega (arith, above)) (omega (arith, below))) ∙ both.0, both.1);
  before = λ at next both. run.before at next (kept at (omega (arith, next)) (omega (arith, next, some)) ∙ both.0, both.1);
  after = λ both. run.after (kept change.to (omega (arith, some)) (omega arith) ∙ both.0, both.1);
}
  where
    some : change.from < change.to
    some = run.some

    kept : (at : ℕ) → change.from ≤ at + 1 → at ≤ change.to
        → flag change.key (changed (with_key first.key first.on) first.from first.to old) at ≡ flag change.key old at
    kept at near until =
        let there = is.some in
        flag-changed change.key first.key first.on first.from first.to at old (omega (arith, there)) is.within
        ∙ ap (λ b. cond b first.on (flag change.key old at))
        (gap-turned change first at (turned-back first change gap) near until)

-- changes that leave gaps are whole runs
pub tag-runs : (changes : List TagChange) (old new : List KeyedCell) → TellsTags changes old new → AreGapped changes →
    All (IsTagRun old new) changes
tag-runs [] old new told gapped = All-nil (IsTagRun old new)
tag-runs (change ∷ changes) old new told gapped =
    let middle = changed (with_key change.key change.on) change.from change.to old in
    let rest = tag-runs changes middle new told.1 gapped.1 in
    All-cons (IsTagRun old new) change changes (first-run change changes old new told gapped.0) (λ k d within.
    earlier-run change (get_or changes k d) old new told.0 (gapped.0 k d within) (rest k d within))

-- changes with others behind them
pub gapped-append : (changes more : List TagChange) → AreGapped changes → AreGapped more →
    All (λ change. All (LeavesGap change) more) changes → AreGapped (changes ++ more)
gapped-append [] more first second between = second
gapped-append (change ∷ changes) more first second between = (
  All-append (LeavesGap change) changes more first.0
      (All-head (λ one. All (LeavesGap one) more) change changes between),
  gapped-append changes more first.1 second (All-tail (λ one. All (LeavesGap one) more) change changes between),
)

-- ---- changes by what they turn

-- characters are the same by their flags
cells-same : (old new : List KeyedCell) → characters new ≡ characters old
    → ((key : Key) (at : ℕ) → flag key new at ≡ flag key old at) → new ≡ old
cells-same [] [] same flags = refl
cells-same [] (b ∷ new) same flags = absurd (let h : b.character ∷ characters new ≡ [] = same in cc)
cells-same (a ∷ old) [] same flags = absurd (let h : [] ≡ a.character ∷ characters old = same in cc)
cells-same (a ∷ old) (b ∷ new) same flags =
    let h : b.character ∷ characters new ≡ a.character ∷ characters old = same in
    let head : b.character ≡ a.character = cc in
    let tail : characters new ≡ characters old = cc in
    let keys : b.keys ≡ a.keys = keys_same (λ key. flags key 0) in
    let rest = cells-same old new tail (λ key at. flags key (suc at)) in
    λ i. record { character = head i; keys = keys i } ∷ rest i

flag-within : (key : Key) (cells : List KeyedCell) (at : ℕ) → flag key cells at ≡ true → at < length cells
flag-within key cells at is = elim (cases_lt at (length cells)) [
  | inl within ↦ within
  | inr past ↦ absurd (true≢false (sym is
      ∙ get_or_past (flags_of key cells) at false (omega (arith, length-map cells (has_key key), past))))
]

-- what changes turn is what they say
pub record TurnsAs (on : Bool) (changes : List TagChange) (old new : List KeyedCell) : Type 0 where
  pub shaped : All (λ (change : TagChange). (change.from < change.to) × (change.on ≡ on)) changes
  pub gapped : AreGapped changes
  pub unlike : (key : Key) (at : ℕ) → is_turned key at changes ≡ true → flag key old at ≡ not on
  pub made : (key : Key) (at : ℕ) → flag key new at ≡ cond (is_turned key at changes) on (flag key old at)
  pub same : characters new ≡ characters old

-- the first of the changes is one of the old characters
first-change : (on : Bool) (change : TagChange) (changes : List TagChange) (old new : List KeyedCell) →
    TurnsAs on (change ∷ changes) old new → IsTagChange old change
first-change on change changes old new turns = record {
  some = some;
  within = within;
  differs = All-from_get_or (λ (cell : KeyedCell). has_key change.key cell ≡ not change.on)
      (slice_range old change.from change.to) no_cell (λ k inner.
      let inner : k < change.to - change.from = rw (← long-part old change.from change.to within) inner in
      place-in change.key old change.from change.to k inner within
      ∙ turns.unlike change.key (change.from + k) (here (change.from + k) (omega arith) (omega (arith, inner)))
      ∙ ap not (sym shape.1));
}
  where
    shape : (change.from < change.to) × (change.on ≡ on)
    shape = All-head (λ (c : TagChange). (c.from < c.to) × (c.on ≡ on)) change changes turns.shaped

    some : change.from < change.to
    some = shape.0

    here : (at : ℕ) → change.from ≤ at → at < change.to → is_turned change.key at (change ∷ changes) ≡ true
    here at above below =
        or_left (eq_by_cmp key_cmp change.key change.key && inside (span_of change) at)
        (is_turned change.key at changes)
        (ap₂ (λ a b. a && b) (key_itself change.key change.key refl) (inside-is (span_of change) at above below))

    long : length new ≡ length old
    long = sym (length-map new (λ (cell : KeyedCell). cell.character)) ∙ ap length turns.same
        ∙ length-map old (λ (cell : KeyedCell). cell.character)

    one-of : (on : Bool) (at : ℕ) → flag change.key old at ≡ not on → flag change.key new at ≡ on → at < length old
    one-of true at was is = omega (arith, long, flag-within change.key new at is)
    one-of false at was is = flag-within change.key old at was

    within : change.to ≤ length old
    within =
        let last = change.to - 1 in
        let turned = here last (omega (arith, some)) (omega (arith, some)) in
        let inner : last < length old = one-of on last (turns.unlike change.key last turned)
        (turns.made change.key last ∙ ap (λ b. cond b on (flag change.key old last)) turned) in
        omega (arith, inner, some)

pub turns-tell : (on : Bool) (changes : List TagChange) (old new : List KeyedCell) → TurnsAs on changes old new →
    TellsTags changes old new
turns-tell on [] old new turns = cells-same old new turns.same (λ key at. turns.made key at)
turns-tell on (change ∷ changes) old new turns =
    let middle = changed (with_key change.key change.on) change.from change.to old in
    let is = first-change on change changes old new turns in
    let some = is.some in
    let shape : Type 0 = (change.from < change.to) × (change.on ≡ on) in
    let by = All-head (λ (c : TagChange). (c.from < c.to) × (c.on ≡ on)) change changes turns.shaped in
    let own : Key → ℕ → Bool = λ key at. eq_by_cmp key_cmp key change.key && inside (span_of change) at in
    let flags : (key : Key) (at : ℕ) → flag key middle at ≡ cond (own key at) on (flag key old at) =
    λ key at. flag-changed key change.key change.on change.from change.to at old (omega (arith, some)) is.within
    ∙ ap (λ b. cond (own key at) b (flag key old at)) by.1 in (
      is,
      turns-tell on changes middle new (record {
        shaped = All-tail (λ (c : TagChange). (c.from < c.to) × (c.on ≡ on)) change changes turns.shaped;
        gapped = turns.gapped.1;
        unlike = λ key at turned. flags key at
            ∙ ap (λ b. cond b on (flag key old at)) (false_from_ne_true (own key at) (λ both.
            let parts = and_parts (eq_by_cmp key_cmp key change.key) (inside (span_of change) at) both in
            true≢false (sym turned ∙ ap (λ k. is_turned k at changes) (key_tied key change.key parts.0)
            ∙ near at parts.1)))
            ∙ turns.unlike key at (or_right (own key at) (is_turned key at changes) turned);
        made = λ key at. turns.made key at
            ∙ sym (ap (cond (is_turned key at changes) on) (flags key at)
            ∙ either_cond (own key at) (is_turned key at changes) on (flag key old at));
        same = turns.same ∙ sym (map-changed (λ (cell : KeyedCell). cell.character)
            (with_key change.key change.on) (λ c. c) (λ cell. refl) change.from change.to old
            ∙ changed-same change.from change.to (characters old) (omega (arith, some)));
      }),
    )
  where
    near : (at : ℕ) → inside (span_of change) at ≡ true → is_turned change.key at changes ≡ false
    near at here = elim (cases_lt at change.from) [
      | inl before ↦ absurd (true≢false (sym here ∙ inside-before (span_of change) at before))
      | inr above ↦ elim (cases_lt at change.to) [
        | inl below ↦ gap-none change changes at turns.gapped.0 (omega (arith, above)) (omega (arith, below))
        | inr behind ↦ absurd (true≢false (sym here ∙ inside-behind (span_of change) at behind))
      ]
    ]
