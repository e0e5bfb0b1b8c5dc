-- Changes of tags by runs of characters that have slots, key by key: of runs that touch they are one.
use Rattle.reports.proofs.Common.{◌≡◌, ℕ, ◌+◌, ◌<◌, ◌≤◌, ◌&&◌, ◌||◌, Bool, true, false, inl, inr, List, [], ◌∷◌, ◌++◌}
use Rattle.reports.proofs.Common.{map, length, take, drop, get_or, refl, sym, ap, ap₂, ◌∙◌, arith, subst, suc, zero}
use Rattle.reports.proofs.Common.{true≢false, append-nil, append_assoc, map-append, drop_more, All, All-append}
use Rattle.reports.proofs.Common.{All-cons, All-head, All-nil, All-push, All-tail, All-weaker, cases_lt, eq_by_cmp}
use Rattle.reports.proofs.Common.{false_from_ne_true, list_any, list_any-append, lt-ltb, nat_lt, if◌then◌else◌, or_left}
use Rattle.reports.proofs.Common.{or_right, Key, key_cmp, Slots, SlotRun, Span, AreDistinct, AreGapped, AreRising}
use Rattle.reports.proofs.Common.{HoldsSlots, LeavesGap, TellsRuns, in_key_run, in_run, is_turned, some_change}
use Rattle.reports.proofs.Common.{TagChange, keys_of, nat_cmp, inside, inside-before, inside-behind, inside-is, le-ltb}
use Rattle.command_effects.proofs.MadeLaws.{take-more}
use Rattle.reports.proofs.BridgeLaws.{contains-with_pair, key_itself, key_tied, or_either, or_none}
use Rattle.reports.proofs.LookupLaws.{and_none}
use Rattle.reports.proofs.TagRunLaws.{gapped-append, span_of}
use Rattle.reports.proofs.TagsToldLaws.{both-false}
use Rattle.std.specs.FinSet as set

-- ---- changes of one key

-- an offset is in one of some changes
abbrev pub in_changes : List TagChange → ℕ → Bool
in_changes changes at = list_any (λ (change : TagChange). inside (span_of change) at) changes

and_either : (e a b : Bool) → ((e && a) || (e && b)) ≡ (e && (a || b))
and_either true a b = refl
and_either false a b = refl

one-key : (key : Key) (changes : List TagChange) → All (λ (change : TagChange). change.key ≡ key) changes → (other : Key)
    (at : ℕ) → is_turned other at changes ≡ (eq_by_cmp key_cmp other key && in_changes changes at)
one-key key [] all other at = sym (and_none (eq_by_cmp key_cmp other key))
one-key key (change ∷ changes) all other at =
    ap₂ (λ k b. (eq_by_cmp key_cmp other k && inside (span_of change) at) || b)
    (All-head (λ (c : TagChange). c.key ≡ key) change changes all)
    (one-key key changes (All-tail (λ (c : TagChange). c.key ≡ key) change changes all) other at)
    ∙ and_either (eq_by_cmp key_cmp other key) (inside (span_of change) at) (in_changes changes at)

-- a change of a key that ends before an offset
pub record EndsBefore (key : Key) (on : Bool) (end : ℕ) (change : TagChange) : Type 0 where
  pub own : change.key ≡ key
  pub some : change.from < change.to
  pub turn : change.on ≡ on
  pub below : change.to < end

ends-later : (key : Key) (on : Bool) (end later : ℕ) (changes : List TagChange) → end ≤ later →
    All (EndsBefore key on end) changes → All (EndsBefore key on later) changes
ends-later key on end later changes ordered all =
    All-weaker (EndsBefore key on end) (EndsBefore key on later) (λ change ends. (let below = ends.below in record {
      own = ends.own;
      some = ends.some;
      turn = ends.turn;
      below = omega (arith, below, ordered);
    })) changes all

-- ---- runs that touch

-- changes of a key by some runs, up to the last of them that have its slot and touch, from one offset to another; the
-- other runs are behind these
pub record IsJoined (key : Key) (slot : ℕ) (on : Bool) (from to : ℕ) (runs rest : List SlotRun)
    (told now : List TagChange) : Type 0 where
  pub added : List TagChange
  pub is : now ≡ told ++ added
  pub ends : All (EndsBefore key on from) added
  pub gapped : AreGapped added
  pub turns : (at : ℕ) → (in_changes added at || inside (record { from = from; to = to }) at) ≡ in_run slot runs at
  pub ordered : from ≤ to
  pub rising : AreRising to rest

inside-none : (span : Span) (at : ℕ) → span.to ≤ span.from → inside span at ≡ false
inside-none span at none = elim (cases_lt at span.from) [
  | inl before ↦ inside-before span at before
  | inr behind ↦ inside-behind span at (omega (arith, none, behind))
]

pub joined-none : (key : Key) (slot : ℕ) (on : Bool) (runs : List SlotRun) (told : List TagChange) → AreRising 0 runs →
    IsJoined key slot on 0 0 [] runs told told
joined-none key slot on runs told rising = record {
  added = [];
  is = sym (append-nil told);
  ends = All-nil (EndsBefore key on 0);
  gapped = tt;
  turns = λ at. inside-none (record { from = 0; to = 0 }) at (omega arith);
  ordered = omega arith;
  rising = rising;
}

-- the last of them are a change too
pub record IsClosed (key : Key) (slot : ℕ) (on : Bool) (to : ℕ) (runs : List SlotRun) (told now : List TagChange) :
    Type 0 where
  pub added : List TagChange
  pub is : now ≡ told ++ added
  pub ends : All (EndsBefore key on (to + 1)) added
  pub gapped : AreGapped added
  pub turns : (at : ℕ) → in_changes added at ≡ in_run slot runs at

closed : (key : Key) (slot : ℕ) (on : Bool) (from to : ℕ) (runs rest : List SlotRun) (told now next : List TagChange) →
    IsJoined key slot on from to runs rest told now → next ≡ now ++ some_change key from to on
    → IsClosed key slot on to runs told next
closed key slot on from to runs rest told now next joined is =
    let change : TagChange = record { key = key; from = from; to = to; on = on } in
    let ordered = joined.ordered in
    let added = joined.added in
    let by : (b : Bool) → nat_lt from to ≡ b → next ≡ now ++ (if b then change ∷ [] else []) =
    λ b test. is ∙ ap (λ b. now ++ (if b then change ∷ [] else [])) test in
    elim (cases_lt from to) [
      | inl some ↦ record {
        added = added ++ change ∷ [];
        is = by true (lt-ltb from to some) ∙ ap (λ changes. changes ++ change ∷ []) joined.is
            ∙ append_assoc told added (change ∷ []);
        ends = All-push (EndsBefore key on (to + 1)) added change
            (ends-later key on from (to + 1) added (omega (arith, ordered)) joined.ends)
            (record { own = refl; some = some; turn = refl; below = omega arith });
        gapped = gapped-append added (change ∷ []) joined.gapped (All-nil (LeavesGap change), tt) (λ k d within.
            All-cons (LeavesGap (get_or added k d)) change [] (λ _. inl (joined.ends k d within).below)
            (All-nil (LeavesGap (get_or added k d))));
        turns = λ at. list_any-append (λ (c : TagChange). inside (span_of c) at) added (change ∷ [])
            ∙ ap (λ b. in_changes added at || b) (or_none (inside (span_of change) at)) ∙ joined.turns at;
      }
      | inr none ↦ record {
        added = added;
        is = by false (le-ltb from to none) ∙ append-nil now ∙ joined.is;
        ends = ends-later key on from (to + 1) added (omega (arith, ordered)) joined.ends;
        gapped = joined.gapped;
        turns = λ at. sym (or_none (in_changes added at))
            ∙ ap (λ b. in_changes added at || b) (sym (inside-none (span_of change) at none)) ∙ joined.turns at;
      }
    ]

-- two parts that touch
inside-joined : (from to end at : ℕ) → from ≤ to → to ≤ end → inside (record { from = from; to = end }) at
    ≡ (inside (record { from = from; to = to }) at || inside (record { from = to; to = end }) at)
inside-joined from to end at first second =
    let whole : Span = record { from = from; to = end } in
    let front : Span = record { from = from; to = to } in
    let back : Span = record { from = to; to = end } in
    elim (cases_lt at to) [
      | inl before ↦ elim (cases_lt at from) [
        | inl none ↦ inside-before whole at none
            ∙ sym (ap₂ (λ a b. a || b) (inside-before front at none) (inside-before back at before))
        | inr above ↦ inside-is whole at above (omega (arith, before, second))
            ∙ sym (ap (λ a. a || inside back at) (inside-is front at above before))
      ]
      | inr above ↦ elim (cases_lt at end) [
        | inl below ↦ inside-is whole at (omega (arith, above, first)) below
            ∙ sym (ap₂ (λ a b. a || b) (inside-behind front at above) (inside-is back at above below))
        | inr behind ↦ inside-behind whole at behind
            ∙ sym (ap₂ (λ a b. a || b) (inside-behind front at above) (inside-behind back at behind))
      ]
    ]

rising-lower : (runs : List SlotRun) (at lower : ℕ) → lower ≤ at → AreRising at runs → AreRising lower runs
rising-lower [] at lower below rising = rising
rising-lower (run ∷ runs) at lower below rising =
    let above = rising.0 in (omega (arith, above, below), rising.1, rising.2)

-- one run more
module _ (key : Key) (slot : ℕ) (on : Bool) (runs : List SlotRun) (place : ℕ) (run : SlotRun) (has : Bool)
    (told now : List TagChange) (from to : ℕ) (within : place < length runs) (is : run ≡ get_or runs place run)
    (found : has ≡ set.contains run.slots slot)
    (joined : IsJoined key slot on from to (take place runs) (drop place runs) told now) where
  more : (at : ℕ) → in_run slot (take (place + 1) runs) at
      ≡ (in_run slot (take place runs) at || (inside (record { from = run.from; to = run.to }) at && has))
  more at =
      let test : SlotRun → Bool = λ run. inside (record { from = run.from; to = run.to }) at
      && set.contains run.slots slot in
      ap (λ rs. list_any test rs) (take-more runs place run within is)
      ∙ list_any-append test (take place runs) (run ∷ [])
      ∙ ap (λ b. in_run slot (take place runs) at || b) (or_none (test run)
      ∙ ap (λ b. inside (record { from = run.from; to = run.to }) at && b) (sym found))

  rising-run : AreRising to (run ∷ drop (place + 1) runs)
  rising-run =
      subst (AreRising to) (drop_more runs place run within ∙ ap (λ r. r ∷ drop (place + 1) runs) (sym is)) joined.rising

  -- it hasn't the slot
  pub joined-passed : has ≡ false → IsJoined key slot on from to (take (place + 1) runs) (drop (place + 1) runs) told now
  joined-passed none =
      let here = inside (record { from = run.from; to = run.to }) in
      let above = rising-run.0 in let some = rising-run.1 in
      record {
        added = joined.added;
        is = joined.is;
        ends = joined.ends;
        gapped = joined.gapped;
        turns = λ at. joined.turns at ∙ sym (more at
            ∙ ap (λ b. in_run slot (take place runs) at || b) (ap (λ b. here at && b) none ∙ and_none (here at))
            ∙ or_none (in_run slot (take place runs) at));
        ordered = joined.ordered;
        rising = rising-lower (drop (place + 1) runs) run.to to (omega (arith, above, some)) rising-run.2;
      }

  with-run : has ≡ true → (at : ℕ) → in_run slot (take (place + 1) runs) at
      ≡ (in_run slot (take place runs) at || inside (record { from = run.from; to = run.to }) at)
  with-run there at =
      let here = inside (record { from = run.from; to = run.to }) at in
      more at ∙ ap (λ b. in_run slot (take place runs) at || b) (ap (λ b. here && b) there ∙ itself here)
    where
      itself : (b : Bool) → (b && true) ≡ b
      itself true = refl
      itself false = refl

  -- it has the slot, and a character is between it and the run before
  pub joined-begun : has ≡ true → to < run.from → (next : List TagChange) → next ≡ now ++ some_change key from to on →
      IsJoined key slot on run.from run.to (take (place + 1) runs) (drop (place + 1) runs) told next
  joined-begun there gap next made =
      let before = closed key slot on from to (take place runs) (drop place runs) told now next joined made in
      let some = rising-run.1 in
      record {
        added = before.added;
        is = before.is;
        ends = ends-later key on (to + 1) run.from before.added (omega (arith, gap)) before.ends;
        gapped = before.gapped;
        turns = λ at. ap (λ b. b || inside (record { from = run.from; to = run.to }) at) (before.turns at)
            ∙ sym (with-run there at);
        ordered = omega (arith, some);
        rising = rising-run.2;
      }

  -- it has the slot, and touches that
  pub joined-longer : has ≡ true → run.from ≤ to →
      IsJoined key slot on from run.to (take (place + 1) runs) (drop (place + 1) runs) told now
  joined-longer there touches =
      let above = rising-run.0 in let some = rising-run.1 in let ordered = joined.ordered in
      let same : to ≡ run.from = omega (arith, above, touches) in
      record {
        added = joined.added;
        is = joined.is;
        ends = joined.ends;
        gapped = joined.gapped;
        turns = λ at. ap (λ b. in_changes joined.added at || b)
            (inside-joined from to run.to at ordered (omega (arith, above, some)))
            ∙ or_either (in_changes joined.added at) (inside (record { from = from; to = to }) at)
            (inside (record { from = to; to = run.to }) at)
            ∙ ap₂ (λ a n. a || inside (record { from = n; to = run.to }) at) (joined.turns at) same
            ∙ sym (with-run there at);
        ordered = omega (arith, ordered, above, some);
        rising = rising-run.2;
      }

-- the same by other names
pub joined-as : {key : Key} {slot : ℕ} {on : Bool} {from to first last : ℕ} {runs rest : List SlotRun}
    {told now next : List TagChange} → first ≡ from → last ≡ to → next ≡ now
    → IsJoined key slot on from to runs rest told now → IsJoined key slot on first last runs rest told next
joined-as {key} {slot} {on} {from} {to} {first} {last} {runs} {rest} {told} {now} {next} begins ends is joined =
    subst (λ n. IsJoined key slot on n last runs rest told next) (sym begins)
    (subst (λ n. IsJoined key slot on from n runs rest told next) (sym ends)
    (subst (IsJoined key slot on from to runs rest told) (sym is) joined))

-- and none
pub joined-all : (key : Key) (slot : ℕ) (on : Bool) (from to : ℕ) (runs all rest : List SlotRun)
    (told now next : List TagChange) → IsJoined key slot on from to runs rest told now → runs ≡ all
    → next ≡ now ++ some_change key from to on → TellsRuns ((slot, key) ∷ []) on all told next
joined-all key slot on from to runs all rest told now next joined are made =
    let done = closed key slot on from to runs rest told now next joined made in
    record {
      added = done.added;
      is = done.is;
      shaped = All-weaker (EndsBefore key on (to + 1)) (λ (c : TagChange). (c.from < c.to) × (c.on ≡ on)) (λ change ends.
          (ends.some, ends.turn)) done.added done.ends;
      turns = λ other at.
          let tied = eq_by_cmp key_cmp other key in
          one-key key done.added (All-weaker (EndsBefore key on (to + 1)) (λ (c : TagChange). c.key ≡ key) (λ change ends.
          ends.own) done.added done.ends) other at
          ∙ ap (λ b. tied && b) (done.turns at ∙ ap (λ rs. in_run slot rs at) are)
          ∙ sym (or_none (tied && in_run slot all at));
      gapped = λ _. done.gapped;
    }

-- ---- keys that are distinct

abbrev pub keys_in : List (ℕ × Key) → List Key
keys_in pairs = map (λ (pair : ℕ × Key). pair.1) pairs

abbrev is_listed : Key → List Key → Bool
is_listed key keys = list_any (eq_by_cmp key_cmp key) keys

distinct-front : (keys more : List Key) → AreDistinct (keys ++ more) → AreDistinct keys
distinct-front [] more distinct = tt
distinct-front (key ∷ keys) more distinct = (
  (both-false (is_listed key keys) (is_listed key more) (sym (list_any-append (eq_by_cmp key_cmp key) keys more)
      ∙ distinct.0)).0,
  distinct-front keys more distinct.1,
)

distinct-back : (keys more : List Key) → AreDistinct (keys ++ more) → AreDistinct more
distinct-back [] more distinct = distinct
distinct-back (key ∷ keys) more distinct = distinct-back keys more distinct.1

distinct-parts : (keys more : List Key) (key : Key) → AreDistinct (keys ++ more) → is_listed key keys ≡ true →
    is_listed key more ≡ false
distinct-parts [] more key distinct there = absurd (true≢false (sym there))
distinct-parts (first ∷ keys) more key distinct there =
    elim (eq_by_cmp key_cmp key first) as (λ b. eq_by_cmp key_cmp key first ≡ b → (b || is_listed key keys) ≡ true →
    is_listed key more ≡ false) [
      | true ↦ λ tied _. ap (λ k. is_listed k more) (key_tied key first tied)
          ∙ (both-false (is_listed first keys) (is_listed first more)
          (sym (list_any-append (eq_by_cmp key_cmp first) keys more) ∙ distinct.0)).1
      | false ↦ λ _ rest. distinct-parts keys more key distinct.1 rest
    ] refl there

-- a key in a run is one of the pairs'
listed-run : (key : Key) (pairs : List (ℕ × Key)) (runs : List SlotRun) (at : ℕ) →
    in_key_run key pairs runs at ≡ true → is_listed key (keys_in pairs) ≡ true
listed-run key [] runs at there = there
listed-run key (pair ∷ pairs) runs at there =
    let tied = eq_by_cmp key_cmp key pair.1 in
    let rest = is_listed key (keys_in pairs) in
    elim tied as (λ b. tied ≡ b → ((b && in_run pair.0 runs at) || in_key_run key pairs runs at) ≡ true →
    (tied || rest) ≡ true) [
      | true ↦ λ is _. or_left tied rest is
      | false ↦ λ _ more. or_right tied rest (listed-run key pairs runs at more)
    ] refl there

-- a change turns its key where it begins
pub turned-itself : (changes : List TagChange) (k : ℕ) (d : TagChange) → k < length changes →
    (get_or changes k d).from < (get_or changes k d).to
    → is_turned (get_or changes k d).key (get_or changes k d).from changes ≡ true
turned-itself [] k d within some = absurd (omega (arith, within))
turned-itself (change ∷ changes) zero d within some =
    or_left (eq_by_cmp key_cmp change.key change.key && inside (span_of change) change.from)
    (is_turned change.key change.from changes)
    (ap₂ (λ a b. a && b) (key_itself change.key change.key refl)
    (inside-is (span_of change) change.from (omega arith) some))
turned-itself (change ∷ changes) (suc k) d within some =
    let own = get_or changes k d in
    or_right (eq_by_cmp key_cmp own.key change.key && inside (span_of change) own.from)
    (is_turned own.key own.from changes) (turned-itself changes k d (omega (arith, within)) some)

-- ---- changes of several keys

-- none is in a run
pub runs-none : (pairs : List (ℕ × Key)) (on : Bool) (runs : List SlotRun) (told : List TagChange) →
    ((key : Key) (at : ℕ) → in_key_run key pairs runs at ≡ false) → TellsRuns pairs on runs told told
runs-none pairs on runs told none = record {
  added = [];
  is = sym (append-nil told);
  shaped = All-nil (λ (c : TagChange). (c.from < c.to) × (c.on ≡ on));
  turns = λ key at. sym (none key at);
  gapped = λ _. tt;
}

pub runs-then : (pairs more : List (ℕ × Key)) (on : Bool) (runs : List SlotRun) (told between now : List TagChange) →
    TellsRuns pairs on runs told between → TellsRuns more on runs between now → TellsRuns (pairs ++ more) on runs told now
runs-then pairs more on runs told between now first second =
    let front = first.added in
    let back = second.added in
    record {
      added = front ++ back;
      is = second.is ∙ ap (λ changes. changes ++ back) first.is ∙ append_assoc told front back;
      shaped = All-append (λ (c : TagChange). (c.from < c.to) × (c.on ≡ on)) front back first.shaped second.shaped;
      turns = λ key at.
          list_any-append (λ (c : TagChange). eq_by_cmp key_cmp key c.key && inside (span_of c) at) front back
          ∙ ap₂ (λ a b. a || b) (first.turns key at) (second.turns key at)
          ∙ sym (list_any-append (λ (pair : ℕ × Key). eq_by_cmp key_cmp key pair.1 && in_run pair.0 runs at) pairs more);
      gapped = λ distinct.
          let parts = subst AreDistinct (map-append (λ (pair : ℕ × Key). pair.1) pairs more) distinct in
          gapped-append front back (first.gapped (distinct-front (keys_in pairs) (keys_in more) parts))
          (second.gapped (distinct-back (keys_in pairs) (keys_in more) parts)) (λ k d within j e inner same.
          let one = get_or front k d in
          let other = get_or back j e in
          let listed = listed-run one.key pairs runs one.from (sym (first.turns one.key one.from)
          ∙ turned-itself front k d within (first.shaped k d within).0) in
          let also = listed-run other.key more runs other.from (sym (second.turns other.key other.from)
          ∙ turned-itself back j e inner (second.shaped j e inner).0) in
          absurd (true≢false (sym also ∙ ap (λ key. is_listed key (keys_in more)) (sym same)
          ∙ distinct-parts (keys_in pairs) (keys_in more) one.key parts listed)));
    }

-- a slot that a set hasn't, of a set that holds the slots of each run
pub run-none : (runs : List SlotRun) (slots : Slots) (slot at : ℕ) → HoldsSlots runs slots →
    set.contains slots slot ≡ false → in_run slot runs at ≡ false
run-none [] slots slot at holds none = refl
run-none (run ∷ runs) slots slot at holds none =
    let P : ℕ → SlotRun → Type 0 = λ s r. set.contains r.slots s ≡ true → set.contains slots s ≡ true in
    ap₂ (λ a b. a || b)
    (ap (λ b. inside (record { from = run.from; to = run.to }) at && b)
    (false_from_ne_true (set.contains run.slots slot) (λ there.
    true≢false (sym (All-head (P slot) run runs (holds slot) there) ∙ none)))
    ∙ and_none (inside (record { from = run.from; to = run.to }) at))
    (run-none runs slots slot at (λ s. All-tail (P s) run runs (holds s)) none)

pub key-run-none : (key : Key) (pairs : List (ℕ × Key)) (runs : List SlotRun) (at : ℕ) →
    ((slot : ℕ) → in_run slot runs at ≡ false) → in_key_run key pairs runs at ≡ false
key-run-none key [] runs at none = refl
key-run-none key (pair ∷ pairs) runs at none =
    ap₂ (λ a b. (eq_by_cmp key_cmp key pair.1 && a) || b) (none pair.0) (key-run-none key pairs runs at none)
    ∙ or_none (eq_by_cmp key_cmp key pair.1 && false) ∙ and_none (eq_by_cmp key_cmp key pair.1)

and_swap : (a b : Bool) → (a && b) ≡ (b && a)
and_swap true true = refl
and_swap true false = refl
and_swap false true = refl
and_swap false false = refl

-- a key is in a run where it is one of the keys of the run's slots
pub key-run-of : (key : Key) (pairs : List (ℕ × Key)) (runs : List SlotRun) (at : ℕ) (slots : Slots) →
    ((slot : ℕ) → in_run slot runs at ≡ set.contains slots slot)
    → in_key_run key pairs runs at ≡ set.contains (keys_of pairs slots) key
key-run-of key [] runs at slots are = sym (set.contains-empty key_cmp key)
key-run-of key (pair ∷ pairs) runs at slots are =
    let tied = eq_by_cmp key_cmp key pair.1 in
    ap₂ (λ a b. (tied && a) || b) (are pair.0) (key-run-of key pairs runs at slots are)
    ∙ ap (λ b. b || set.contains (keys_of pairs slots) key) (and_swap tied (set.contains slots pair.0))
    ∙ sym (contains-with_pair (set.contains slots pair.0) pair.1 (keys_of pairs slots) key)

-- runs without slots
pub runs-empty : (pairs : List (ℕ × Key)) (on : Bool) (runs : List SlotRun) (slots : Slots) (told : List TagChange) →
    HoldsSlots runs slots → slots ≡ set.empty → TellsRuns pairs on runs told told
runs-empty pairs on runs slots told holds none = runs-none pairs on runs told (λ key at.
    key-run-none key pairs runs at (λ slot. run-none runs slots slot at holds
    (ap (λ ss. set.contains ss slot) none ∙ set.contains-empty nat_cmp slot)))
