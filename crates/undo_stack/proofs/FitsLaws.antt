-- What fits a text is reverted and repeated to and fro, and goes on fitting as the history changes.
use Rattle.undo_stack.proofs.Common.{◌≡◌, ℕ, zero, suc, ◌+◌, ◌-◌, ◌<◌, ◌≤◌, Bool, true, false, ◌&&◌, List, [], ◌∷◌}
use Rattle.undo_stack.proofs.Common.{◌++◌, length, take, drop, Option, Some, None, refl, sym, ap, ap₂, ◌∙◌, arith}
use Rattle.undo_stack.proofs.Common.{le-leb, lt-ltb, length-take, length-append, append_assoc, slice_range, slice_get}
use Rattle.undo_stack.proofs.Common.{bytes_eq, not, nat_lt, nat_le, ◌==◌, option_and_then, IsSome, if◌then◌else◌}
use Rattle.undo_stack.proofs.Common.{option_and_then_some, take-append-drop, Action, EditKind, History, no_history}
use Rattle.undo_stack.proofs.Common.{changes_kind, joined, onto_last, newest, noted, separated, next_undo, next_redo}
use Rattle.undo_stack.proofs.Common.{after_undo, after_redo, limited, put_in, take_out, repeated, reverted}
use Rattle.undo_stack.proofs.Common.{repeated_group, reverted_group, repeated_groups, reverted_groups, FitsText}
use Rattle.std.specs.List.{AllByRecursion}
use Rattle.std.proofs.lemmas.Bool.{false≢true, leb-true, ltb-true}
use Rattle.std.proofs.lemmas.Slice.Eq.{bytes_eq-Decides}
use Rattle.std.proofs.lemmas.List.Folds.{drop_split}
use Rattle.std.proofs.Math.Seq.{take-append_seam, drop-append_seam}
use Rattle.text_model.specs.Splices.{inserted, removed}
use Rattle.text_model.proofs.SpliceLaws.{length-inserted, length-removed, take-inserted, drop-inserted, take-removed}
use Rattle.text_model.proofs.SpliceLaws.{drop-removed}

-- ---- one action

and-both : (a b : Bool) → (a && b) ≡ true → (a ≡ true) × (b ≡ true)
and-both true b both = (refl, both)
and-both false b both = absurd (false≢true both)

-- what a guarded value is, where it is there
guarded : {A : Type 0} (test : Bool) (x y : A) → (if test then Some x else None) ≡ Some y → (test ≡ true) × (x ≡ y)
guarded true x y is = (refl, let h : Some x ≡ Some y = is in cc)
guarded false x y is = absurd (let h : None ≡ Some y = is in cc)

allowed : {A : Type 0} (test : Bool) (x : A) → test ≡ true → (if test then Some x else None) ≡ Some x
allowed test x holds = ap (λ b. if b then Some x else None) holds

slice-inserted : (at : ℕ) (new all : List ℕ) → at ≤ length all →
    slice_range (inserted at new all) at (at + length new) ≡ new
slice-inserted at new all within =
    let front = take at all in
    let rest = drop at all in
    let long : length front ≡ at = length-take at all ∙ omega arith in
    ap₂ take (let e : at + length new - at ≡ length new = omega arith in e)
    (ap (drop at) (append_assoc front new rest) ∙ ap (λ n. drop n (front ++ (new ++ rest))) (sym long)
    ∙ drop-append_seam front (new ++ rest))
    ∙ take-append_seam new rest

removed-inserted : (at : ℕ) (new all : List ℕ) → at ≤ length all →
    removed at (at + length new) (inserted at new all) ≡ all
removed-inserted at new all within =
    ap₂ (λ xs ys. xs ++ ys) (take-inserted at new all at within (omega arith))
    (drop-inserted at new all at within (omega arith))
    ∙ take-append-drop at all

inserted-removed : (at to : ℕ) (all : List ℕ) → at ≤ to → to ≤ length all →
    inserted at (slice_range all at to) (removed at to all) ≡ all
inserted-removed at to all ordered within =
    let parts : drop at (removed at to all) ≡ drop to all =
    drop-removed at to all at (omega arith) ordered (omega arith)
    ∙ ap (λ n. drop n all) (let e : at + (to - at) ≡ to = omega arith in e) in
    ap₂ (λ xs ys. xs ++ slice_range all at to ++ ys) (take-removed at to all at (omega arith) (omega arith)) parts
    ∙ append_assoc (take at all) (slice_range all at to) (drop to all)
    ∙ ap (λ ys. take at all ++ ys) (sym (drop_split all at to ordered))
    ∙ take-append-drop at all

-- a text that went in is taken out again
put-back : (limit at : ℕ) (text all found : List ℕ) → length all ≤ limit → put_in limit at text all ≡ Some found
    → (take_out at text found ≡ Some all) × (length found ≤ limit)
put-back limit at text all found short is =
    let went = guarded (nat_lt at (length all) && nat_le (length all + length text) limit) (inserted at text all) found
    is in
    let tests = and-both (nat_lt at (length all)) (nat_le (length all + length text) limit) went.0 in
    let within : at < length all = ltb-true at (length all) tests.0 in
    let room : length all + length text ≤ limit = leb-true (length all + length text) limit tests.1 in
    let long : length found ≡ length all + length text = ap length (sym went.1)
    ∙ length-inserted at text all (omega arith) in
    let stands : slice_range found at (at + length text) ≡ text =
    ap (λ xs. slice_range xs at (at + length text)) (sym went.1) ∙ slice-inserted at text all (omega arith) in
    let test : (nat_lt (at + length text) (length found) && bytes_eq (slice_range found at (at + length text)) text)
    ≡ true =
    ap₂ (λ a b. a && b) (lt-ltb (at + length text) (length found) (omega (arith, long)))
    ((bytes_eq-Decides (slice_range found at (at + length text)) text).1 stands) in (
      allowed _ (removed at (at + length text) found) test
          ∙ ap Some (ap (removed at (at + length text)) (sym went.1) ∙ removed-inserted at text all (omega arith)),
      omega (arith, long, room),
    )

-- a text that was taken out goes in again
take-back : (limit at : ℕ) (text all found : List ℕ) → length all ≤ limit → take_out at text all ≡ Some found
    → (put_in limit at text found ≡ Some all) × (length found ≤ limit)
take-back limit at text all found short is =
    let to = at + length text in
    let went = guarded (nat_lt to (length all) && bytes_eq (slice_range all at to) text) (removed at to all) found is in
    let tests = and-both (nat_lt to (length all)) (bytes_eq (slice_range all at to) text) went.0 in
    let within : at + length text < length all = ltb-true to (length all) tests.0 in
    let stands : slice_range all at to ≡ text = (bytes_eq-Decides (slice_range all at to) text).0 tests.1 in
    let left : length found + (at + length text - at) ≡ length all = ap (λ xs. length xs + (to - at)) (sym went.1)
    ∙ length-removed at to all (omega arith) (omega arith) in
    let test : (nat_lt at (length found) && nat_le (length found + length text) limit) ≡ true =
    ap₂ (λ a b. a && b) (lt-ltb at (length found) (omega (arith, left)))
    (le-leb (length found + length text) limit (omega (arith, left))) in (
      allowed _ (inserted at text found) test
          ∙ ap Some (ap₂ (λ new xs. inserted at new xs) (sym stands) (sym went.1)
          ∙ inserted-removed at to all (omega arith) (omega arith)),
      omega (arith, left),
    )

-- an action that was made is reverted, and one that was reverted is made again
pub repeat-back : (limit : ℕ) (action : Action) (text found : List ℕ) → length text ≤ limit →
    repeated limit action text ≡ Some found
    → (reverted limit action found ≡ Some text) × (length found ≤ limit)
repeat-back limit action text found short is =
    elim action.inserts as (λ b. (if b then put_in limit action.at action.text text
    else take_out action.at action.text text) ≡ Some found
    → ((if b then take_out action.at action.text found else put_in limit action.at action.text found) ≡ Some text)
    × (length found ≤ limit)) [
      | true ↦ put-back limit action.at action.text text found short
      | false ↦ take-back limit action.at action.text text found short
    ] is

pub revert-back : (limit : ℕ) (action : Action) (text found : List ℕ) → length text ≤ limit →
    reverted limit action text ≡ Some found
    → (repeated limit action found ≡ Some text) × (length found ≤ limit)
revert-back limit action text found short is =
    elim action.inserts as (λ b. (if b then take_out action.at action.text text
    else put_in limit action.at action.text text) ≡ Some found
    → ((if b then put_in limit action.at action.text found else take_out action.at action.text found) ≡ Some text)
    × (length found ≤ limit)) [
      | true ↦ take-back limit action.at action.text text found short
      | false ↦ put-back limit action.at action.text text found short
    ] is

-- ---- a group

pub after-none : {A B : Type 0} (f : A → Option B) (o : Option A) (x : A) → o ≡ Some x → option_and_then f o ≡ f x
after-none f o x is = ap (option_and_then f) is

pub repeat-group-back : (limit : ℕ) (actions : List Action) (text found : List ℕ) → length text ≤ limit →
    repeated_group limit actions text ≡ Some found
    → (reverted_group limit actions found ≡ Some text) × (length found ≤ limit)
repeat-group-back limit [] text found short is =
    let same : text ≡ found = cc in
    (ap Some (sym same), omega (arith, ap length same))
repeat-group-back limit (action ∷ actions) text found short is =
    option_and_then_some (repeated_group limit actions) (repeated limit action text) found is (λ between one rest.
    let back = repeat-back limit action text between short one in
    let others = repeat-group-back limit actions between found back.1 rest in
    (after-none (reverted limit action) (reverted_group limit actions found) between others.0 ∙ back.0, others.1))

pub revert-group-back : (limit : ℕ) (actions : List Action) (text found : List ℕ) → length text ≤ limit →
    reverted_group limit actions text ≡ Some found
    → (repeated_group limit actions found ≡ Some text) × (length found ≤ limit)
revert-group-back limit [] text found short is =
    let same : text ≡ found = cc in
    (ap Some (sym same), omega (arith, ap length same))
revert-group-back limit (action ∷ actions) text found short is =
    option_and_then_some (reverted limit action) (reverted_group limit actions text) found is (λ between others one.
    let rest = revert-group-back limit actions text between short others in
    let back = revert-back limit action between found rest.1 one in
    (after-none (repeated_group limit actions) (repeated limit action found) between back.0 ∙ rest.0, back.1))

-- ---- the groups

and-then-some : {A : Type 0} (o : Option A) → option_and_then (λ x. Some x) o ≡ o
and-then-some None = refl
and-then-some (Some x) = refl

and-then-chain : {A B C : Type 0} (f : B → Option C) (g : A → Option B) (o : Option A)
    → option_and_then f (option_and_then g o) ≡ option_and_then (λ x. option_and_then f (g x)) o
and-then-chain f g None = refl
and-then-chain f g (Some x) = refl

pub reverted_group-append : (limit : ℕ) (actions : List Action) (action : Action) (text : List ℕ)
    → reverted_group limit (actions ++ action ∷ []) text
    ≡ option_and_then (reverted_group limit actions) (reverted limit action text)
reverted_group-append limit [] action text = sym (and-then-some (reverted limit action text))
reverted_group-append limit (first ∷ actions) action text =
    ap (option_and_then (reverted limit first)) (reverted_group-append limit actions action text)
    ∙ and-then-chain (reverted limit first) (reverted_group limit actions) (reverted limit action text)

pub reverted_groups-append : (limit : ℕ) (groups others : List (List Action)) (text : List ℕ)
    → reverted_groups limit (groups ++ others) text
    ≡ option_and_then (reverted_groups limit groups) (reverted_groups limit others text)
reverted_groups-append limit [] others text = sym (and-then-some (reverted_groups limit others text))
reverted_groups-append limit (group ∷ groups) others text =
    ap (option_and_then (reverted_group limit group)) (reverted_groups-append limit groups others text)
    ∙ and-then-chain (reverted_group limit group) (reverted_groups limit groups) (reverted_groups limit others text)

-- the last action goes first, whether it has a group of its own or not
reverted-onto_last : (limit : ℕ) (action : Action) (groups : List (List Action)) (text : List ℕ)
    → reverted_groups limit (onto_last action groups) text
    ≡ option_and_then (reverted_groups limit groups) (reverted limit action text)
reverted-onto_last limit action [] text = sym (and-then-some (reverted limit action text))
reverted-onto_last limit action (group ∷ []) text = reverted_group-append limit group action text
reverted-onto_last limit action (group ∷ next ∷ groups) text =
    ap (option_and_then (reverted_group limit group)) (reverted-onto_last limit action (next ∷ groups) text)
    ∙ and-then-chain (reverted_group limit group) (reverted_groups limit (next ∷ groups)) (reverted limit action text)

pub reverted-joined : (limit : ℕ) (joins : Bool) (action : Action) (groups : List (List Action)) (text : List ℕ)
    → reverted_groups limit (joined joins action groups) text
    ≡ option_and_then (reverted_groups limit groups) (reverted limit action text)
reverted-joined limit true action groups text = reverted-onto_last limit action groups text
reverted-joined limit false action groups text = reverted_groups-append limit groups ((action ∷ []) ∷ []) text

some-first : {A B : Type 0} (f : A → Option B) (o : Option A) → IsSome (option_and_then f o) → IsSome o
some-first f None is = is
some-first f (Some x) is = refl

reverts-drop : (limit count : ℕ) (groups : List (List Action)) (text : List ℕ) →
    IsSome (reverted_groups limit groups text) → IsSome (reverted_groups limit (drop count groups) text)
reverts-drop limit count groups text is =
    some-first (reverted_groups limit (take count groups)) (reverted_groups limit (drop count groups) text)
    (rw (sym (reverted_groups-append limit (take count groups) (drop count groups) text))
    (rw (take-append-drop count groups) is))

reverts-newest : (limit most : ℕ) (groups : List (List Action)) (text : List ℕ) →
    IsSome (reverted_groups limit groups text) → IsSome (reverted_groups limit (newest most groups) text)
reverts-newest limit most groups text is =
    elim (most == 0) as (λ b. IsSome (reverted_groups limit (if b then groups
    else drop (length groups - most) groups) text)) [
      | true ↦ is
      | false ↦ reverts-drop limit (length groups - most) groups text is
    ]

-- ---- no group is empty

abbrev Filled : List (List Action) → Type 0
Filled groups = AllByRecursion (λ group. 0 < length group) groups

filled-append : (groups others : List (List Action)) → Filled groups → Filled others → Filled (groups ++ others)
filled-append [] others all more = more
filled-append (group ∷ groups) others all more = (all.0, filled-append groups others all.1 more)

filled-take : (count : ℕ) (groups : List (List Action)) → Filled groups → Filled (take count groups)
filled-take zero groups all = tt
filled-take (suc count) [] all = tt
filled-take (suc count) (group ∷ groups) all = (all.0, filled-take count groups all.1)

filled-drop : (count : ℕ) (groups : List (List Action)) → Filled groups → Filled (drop count groups)
filled-drop zero groups all = all
filled-drop (suc count) [] all = tt
filled-drop (suc count) (group ∷ groups) all = filled-drop count groups all.1

filled-onto_last : (action : Action) (groups : List (List Action)) → Filled groups → Filled (onto_last action groups)
filled-onto_last action [] all = (omega arith, tt)
filled-onto_last action (group ∷ []) all = (rw (length-append group (action ∷ [])) (omega arith), tt)
filled-onto_last action (group ∷ next ∷ groups) all = (all.0, filled-onto_last action (next ∷ groups) all.1)

filled-joined : (joins : Bool) (action : Action) (groups : List (List Action)) → Filled groups →
    Filled (joined joins action groups)
filled-joined true action groups all = filled-onto_last action groups all
filled-joined false action groups all = filled-append groups ((action ∷ []) ∷ []) all (omega arith, tt)

filled-newest : (most : ℕ) (groups : List (List Action)) → Filled groups → Filled (newest most groups)
filled-newest most groups all =
    elim (most == 0) as (λ b. Filled (if b then groups else drop (length groups - most) groups)) [
      | true ↦ all
      | false ↦ filled-drop (length groups - most) groups all
    ]

filled-at : (groups : List (List Action)) (k : ℕ) (group : List Action) → Filled groups →
    slice_get groups k ≡ Some group → 0 < length group
filled-at [] k group all is = absurd (let h : None ≡ Some group = is in cc)
filled-at (first ∷ groups) zero group all is = let same : first ≡ group = cc in rw (← same) all.0
filled-at (first ∷ groups) (suc k) group all is = filled-at groups k group all.1 is

-- ---- what fits goes on fitting

-- an action that was made on the text is noted
pub note-fits : (limit most : ℕ) (kind : EditKind) (action : Action) (separators : Bool) (history : History)
    (text found : List ℕ)
    → FitsText limit text history → repeated limit action text ≡ Some found →
    FitsText limit found (noted kind action separators most history)
note-fits limit most kind action separators history text found fits made =
    let back = repeat-back limit action text found fits.short made in
    let new : History = noted kind action separators most history in
    let joins = history.takes_more && not (separators && changes_kind kind history.last) in
    record {
      short = back.1;
      filled = filled-newest most (joined joins action history.groups)
          (filled-joined joins action history.groups fits.filled);
      undone_filled = tt;
      reverts = reverts-newest limit most (joined joins action history.groups) found
          (rw (
            reverted-joined limit joins action history.groups found,
            after-none (reverted_groups limit history.groups) (reverted limit action found) text back.0,
          )
          fits.reverts);
      repeats = refl;
    }

-- a separator, a limit and a new beginning change nothing of it
pub separated-fits : (limit : ℕ) (history : History) (text : List ℕ) → FitsText limit text history →
    FitsText limit text (separated history)
separated-fits limit history text fits = record {
  short = fits.short;
  filled = fits.filled;
  undone_filled = fits.undone_filled;
  reverts = fits.reverts;
  repeats = fits.repeats;
}

pub limited-fits : (limit most : ℕ) (history : History) (text : List ℕ) → FitsText limit text history →
    FitsText limit text (limited most history)
limited-fits limit most history text fits = record {
  short = fits.short;
  filled = filled-newest most history.groups fits.filled;
  undone_filled = fits.undone_filled;
  reverts = reverts-newest limit most history.groups text fits.reverts;
  repeats = fits.repeats;
}

pub nothing-fits : (limit : ℕ) (text : List ℕ) → length text ≤ limit → FitsText limit text no_history
nothing-fits limit text short =
    record { short = short; filled = tt; undone_filled = tt; reverts = refl; repeats = refl }

-- the groups before the last one, and it
last-at : (groups : List (List Action)) (k : ℕ) (group : List Action) → length groups ≡ suc k →
    slice_get groups k ≡ Some group → take k groups ++ group ∷ [] ≡ groups
last-at [] k group long is = absurd (omega (arith, long))
last-at (first ∷ []) zero group long is = let same : first ≡ group = cc in ap (λ g. g ∷ []) (sym same)
last-at (first ∷ next ∷ groups) zero group long is = absurd (omega (arith, long))
last-at (first ∷ groups) (suc k) group long is = ap (λ gs. first ∷ gs) (last-at groups k group (omega (arith, long)) is)

some-at : (groups : List (List Action)) (k : ℕ) (group : List Action) → slice_get groups k ≡ Some group →
    0 < length groups
some-at [] k group is = absurd (let h : None ≡ Some group = is in cc)
some-at (first ∷ groups) k group is = omega arith

pub last-apart : (groups : List (List Action)) (group : List Action) → slice_get groups (length groups - 1) ≡ Some group
    → take (length groups - 1) groups ++ group ∷ [] ≡ groups
last-apart groups group is =
    let some = some-at groups (length groups - 1) group is in
    last-at groups (length groups - 1) group (omega (arith, some)) is

some-is : {A : Type 0} (o : Option A) → IsSome o → (x : A) × (o ≡ Some x)
some-is None is = absurd (false≢true is)
some-is (Some x) is = (x, refl)

-- the last group can be reverted
pub undo-goes : (limit : ℕ) (history : History) (text : List ℕ) (group : List Action) → FitsText limit text history →
    next_undo history ≡ Some group
    → (found : List ℕ) × (reverted_group limit group text ≡ Some found)
undo-goes limit history text group fits is =
    let front = take (length history.groups - 1) history.groups in
    let whole : reverted_groups limit history.groups text
    ≡ option_and_then (reverted_groups limit front) (reverted_group limit group text) =
    ap (λ gs. reverted_groups limit gs text) (sym (last-apart history.groups group is))
    ∙ reverted_groups-append limit front (group ∷ []) text in
    some-is (reverted_group limit group text)
    (some-first (reverted_groups limit front) (reverted_group limit group text) (rw whole at fits.reverts))

-- and then the history fits what that makes
pub undo-fits : (limit : ℕ) (history : History) (text found : List ℕ) (group : List Action) →
    FitsText limit text history → next_undo history ≡ Some group
    → reverted_group limit group text ≡ Some found → FitsText limit found (after_undo group history)
undo-fits limit history text found group fits is made =
    let front = take (length history.groups - 1) history.groups in
    let back = revert-group-back limit group text found fits.short made in
    let whole : reverted_groups limit history.groups text ≡ reverted_groups limit front found =
    ap (λ gs. reverted_groups limit gs text) (sym (last-apart history.groups group is))
    ∙ reverted_groups-append limit front (group ∷ []) text
    ∙ after-none (reverted_groups limit front) (reverted_group limit group text) found made in
    record {
      short = back.1;
      filled = filled-take (length history.groups - 1) history.groups fits.filled;
      undone_filled = (filled-at history.groups (length history.groups - 1) group fits.filled is, fits.undone_filled);
      reverts = rw whole at fits.reverts;
      repeats = rw (after-none (repeated_groups limit history.undone) (repeated_group limit group found) text back.0)
          fits.repeats;
    }

first-apart : (groups : List (List Action)) (group : List Action) → slice_get groups 0 ≡ Some group →
    group ∷ drop 1 groups ≡ groups
first-apart [] group is = absurd (let h : None ≡ Some group = is in cc)
first-apart (first ∷ groups) group is = let same : first ≡ group = cc in ap (λ g. g ∷ groups) (sym same)

-- the group undone last can be made again
pub redo-goes : (limit : ℕ) (history : History) (text : List ℕ) (group : List Action) → FitsText limit text history →
    next_redo history ≡ Some group
    → (found : List ℕ) × (repeated_group limit group text ≡ Some found)
redo-goes limit history text group fits is =
    let rest = drop 1 history.undone in
    let whole : repeated_groups limit history.undone text
    ≡ option_and_then (repeated_groups limit rest) (repeated_group limit group text) =
    ap (λ gs. repeated_groups limit gs text) (sym (first-apart history.undone group is)) in
    some-is (repeated_group limit group text)
    (some-first (repeated_groups limit rest) (repeated_group limit group text) (rw whole at fits.repeats))

pub redo-fits : (limit most : ℕ) (history : History) (text found : List ℕ) (group : List Action) →
    FitsText limit text history → next_redo history ≡ Some group
    → repeated_group limit group text ≡ Some found → FitsText limit found (after_redo group most history)
redo-fits limit most history text found group fits is made =
    let rest = drop 1 history.undone in
    let back = repeat-group-back limit group text found fits.short made in
    let apart = sym (first-apart history.undone group is) in
    let whole : repeated_groups limit history.undone text ≡ repeated_groups limit rest found =
    ap (λ gs. repeated_groups limit gs text) apart
    ∙ after-none (repeated_groups limit rest) (repeated_group limit group text) found made in
    record {
      short = back.1;
      filled = filled-newest most (history.groups ++ group ∷ [])
          (filled-append history.groups (group ∷ []) fits.filled
          (filled-at history.undone 0 group fits.undone_filled is, tt));
      undone_filled = filled-drop 1 history.undone fits.undone_filled;
      reverts = reverts-newest limit most (history.groups ++ group ∷ []) found
          (rw (
            reverted_groups-append limit history.groups (group ∷ []) found,
            after-none (reverted_groups limit history.groups) (reverted_group limit group found) text back.0,
          ) fits.reverts);
      repeats = rw whole at fits.repeats;
    }
