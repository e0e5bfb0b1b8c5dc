-- What the insertions of an edit's steps make of its cells, and the delta that they know.
use Rattle.edit_ops.proofs.Common.{◌≡◌, ℕ, ◌+◌, ◌-◌, ◌<◌, ◌≤◌, ◌^◌, List, [], ◌∷◌, ◌++◌, length, take, drop, refl, sym}
use Rattle.edit_ops.proofs.Common.{ap, ap₂, ◌∙◌, arith, subst, append-nil, append_assoc, length-append, length-map}
use Rattle.edit_ops.proofs.Common.{length-take-le, take-append-drop, take_at, drop_at, All, All-cons, All-nil, Cell}
use Rattle.edit_ops.proofs.Common.{Content, Slots, Step, Insert, Remove, PutMark, cells_of, after, changed}
use Rattle.edit_ops.proofs.Common.{after-append, inserted, removed, flat_map, slotted, bare_cells, with_slots}
use Rattle.edit_ops.proofs.Common.{AreBareRuns, SlottedText, total, ◌==◌, true, false, if◌then◌else◌, flat_map-append}
use Rattle.edit_ops.proofs.Common.{All-append, after_step, runs_in, runs_of, text_in, text_of, IsShort, AreInsertions}
use Rattle.edit_ops.proofs.Common.{GoesOn, PutInPlace, removal_steps, pieces_text, KnowsInserted, bared, hunks_made}
use Rattle.edit_ops.proofs.Common.{lost_run, IsLostRun, KnowsDelta, Delta, Outline, MarkNo, Place, length-removed, Bool}
use Rattle.edit_ops.proofs.Common.{Option, None, Some, Action, AreHunksOf, replacing, patched_by, IfSome, Box}
use Rattle.edit_ops.proofs.Common.{box_value}
use Rattle.std.proofs.lemmas.List.Concat.{length-flat_map}
use Rattle.edit_ops.proofs.HunkLaws.{replacing-is}
use Rattle.edit_ops.proofs.SlotRunLaws.{bare-append, changed-middle, runs-lower, slice-middle, slots-of, without}
use Rattle.std.specs.FinSet as set

-- ---- what they make

step_cells : Step → List Cell
step_cells (Insert at text slots) = cells_of text slots
step_cells step = []

abbrev row_cells : List Step → List Cell
row_cells steps = flat_map step_cells steps

-- cells more between others
spread : (front new more rest : List Cell) → (front ++ new) ++ (more ++ rest) ≡ front ++ ((new ++ more) ++ rest)
spread front new more rest =
    append_assoc front new (more ++ rest) ∙ ap (λ xs. front ++ xs) (sym (append_assoc new more rest))

front-long : (front : List Cell) (at : ℕ) (text : List ℕ) (slots : Slots) → length front ≡ at
    → length (front ++ cells_of text slots) ≡ at + length text
front-long front at text slots long =
    let all = length-append front (cells_of text slots) in
    let new = length-map text (λ character. let cell : Cell = record { character = character; tags = slots } in cell) in
    omega (arith, all, new, long)

after-row : (at : ℕ) (steps : List Step) (content : Content) (front rest : List Cell) → AreInsertions at steps
    → length front ≡ at → content.cells ≡ front ++ rest
    → (after steps content).cells ≡ front ++ (row_cells steps ++ rest)
unfolding step_cells
after-row at [] content front rest are long is = is
after-row at (Insert place text slots ∷ steps) content front rest are long is =
    let new = cells_of text slots in
    let begins : length front ≡ place = long ∙ sym are.0 in
    after-row (at + length text) steps (after_step (Insert place text slots) content) (front ++ new) rest are.2
    (front-long front at text slots long)
    (ap (inserted place new) is
    ∙ ap₂ (λ xs ys. xs ++ new ++ ys) (take_at front rest place begins) (drop_at front rest place begins))
    ∙ spread front new (row_cells steps) rest
after-row at (step ∷ steps) content front rest are long is = absurd are

bare-more : (front rest : List Cell) (text more : List ℕ)
    → front ++ (bare_cells (text ++ more) ++ rest) ≡ front ++ (bare_cells text ++ (bare_cells more ++ rest))
bare-more front rest text more =
    ap (λ xs. front ++ xs) (ap (λ xs. xs ++ rest) (bare-append text more)
    ∙ append_assoc (bare_cells text) (bare_cells more) rest)

bare-long : (text : List ℕ) → length (bare_cells text) ≡ length text
bare-long text = length-map text _

row-slotted : (at : ℕ) (steps : List Step) (front rest : List Cell) → AreInsertions at steps → length front ≡ at
    → slotted (runs_in steps) (front ++ (bare_cells (text_in steps) ++ rest)) ≡ front ++ (row_cells steps ++ rest)
unfolding step_cells
row-slotted at [] front rest are long = refl
row-slotted at (Insert place text slots ∷ steps) front rest are long =
    let new = cells_of text slots in
    let others = bare_cells (text_in steps) ++ rest in
    let begins : length front ≡ place = long ∙ sym are.0 in
    ap (λ cells. slotted (runs_in steps) (changed (with_slots slots) place (place + length text) cells))
    (bare-more front rest text (text_in steps))
    ∙ ap (slotted (runs_in steps)) (changed-middle (with_slots slots) place (place + length text) front
    (bare_cells text) others begins (ap (λ n. place + n) (bare-long text))
    ∙ ap (λ cells. front ++ (cells ++ others)) (slots-of text slots)
    ∙ sym (append_assoc front new others))
    ∙ row-slotted (at + length text) steps (front ++ new) rest are.2 (front-long front at text slots long)
    ∙ spread front new (row_cells steps) rest
row-slotted at (step ∷ steps) front rest are long = absurd are

row-bare : (at : ℕ) (steps : List Step) (front rest : List Cell) → AreInsertions at steps → length front ≡ at
    → AreBareRuns at (runs_in steps) (front ++ (bare_cells (text_in steps) ++ rest))
row-bare at [] front rest are long = tt
row-bare at (Insert place text slots ∷ steps) front rest are long =
    let new = bare_cells text in
    let others = bare_cells (text_in steps) ++ rest in
    let begins : length front ≡ place = long ∙ sym are.0 in
    let ends : place + length new ≡ place + length text = ap (λ n. place + n) (bare-long text) in
    subst (AreBareRuns at (runs_in (Insert place text slots ∷ steps))) (sym (bare-more front rest text (text_in steps))) (
      let here = are.0 in omega (arith, here),
      record {
        some = let some = are.1 in omega (arith, some);
        within = let whole = length-append front (new ++ others) in let part = length-append new others in
            omega (arith, whole, part, begins, ends);
        bare = subst (All (λ (cell : Cell). cell.tags ≡ set.empty))
            (sym (slice-middle place (place + length text) front new others begins ends)) (without text);
      },
      subst (λ n. AreBareRuns n (runs_in steps) (front ++ (new ++ others))) (ap (λ n. n + length text) (sym are.0))
          (subst (AreBareRuns (at + length text) (runs_in steps)) (append_assoc front new others)
          (row-bare (at + length text) steps (front ++ new) rest are.2 (front-long front at text set.empty long))),
    )
row-bare at (step ∷ steps) front rest are long = absurd are

row-short : (at : ℕ) (steps : List Step) → AreInsertions at steps → at + length (text_in steps) < 2 ^ 64
    → All IsShort steps
row-short at [] are short = All-nil IsShort
row-short at (Insert place text slots ∷ steps) are short =
    let long = length-append text (text_in steps) in
    let here = are.0 in
    All-cons IsShort (Insert place text slots) steps (omega (arith, long, here, short))
    (row-short (at + length text) steps are.2 (omega (arith, long, short)))
row-short at (step ∷ steps) are short = absurd are

-- ---- steps before and after them

-- steps that insert no text
pub record InsertNone (steps : List Step) : Type 0 where
  pub text : text_in steps ≡ []
  pub runs : runs_in steps ≡ []
  pub short : All IsShort steps

pub none-at-all : InsertNone []
none-at-all = record { text = refl; runs = refl; short = All-nil IsShort }

pub removal-none : (from to : ℕ) → InsertNone (removal_steps from to)
removal-none from to =
    elim (from == to) as (λ b. InsertNone (if b then [] else Remove from to ∷ [])) [
      | true ↦ none-at-all
      | false ↦ record { text = refl; runs = refl; short = All-cons IsShort (Remove from to) [] tt (All-nil IsShort) }
    ]

in-between : {A : Type 0} (f : Step → List A) (before middle last : List Step) → flat_map f before ≡ []
    → flat_map f last ≡ [] → flat_map f ((before ++ middle) ++ last) ≡ flat_map f middle
in-between f before middle last none nothing =
    flat_map-append f (before ++ middle) last
    ∙ ap₂ (λ xs ys. xs ++ ys) (flat_map-append f before middle ∙ ap (λ xs. xs ++ flat_map f middle) none) nothing
    ∙ append-nil (flat_map f middle)

-- steps that insert texts after others, and before one that leaves the cells
pub put-in-place : {from to : ℕ} {pieces : List SlottedText} (content : Content) {before middle last new : List Step}
    → InsertNone before → (after before content).cells ≡ removed from to content.cells
    → from ≤ length (removed from to content.cells) → from + total pieces < 2 ^ 64 → GoesOn from pieces before middle
    → InsertNone last → ((other : Content) → (after last other).cells ≡ other.cells) → new ≡ middle ++ last
    → PutInPlace from to pieces content.cells (after new content).cells new
put-in-place {from} {to} {pieces} content {before} {middle} {last} {new} none out within short on nothing stay new_is =
    let base = removed from to content.cells in
    let front = take from base in
    let rest = drop from base in
    let begins : length front ≡ from = length-take-le from base within in
    let whole : new ≡ (before ++ on.steps) ++ last = new_is ∙ ap (λ xs. xs ++ last) on.made in
    let text : text_in new ≡ text_in on.steps =
    ap text_in whole ∙ in-between text_of before on.steps last none.text nothing.text in
    let runs : runs_in new ≡ runs_in on.steps =
    ap runs_in whole ∙ in-between runs_of before on.steps last none.runs nothing.runs in
    let put : inserted from (bare_cells (pieces_text pieces)) base
    ≡ front ++ (bare_cells (text_in on.steps) ++ rest) =
    ap (λ t. inserted from (bare_cells t) base) (sym on.text)
    ∙ append_assoc front (bare_cells (text_in on.steps)) rest in
    let long : length (text_in on.steps) ≡ total pieces =
    ap length on.text ∙ length-flat_map (λ (piece : SlottedText). piece.text) pieces in
    record {
      short = subst (All IsShort) (sym whole)
          (All-append IsShort (before ++ on.steps) last (All-append IsShort before on.steps none.short
          (row-short from on.steps on.are (omega (arith, long, short)))) nothing.short);
      text = text ∙ on.text;
      bare = subst (λ rs. AreBareRuns 0 rs (inserted from (bare_cells (pieces_text pieces)) base)) (sym runs)
          (subst (AreBareRuns 0 (runs_in on.steps)) (sym put)
          (runs-lower 0 from (runs_in on.steps) (front ++ (bare_cells (text_in on.steps) ++ rest)) (omega arith)
          (row-bare from on.steps front rest on.are begins)));
      cells = ap (λ (steps : List Step). (after steps content).cells) whole
          ∙ ap (λ (c : Content). c.cells) (after-append (before ++ on.steps) last content)
          ∙ stay (after (before ++ on.steps) content)
          ∙ ap (λ (c : Content). c.cells) (after-append before on.steps content)
          ∙ after-row from on.steps (after before content) front rest on.are begins
          (out ∙ sym (take-append-drop from base))
          ∙ sym (row-slotted from on.steps front rest on.are begins)
          ∙ ap₂ slotted (sym runs) (sym put);
    }

-- what is after steps that delete nothing, as they are none
pub put-at-first : {at : ℕ} {pieces : List SlottedText} (content : Content) {before new : List Step} → before ≡ []
    → at < length content.cells → at + total pieces < 2 ^ 64 → GoesOn at pieces before new
    → PutInPlace at at pieces content.cells (after new content).cells new
put-at-first {at} {pieces} content {before} {new} before_is within short on =
    let whole : removed at at content.cells ≡ content.cells = take-append-drop at content.cells in
    let long = ap length whole in
    put-in-place content (subst InsertNone (sym before_is) none-at-all)
    (ap (λ (steps : List Step). (after steps content).cells) before_is ∙ sym whole) (omega (arith, long, within)) short on
    none-at-all (λ _. refl) (sym (append-nil new))

-- what is after steps that delete a span, up to a mark that is put at a place
put-replaced : {from to : ℕ} {pieces : List SlottedText} (content : Content) {before middle last new : List Step}
    → before ≡ removal_steps from to → (after before content).cells ≡ removed from to content.cells → from ≤ to
    → to < length content.cells → length content.cells - (to - from) + total pieces < 2 ^ 64
    → GoesOn from pieces before middle → InsertNone last
    → ((other : Content) → (after last other).cells ≡ other.cells) → new ≡ middle ++ last
    → PutInPlace from to pieces content.cells (after new content).cells new
put-replaced {from} {to} content before_is out ordered within short on nothing stay new_is =
    let long = length-removed from to content.cells ordered (omega (arith, within)) in
    put-in-place content (subst InsertNone (sym before_is) (removal-none from to)) out
    (omega (arith, long, ordered, within)) (omega (arith, short, ordered, within)) on nothing stay new_is

pub put-marked : {from to : ℕ} {pieces : List SlottedText} (content : Content) {before : List Step}
    {outline new : Outline} (mark : MarkNo) (place : Place) → before ≡ removal_steps from to
    → (after before content).cells ≡ removed from to content.cells → from ≤ to → to < length content.cells
    → length content.cells - (to - from) + total pieces < 2 ^ 64 → GoesOn from pieces before outline.steps
    → new ≡ record outline { steps = outline.steps ++ PutMark mark place ∷ [] }
    → PutInPlace from to pieces content.cells (after new.steps content).cells new.steps
put-marked content mark place before_is out ordered within short on made =
    put-replaced content before_is out ordered within short on
    (record { text = refl; runs = refl; short = All-cons IsShort (PutMark mark place) [] tt (All-nil IsShort) })
    (λ _. refl) (ap (λ (d : Outline). d.steps) made)

pub put-unmarked : {from to : ℕ} {pieces : List SlottedText} (content : Content) {before : List Step}
    {outline new : Outline} → before ≡ removal_steps from to
    → (after before content).cells ≡ removed from to content.cells → from ≤ to → to < length content.cells
    → length content.cells - (to - from) + total pieces < 2 ^ 64 → GoesOn from pieces before outline.steps
    → new ≡ outline → PutInPlace from to pieces content.cells (after new.steps content).cells new.steps
put-unmarked content {before} {outline} before_is out ordered within short on made =
    put-replaced content before_is out ordered within short on none-at-all (λ _. refl)
    (ap (λ (d : Outline). d.steps) made ∙ sym (append-nil outline.steps))

-- ---- the delta

known-put : {Z : Type 0} {from to : ℕ} {pieces : List SlottedText} {old new : List Cell} {steps : List Step}
    (follows : Bool) (actions : List Action) (delta : Option (Box Delta Z)) → from ≤ to → to ≤ length old
    → AreHunksOf actions (length old) (replacing from to (pieces_text pieces)) → PutInPlace from to pieces old new steps
    → KnowsInserted follows from to steps delta → KnowsDelta follows actions old new delta
known-put follows actions None ordered within of put known = known
known-put {Z} {from} {to} {pieces} {old} follows actions (Some boxed) ordered within of put known =
    let text = pieces_text pieces in
    let delta : Delta = box_value boxed in
    let is = known.1 in
    let hunks : delta.hunks.items ≡ replacing from to text = is.hunks ∙ ap (replacing from to) put.text in
    let base : bared (lost_run delta) (hunks_made delta old) ≡ inserted from (bare_cells text) (removed from to old) =
    ap (λ lost. bared lost (hunks_made delta old)) is.lost
    ∙ ap (λ hs. patched_by bare_cells 0 hs old) hunks
    ∙ replacing-is bare_cells from to text old refl ordered within in (
      known.0,
      record {
        exact = subst (AreHunksOf actions (length old)) (sym hunks) of;
        lost = subst (IsLostRun (hunks_made delta old)) (sym is.lost) tt;
        either = subst (λ lost. IfSome lost (λ _. delta.gained.items ≡ [])) (sym is.lost) tt;
        bare = subst (AreBareRuns 0 delta.gained.items) (sym base)
            (subst (λ runs. AreBareRuns 0 runs (inserted from (bare_cells text) (removed from to old))) (sym is.gained)
            put.bare);
        cells = put.cells ∙ ap₂ slotted (sym is.gained) (sym base);
      },
    )

-- of a plan of these steps
pub known-left : {Z : Type 0} {from to : ℕ} {pieces : List SlottedText} {old : List Cell} {steps : List Step} (follows : Bool)
    (actions : List Action) {delta made : Option (Box Delta Z)} {left outcome : Content} → from ≤ to → to ≤ length old
    → AreHunksOf actions (length old) (replacing from to (pieces_text pieces))
    → PutInPlace from to pieces old left.cells steps → KnowsInserted follows from to steps delta → made ≡ delta
    → outcome ≡ left → KnowsDelta follows actions old outcome.cells made
known-left {Z} {from} {to} {pieces} {old} follows actions {delta} {made} {left} {outcome} ordered within of put known made_is outcome_is =
    subst (λ (content : Content). KnowsDelta follows actions old content.cells made) (sym outcome_is)
    (subst (KnowsDelta follows actions old left.cells) (sym made_is)
    (known-put follows actions delta ordered within of put known))
