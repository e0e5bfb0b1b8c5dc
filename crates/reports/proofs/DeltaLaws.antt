-- What is reported of a delta of a store's cells is what it makes of the cells with keys.
use Rattle.reports.proofs.Common.{◌≡◌, ℕ, ◌+◌, ◌<◌, true, List, [], ◌∷◌, ◌++◌, Option, None, Some, length, map, refl}
use Rattle.reports.proofs.Common.{sym, ap, ap₂, subst, ◌∙◌, arith, append-nil, true≢false, All, map-map, Cell, Named}
use Rattle.reports.proofs.Common.{Action, AreHunksOf, bare_cells, slotted, Tells, hunk_changes, patched, patched_by}
use Rattle.reports.proofs.Common.{map-patched, SlotRun, AreSeats, AreTags, Tags, Key, key_pairs, keyed, untagged}
use Rattle.reports.proofs.Common.{KeyedCell, TellsCells, TellsTags, TagChange, EditTold, bare, false, Bool, AreHunks}
use Rattle.reports.proofs.Common.{Box, box_value, IfSome, Content, IsDelta, IsLostRun, KnowsDelta, bared, hunks_made}
use Rattle.reports.proofs.Common.{lost_run, AreBareRuns, is_turned, AreGapped, AreRising, TellsRuns, Log, State}
use Rattle.edit_ops.specs.declared.anchors.Anchors.{Anchors}
use Rattle.edit_ops.specs.Plans.{planned}
use Rattle.edit_ops.specs.declared.plans.Effects.{Effects}
use Rattle.edit_ops.specs.declared.deltas.Delta.{Delta}
use Rattle.reports.proofs.BridgeLaws.{keys_of-empty}
use Rattle.reports.proofs.KeyRunLaws.{key-run-none, turned-itself}
use Rattle.reports.proofs.KeyedLaws.{keyed_cell, characters-keyed, length-keyed}
use Rattle.reports.proofs.SlotRunLaws.{TurnsSlots, characters-lost, characters-slotted, distinct-pairs, lost-turns}
use Rattle.reports.proofs.SlotRunLaws.{rising-bare, runs-turn, slotted-turns}
use Rattle.reports.proofs.TagRunLaws.{turns-tell}
use Rattle.reports.proofs.ReportLaws.{hunks-tell}
use Rattle.std.specs.FinSet as set
use Rattle.text_model.specs.Content as model

-- what is reported of a character that loses its slots
abbrev pub TellsLost : List (ℕ × Key) → Option SlotRun → List TagChange → Type 0
TellsLost pairs None told = told ≡ []
TellsLost pairs (Some run) told = AreRising 0 (run ∷ []) → TellsRuns pairs false (run ∷ []) [] told

-- no runs, no changes
no-runs : (pairs : List (ℕ × Key)) (on : Bool) (told more : List TagChange) → TellsRuns pairs on [] told more →
    more ≡ told
no-runs pairs on told more tells = tells.is ∙ ap (λ added. told ++ added) (none tells.added tells.shaped (λ key at.
    tells.turns key at ∙ key-run-none key pairs [] at (λ slot. refl))) ∙ append-nil told
  where
    none : (changes : List TagChange) → All (λ (c : TagChange). (c.from < c.to) × (c.on ≡ on)) changes
        → ((key : Key) (at : ℕ) → is_turned key at changes ≡ false) → changes ≡ []
    none [] shaped idle = refl
    none (change ∷ changes) shaped idle = absurd (true≢false
        (sym (turned-itself (change ∷ changes) 0 change (omega arith) (shaped 0 change (omega arith)).0)
        ∙ idle change.key change.from))

module _ (seats : List Named) (table : Tags) (seated : AreSeats seats) (sound : AreTags table) where
  abbrev ps : List (ℕ × Key)
  ps = key_pairs seats table.tags

  untagged-kept : (text : List ℕ) → map (keyed_cell ps) (bare_cells text) ≡ untagged text
  untagged-kept text =
      map-map (keyed_cell ps) (λ character. record { character = character; tags = set.empty }) text
      ∙ ap (λ keys. map (λ character. record { character = character; keys = keys }) text) (keys_of-empty ps)

  -- runs that turn slots, from no changes on
  alone : (on : Bool) (runs : List SlotRun) (old new : List Cell) (told : List TagChange)
      → ((at : ℕ) → TurnsSlots on runs old new at) → model.characters new ≡ model.characters old
      → TellsRuns ps on runs [] told → TellsTags told (keyed ps old) (keyed ps new) × AreGapped told
  alone on runs old new told turns same tells =
      let made = runs-turn ps on runs old new [] told turns same (distinct-pairs seats table seated sound) tells in
      subst (λ changes. TellsTags changes (keyed ps old) (keyed ps new) × AreGapped changes) (sym tells.is)
      (turns-tell on tells.added (keyed ps old) (keyed ps new) made, made.gapped)

  -- a character that loses its slots, or else runs that get theirs
  either-tells : (lost : Option SlotRun) (runs : List SlotRun) (cells : List Cell) (between told : List TagChange)
      → IsLostRun cells lost → IfSome lost (λ _. runs ≡ []) → AreBareRuns 0 runs (bared lost cells)
      → TellsLost ps lost between → (AreRising 0 runs → TellsRuns ps true runs between told)
      → TellsTags told (keyed ps cells) (keyed ps (slotted runs (bared lost cells))) × AreGapped told
  either-tells None runs cells between told is either bare lost gained =
      alone true runs cells (slotted runs cells) told (λ at. slotted-turns 0 runs cells at bare)
      (characters-slotted 0 runs cells bare)
      (subst (λ before. TellsRuns ps true runs before told) lost (gained (rising-bare 0 runs cells bare)))
  either-tells (Some run) runs cells between told is either bare lost gained =
      let one = is.0 in
      let left = bared (Some run) cells in
      let made : slotted runs left ≡ left = ap (λ rs. slotted rs left) either in
      let same : told ≡ between =
      no-runs ps true between told (subst (λ rs. TellsRuns ps true rs between told) either
      (gained (rising-bare 0 runs left bare))) in
      subst (λ new. TellsTags told (keyed ps cells) (keyed ps new) × AreGapped told) (sym made)
      (subst (λ changes. TellsTags changes (keyed ps cells) (keyed ps left) × AreGapped changes) (sym same)
      (alone false (run ∷ []) cells left between (λ at. lost-turns run cells at is) (characters-lost run cells one)
      (lost (omega arith, omega (arith, one), tt))))

  pub delta-tells : (actions : List Action) (old new : List Cell) (delta : Delta) (between : List TagChange)
      (told : EditTold) → IsDelta actions old new delta
      → told.changes ≡ hunk_changes (model.characters old) delta.hunks.items
      → Tells told.changes (model.characters old) (patched 0 delta.hunks.items (model.characters old))
      → TellsLost ps (lost_run delta) between
      → (AreRising 0 delta.gained.items → TellsRuns ps true delta.gained.items between told.tags)
      → TellsCells actions (keyed ps old) (keyed ps new) told
  delta-tells actions old new delta between told is changes tells lost gained =
      let hunks = delta.hunks.items in
      let text = characters-keyed ps old in
      let middle = hunks_made delta old in
      let made : keyed ps middle ≡ patched_by untagged 0 hunks (keyed ps old) =
      map-patched (keyed_cell ps) bare_cells untagged untagged-kept 0 hunks old in
      let tags = either-tells (lost_run delta) delta.gained.items middle between told.tags is.lost is.either is.bare lost
      gained in
      hunks-tell actions (keyed ps old) (keyed ps new) hunks told
      (subst (λ n. AreHunksOf actions n hunks) (sym (length-keyed ps old)) is.exact)
      (changes ∙ ap (λ t. hunk_changes t hunks) (sym text))
      (subst (λ t. Tells told.changes t (patched 0 hunks t)) (sym text) tells)
      (subst (λ cs. TellsTags told.tags cs (keyed ps new)) made
      (subst (λ cs. TellsTags told.tags (keyed ps middle) (keyed ps cs)) (sym is.cells) tags.0)) tags.1

-- ---- what is known of a plan's delta

-- its hunks are of the text, which is as it was before the plan was made
pub known-stand : {Z : Type 0} (follows : Bool) (actions : List Action) (new : List Cell) {old cells : List Cell}
    (delta : Option (Box Delta Z)) → cells ≡ old → KnowsDelta follows actions old new delta
    → IfSome delta (λ delta. AreHunks 0 (length cells) (box_value delta).hunks.items)
known-stand follows actions new None same knows = tt
known-stand follows actions new (Some delta) same knows =
    subst (λ (cells : List Cell). AreHunks 0 (length cells) (box_value delta).hunks.items) (sym same)
    knows.1.exact.stand

-- ---- plans that are carried out

-- what a plan leaves, where the text is as it was before the plan was made
pub planned-made : (effects : Option Effects) {outcome : Content} {anchors before : List Anchors} {log past : Log}
    {new made : State} → new ≡ planned effects outcome anchors log → anchors ≡ before → log ≡ past
    → planned effects outcome before past ≡ made → new ≡ made
planned-made effects {outcome} {anchors} {before} {log} {past} {new} {made} is same kept leads =
    is ∙ ap₂ (planned effects outcome) same kept ∙ leads

-- what is reported of it, to a caller who follows
pub told-planned : {Z : Type 0} (pairs : List (ℕ × Key)) (delta : Option (Box Delta Z)) (outcome new : List Cell)
    {follows : Bool} {done actions : List Action} {old middle : List Cell} {cells : List KeyedCell} {told : EditTold}
    → ((actions : List Action) → KnowsDelta true actions middle outcome delta
    → TellsCells actions (keyed pairs middle) (keyed pairs new) told)
    → middle ≡ old → follows ≡ true → done ≡ actions → KnowsDelta follows done old outcome delta
    → keyed pairs old ≡ cells → TellsCells actions cells (keyed pairs new) told
told-planned pairs delta outcome new {follows} {done} {actions} {old} {middle} {cells} {told} tells same asked are knows
    kept =
    subst (λ cs. TellsCells actions cs (keyed pairs new) told) (ap (keyed pairs) same ∙ kept)
    (tells actions (subst (λ cs. KnowsDelta true actions cs outcome delta) (sym same)
    (subst (λ done. KnowsDelta true done old outcome delta) are
    (subst (λ follows. KnowsDelta follows done old outcome delta) asked knows))))
