-- Actions are made once more, or reverted, in a text on the way.
use Rattle.edit_ops.proofs.Common.{◌≡◌, ℕ, ◌+◌, ◌-◌, ◌<◌, ◌≤◌, Bool, true, false, List, [], ◌∷◌, ◌++◌, Option, Some}
use Rattle.edit_ops.proofs.Common.{None, ◌^◌, get_or, map, length, drop, refl, sym, ap, ap₂, ◌∙◌, arith, subst, reverse}
use Rattle.edit_ops.proofs.Common.{not, slice_get, option_and_then, option_map, IsSome, IfSome, if◌then◌else◌, All}
use Rattle.edit_ops.proofs.Common.{false≢true, length-reverse, length-map, get_or-map, get_or-reverse, drop_more}
use Rattle.edit_ops.proofs.Common.{get_or_from_slice_get, none-some, same_Some, Cell, Insert, Remove, PutMark, Content}
use Rattle.edit_ops.proofs.Common.{Slots, characters, line_of, line_start, inserted, removed, Fits, after}
use Rattle.edit_ops.proofs.Common.{after_insertion, after_removal, cells_of, map-removed, take-removed, Fits-append}
use Rattle.edit_ops.proofs.Common.{after-append, MarkNo, Place, Anchors, Cursor, AnchorsStand, anchors_moved}
use Rattle.edit_ops.proofs.Common.{anchors_drawn, anchors_removed, cursor_cells, Moves, Takes, Puts, shared_slots}
use Rattle.edit_ops.proofs.Common.{next_line, Follows, drawn_up, action_end, replayed, replays, replayed_group}
use Rattle.edit_ops.proofs.Common.{put_back, taken_back, action_redone, group_redone, redo_end, undo_end, stood}
use Rattle.edit_ops.proofs.Common.{log_undone, log_redone, undone_group, redone_group, undone, redone, with_mark, State}
use Rattle.edit_ops.proofs.Common.{Log, Outline, state_of, Action, put_in, take_out, repeated, repeated_group, FitsText}
use Rattle.edit_ops.proofs.Common.{History, next_undo, next_redo, undo-goes, redo-goes, anchors_left, group_moved}
use Rattle.edit_ops.proofs.Common.{log_after, planned, whole-is, length-characters, line-front, line-before}
use Rattle.edit_ops.proofs.Common.{next_line-is, ActsOn, All-cons, All-nil, AreScalars, after_actions, IsScalar}
use Rattle.edit_ops.specs.declared.plans.Effects.{Effects}
use Rattle.edit_ops.specs.declared.plans.Notes.TheVariants.{Undone, Redone}
use Rattle.edit_ops.proofs.InsertLaws.{stand-moved}
use Rattle.edit_ops.proofs.RemovalLaws.{stand-drawn}
use Rattle.edit_ops.proofs.ReversalLaws.{back-cons, back-reverted, back-undone, puts-in, redone-text, takes-out}

-- how long the text is
pub follows-length : (content : Content) (outline : Outline) (cursor : Cursor) → Follows content outline cursor →
    length (after outline.steps content).cells ≡ cursor.len
follows-length content outline cursor follows =
    ap length (sym follows.cells) ∙ whole-is cursor content.cells follows.is (sym follows.old_len)

pub record Replayed (content : Content) (outline new : Outline) (now : Cursor) (made : State → State) : Type 0 where
  pub follows : Follows content new now
  pub makes : (log : Log) → drawn_up new content log ≡ made (drawn_up outline content log)

module _ {content : Content} {outline : Outline} {before moved : Cursor} {at : ℕ}
    (follows : Follows content outline before) (moves : Moves before moved) (at_is : moved.at ≡ at) where
  old_cells : cursor_cells content.cells moved ≡ (after outline.steps content).cells
  old_cells = moves.cells content.cells ∙ follows.cells

  pub put-replayed : {new : Outline} {now : Cursor} {text : List ℕ} {slots : Slots} → Puts text slots moved now
      → slots ≡ shared_slots moved.at (cursor_cells content.cells moved) → at < before.len
      → before.len + length text < 2 ^ 64
      → new ≡ record outline {
        steps = outline.steps ++ Insert at text slots ∷ [];
        anchors = map (anchors_moved at (length text)) outline.anchors;
      }
      → Replayed content outline new now (put_back at text)
  put-replayed {new} {now} {text} {slots} puts slots_are within room made =
      let between = after outline.steps content in
      let shared : slots ≡ shared_slots at between.cells = slots_are ∙ ap₂ shared_slots at_is old_cells in
      let long = follows-length content outline before follows in
      let content_is : after new.steps content ≡ after_insertion at text slots between =
      ap (λ (d : Outline). after d.steps content) made
      ∙ after-append outline.steps (Insert at text slots ∷ []) content in
      let len_is : now.len ≡ before.len + length text = puts.len ∙ ap (λ n. n + length text) moves.len in
      record {
        follows = record {
          is = puts.is;
          old_len = puts.old_len ∙ moves.old_len ∙ follows.old_len;
          short = omega (arith, len_is, room);
          cells =
              puts.cells content.cells (sym (moves.old_len ∙ follows.old_len))
              ∙ ap₂ (λ n cells. inserted n (cells_of text slots) cells) at_is old_cells
              ∙ ap (λ (c : Content). c.cells) (sym content_is);
          fits = subst (λ (d : Outline). Fits d.steps content) (sym made)
              (Fits-append outline.steps (Insert at text slots ∷ []) content follows.fits (
                omega (arith, within, long),
                tt,
              ));
          stand = subst (λ (d : Outline). All (AnchorsStand now.len) d.anchors) (sym made)
              (subst (λ n. All (AnchorsStand n) (map (anchors_moved at (length text)) outline.anchors)) (sym len_is)
              (stand-moved at (length text) before.len outline.anchors follows.stand));
        };
        makes = λ log.
            ap₂ (λ c anchors. state_of c anchors log) (content_is
            ∙ ap (λ s. after_insertion at text s between) shared) (ap (λ (d : Outline). d.anchors) made);
      }

  pub take-replayed : {new : Outline} {now : Cursor} {to line far : ℕ} → Takes moved now
      → now.len ≡ moved.len - (to - at) → at ≤ to → to < before.len
      → line ≡ line_start (line_of (characters (cursor_cells content.cells now)) now.at)
      (characters (cursor_cells content.cells now))
      → far ≡ line_start 1 (drop now.at (characters (cursor_cells content.cells now))) → now.at + far ≤ now.len
      → new ≡ record outline {
        steps = outline.steps ++ Remove at to ∷ [];
        anchors = map (anchors_drawn line (at + far) at to) outline.anchors;
      }
      → Replayed content outline new now (taken_back at to)
  take-replayed {new} {now} {to} {line} {far} takes len_is ordered within line_is far_is bound made =
      let between = after outline.steps content in
      let text = characters between.cells in
      let long = follows-length content outline before follows in
      let counted = length-characters between.cells in
      let now_at : now.at ≡ at = takes.at ∙ at_is in
      let now_len : now.len ≡ before.len - (to - at) = omega (arith, len_is, moves.len) in
      let end_is : moved.at + (moved.len - now.len) ≡ to = omega (arith, at_is, len_is, moves.len, ordered, within) in
      let cells_are : cursor_cells content.cells now ≡ removed at to between.cells =
      takes.cells content.cells (sym (moves.old_len ∙ follows.old_len))
      ∙ ap (λ n. removed moved.at n (cursor_cells content.cells moved)) end_is
      ∙ ap₂ (λ n cells. removed n to cells) at_is old_cells in
      let text_is : characters (cursor_cells content.cells now) ≡ removed at to text = ap characters cells_are
      ∙ map-removed (λ (cell : Cell). cell.character) at to between.cells in
      let line_old : line ≡ line_start (line_of text at) text =
      line_is ∙ ap₂ (λ n xs. line_start (line_of xs n) xs) now_at text_is
      ∙ line-front (removed at to text) text at
      (take-removed at to text at (omega (arith, ordered, within, long, counted)) (omega arith)) in
      let removed_len : at ≤ length (removed at to text) =
      let h = whole-is now content.cells takes.is (sym (takes.old_len ∙ moves.old_len ∙ follows.old_len)) in
      let k = length-characters (cursor_cells content.cells now) in let e = ap length text_is in
      omega (arith, h, k, e, bound, now_at) in
      let next_is : at + far ≡ next_line (removed at to text) at =
      ap (λ n. at + n) (far_is ∙ ap₂ (λ n xs. line_start 1 (drop n xs)) now_at text_is)
      ∙ sym (next_line-is (removed at to text) at removed_len) in
      let content_is : after new.steps content ≡ after_removal at to between =
      ap (λ (d : Outline). after d.steps content) made ∙ after-append outline.steps (Remove at to ∷ []) content in
      let before_line : line ≤ at = let h = line-before text at (omega (arith, ordered, within, long, counted)) in
      omega (arith, h, line_old) in
      record {
        follows = record {
          is = takes.is;
          old_len = takes.old_len ∙ moves.old_len ∙ follows.old_len;
          short = omega (arith, now_len, follows.short);
          cells = cells_are ∙ ap (λ (c : Content). c.cells) (sym content_is);
          fits = subst (λ (d : Outline). Fits d.steps content) (sym made)
              (Fits-append outline.steps (Remove at to ∷ []) content follows.fits (
                (ordered, omega (arith, within, long)),
                tt,
              ));
          stand = subst (λ (d : Outline). All (AnchorsStand now.len) d.anchors) (sym made)
              (subst (λ n. All (AnchorsStand n) (map (anchors_drawn line (at + far) at to) outline.anchors))
              (sym now_len)
              (stand-drawn line (at + far) at to before.len outline.anchors follows.stand before_line ordered
              (omega (arith, within)) (omega (arith, bound, now_at, now_len))));
        };
        makes = λ log.
            ap₂ (λ c anchors. state_of c anchors log) content_is (ap (λ (d : Outline). d.anchors) made)
            ∙ ap₂ (λ l n. state_of (after_removal at to between) (map (anchors_drawn l n at to) outline.anchors) log)
            line_old next_is;
      }

-- ---- groups in the order in which they are made

end-append : (actions : List Action) (action : Action) → redo_end (actions ++ action ∷ []) ≡ Some (action_end action)
end-append [] action = refl
end-append (first ∷ []) action = refl
end-append (first ∷ next ∷ actions) action = end-append (next ∷ actions) action

pub back-end : (group : List Action) → redo_end (replays true group) ≡ undo_end group
back-end [] = refl
back-end (action ∷ actions) =
    ap redo_end (back-cons action actions) ∙ end-append (replays true actions) (replayed true action)
    ∙ (elim action.inserts as (λ b. Some (if not b then action.at + length action.text else action.at)
    ≡ Some (if b then action.at else action.at + length action.text)) [ true ↦ refl | false ↦ refl ])

pub replays-length : (back : Bool) (group : List Action) → length (replays back group) ≡ length group
replays-length true group = length-map (reverse group) (replayed true) ∙ length-reverse group
replays-length false group = refl

replays-at : (back : Bool) (group : List Action) (index : ℕ) (action d : Action) → index < length group →
    slice_get group (if back then length group - 1 - index else index) ≡ Some action
    → get_or (replays back group) index d ≡ replayed back action
replays-at true group index action d within is =
    get_or-map (replayed true) (reverse group) index d d (let h = length-reverse group in omega (arith, h, within))
    ∙ ap (replayed true) (get_or-reverse group index d within
    ∙ get_or_from_slice_get group (length group - 1 - index) action d is)
replays-at false group index action d within is = get_or_from_slice_get group index action d is

replayed-is : (back inserts : Bool) (action : Action) →
    inserts ≡ (if back then not action.inserts else action.inserts)
    → replayed back action ≡ record { inserts = inserts; at = action.at; text = action.text }
replayed-is true inserts action is = ap (λ b. record action { inserts = b }) (sym is)
replayed-is false inserts action is = ap (λ b. record action { inserts = b }) (sym is)

-- the action at an index of those that are made
pub next-replayed : (back inserts : Bool) (group : List Action) (index count place : ℕ) (action : Action) →
    count ≡ length group → index < count
    → place ≡ (if back then count - 1 - index else index) → slice_get group place ≡ Some action →
    inserts ≡ (if back then not action.inserts else action.inserts)
    → drop index (replays back group) ≡ record { inserts = inserts; at = action.at; text = action.text }
    ∷ drop (index + 1) (replays back group)
next-replayed back inserts group index count place action counted within place_is found inserts_is =
    let long = replays-length back group in
    let there : slice_get group (if back then length group - 1 - index else index) ≡ Some action =
    ap (λ n. slice_get group (if back then n - 1 - index else index)) (sym counted)
    ∙ ap (slice_get group) (sym place_is) ∙ found in
    drop_more (replays back group) index action (omega (arith, long, counted, within))
    ∙ ap (λ a. a ∷ drop (index + 1) (replays back group))
    (replays-at back group index action action (omega (arith, counted, within)) there
    ∙ replayed-is back inserts action inserts_is)

-- ---- one action of several

-- where so many characters may be put back, or taken out, in a text of so many
pub record Replays (inserts : Bool) (at count len : ℕ) : Type 0 where
  pub puts : inserts ≡ true → at < len
  pub room : inserts ≡ true → len + count < 2 ^ 64
  pub takes : inserts ≡ false → at + count < len

-- where the last of these actions ends, behind others that ended somewhere
abbrev pub end_behind : Option ℕ → List Action → Option ℕ
end_behind end [] = end
end_behind end (action ∷ actions) = end_behind (Some (action_end action)) actions

end-behind-more : (end : Option ℕ) (action : Action) (actions : List Action) →
    end_behind end (action ∷ actions) ≡ redo_end (action ∷ actions)
end-behind-more end action [] = refl
end-behind-more end action (next ∷ actions) = end-behind-more (Some (action_end action)) next actions

end-behind-none : (actions : List Action) → end_behind None actions ≡ redo_end actions
end-behind-none [] = refl
end-behind-none (action ∷ actions) = end-behind-more None action actions

-- the first of some actions that can be made
first-goes : (found : Option (List ℕ)) (after_it : List ℕ → Option (List ℕ)) → IsSome (option_and_then after_it found) →
    (next : List ℕ) × (found ≡ Some next) × IsSome (after_it next)
first-goes None after_it goes = absurd (false≢true goes)
first-goes (Some next) after_it goes = (next, refl, goes)

can-put : (limit at : ℕ) (text all found : List ℕ) → limit < 2 ^ 64 → put_in limit at text all ≡ Some found →
    Replays true at (length text) (length all)
can-put limit at text all found bound is =
    let puts = puts-in limit at text all found is in record {
      puts = λ _. puts.inside;
      room = λ _. omega (arith, puts.short, bound);
      takes = λ is. absurd (false≢true (sym is));
    }

can-take : (at : ℕ) (text all found : List ℕ) → take_out at text all ≡ Some found →
    Replays false at (length text) (length all)
can-take at text all found is = record {
  puts = λ is. absurd (false≢true is);
  room = λ is. absurd (false≢true is);
  takes = λ _. (takes-out at text all found is).inside;
}

can-replay : (limit : ℕ) (action : Action) (all found : List ℕ) → limit < 2 ^ 64 →
    repeated limit action all ≡ Some found → Replays action.inserts action.at (length action.text) (length all)
can-replay limit action all found bound is =
    elim action.inserts as (λ b. (if b then put_in limit action.at action.text all
    else take_out action.at action.text all) ≡ Some found → Replays b action.at (length action.text) (length all)) [
      | true ↦ can-put limit action.at action.text all found bound
      | false ↦ can-take action.at action.text all found
    ] is

-- the first of the actions are made, and these are left
pub record ReplayedSoFar (limit : ℕ) (content : Content) (outline now : Outline) (before cursor : Cursor)
    (all left : List Action) (end : Option ℕ) : Type 0 where
  pub follows : Follows content now cursor
  pub goes : IsSome (repeated_group limit left (characters (after now.steps content).cells))
  pub ends : end_behind end left ≡ redo_end all
  pub bound : IfSome end (λ at. at ≤ cursor.len)
  pub makes : (log : Log) → group_redone left (drawn_up now content log) ≡ group_redone all (drawn_up outline content log)
  pub acts : (old : List Cell) → length old ≡ length content.cells
      → after_actions left (characters (cursor_cells old cursor))
      ≡ after_actions all (characters (cursor_cells old before))
  pub scalars : AreScalars left → AreScalars all

pub replay-first : (limit : ℕ) (content : Content) (outline : Outline) (cursor : Cursor) (all : List Action) →
    Follows content outline cursor
    → IsSome (repeated_group limit all (characters (after outline.steps content).cells)) →
    ReplayedSoFar limit content outline outline cursor cursor all all None
replay-first limit content outline cursor all follows goes = record {
  follows = follows;
  goes = goes;
  ends = end-behind-none all;
  bound = tt;
  makes = λ log. refl;
  acts = λ old long. refl;
  scalars = λ are. are;
}

module _ {limit : ℕ} {content : Content} {outline now : Outline} {before cursor : Cursor} {all left rest : List Action}
    {action : Action} {end : Option ℕ} (so_far : ReplayedSoFar limit content outline now before cursor all left end)
    (is : left ≡ action ∷ rest) where
  -- what the action makes of the text, of which the others are made
  next-goes : (next : List ℕ) × (repeated limit action (characters (after now.steps content).cells) ≡ Some next)
      × IsSome (repeated_group limit rest next)
  next-goes =
      let text = characters (after now.steps content).cells in
      first-goes (repeated limit action text) (repeated_group limit rest)
      (subst (λ l. IsSome (repeated_group limit l text)) is so_far.goes)

  -- what it wants
  pub replay-fits : limit < 2 ^ 64 → Replays action.inserts action.at (length action.text) cursor.len
  replay-fits bound =
      let cells = (after now.steps content).cells in
      subst (Replays action.inserts action.at (length action.text))
      (length-characters cells ∙ follows-length content now cursor so_far.follows)
      (can-replay limit action (characters cells) next-goes.0 bound next-goes.1)

  pub replay-more : {new : Outline} {moved : Cursor} {at : ℕ} → Follows content new moved
      → ((log : Log) → drawn_up new content log ≡ action_redone action (drawn_up now content log))
      → at ≡ action_end action → at ≤ moved.len → ActsOn (action ∷ []) cursor moved → All IsScalar action.text → Log
      → ReplayedSoFar limit content outline new before moved all rest (Some at)
  replay-more {new} {moved} {at} follows made at_is within acts scalars log =
      let text_is : characters (after new.steps content).cells ≡ next-goes.0 =
      ap (λ (s : State). characters s.content.cells) (made log)
      ∙ redone-text limit action next-goes.0 (drawn_up now content log) next-goes.1 in
      record {
        follows = follows;
        goes = subst (λ t. IsSome (repeated_group limit rest t)) (sym text_is) next-goes.2;
        ends = ap (λ n. end_behind (Some n) rest) at_is ∙ ap (end_behind end) (sym is) ∙ so_far.ends;
        bound = within;
        makes = λ log. ap (group_redone rest) (made log) ∙ ap (λ l. group_redone l (drawn_up now content log)) (sym is)
            ∙ so_far.makes log;
        acts = λ old long.
            ap (after_actions rest) (acts old (long ∙ sym so_far.follows.old_len))
            ∙ ap (λ l. after_actions l (characters (cursor_cells old cursor))) (sym is) ∙ so_far.acts old long;
        scalars = λ are. so_far.scalars (subst AreScalars (sym is)
            (All-cons (λ (a : Action). All IsScalar a.text) action rest scalars are));
      }

module _ {limit : ℕ} {content : Content} {outline now : Outline} {before cursor : Cursor} {all left : List Action}
    {end : Option ℕ} (so_far : ReplayedSoFar limit content outline now before cursor all left end) (none : left ≡ [])
  where
    pub all-acts : before.old_len ≡ length content.cells → ActsOn all before cursor
    all-acts counted = λ old long.
        ap (λ l. after_actions l (characters (cursor_cells old cursor))) (sym none) ∙ so_far.acts old (long ∙ counted)

    pub all-scalars : AreScalars all
    all-scalars = so_far.scalars (subst AreScalars (sym none) (All-nil (λ (a : Action). All IsScalar a.text)))

-- ---- what a plan leaves

undone-is : (mark : ℕ) (group : List Action) (state : State)
    → state_of (replayed_group mark (replays true group) state).content
    (replayed_group mark (replays true group) state).anchors (log_undone group state.log)
    ≡ undone_group mark (Some group) state
undone-is mark group state =
    ap₂ (λ (made : State) end. state_of (stood mark end state.content made.content) made.anchors
    (log_undone group state.log)) (back-undone group state) (back-end group)

-- the anchors of as many widgets
redone-widgets : (action : Action) (state : State) → length (action_redone action state).anchors ≡ length state.anchors
redone-widgets action state =
    elim action.inserts as (λ b. length (if b then put_back action.at action.text state
    else taken_back action.at (action.at + length action.text) state).anchors ≡ length state.anchors) [
      | true ↦ length-map state.anchors (anchors_moved action.at (length action.text))
      | false ↦ length-map state.anchors (anchors_removed (characters state.content.cells) action.at
          (action.at + length action.text))
    ]

group-widgets : (group : List Action) (state : State) → length (group_redone group state).anchors ≡ length state.anchors
group-widgets [] state = refl
group-widgets (action ∷ actions) state =
    group-widgets actions (action_redone action state) ∙ redone-widgets action state

-- the mark of a number stands where the group ended
pub mark-stood : (outline new : Outline) (content : Content) (mark : MarkNo) (found : Option Place) (place : Place)
    (log : Log) → found ≡ Some place → new ≡ record outline { steps = outline.steps ++ PutMark mark place ∷ [] }
    → drawn_up new content log
    ≡ record (drawn_up outline content log) { content = with_mark mark.0 found (after outline.steps content) }
mark-stood outline new content mark found place log is new_is =
    ap (λ (d : Outline). drawn_up d content log) new_is
    ∙ ap (λ c. state_of c outline.anchors log) (after-append outline.steps (PutMark mark place ∷ []) content
    ∙ ap (λ o. with_mark mark.0 o (after outline.steps content)) (sym is))

-- where it stands lies in the text
pub stood-within : (place : Option Place) (end : Option ℕ) (len : ℕ) (found : Place) → IfSome end (λ at. at ≤ len)
    → option_and_then (λ (place : Place). option_map (λ at. record place { offset = at }) end) place ≡ Some found →
    found.offset ≤ len
stood-within None end len found bound is = absurd (let h : None ≡ Some found = is in cc)
stood-within (Some place) None len found bound is = absurd (let h : None ≡ Some found = is in cc)
stood-within (Some place) (Some at) len found bound is =
    subst (λ (p : Place). p.offset ≤ len) (let h : Some (record place { offset = at }) ≡ Some found = is in
    let same : record place { offset = at } ≡ found = cc in same) bound

-- ---- plans

pub undo-fits-replay : (limit : ℕ) (history : History) (text : List ℕ) (group : List Action) →
    FitsText limit text history → next_undo history ≡ Some group
    → IsSome (repeated_group limit (replays true group) text)
undo-fits-replay limit history text group fits is =
    let goes = undo-goes limit history text group fits is in
    subst (λ (found : Option (List ℕ)). IsSome found) (sym (back-reverted limit group text ∙ goes.1)) refl

pub redo-fits-replay : (limit : ℕ) (history : History) (text : List ℕ) (group : List Action) →
    FitsText limit text history → next_redo history ≡ Some group
    → IsSome (repeated_group limit (replays false group) text)
redo-fits-replay limit history text group fits is =
    let goes = redo-goes limit history text group fits is in
    subst (λ (found : Option (List ℕ)). IsSome found) (sym goes.1) refl

pub plan-widgets : (mark : ℕ) (group : List Action) (made content : Content) (anchors old : List Anchors) (log : Log)
    → ((log : Log) → state_of made anchors log ≡ replayed_group mark group (state_of content old log)) →
    length anchors ≡ length old
plan-widgets mark group made content anchors old log makes =
    ap (λ (s : State). length s.anchors) (makes log) ∙ group-widgets group (state_of content old log)

pub undo-planned : (mark : ℕ) (group : List Action) (effects : Option Effects) (made content : Content)
    (old : List Anchors) (log : Log) → option_map (λ (e : Effects). e.notes) effects ≡ Some Undone
    → next_undo log.history ≡ Some group
    → ((log : Log) → state_of made (anchors_left effects old) log
    ≡ replayed_group mark (replays true group) (state_of content old log))
    → planned effects made old log ≡ undone mark (state_of content old log)
undo-planned mark group None made content old log notes_are is makes = absurd (none-some _ notes_are)
undo-planned mark group (Some effects) made content old log notes_are is makes =
    let state = state_of content old log in
    let new = replayed_group mark (replays true group) state in
    ap (λ n. state_of made effects.anchors.items (log_after n log)) (same_Some _ _ notes_are)
    ∙ ap (λ (s : State). state_of s.content s.anchors (group_moved log_undone (next_undo log.history) log)) (makes log)
    ∙ ap (λ found. state_of new.content new.anchors (group_moved log_undone found log)) is
    ∙ undone-is mark group state ∙ ap (λ found. undone_group mark found state) (sym is)

pub redo-planned : (mark : ℕ) (group : List Action) (effects : Option Effects) (made content : Content)
    (old : List Anchors) (log : Log) → option_map (λ (e : Effects). e.notes) effects ≡ Some Redone
    → next_redo log.history ≡ Some group
    → ((log : Log) → state_of made (anchors_left effects old) log
    ≡ replayed_group mark (replays false group) (state_of content old log))
    → planned effects made old log ≡ redone mark (state_of content old log)
redo-planned mark group None made content old log notes_are is makes = absurd (none-some _ notes_are)
redo-planned mark group (Some effects) made content old log notes_are is makes =
    let state = state_of content old log in
    let new = replayed_group mark (replays false group) state in
    ap (λ n. state_of made effects.anchors.items (log_after n log)) (same_Some _ _ notes_are)
    ∙ ap (λ (s : State). state_of s.content s.anchors (group_moved log_redone (next_redo log.history) log)) (makes log)
    ∙ ap (λ found. state_of new.content new.anchors (group_moved log_redone found log)) is
    ∙ ap (λ found. redone_group mark found state) (sym is)
