-- What was done to a text, to be reverted and repeated (text(n), "THE UNDO MECHANISM").
use Rattle.std.specs.Prelude.{ℕ, ◌-◌, ◌==◌, Bool, true, false, ◌&&◌, not, List, [], ◌∷◌, ◌++◌, length, take, drop}
use Rattle.std.specs.Prelude.{slice_get, Option, None, Some, ℤ, pos, negsuc, if◌then◌else◌}
use Rattle.undo_stack.specs.declared.actions.Action.{Action}
use Rattle.undo_stack.specs.declared.actions.EditKind.{EditKind}
use Rattle.undo_stack.specs.declared.actions.EditKind.TheVariants.{Insert, Delete, Replace}

-- groups of actions from the oldest, whether the last one takes more, the kind of the last edit, and the groups that
-- were undone, the last undone first
pub record History : Type 0 where
  pub groups : List (List Action)
  pub takes_more : Bool
  pub last : Option EditKind
  pub undone : List (List Action)

abbrev pub no_history : History
no_history = record { groups = []; takes_more = false; last = None; undone = [] }

abbrev pub is_kind : EditKind → EditKind → Bool
is_kind Insert Insert = true
is_kind Insert Delete = false
is_kind Insert Replace = false
is_kind Delete Insert = false
is_kind Delete Delete = true
is_kind Delete Replace = false
is_kind Replace Insert = false
is_kind Replace Delete = false
is_kind Replace Replace = true

-- the last edit was of another kind
abbrev pub changes_kind : EditKind → Option EditKind → Bool
changes_kind kind None = false
changes_kind kind (Some last) = not (is_kind kind last)

-- the last group with one action more
abbrev pub onto_last : Action → List (List Action) → List (List Action)
onto_last action [] = (action ∷ []) ∷ []
onto_last action (group ∷ []) = (group ++ action ∷ []) ∷ []
onto_last action (group ∷ next ∷ groups) = group ∷ onto_last action (next ∷ groups)

-- the action joins the last group, or makes a group of its own
abbrev pub joined : Bool → Action → List (List Action) → List (List Action)
joined true action groups = onto_last action groups
joined false action groups = groups ++ (action ∷ []) ∷ []

-- a limit on groups that was set as an integer: 0 where it is no limit
abbrev pub limit_of : ℤ → ℕ
limit_of (pos most) = most
limit_of (negsuc n) = 0

-- a limit above 0 keeps so many groups, the newest
abbrev pub newest : ℕ → List (List Action) → List (List Action)
newest most groups = if most == 0 then groups else drop (length groups - most) groups

-- A new action, of an edit of a kind: the undone groups go, and with automatic separators a change of kind closes the
-- last group.
abbrev pub noted : EditKind → Action → Bool → ℕ → History → History
noted kind action separators most history = record {
  groups = newest most (joined (history.takes_more && not (separators && changes_kind kind history.last)) action
      history.groups);
  takes_more = true;
  last = Some kind;
  undone = [];
}

-- the last group takes no more, and no kind is remembered
abbrev pub separated : History → History
separated history = record history { takes_more = false; last = None }

-- the groups that undo and redo would move
abbrev pub next_undo : History → Option (List Action)
next_undo history = slice_get history.groups (length history.groups - 1)

abbrev pub next_redo : History → Option (List Action)
next_redo history = slice_get history.undone 0

-- the last group is undone
abbrev pub after_undo : List Action → History → History
after_undo group history = record {
  groups = take (length history.groups - 1) history.groups;
  takes_more = false;
  last = None;
  undone = group ∷ history.undone;
}

-- the group undone last is redone
abbrev pub after_redo : List Action → ℕ → History → History
after_redo group most history = record {
  groups = newest most (history.groups ++ group ∷ []);
  takes_more = false;
  last = None;
  undone = drop 1 history.undone;
}

-- no more groups than the limit
abbrev pub limited : ℕ → History → History
limited most history = record history { groups = newest most history.groups }
