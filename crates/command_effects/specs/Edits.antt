-- What there is in a new store, what widgets have of their own in it, and why texts may not go in.
use Rattle.std.specs.Prelude.{ℕ, ◌+◌, ◌*◌, ◌-◌, min, nat_lt, false, if◌then◌else◌, map, List, [], ◌∷◌, Option}
use Rattle.std.specs.Prelude.{None, Some}
use Rattle.std.specs.FinMap as finite
use Rattle.text_model.specs.Content.{Content}
use Rattle.text_model.specs.LimitTable.{LimitTable}
use Rattle.text_model.specs.Steps.{with_slot}
use Rattle.text_model.specs.declared.places.Gravity.TheVariants.{Right}
use Rattle.text_model.specs.declared.places.Place.{Place}
use Rattle.command_effects.specs.declared.answers.Fault.{Fault}
use Rattle.command_effects.specs.declared.answers.Fault.TheVariants.{TooManyTags, TextTooLong}
use Rattle.command_effects.specs.Marking.{taken}

-- a mark at the start
abbrev pub new_mark : Place
new_mark = record { offset = 0; gravity = Right }

-- both marks of a widget's own at a place; the widget is known by its slot
abbrev pub with_own_marks : ℕ → Place → Content → Content
with_own_marks slot place content = record content {
  marks = finite.insert (finite.insert content.marks (2 * slot) place) (2 * slot + 1) place;
}

-- without what a widget has of its own: the slot of its `sel`, and its two marks
abbrev pub without_widget : ℕ → Content → Content
without_widget slot content = record {
  cells = map (with_slot slot false) content.cells;
  marks = taken ((2 * slot) ∷ (2 * slot + 1) ∷ []) content.marks;
}

abbrev pub without_widgets : List ℕ → Content → Content
without_widgets [] content = content
without_widgets (slot ∷ slots) content = without_widgets slots (without_widget slot content)

-- how many of so many cells are left where those from one offset to another go, both cut to the last that a widget
-- shows
abbrev pub length_replaced : ℕ → ℕ → ℕ → ℕ → ℕ
length_replaced len last from to = len - (min to last - min from last)

-- why there may not be so many tags, `sel` among them, and so many characters
abbrev pub excess : LimitTable → ℕ → ℕ → Option Fault
excess limits tags chars =
    if nat_lt (limits.tags + 1) tags then Some TooManyTags
    else (if nat_lt limits.chars chars then Some TextTooLong else None)
