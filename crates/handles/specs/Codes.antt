-- The codes that C gets.
use Rattle.std.specs.Prelude.{ℕ, ℤ, pos, negsuc, Bool, true, false, Option, None, Some}
use Rattle.text_model.specs.declared.places.Gravity.{Gravity}
use Rattle.text_model.specs.declared.places.Gravity.TheVariants.{Left, Right}
use Rattle.text_model.specs.declared.places.Place.{Place}
use Rattle.handles.specs.declared.ends.Given.{Given}
use Rattle.handles.specs.declared.ends.Given.TheVariants as given
use Rattle.handles.specs.declared.ends.MakeEnd.{MakeEnd}
use Rattle.handles.specs.declared.ends.MakeEnd.TheVariants as make
use Rattle.handles.specs.declared.ends.MoveEnd.{MoveEnd}
use Rattle.handles.specs.declared.ends.MoveEnd.TheVariants as move
use Rattle.handles.specs.declared.ends.CallEnd.{CallEnd}
use Rattle.handles.specs.declared.ends.CallEnd.TheVariants as call
use Rattle.handles.specs.declared.ends.FeedEnd.{FeedEnd}
use Rattle.handles.specs.declared.ends.FeedEnd.TheVariants as feed
use Rattle.handles.specs.declared.ends.TurnEnd.{TurnEnd}
use Rattle.handles.specs.declared.ends.TurnEnd.TheVariants as turn

abbrev pub given_code : Given → ℤ
given_code given.Answer = pos 0
given_code given.Fault = pos 1
given_code given.Memory = pos 2

abbrev pub make_code : MakeEnd → ℤ
make_code make.Made = pos 0
make_code make.Memory = pos 2
make_code make.WrongLimits = pos 7
make_code make.WrongHandle = pos 8

abbrev pub move_code : MoveEnd → ℤ
move_code move.Moved = pos 0
move_code move.WrongHandle = pos 8

abbrev pub call_code : CallEnd → ℤ
call_code (call.Given given) = given_code given
call_code call.NotText = pos 5
call_code call.WrongLengths = pos 6
call_code call.WrongHandle = pos 8

abbrev pub feed_code : FeedEnd → ℤ
feed_code feed.Fed = pos 0
feed_code feed.Memory = pos 2
feed_code feed.Finished = pos 9
feed_code feed.WrongHandle = pos 8

abbrev pub turn_code : TurnEnd → ℤ
turn_code (turn.Command given) = given_code given
turn_code turn.Fault = pos 3
turn_code turn.End = pos 4
turn_code turn.WrongHandle = pos 8

-- yes or no
abbrev pub flag_code : Bool → ℤ
flag_code true = pos 1
flag_code false = pos 0

-- yes, no, or that there is no such widget
abbrev pub told_code : Option Bool → ℤ
told_code (Some true) = pos 1
told_code (Some false) = pos 0
told_code None = negsuc 0

-- the offset of a place, or the maximum where there is none
abbrev pub offset_code : Option Place → ℕ
offset_code None = 18446744073709551615
offset_code (Some place) = place.offset

-- to which side of text that is inserted at it a mark goes
abbrev pub side_code : Gravity → ℤ
side_code Right = pos 0
side_code Left = pos 1

-- the gravity of a mark, or that it has no place
abbrev pub gravity_code : Option Place → ℤ
gravity_code None = negsuc 0
gravity_code (Some place) = side_code place.gravity
