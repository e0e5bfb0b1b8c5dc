-- What a handle has: a session's state, or a report.
use Rattle.std.specs.Prelude.{ℕ, ℤ, pos, List, [], Option, Some, None, option_map}
use Rattle.handles.specs.declared.handle.Handle.{Handle}
use Rattle.handles.specs.declared.report_handle.ReportHandle.{ReportHandle}
use Rattle.handles.specs.State.{State, Telling, state_of, telling_of}

abbrev pub state : Handle → Option State
state handle = option_map state_of handle.kept.session

abbrev pub reported : ReportHandle → Option Telling
reported handle = option_map telling_of handle.kept.report

-- what was said last
abbrev pub said_of : Option State → List ℕ
said_of None = []
said_of (Some state) = state.said

-- the exit status of the script so far, 255 where there is none
abbrev pub status_of : Option State → ℤ
status_of None = pos 255
status_of (Some state) = pos state.status
