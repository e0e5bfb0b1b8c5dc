-- What a read brings to a script.
use Rattle.std.specs.Prelude.{◌≡◌, ℕ, ◌≤◌, Bool, true, false, List, ◌++◌, length, None}
use Rattle.tcl_words.specs.Unread.{Unread}
use Rattle.script_cli.specs.Devices.{ReadLog, HandsOut}
use Rattle.script_cli.specs.declared.reading.Brought.{Brought}
use Rattle.script_cli.specs.declared.reading.Brought.TheVariants.{Bytes, End}

-- a script of which these bytes are left, and whether it ends with them; no fault was met
abbrev pub unread : List ℕ → Bool → Unread
unread rest finished = record { rest = rest; finished = finished; fault = None }

abbrev pub is_end : Brought → Bool
is_end Bytes = false
is_end End = true

-- From old to new a read handed out bytes, and perhaps the end, and these were fed.
abbrev pub Feeds : ReadLog → ReadLog → List ℕ → Unread → Bool → Type 0
Feeds old new rest after ended =
    (piece : List ℕ) × HandsOut old new piece ended × (length piece ≤ 4096) × (after ≡ unread (rest ++ piece) ended)
