-- What a writer has taken, and what waits to be written.
use Rattle.std.specs.Prelude.{◌≡◌, ℕ, Bool, true, false, List, ◌++◌}
use Rattle.script_cli.specs.Devices.{WriteLog, Takes}

-- all of the bytes were written, or a front of them and the writer failed
abbrev pub Sends : WriteLog → WriteLog → List ℕ → Bool → Type 0
Sends old new bytes true = Takes old new bytes
Sends old new bytes false = (front : List ℕ) × (back : List ℕ) × (bytes ≡ front ++ back) × Takes old new front

-- Bytes were put behind those that waited, and a front of all these was written: the others wait now, or the
-- writer failed.
abbrev pub Gathers : WriteLog → List ℕ → WriteLog → List ℕ → List ℕ → Bool → Type 0
Gathers old waited new waits bytes true = (sent : List ℕ) × (waited ++ bytes ≡ sent ++ waits) × Takes old new sent
Gathers old waited new waits bytes false = Sends old new (waited ++ bytes) false
