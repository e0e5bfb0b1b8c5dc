-- The bytes that pass through a device.
use Rattle.std.specs.Prelude.{◌≡◌, ℕ, ◌+◌, Bool, true, false, ◌&&◌, ◌==◌, ◌||◌, nat_lt, if◌then◌else◌, Result, Ok, Err}
use Rattle.std.specs.Prelude.{List, [], ◌++◌, length, take, Option, None, Some, ⊤}

-- What came of a reader's reads: how many were made, how many of these brought the end, all the bytes that they handed
-- out, and those that the device has left, where it tells them.
pub record ReadLog : Type 0 where
  pub reads : ℕ
  pub ends : ℕ
  pub bytes : List ℕ
  pub left : Option (List ℕ)

-- What came of a writer's writes: all the bytes that they took, and those that the device holds, where it tells them.
pub record WriteLog : Type 0 where
  pub bytes : List ℕ
  pub held : Option (List ℕ)

-- bytes were taken from the front of those that are left
abbrev pub Consumes : Option (List ℕ) → Option (List ℕ) → List ℕ → Type 0
Consumes None new bytes = ⊤
Consumes (Some old) new bytes = (rest : List ℕ) × (new ≡ Some rest) × (old ≡ bytes ++ rest)

-- at the end no bytes are left
abbrev pub LeavesNone : Bool → Option (List ℕ) → Type 0
LeavesNone false left = ⊤
LeavesNone true None = ⊤
LeavesNone true (Some rest) = rest ≡ []

-- From old to new a reader handed out these bytes, and came to the end or not.
abbrev pub HandsOut : ReadLog → ReadLog → List ℕ → Bool → Type 0
HandsOut old new bytes ended =
    (new.bytes ≡ old.bytes ++ bytes) × (new.ends ≡ old.ends + (if ended then 1 else 0))
    × Consumes old.left new.left bytes × LeavesNone ended new.left

-- A read of so many bytes into a buffer. None into a buffer with room says that the end is reached; a failure hands out
-- none.
abbrev pub Reads : ReadLog → ReadLog → ℕ → List ℕ → Bool → Type 0
Reads old new count buffer true = HandsOut old new [] false
Reads old new count buffer false = HandsOut old new (take count buffer) (count == 0 && nat_lt 0 (length buffer))

-- bytes were added behind those that the device holds
abbrev pub Appends : Option (List ℕ) → Option (List ℕ) → List ℕ → Type 0
Appends None new bytes = ⊤
Appends (Some old) new bytes = new ≡ Some (old ++ bytes)

-- From old to new a writer took these bytes.
abbrev pub Takes : WriteLog → WriteLog → List ℕ → Type 0
Takes old new bytes = (new.bytes ≡ old.bytes ++ bytes) × Appends old.held new.held bytes

-- how many of so many bytes a write took; none where it failed, after an error or where it took none of some bytes
abbrev pub bytes_taken : {E : Type 0} → ℕ → Result ℕ E → Option ℕ
bytes_taken offered (Ok count) = if nat_lt 0 count || offered == 0 then Some count else None
bytes_taken offered (Err e) = None
