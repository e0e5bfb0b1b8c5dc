-- The bytes of a text at which its characters begin: all but those that go on with one.
use Rattle.std.specs.Prelude.{ℕ, Bool, ◌||◌, nat_lt, nat_le, List, count_by}

abbrev pub begins_character : ℕ → Bool
begins_character byte = nat_lt byte 128 || nat_le 192 byte

-- how many they are
abbrev pub beginnings : List ℕ → ℕ
beginnings bytes = count_by begins_character bytes
