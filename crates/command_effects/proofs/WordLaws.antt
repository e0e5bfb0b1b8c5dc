-- Two texts are the same exactly where their characters are.
pub use Rattle.command_table.proofs.WordLaws.{bytes_eq-chars}
