use Rattle.tcl_words.proofs.Common.{◌≡◌, ◌≤◌, map, take, vec_len, string_bytes, spelled_by}
use Rattle.tcl_words.proofs.plain_words.write_words.Given as goal

abbrev pub invariant-loop-place : goal.invariant-loop-place
invariant-loop-place l = record {
  there : l.place ≤ vec_len l.words;
  written : take l.place (map (λ word. string_bytes word) l.words.items)
      ≡ map (λ text. spelled_by text.has_escapes text.text.now) (take l.place l.texts);
}
