use Rattle.tcl_words.proofs.Common.{◌≡◌, ◌≤◌, ◌++◌, IsUtf8, map, length, take, drop, scanned, later, spelled_from, All}
use Rattle.tcl_words.proofs.Common.{IsWordText, spelled_by, BeforeCommand}
use Rattle.tcl_words.proofs.plain_words.found_words.Given as goal

abbrev pub invariant-loop-count : goal.invariant-loop-count
invariant-loop-count l = record {
  within : l.index ≤ length l.bytes;
  room : length l.words ≡ 16;
  texts : All (λ word. IsWordText word.has_escapes word.text.now) (take l.count l.words);
  utf8 : IsUtf8 (drop l.index l.bytes);
  scans : scanned l.bytes BeforeCommand ≡ later l.index (scanned (drop l.index l.bytes) l.stage);
  pieces : spelled_from l.bytes BeforeCommand
      ≡ map (λ word. spelled_by word.has_escapes word.text.now) (take l.count l.words)
      ++ spelled_from (drop l.index l.bytes) l.stage;
}
