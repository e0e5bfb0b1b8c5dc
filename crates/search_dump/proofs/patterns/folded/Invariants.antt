use Rattle.search_dump.proofs.Common.{◌≡◌, chars, encode_utf8_all, length, map, string_bytes, take, simple_fold}
use Rattle.search_dump.proofs.patterns.folded.Given as goal

abbrev pub invariant-loop-character : goal.invariant-loop-character
invariant-loop-character l =
    string_bytes l.folds ≡ encode_utf8_all (map simple_fold (take (length l.yielded) (chars l.text)))
