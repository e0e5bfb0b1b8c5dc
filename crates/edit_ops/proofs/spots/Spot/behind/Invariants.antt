use Rattle.edit_ops.proofs.Common.{◌≡◌, ℕ, List, ◌++◌, length, take, drop, chars, encode_utf8_all, end_of, HasRoom}
use Rattle.edit_ops.proofs.spots.Spot.behind.Given as goal

abbrev pub invariant-loop-character : goal.invariant-loop-character
invariant-loop-character l = record {
  room : HasRoom l.spot (length (encode_utf8_all (drop (length l.yielded) (chars l.text))));
  end : (before : List ℕ) → l.fn.self ≡ end_of before →
      l.spot ≡ end_of (before ++ take (length l.yielded) (chars l.text));
}
