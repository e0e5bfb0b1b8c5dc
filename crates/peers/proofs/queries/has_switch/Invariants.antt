use Rattle.peers.proofs.Common.{◌≡◌, drop, chars, texts_of, has_switch}
use Rattle.peers.proofs.queries.has_switch.Given as goal

abbrev pub invariant-loop-word : goal.invariant-loop-word
invariant-loop-word l =
    has_switch (chars l.name) (texts_of l.words) ≡ has_switch (chars l.name) (texts_of (drop l.word-index l.words))
