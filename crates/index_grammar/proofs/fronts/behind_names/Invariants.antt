use Rattle.index_grammar.proofs.Common.{◌≡◌, ℕ, ◌<◌, ◌≤◌, true, List, ◌++◌, length, slice_get, encode_utf8_all, closes}
use Rattle.index_grammar.proofs.Common.{names_in, Some}
use Rattle.index_grammar.proofs.fronts.behind_names.Given as goal

abbrev pub invariant-loop-place : goal.invariant-loop-place
invariant-loop-place l = (at : ℕ) (name rest : List ℕ) → at < l.place
    → slice_get (names_in l.form l.names) at ≡ Some name → l.word ≡ encode_utf8_all name ++ l.ending ++ rest
    → closes rest ≡ true → l.fewest ≤ length rest
