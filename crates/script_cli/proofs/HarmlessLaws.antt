-- A command that prints the line of a failed allocation, though none failed, leaves the world as it was.
use Rattle.script_cli.proofs.Common.{◌≡◌, ℕ, List, [], ◌∷◌, ◌++◌, drop, inl, inr, Result, Ok, Err, refl, sym, ap, ◌∙◌}
use Rattle.script_cli.proofs.Common.{World, step, memory_line, piece, Answer, Fault}
use Rattle.std.specs.Str.{chars}
use Rattle.command_effects.specs.declared.answers.Answer.TheVariants.{Empty, Flag, Text, Word}
use Rattle.peers.specs.Laws.{NamesWindow}
use Rattle.peers.proofs.SettledLaws.{settled}

-- it begins with the letter e
begun : memory_line ≡ 101 ∷ drop 1 memory_line
unfolding chars
begun = refl

no_blank : 10 ∷ [] ≡ memory_line → ⊥
no_blank is = let h : 10 ∷ [] ≡ 101 ∷ drop 1 memory_line = is ∙ begun in cc

no_dot : (rest : List ℕ) → 46 ∷ rest ≡ memory_line → ⊥
no_dot rest is = let h : 46 ∷ rest ≡ 101 ∷ drop 1 memory_line = is ∙ begun in cc

quiet : (words : List (List ℕ)) (reply : Result Answer Fault) → NamesWindow words reply →
    piece words reply ≡ memory_line → ⊥
quiet words (Ok Empty) names is = no_blank is
quiet words (Ok (Word position)) names is =
    no_dot (names.0 ++ 10 ∷ []) (ap (λ word. word ++ 10 ∷ []) (sym names.1) ∙ is)
quiet words (Ok (Flag flag)) names is = names
quiet words (Ok (Text text)) names is = names
quiet words (Err fault) names is = names

pub harmless : (world : World) (words : List (List ℕ)) → piece words (step world words).reply ≡ memory_line →
    (step world words).world ≡ world
harmless world words is =
    elim (settled world words) as (λ _. (step world words).world ≡ world) [
      | inl same ↦ same
      | inr names ↦ absurd (quiet words (step world words).reply names is)
    ]
