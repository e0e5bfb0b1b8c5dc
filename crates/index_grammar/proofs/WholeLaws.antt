-- An index by its base and its modifiers.
use Rattle.index_grammar.proofs.Common.{◌≡◌, ℕ, List, Option, Some, None, drop, refl, ap, ◌∙◌, option_map}
use Rattle.index_grammar.proofs.Common.{option_and_then, index_of, base_of, modifiers_of, tokens_of, saturated_base}
use Rattle.index_grammar.proofs.Common.{WholeIndex, read_of, saturated, saturated_index, Base, Modifier}

with-steps : (b : Base) (found : Option (List Modifier)) (steps : List Modifier) → saturated found ≡ Some steps
    → saturated_index (option_map {U = WholeIndex} (λ ms. (b, ms)) found) ≡ Some (saturated_base b, steps)
with-steps b None steps is = absurd (let h : None ≡ Some steps = is in cc)
with-steps b (Some ms) steps is = ap (option_map (λ s. (saturated_base b, s))) is

no-steps : (b : Base) (found : Option (List Modifier)) → saturated found ≡ None →
    option_map {U = WholeIndex} (λ ms. (b, ms)) found ≡ None
no-steps b None none = refl
no-steps b (Some ms) none = absurd (let h : Some _ ≡ None = none in cc)

pub whole-ok : (marks tags : List ℕ → Option ℕ) (text rest : List ℕ) (b : Base) (steps : List Modifier) →
    read_of text (base_of marks tags text) ≡ Some (b, rest)
    → saturated (modifiers_of (tokens_of rest)) ≡ Some steps →
    saturated_index (index_of marks tags text) ≡ Some (b, steps)
whole-ok marks tags text rest b steps is later =
    elim (base_of marks tags text) as (λ o. read_of text o ≡ Some (b, rest)
    → saturated_index (option_and_then (λ (found : Base × ℕ).
    option_map {U = WholeIndex} (λ ms. (found.0, ms)) (modifiers_of (tokens_of (drop found.1 text)))) o)
    ≡ Some (b, steps)) [
      | None ↦ λ none. absurd (let h : None ≡ Some (b, rest) = none in cc)
      | Some found ↦ λ there.
          let small : Some (saturated_base found.0) ≡ Some b = ap (option_map (λ (p : Base × List ℕ). p.0)) there in
          let behind : Some (drop found.1 text) ≡ Some rest = ap (option_map (λ (p : Base × List ℕ). p.1)) there in
          let same : drop found.1 text ≡ rest = cc in
          with-steps found.0 (modifiers_of (tokens_of (drop found.1 text))) steps
          (ap (λ t. saturated (modifiers_of (tokens_of t))) same ∙ later)
          ∙ ap (option_map (λ x. (x, steps))) small
    ] is

pub whole-bad : (marks tags : List ℕ → Option ℕ) (text rest : List ℕ) (b : Base) →
    read_of text (base_of marks tags text) ≡ Some (b, rest)
    → saturated (modifiers_of (tokens_of rest)) ≡ None → index_of marks tags text ≡ None
whole-bad marks tags text rest b is later =
    elim (base_of marks tags text) as (λ o. read_of text o ≡ Some (b, rest)
    → option_and_then (λ (found : Base × ℕ).
    option_map {U = WholeIndex} (λ ms. (found.0, ms)) (modifiers_of (tokens_of (drop found.1 text)))) o ≡ None) [
      | None ↦ λ none. refl
      | Some found ↦ λ there.
          let behind : Some (drop found.1 text) ≡ Some rest = ap (option_map (λ (p : Base × List ℕ). p.1)) there in
          let same : drop found.1 text ≡ rest = cc in
          no-steps found.0 (modifiers_of (tokens_of (drop found.1 text)))
          (ap (λ t. saturated (modifiers_of (tokens_of t))) same ∙ later)
    ] is

pub whole-none : (marks tags : List ℕ → Option ℕ) (text : List ℕ) → read_of text (base_of marks tags text) ≡ None →
    index_of marks tags text ≡ None
whole-none marks tags text none =
    elim (base_of marks tags text) as (λ o. read_of text o ≡ None → option_and_then (λ (found : Base × ℕ).
    option_map {U = WholeIndex} (λ ms. (found.0, ms)) (modifiers_of (tokens_of (drop found.1 text)))) o ≡ None) [
      | None ↦ λ _. refl
      | Some found ↦ λ there. absurd (let h : Some _ ≡ None = there in cc)
    ] none
