use Rattle.edit_ops.proofs.Common.{◌<◌, ◌∙◌, rules, nat_le, nat_lt, Span, ◌&&◌}
use Rattle.std.proofs.lemmas.List.Sorted.{All-permutation, list_any-IsPermutation, IsNonDecreasingBy-from_sort_by_key}
use Rattle.std.proofs.lemmas.List.Sorted.{IsPermutation-sym}
use Rattle.edit_ops.proofs.runs.by_end.Goals as goal

pub returns : goal.returns
returns c =
    let old = c.in_ok-kept.kept.items in
    let new = c.sort_unstable_by_key.new.self.items in
    let moves = c.sort_unstable_by_key.ensures.permutation in
    record {
      filled = All-permutation (λ (s : Span). s.from < s.to) old new moves c.in_ok-kept.ensures.filled;
      covers = λ offset. list_any-IsPermutation (λ (s : Span). nat_le s.from offset
          && nat_lt offset s.to) new old (IsPermutation-sym old new moves) ∙ c.in_ok-kept.ensures.covers offset;
      ordered = IsNonDecreasingBy-from_sort_by_key (λ (s : Span). s.to) _ c.sort_unstable_by_key.ensures.sorted
          (λ a r q k. search rules);
    }
