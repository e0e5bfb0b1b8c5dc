-- A tree of so many lines.
use Rattle.std.proofs.Common.{◌≡◌, ℕ, ◌+◌, ◌-◌, ◌<◌, ◌≤◌, ◌^◌, List, length, take, ap, ◌∙◌, arith}
use Rattle.std.proofs.lemmas.List.{take_all}
use Rattle.toggle_sums.specs.Counts.{Count, plus}
use Rattle.segments.specs.Columns.{LineContent, line_count}
use Rattle.line_lists.specs.Lists.{count_of}
use Rattle.line_tree.specs.Changes.{FitsSum}
use Rattle.line_tree.specs.Trees.{Named, contents, total}
use Rattle.line_tree.proofs.PrefixLaws.{count-first}
use Rattle.line_tree.proofs.SpliceLaws.{few-lines}
use Rattle.line_tree.proofs.TreeLaws.{total-lines}

pub all-counted : (ls : List Named) (n : ℕ) → length ls ≡ n → count_of (take n (contents ls)) ≡ total ls
all-counted ls n is =
    let all : length ls ≤ n = omega (arith, is) in
    count-first n ls ∙ ap total (take_all n ls all)

-- what fits a sum is counted by 64 bits
pub one-more : (ls : List Named) (l : LineContent) (n : ℕ) (all more : Count) → length ls ≡ n → all ≡ total ls →
    more ≡ line_count l → FitsSum (plus all more) → n + 1 < 2 ^ 64
one-more ls l n all more is every one fits =
    let count = total-lines ls in let few = fits.lines in
    let first : all.lines ≡ (total ls).lines = ap (λ s. s.lines) every in
    let second : more.lines ≡ 1 = ap (λ s. s.lines) one in
    omega (arith, is, count, few, first, second)

pub spliced : (ls : List Named) (cs : List LineContent) (n gone j : ℕ) → length ls ≡ n → j ≡ length cs →
    FitsSum (plus (total ls) (count_of cs)) → n - gone + j < 2 ^ 64
spliced ls cs n gone j is long fits =
    let few = few-lines ls cs fits in omega (arith, is, long, few)
