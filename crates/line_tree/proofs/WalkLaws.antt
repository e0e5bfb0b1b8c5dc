-- Walks over the marked lines of a tree, by which a table follows what becomes of them.
use Rattle.line_tree.proofs.Common.{◌≡◌, ℕ, zero, suc, [], ◌∷◌, ◌+◌, ◌-◌, ◌≤◌, true, cond, List, length, take, drop}
use Rattle.line_tree.proofs.Common.{get_or, ap, ap₂, ◌∙◌, subst, arith, is_some, slice_get, slice_range, Option, None}
use Rattle.line_tree.proofs.Common.{Some, All, get_or-drop, get_or-take, length-take-le, none-some, same_Some}
use Rattle.line_tree.proofs.Common.{LineContent, Named, contents, NodePtr, AreLines, NumbersBelow, has_mark, drop_after}
use Rattle.line_tree.proofs.Common.{AreBare, IsMarkedBelow, IsTable, holder, lines_without, noted, length-drop}
use Rattle.line_tree.proofs.HolderLaws.{all-noted, alone, bare-drop, first, forget-line, forgotten, holder-append}
use Rattle.line_tree.proofs.HolderLaws.{none-before, note-line}
use Rattle.line_tree.proofs.NearestLaws.{long}
use Rattle.line_tree.proofs.TableLaws.{noted-within}

-- a line of the walk, and what was read and written there
pub record Passes (ls : List Named) (at to k : ℕ) (p : NodePtr) (line : LineContent) : Type 0 where
  pub are : AreLines (contents ls)
  pub marked : IsMarkedBelow at to ls (k, p)
  pub is : slice_get ls k ≡ Some (p, line)

one_more : (k : ℕ) → suc k ≡ k + 1
one_more k = omega arith

stays-noted : (n : ℕ) (ls : List Named) (from at to k : ℕ) (p : NodePtr) (line : LineContent) →
    Passes ls at to k p line → from ≤ at → has_mark n line ≡ true → holder n (lines_without from at ls) ≡ Some p
stays-noted n ls from at to k p line passes ordered has =
    let marked = passes.marked in let above = marked.above in
    let others = alone n ls k (p, line) passes.are.rows passes.is has in
    holder-append n (take from ls) (drop at ls)
    ∙ ap₂ first (none-before n from k ls (omega (arith, ordered, above)) others.0)
    (bare-drop n at k ls above marked.bare ∙ ap (holder n) (drop_after ls k (p, line) passes.is)
    ∙ ap (λ b. cond b (Some p) (holder n (drop (suc k) ls))) has)

-- what is forgotten stands in the table
pub forgets-within : (names : List (Option NodePtr)) (ls : List Named) (from at to k : ℕ) (p : NodePtr)
    (line : LineContent) → Passes ls at to k p line → from ≤ at → IsTable names (lines_without from at ls)
    → NumbersBelow (length names) line.marks
forgets-within names ls from at to k p line passes ordered table number place is =
    noted-within names number p (table.each number
    ∙ stays-noted number ls from at to k p line passes ordered (ap is_some is))

pub forgets : (old new : List (Option NodePtr)) (ls : List Named) (from at to k : ℕ) (p : NodePtr) (line : LineContent)
    → Passes ls at to k p line → from ≤ at → IsTable old (lines_without from at ls)
    → ((n : ℕ) → noted n new ≡ cond (has_mark n line) None (noted n old)) → IsTable new (lines_without from (k + 1) ls)
forgets old new ls from at to k p line passes ordered table written = record {
  each = λ n. forget-line n ls passes.are.rows (noted n old) (noted n new) from at k p line ordered passes.marked.above
      passes.marked.bare passes.is (table.each n) (written n)
      ∙ ap (λ i. holder n (lines_without from i ls)) (one_more k);
}

pub all-forgotten : (names : List (Option NodePtr)) (ls : List Named) (from at to : ℕ) → at ≤ to → AreBare at to ls →
    IsTable names (lines_without from at ls) → IsTable names (lines_without from to ls)
all-forgotten names ls from at to ordered bare table =
    record { each = λ n. forgotten n from at to ls (noted n names) ordered bare (table.each n) }

-- ---- what is noted
content-at : (ls : List Named) (k : ℕ) (p : NodePtr) (line : LineContent) → slice_get ls k ≡ Some (p, line) →
    get_or (contents ls) k line ≡ line
content-at [] k p line is = absurd (none-some (p, line) is)
content-at (l ∷ ls) zero p line is = ap (λ (x : Named). x.1) (same_Some l (p, line) is)
content-at (l ∷ ls) (suc k) p line is = content-at ls k p line is

pub notes-within : (bound : ℕ) (ls : List Named) (from at to k : ℕ) (p : NodePtr) (line : LineContent) →
    Passes ls at to k p line → from ≤ at → to ≤ length ls
    → All (λ (l : LineContent). NumbersBelow bound l.marks) (slice_range (contents ls) from to) →
    NumbersBelow bound line.marks
notes-within bound ls from at to k p line passes ordered within all =
    let marked = passes.marked in let above = marked.above in let below = marked.below in
    let xs = contents ls in let l = long ls in
    let rest = length-drop from xs in
    let few = length-take-le (to - from) (drop from xs) (omega (arith, rest, l, within, below, above)) in
    let e : from + (k - from) ≡ k = omega (arith, above, ordered) in
    let same = get_or-take (to - from) (drop from xs) (k - from) line (omega (arith, above, below, ordered))
    ∙ get_or-drop from xs (k - from) line ∙ ap (λ i. get_or xs i line) e ∙ content-at ls k p line passes.is in
    subst (λ (x : LineContent). NumbersBelow bound x.marks) same
    (all (k - from) line (omega (arith, few, above, below, ordered)))

pub notes : (old new : List (Option NodePtr)) (ls : List Named) (at to k : ℕ) (p : NodePtr) (line : LineContent) →
    Passes ls at to k p line → IsTable old (lines_without at to ls)
    → ((n : ℕ) → noted n new ≡ cond (has_mark n line) (Some p) (noted n old)) →
    IsTable new (lines_without (k + 1) to ls)
notes old new ls at to k p line passes table written = record {
  each = λ n. note-line n ls passes.are.rows (noted n old) (noted n new) to at k p line passes.marked.above
      passes.marked.bare passes.is (table.each n) (written n)
      ∙ ap (λ i. holder n (lines_without i to ls)) (one_more k);
}

pub all-known : (names : List (Option NodePtr)) (ls : List Named) (at to : ℕ) → at ≤ to → AreBare at to ls →
    IsTable names (lines_without at to ls) → IsTable names ls
all-known names ls at to ordered bare table =
    record { each = λ n. all-noted n at to ls (noted n names) ordered bare (table.each n) }
