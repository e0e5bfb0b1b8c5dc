-- The mark of a number is taken off its line.
use Rattle.line_tree.proofs.Common.{◌≡◌, ℕ, suc, ◌<◌, Bool, true, false, cond, List, [], ◌∷◌, ◌++◌, length, map, take}
use Rattle.line_tree.proofs.Common.{drop, set, refl, sym, ap, ap₂, ◌∙◌, subst, is_some, slice_get, Option, None, Some}
use Rattle.line_tree.proofs.Common.{nat_cmp_total, eq_by_cmp, nat_cmp, map-append, LineContent, Named, contents}
use Rattle.line_tree.proofs.Common.{NodePtr, tied_same, without_mark, AreLines, has_mark, drop_after, same-line}
use Rattle.line_tree.proofs.Common.{lines-are-without, IsTable, holder, noted, changed, append_assoc, ◌+◌, IfSome}
use Rattle.line_tree.proofs.Common.{IsThere, none-some, option_map, same_Some, slice_get-map, take-map, whole}
use Rattle.line_tree.proofs.Common.{whole-without, LastLine}
use mathlib.Core.Bool.{false≢true}
use Rattle.line_tree.proofs.HolderLaws.{alone, first, holder-append, not-first, whole-list}
use Rattle.line_tree.proofs.ListedLaws.{HeldAt}
use Rattle.line_tree.proofs.TableLaws.{noted-set, noted-within}
use Rattle.std.specs.FinMap as finite

-- ---- the line of the mark
-- line k has it, and no other
pub record IsOnlyIn (n : ℕ) (ls : List Named) (k : ℕ) : Type 0 where
  pub line : Named
  pub at : slice_get ls k ≡ Some line
  pub has : has_mark n line.1 ≡ true
  pub before : holder n (take k ls) ≡ None
  pub behind : holder n (drop (suc k) ls) ≡ None

pub only-in : (n : ℕ) (ls : List Named) (p : NodePtr) (k : ℕ) → AreLines (contents ls) → HeldAt n ls p k →
    IsOnlyIn n ls k
only-in n ls p k are held =
    let others = alone n ls k (p, held.line) are.rows held.at held.has in
    record { line = (p, held.line); at = held.at; has = held.has; before = others.0; behind = others.1 }

-- the lines with another in its place
put-in : (ls : List Named) (k : ℕ) (l : Named) → slice_get ls k ≡ Some l → take k ls ++ l ∷ drop (suc k) ls ≡ ls
put-in ls k l at = ap (λ xs. take k ls ++ xs) (sym (drop_after ls k l at)) ∙ whole-list k ls

pub changed-is : (ls : List Named) (k : ℕ) (l : Named) (f : LineContent → LineContent) → slice_get ls k ≡ Some l →
    changed k f ls ≡ take k ls ++ (l.0, f l.1) ∷ drop (suc k) ls
changed-is ls k l f at =
    ap (λ xs. (take k ls ++ map (λ (x : Named). (x.0, f x.1)) (take 1 xs)) ++ drop (suc k) ls) (drop_after ls k l at)
    ∙ append_assoc (take k ls) ((l.0, f l.1) ∷ []) (drop (suc k) ls)

-- ---- the lines
pub no-mark : (n : ℕ) (line : LineContent) → has_mark n line ≡ false → without_mark n line ≡ line
no-mark n line hasn't =
    elim (finite.get line.marks n) as (λ o. finite.get line.marks n ≡ o → without_mark n line ≡ line) [
      | None ↦ λ free. same-line n line free
      | Some place ↦ λ is. absurd (false≢true (sym hasn't ∙ ap is_some is))
    ] refl

pub same-contents : (n : ℕ) (ls : List Named) → holder n ls ≡ None → map (without_mark n) (contents ls) ≡ contents ls
same-contents n [] none = refl
same-contents n (l ∷ ls) none = let parts = not-first n l ls none in
    ap₂ (λ x xs. x ∷ xs) (no-mark n l.1 parts.0) (same-contents n ls parts.1)

pub taken-lines : (n : ℕ) (ls now : List Named) (k : ℕ) → IsOnlyIn n ls k → now ≡ changed k (without_mark n) ls →
    contents now ≡ map (without_mark n) (contents ls)
taken-lines n ls now k only is =
    let front = take k ls in let back = drop (suc k) ls in let w = without_mark n in let l = only.line in
    ap contents (is ∙ changed-is ls k l w only.at)
    ∙ map-append (λ (x : Named). x.1) front ((l.0, w l.1) ∷ back)
    ∙ sym (ap (λ xs. map w (contents xs)) (sym (put-in ls k l only.at))
    ∙ ap (map w) (map-append (λ (x : Named). x.1) front (l ∷ back))
    ∙ map-append w (contents front) (contents (l ∷ back))
    ∙ ap₂ (λ xs ys. xs ++ (w l.1 ∷ ys)) (same-contents n front only.before) (same-contents n back only.behind))

pub taken-are : (n : ℕ) (ls now : List Named) (k : ℕ) → AreLines (contents ls) → IsOnlyIn n ls k →
    now ≡ changed k (without_mark n) ls → AreLines (contents now)
taken-are n ls now k are only is =
    subst AreLines (sym (taken-lines n ls now k only is)) (lines-are-without n (contents ls) are)

-- ---- a line that is remembered
taken-names : (n : ℕ) (ls now : List Named) (k : ℕ) → IsOnlyIn n ls k → now ≡ changed k (without_mark n) ls →
    map (λ (l : Named). l.0) now ≡ map (λ (l : Named). l.0) ls
taken-names n ls now k only is =
    let front = take k ls in let back = drop (suc k) ls in let l = only.line in let name = λ (x : Named). x.0 in
    ap (map name) (is ∙ changed-is ls k l (without_mark n) only.at)
    ∙ map-append name front ((l.0, without_mark n l.1) ∷ back)
    ∙ sym (map-append name front (l ∷ back))
    ∙ ap (map name) (put-in ls k l only.at)

taken-line : (n start end : ℕ) (o : Option LineContent) (now : LineContent) →
    ((line : LineContent) → o ≡ Some line → end ≡ start + length line.columns) →
    option_map (without_mark n) o ≡ Some now → end ≡ start + length now.columns
taken-line n start end None now ends is = absurd (none-some now is)
taken-line n start end (Some line) now ends is =
    ends line refl ∙ ap (λ (l : LineContent). start + length l.columns) (same_Some (without_mark n line) now is)

-- is where it was
pub taken-there : (n : ℕ) (ls now : List Named) (k : ℕ) (last : Option LastLine) → IsOnlyIn n ls k →
    now ≡ changed k (without_mark n) ls → IfSome last (IsThere ls) → IfSome last (IsThere now)
taken-there n ls now k None only is there = tt
taken-there n ls now k (Some last) only is there =
    let name = λ (x : Named). x.0 in let w = without_mark n in let i = last.index in
    let lines = taken-lines n ls now k only is in
    record {
      name = sym (slice_get-map name now i) ∙ ap (λ ps. slice_get ps i) (taken-names n ls now k only is)
          ∙ slice_get-map name ls i ∙ there.name;
      start = there.start ∙ sym (ap (λ cs. length (whole (take i cs)).columns) lines
          ∙ ap (λ cs. length (whole cs).columns) (take-map w i (contents ls))
          ∙ ap (λ (line : LineContent). length line.columns) (whole-without n (take i (contents ls))));
      end = λ line at. taken-line n last.start last.end (slice_get (contents ls) i) line there.end
          (sym (slice_get-map w (contents ls) i) ∙ ap (λ cs. slice_get cs i) (sym lines) ∙ at);
    }

-- ---- the table
holder-here : (n : ℕ) (ls : List Named) (k : ℕ) (l : Named) → slice_get ls k ≡ Some l →
    holder n ls ≡ first (holder n (take k ls)) (cond (has_mark n l.1) (Some l.0) (holder n (drop (suc k) ls)))
holder-here n ls k l at = ap (holder n) (sym (put-in ls k l at)) ∙ holder-append n (take k ls) (l ∷ drop (suc k) ls)

pub noted-there : (n : ℕ) (names : List (Option NodePtr)) (ls : List Named) (k : ℕ) → IsOnlyIn n ls k →
    IsTable names ls → n < length names
noted-there n names ls k only table =
    noted-within names n only.line.0
    (table.each n ∙ holder-here n ls k only.line only.at
    ∙ ap₂ (λ o b. first o (cond b (Some only.line.0) (holder n (drop (suc k) ls)))) only.before only.has)

pub taken-table : (n : ℕ) (names : List (Option NodePtr)) (ls now : List Named) (k : ℕ) → IsOnlyIn n ls k →
    IsTable names ls → now ≡ changed k (without_mark n) ls → IsTable (set names n None) now
taken-table n names ls now k only table is = record {
  each = λ q. noted-set names n q None (noted-there n names ls k only table) ∙ which q (eq_by_cmp nat_cmp q n) refl
      ∙ sym (after q);
} where
  after : (q : ℕ) → holder q now ≡ first (holder q (take k ls))
      (cond (is_some (cond (eq_by_cmp nat_cmp q n) None (finite.get only.line.1.marks q))) (Some only.line.0)
      (holder q (drop (suc k) ls)))
  after q =
      ap (holder q) (is ∙ changed-is ls k only.line (without_mark n) only.at)
      ∙ holder-append q (take k ls) ((only.line.0, without_mark n only.line.1) ∷ drop (suc k) ls)
      ∙ ap (λ o. first (holder q (take k ls)) (cond (is_some o) (Some only.line.0) (holder q (drop (suc k) ls))))
      (finite.get-remove nat_cmp_total only.line.1.marks n q)

  which : (q : ℕ) (b : Bool) → eq_by_cmp nat_cmp q n ≡ b
      → cond b None (noted q names) ≡ first (holder q (take k ls))
      (cond (is_some (cond b None (finite.get only.line.1.marks q))) (Some only.line.0)
      (holder q (drop (suc k) ls)))
  which q true tie =
      let same : n ≡ q = sym (tied_same q n tie) in
      sym (ap₂ first (ap (λ m. holder m (take k ls)) (sym same)
      ∙ only.before) (ap (λ m. holder m (drop (suc k) ls)) (sym same) ∙ only.behind))
  which q false other = table.each q ∙ holder-here q ls k only.line only.at
