-- A tree with a table of names as a list of lines.
use Rattle.line_tree.proofs.Common.{◌≡◌, ℕ, zero, suc, ◌+◌, ◌-◌, ◌^◌, ◌<◌, ◌≤◌, Bool, true, false, cond, List, [], ◌∷◌}
use Rattle.line_tree.proofs.Common.{◌++◌, length, take, drop, refl, sym, ap, ap₂, ◌∙◌, subst, arith, length-append}
use Rattle.line_tree.proofs.Common.{IfSome, is_some, slice_get, slice_range, Option, None, Some, All, nat_cmp}
use Rattle.line_tree.proofs.Common.{drop-append_seam, take-append_seam, drop-map, length-take-le, map-append, take-map}
use Rattle.line_tree.proofs.Common.{none-some, same_Some, slice_get-map, slice_get_within, Count, plus, FitsSum}
use Rattle.line_tree.proofs.Common.{LineContent, plain_line, Named, contents, total, NodePtr, AreLines, IsCounted}
use Rattle.line_tree.proofs.Common.{NumbersBelow, count_of, has_mark, next_line, spliced, whole, count-characters}
use Rattle.line_tree.proofs.Common.{count-lines, FailFrom, NextAt, new-lines, IsPlaceAt, IsTable, holder, lines_without}
use Rattle.line_tree.proofs.Common.{noted, IsLineAt, append_assoc, length-drop, AreRows, IsThere, LastLine, IsMarked}
use Rattle.std.proofs.Common.{option_map}
use Rattle.line_lists.specs.Lists.{Holds}
use Rattle.line_tree.proofs.HolderLaws.{alone, not-first}
use Rattle.line_tree.proofs.NearestLaws.{long, next-is, next-no}
use Rattle.line_tree.proofs.PrefixLaws.{count-contents, count-first}
use Rattle.std.specs.FinMap as finite

-- ---- a new tree
pub new-are : (ls : List Named) (p : NodePtr) → ls ≡ (p, plain_line (10 ∷ [])) ∷ [] → AreLines (contents ls)
new-are ls p is = new-lines (contents ls) (ap contents is)

nothing-noted : (n : ℕ) (names : List (Option NodePtr)) → names ≡ [] → noted n names ≡ None
nothing-noted zero names none = ap (noted 0) none
nothing-noted (suc n) names none = ap (noted (suc n)) none

pub new-table : (names : List (Option NodePtr)) (ls : List Named) (p : NodePtr) → names ≡ [] →
    ls ≡ (p, plain_line (10 ∷ [])) ∷ [] → IsTable names ls
new-table names ls p none is = record {
  each = λ n. nothing-noted n names none ∙ sym (ap (holder n) is
      ∙ ap (λ o. cond (is_some o) (Some p) None) (finite.get-empty nat_cmp n));
}

-- ---- places
pub characters-in : (ls : List Named) → length (whole (contents ls)).columns ≡ (total ls).characters
characters-in ls = sym (count-characters (contents ls)) ∙ ap (λ (c : Count). c.characters) (count-contents ls)

pub place-holds : (ls : List Named) (offset line column : ℕ) → IsPlaceAt ls offset line column →
    Holds (contents ls) offset line column
place-holds ls offset line column at =
    let front = ap (λ (c : Count). c.characters) (count-first line ls) in
    let same = count-characters (take line (contents ls)) in
    let offset_is = at.offset in
    let within = slice_get_within ls line at.line at.at in
    let l = long ls in
    record {
      behind = omega (arith, front, same, offset_is);
      inside = subst (λ found. IfSome found (λ (here : LineContent). column < length here.columns))
          (sym (slice_get-map (λ (x : Named). x.1) ls line ∙ ap (option_map (λ (x : Named). x.1)) at.at)) at.within;
      within = omega (arith, within, l);
    }

-- a line that is lent by its name
pub listed : (ls : List Named) (k : ℕ) (p : NodePtr) (line : LineContent) → slice_get ls k ≡ Some (p, line) →
    slice_get (contents ls) k ≡ Some line
listed ls k p line is = slice_get-map (λ (l : Named). l.1) ls k ∙ ap (option_map (λ (l : Named). l.1)) is

-- the line that a walk comes to
pub walked : (ls : List Named) (k : ℕ) (o : Option NodePtr) →
    o ≡ option_map (λ (l : Named). l.0) (slice_get ls k) → IfSome o (IsLineAt ls k)
walked ls k None is = tt
walked ls k (Some p) is = sym is

-- ---- the line of a mark
pub nowhere : (n : ℕ) (ls : List Named) → holder n ls ≡ None → next_line (has_mark n) 0 (contents ls) ≡ None
nowhere n ls none = next-no (has_mark n) 0 (contents ls) (fails ls none) where
  fails : (ls : List Named) → holder n ls ≡ None → FailFrom (has_mark n) (contents ls) 0 (length (contents ls))
  fails [] none j more less = absurd (omega (arith, less))
  fails (l ∷ ls) none zero more less = (not-first n l ls none).0
  fails (l ∷ ls) none (suc j) more less = fails ls (not-first n l ls none).1 j (omega arith) (omega (arith, less))

-- the first line that has it
pub record HeldAt (n : ℕ) (ls : List Named) (p : NodePtr) (k : ℕ) : Type 0 where
  pub line : LineContent
  pub at : slice_get ls k ≡ Some (p, line)
  pub has : has_mark n line ≡ true
  pub next : NextAt (has_mark n) 0 (contents ls) k

held-first : (n : ℕ) (l : Named) (ls : List Named) (p : NodePtr) → has_mark n l.1 ≡ true → l.0 ≡ p →
    HeldAt n (l ∷ ls) p 0
held-first n l ls p has is = record {
  line = l.1;
  at = ap (λ q. Some (q, l.1)) is;
  has = has;
  next = record {
    above = omega arith;
    within = omega arith;
    passes = has;
    free = λ j more less. absurd (omega (arith, less));
  };
}

fails-more : (n : ℕ) (l : Named) (ls : List Named) (k : ℕ) → has_mark n l.1 ≡ false →
    FailFrom (has_mark n) (contents ls) 0 k → FailFrom (has_mark n) (contents (l ∷ ls)) 0 (suc k)
fails-more n l ls k hasn't free zero more less = hasn't
fails-more n l ls k hasn't free (suc j) more less = free j (omega arith) (omega (arith, less))

held-behind : (n : ℕ) (l : Named) (ls : List Named) (p : NodePtr) (k : ℕ) → has_mark n l.1 ≡ false → HeldAt n ls p k →
    HeldAt n (l ∷ ls) p (suc k)
held-behind n l ls p k hasn't at = let inside = at.next.within in record {
  line = at.line;
  at = at.at;
  has = at.has;
  next = record {
    above = omega arith;
    within = omega (arith, inside);
    passes = at.next.passes;
    free = fails-more n l ls k hasn't at.next.free;
  };
}

pub held : (n : ℕ) (ls : List Named) (p : NodePtr) → holder n ls ≡ Some p → (k : ℕ) × HeldAt n ls p k
held n [] p is = absurd (none-some p is)
held n (l ∷ ls) p is = which (has_mark n l.1) refl is (held n ls p) where
  which : (b : Bool) → has_mark n l.1 ≡ b → cond b (Some l.0) (holder n ls) ≡ Some p →
      (holder n ls ≡ Some p → (k : ℕ) × HeldAt n ls p k) → (k : ℕ) × HeldAt n (l ∷ ls) p k
  which true has is rest = (0, held-first n l ls p has (same_Some l.0 p is))
  which false hasn't is rest = let r = rest is in (suc r.0, held-behind n l ls p r.0 hasn't r.1)

pub held-name : (n : ℕ) (ls : List Named) (p : NodePtr) (k : ℕ) → HeldAt n ls p k → IsLineAt ls k p
held-name n ls p k at = ap (option_map (λ (l : Named). l.0)) at.at

pub held-next : (n : ℕ) (ls : List Named) (p : NodePtr) (k : ℕ) → HeldAt n ls p k →
    next_line (has_mark n) 0 (contents ls) ≡ Some k
held-next n ls p k at = next-is (has_mark n) 0 (contents ls) k at.next

-- a line that has it is the first that has it
held-there : (n : ℕ) (ls : List Named) (p : NodePtr) (line : LineContent) (k : ℕ) → AreRows (contents ls) →
    slice_get ls k ≡ Some (p, line) → has_mark n line ≡ true → HeldAt n ls p k
held-there n [] p line k rows at has = absurd (none-some (p, line) at)
held-there n (l ∷ ls) p line zero rows at has =
    let same = same_Some l (p, line) at in
    held-first n l ls p (ap (λ (m : Named). has_mark n m.1) same ∙ has) (ap (λ (m : Named). m.0) same)
held-there n (l ∷ ls) p line (suc k) rows at has =
    let before = (alone n (l ∷ ls) (suc k) (p, line) rows at has).0 in
    held-behind n l ls p k (not-first n l (take k ls) before).0 (held-there n ls p line k rows.2 at has)

-- the line that is remembered, if it has it
pub marked-there : (n : ℕ) (ls : List Named) (last : LastLine) (line : LineContent) → AreLines (contents ls) →
    IsThere ls last → slice_get ls last.index ≡ Some (last.name, line) → has_mark n line ≡ true →
    IsMarked n (contents ls) last.start line
marked-there n ls last line are there at has = record {
  index = last.index;
  first = held-next n ls last.name last.index (held-there n ls last.name line last.index are.rows at has);
  starts = there.start;
  there = listed ls last.index last.name line at;
}

-- ---- a splice
pub fits-counted : (ls : List Named) (new : List LineContent) →
    IsCounted (plus (count_of (contents ls)) (count_of new)) → FitsSum (plus (total ls) (count_of new))
fits-counted ls new counted =
    let c = subst (λ s. IsCounted (plus s (count_of new))) (count-contents ls) counted in
    record { lines = c.lines; characters = c.characters; marks = c.marks }

-- the numbers of a splice
module _ (old : List Named) (from count : ℕ) (new : List LineContent) (within : from + count
    ≤ length (contents old)) where
  spliced-long : length (spliced from count new (contents old)) + count ≡ length old + length new
  spliced-long =
      let xs = contents old in let l = long old in
      let a = length-append (take from xs ++ new) (drop (from + count) xs) in
      let b = length-append (take from xs) new in
      let c = length-take-le from xs (omega arith) in let d = length-drop (from + count) xs in omega arith

  pub end-fits : AreLines (spliced from count new (contents old)) → from + length new < 2 ^ 64
  end-fits are = let a = spliced-long in let b = count-lines (spliced from count new (contents old)) in
      let c = are.counted.lines in let l = long old in omega arith

  pub gone-fits : AreLines (contents old) → from + count < 2 ^ 64
  gone-fits are = let b = count-lines (contents old) in let c = are.counted.lines in omega arith

  pub some-left : AreLines (spliced from count new (contents old)) → count < length old + length new
  some-left are = let a = spliced-long in let b = are.some in omega arith

  -- the lines that come are there, with names
  pub record Comes (now : List Named) : Type 0 where
    pub added : List Named
    pub contents_of : contents added ≡ new
    pub is : now ≡ take from old ++ added ++ drop (from + count) old

  pub comes-contents : (now : List Named) → Comes now → contents now ≡ spliced from count new (contents old)
  comes-contents now comes =
      ap contents comes.is ∙ map-append (λ (l : Named). l.1) (take from old ++ comes.added) (drop (from + count) old)
      ∙ ap₂ (λ xs ys. xs ++ ys)
      (map-append (λ (l : Named). l.1) (take from old) comes.added
      ∙ ap₂ (λ xs ys. xs ++ ys) (sym (take-map (λ (l : Named). l.1) from old)) comes.contents_of)
      (sym (drop-map (λ (l : Named). l.1) (from + count) old))

  front-long : (now : List Named) (comes : Comes now) → length (take from old ++ comes.added) ≡ from + length new
  front-long now comes =
      let a = length-append (take from old) comes.added in let l = long old in
      let b = length-take-le from old (omega arith) in
      let c = ap length comes.contents_of in let d = long comes.added in omega arith

  pub comes-long : (now : List Named) → Comes now → from + length new ≤ length now
  comes-long now comes = let a = front-long now comes in let b = ap length comes.is in
      let c = length-append (take from old ++ comes.added) (drop (from + count) old) in omega arith

  -- but for these lines the others are as before
  pub comes-others : (now : List Named) → Comes now → lines_without from (from + length new) now
      ≡ lines_without from (from + count) old
  comes-others now comes =
      let front = take from old ++ comes.added in let back = drop (from + count) old in
      let l = long old in
      let first : take from now ≡ take from old =
      ap (take from) (comes.is ∙ append_assoc (take from old) comes.added back)
      ∙ front_of from (take from old) (comes.added ++ back) (length-take-le from old (omega arith)) in
      let last : drop (from + length new) now ≡ back =
      ap₂ drop (sym (front-long now comes)) comes.is ∙ drop-append_seam front back in
      ap₂ (λ xs ys. xs ++ ys) first last
    where
      front_of : (n : ℕ) (xs ys : List Named) → length xs ≡ n → take n (xs ++ ys) ≡ xs
      front_of n xs ys is = ap (λ m. take m (xs ++ ys)) (sym is) ∙ take-append_seam xs ys

  pub comes-between : (now : List Named) → Comes now → slice_range (contents now) from (from + length new) ≡ new
  comes-between now comes =
      let back = drop (from + count) (contents old) in
      let l = long old in
      let e : (from + length new) - from ≡ length new = omega arith in
      let n : length (take from (contents old)) ≡ from = length-take-le from (contents old) (omega arith) in
      ap (λ xs. slice_range xs from (from + length new)) (comes-contents now comes
      ∙ append_assoc (take from (contents old)) new back)
      ∙ ap (λ xs. take ((from + length new) - from) xs)
      (ap (λ m. drop m (take from (contents old) ++ (new ++ back))) (sym n)
      ∙ drop-append_seam (take from (contents old)) (new ++ back))
      ∙ ap (λ m. take m (new ++ back)) e ∙ take-append_seam new back

  pub comes-below : (now : List Named) (bound : ℕ) → Comes now →
      All (λ (line : LineContent). NumbersBelow bound line.marks) new
      → All (λ (line : LineContent). NumbersBelow bound line.marks)
      (slice_range (contents now) from (from + length new))
  comes-below now bound comes all =
      subst (All (λ (line : LineContent). NumbersBelow bound line.marks)) (sym (comes-between now comes)) all
