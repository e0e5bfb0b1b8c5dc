-- A line in another one's place, under its name, and what a table of names says then.
use Rattle.line_tree.proofs.Common.{◌≡◌, ℕ, suc, [], ◌∷◌, ◌+◌, ◌-◌, ◌≤◌, ◌++◌, cond, List, length, take, drop, refl}
use Rattle.line_tree.proofs.Common.{sym, ap, ap₂, IsLineAt, ◌∙◌, subst, arith, append_assoc, slice_get, Option, None}
use Rattle.line_tree.proofs.Common.{Some, plus-no_text, FitsSum, LineContent, line_count, Named, contents, total}
use Rattle.line_tree.proofs.Common.{NodePtr, plus, AreLines, IsCounted, NumbersBelow, count_of, has_mark, spliced}
use Rattle.line_tree.proofs.Common.{AreBare, IsTable, holder, lines_without, noted, changed, IsThere, whole, IfSome}
use Rattle.line_tree.proofs.Common.{◌<◌, take_at, length-take-le, same_Some, slice_get_within, LastLine}
use Rattle.line_tree.proofs.Common.{count-characters, ◌^◌}
use Rattle.std.proofs.Common.{option_map}
use Rattle.line_tree.proofs.ChangingLaws.{changed-at}
use Rattle.line_tree.proofs.HolderLaws.{none-out}
use Rattle.line_tree.proofs.ListedLaws.{Comes, comes-contents, comes-others, fits-counted, listed}
use Rattle.line_lists.specs.Lists.{Holds}
use Rattle.line_tree.proofs.PlaceLaws.{named_line}
use Rattle.line_tree.proofs.TakeLaws.{changed-is}
use Rattle.line_lists.proofs.LineStarts.{placed-most, start-behind}
use Rattle.line_tree.proofs.WalkLaws.{Passes, forgets, forgets-within, notes}

pub fits-one : (ls : List Named) (line : LineContent) → IsCounted (plus (count_of (contents ls)) (count_of (line ∷ [])))
    → FitsSum (plus (total ls) (line_count line))
fits-one ls line counted =
    subst (λ s. FitsSum (plus (total ls) s)) (plus-no_text (line_count line)) (fits-counted ls (line ∷ []) counted)

none-between : (ls : List Named) (k : ℕ) → AreBare k k ls
none-between ls k n = let e : k - k ≡ 0 = omega arith in ap (λ m. holder n (take m (drop k ls))) e

passes-one : (ls : List Named) (k : ℕ) (p : NodePtr) (line : LineContent) → AreLines (contents ls) →
    slice_get ls k ≡ Some (p, line) → Passes ls k (k + 1) k p line
passes-one ls k p line are at = record {
  are = are;
  marked = record {
    above = omega arith;
    below = omega arith;
    bare = none-between ls k;
    named = ap (option_map (λ (l : Named). l.0)) at;
  };
  is = at;
}

all-but-none : (names : List (Option NodePtr)) (ls : List Named) (k : ℕ) → IsTable names ls →
    IsTable names (lines_without k k ls)
all-but-none names ls k table = record { each = λ n. table.each n ∙ sym (none-out n k ls) }

-- the marks of the old line stand in the table
pub over-below : (names : List (Option NodePtr)) (ls : List Named) (k : ℕ) (p : NodePtr) (line : LineContent) →
    AreLines (contents ls) → IsTable names ls → slice_get ls k ≡ Some (p, line) →
    NumbersBelow (length names) line.marks
over-below names ls k p line are table at =
    forgets-within names ls k k (k + 1) k p line (passes-one ls k p line are at) (omega arith)
    (all-but-none names ls k table)

module _ (old now : List Named) (k : ℕ) (p : NodePtr) (was line : LineContent) (within : k + 1 ≤ length (contents old))
    (at : slice_get old k ≡ Some (p, was)) (is : now ≡ changed k (λ _. line) old) where
  comes : Comes old k 1 (line ∷ []) within now
  comes = let e : suc k ≡ k + 1 = omega arith in record {
    added = (p, line) ∷ [];
    contents_of = refl;
    is = is ∙ changed-is old k (p, was) (λ _. line) at
        ∙ sym (append_assoc (take k old) ((p, line) ∷ []) (drop (suc k) old))
        ∙ ap (λ n. (take k old ++ (p, line) ∷ []) ++ drop n old) e;
  }

  pub over-contents : contents now ≡ spliced k 1 (line ∷ []) (contents old)
  over-contents = comes-contents old k 1 (line ∷ []) within now comes

  here : slice_get now k ≡ Some (p, line)
  here = ap (λ ls. slice_get ls k) is ∙ changed-at old k (p, was) (λ _. line) at

  -- it is where the old one was
  pub over-there : (start end : ℕ) → start ≡ length (whole (take k (contents old))).columns →
      end ≡ start + length line.columns →
      IsThere now (record { index = k; name = p; start = start; end = end })
  over-there start end starts ends =
      let front = take k (contents old) in
      let same : take k (contents now) ≡ front = ap (take k) over-contents
      ∙ ap (take k) (append_assoc front (line ∷ []) (drop (k + 1) (contents old)))
      ∙ take_at front (line ∷ drop (k + 1) (contents old)) k (length-take-le k (contents old) (omega (arith, within))) in
      record {
        name = ap (option_map (λ (l : Named). l.0)) here;
        start = starts ∙ ap (λ ls. length (whole ls).columns) (sym same);
        end = λ found there. ends ∙ ap (λ (l : LineContent). start + length l.columns)
            (same_Some line found (sym (listed now k p line here) ∙ there));
      }

  -- where the old one's marks were forgotten, and then the new one's were noted
  pub over-table : (names between after : List (Option NodePtr)) → AreLines (contents old) → AreLines (contents now) →
      IsTable names old → ((n : ℕ) → noted n between ≡ cond (has_mark n was) None (noted n names)) →
      ((n : ℕ) → noted n after ≡ cond (has_mark n line) (Some p) (noted n between)) → IsTable after now
  over-table names between after are are_now table forgot note =
      let low : k ≤ k = omega arith in
      let gone = forgets names between old k k (k + 1) k p was (passes-one old k p was are at) low
      (all-but-none names old k table) forgot in
      let same = comes-others old k 1 (line ∷ []) within now comes in
      let others : IsTable between (lines_without k (k + 1) now) =
      record { each = λ n. gone.each n ∙ sym (ap (holder n) same) } in
      let all = notes between after now k (k + 1) k p line (passes-one now k p line are_now here) others note in
      record { each = λ n. all.each n ∙ none-out n (k + 1) now }

-- an offset in the line that is remembered
pub last-holds : (ls : List Named) (last : LastLine) (offset : ℕ) → IsThere ls last → last.start ≤ offset →
    offset < last.end → Holds (contents ls) offset last.index (offset - last.start)
last-holds ls last offset there above below =
    let named = named_line ls last.index last.name there.name in
    let line = named.0.1 in
    let is = listed ls last.index named.0.0 line named.1 in
    let end = there.end line is in
    record {
      behind = omega (arith, there.start, above);
      inside = subst (λ found. IfSome found (λ (l : LineContent). offset - last.start < length l.columns)) (sym is)
          (omega (arith, end, above, below));
      within = slice_get_within (contents ls) last.index line is;
    }

-- where the line that is remembered ends
pub last-within : (ls : List Named) (last : LastLine) → IsThere ls last → last.index < length (contents ls)
last-within ls last there =
    let named = named_line ls last.index last.name there.name in
    slice_get_within (contents ls) last.index named.0.1 (listed ls last.index named.0.0 named.0.1 named.1)

pub last-ends : (ls : List Named) (last : LastLine) → IsThere ls last →
    last.end ≡ length (whole (take (last.index + 1) (contents ls))).columns
last-ends ls last there =
    let named = named_line ls last.index last.name there.name in
    let line = named.0.1 in
    let is = listed ls last.index named.0.0 line named.1 in
    let next : suc last.index ≡ last.index + 1 = omega arith in
    there.end line is
    ∙ start-behind (contents ls) last.index last.start (length line.columns) line (last-within ls last there) there.start
    is refl
    ∙ ap (λ k. length (whole (take k (contents ls))).columns) next

-- a line that is found with where it begins
pub placed-there : (ls : List Named) (k start len : ℕ) (name : NodePtr) (line : LineContent) →
    start ≡ length (whole (take k (contents ls))).columns → slice_get ls k ≡ Some (name, line) →
    len ≡ length line.columns →
    IsThere ls (record { index = k; name = name; start = start; end = start + len })
placed-there ls k start len name line starts at is = record {
  name = ap (option_map (λ (l : Named). l.0)) at;
  start = starts;
  end = λ found there. ap (λ n. start + n) is ∙ ap (λ (l : LineContent). start + length l.columns)
      (same_Some line found (sym (listed ls k name line at) ∙ there));
}

pub placed-fits : (ls : List Named) (k start : ℕ) (name : NodePtr) (line : LineContent) → AreLines (contents ls) →
    start ≡ length (whole (take k (contents ls))).columns → slice_get ls k ≡ Some (name, line) →
    start + length line.columns < 2 ^ 64
placed-fits ls k start name line are starts at =
    omega (
      arith,
      placed-most (contents ls) k start (length line.columns) line starts (listed ls k name line at) (omega arith),
      are.counted.characters,
      count-characters (contents ls),
    )

-- a line with its name, from each alone
pub named-listed : (ls : List Named) (k : ℕ) (name : NodePtr) (line : LineContent) → IsLineAt ls k name →
    slice_get (contents ls) k ≡ Some line → slice_get ls k ≡ Some (name, line)
named-listed ls k name line at is =
    let found = named_line ls k name at in
    let same = same_Some found.0.1 line (sym (listed ls k found.0.0 found.0.1 found.1) ∙ is) in
    found.1 ∙ ap₂ (λ (n : NodePtr) (l : LineContent). Some (n, l)) found.2 same
