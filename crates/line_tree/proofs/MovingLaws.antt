-- A mark that goes from one line of a tree to another.
use Rattle.line_tree.proofs.Common.{◌≡◌, ◌≢◌, ℕ, zero, suc, ◌+◌, ◌<◌, ◌≤◌, Bool, true, false, cond, List, [], ◌∷◌}
use Rattle.line_tree.proofs.Common.{length, map, take, drop, set, refl, sym, ap, ap₂, ◌∙◌, arith, is_some, slice_get}
use Rattle.line_tree.proofs.Common.{Option, None, Some, MatchOption, option_map, none-some, same_Some, slice_get-map}
use Rattle.line_tree.proofs.Common.{take-map, length-map, nat_cmp, nat_cmp_total, eq_by_cmp, eq_self, tied_same, Place}
use Rattle.line_tree.proofs.Common.{LineContent, Named, NodePtr, contents, without_mark, whole, spliced, whole-without}
use Rattle.line_tree.proofs.Common.{AreLines, has_mark, IsTable, holder, noted, IsThere, changed, IsAloneAt}
use Rattle.line_tree.proofs.Common.{IsElsewhere, all_without, moved_to, with_mark}
use Rattle.line_lists.specs.Changes.{lines_marked}
use mathlib.Core.Bool.{false≢true}
use Rattle.line_tree.proofs.ChangingLaws.{changed-at}
use Rattle.line_tree.proofs.HolderLaws.{alone, holder-changed, not-first}
use Rattle.line_tree.proofs.ListedLaws.{held}
use Rattle.line_tree.proofs.OverLaws.{over-contents, over-there}
use Rattle.line_tree.proofs.TableLaws.{noted-set}
use Rattle.line_tree.proofs.TakeLaws.{no-mark}
use Rattle.std.specs.FinMap as finite

-- ---- lines that don't have it
same-without : (n : ℕ) (l : Named) → has_mark n l.1 ≡ false → (l.0, without_mark n l.1) ≡ l
same-without n l hasn't = ap (λ (line : LineContent). (l.0, line)) (no-mark n l.1 hasn't)

all-same : (n : ℕ) (ls : List Named) → holder n ls ≡ None → all_without n ls ≡ ls
all-same n [] none = refl
all-same n (l ∷ ls) none = let parts = not-first n l ls none in
    ap₂ (λ (x : Named) xs. x ∷ xs) (same-without n l parts.0) (all-same n ls parts.1)

none-first : (n : ℕ) (ls : List Named) (k : ℕ) → holder n ls ≡ None → holder n (take k ls) ≡ None
none-first n [] zero none = refl
none-first n [] (suc k) none = refl
none-first n (l ∷ ls) zero none = refl
none-first n (l ∷ ls) (suc k) none = let parts = not-first n l ls none in
    ap₂ (λ b o. cond b (Some l.0) o) parts.0 (none-first n ls k parts.1)

none-last : (n : ℕ) (ls : List Named) (k : ℕ) → holder n ls ≡ None → holder n (drop k ls) ≡ None
none-last n ls zero none = none
none-last n [] (suc k) none = refl
none-last n (l ∷ ls) (suc k) none = none-last n ls k (not-first n l ls none).1

-- ---- which line has it
-- it is in the line itself
pub alone-here : (n : ℕ) (ls : List Named) (k : ℕ) (p : NodePtr) (line : LineContent) → AreLines (contents ls) →
    slice_get ls k ≡ Some (p, line) → has_mark n line ≡ true → IsAloneAt n k ls
alone-here n ls k p line are at has =
    let others = alone n ls k (p, line) are.rows at has in record { before = others.0; behind = others.1 }

-- it isn't there, and a table says where it is
pub elsewhere : (n : ℕ) (ls : List Named) (k : ℕ) (p : NodePtr) (line : LineContent) (found : Option NodePtr) →
    AreLines (contents ls) → slice_get ls k ≡ Some (p, line) → has_mark n line ≡ false → found ≡ holder n ls
    → MatchOption found (IsAloneAt n k ls) (IsElsewhere n k ls)
elsewhere n ls k p line None are at hasn't is = record {
  before = none-first n ls k (sym is);
  behind = none-last n ls (suc k) (sym is);
}
elsewhere n ls k p line (Some q) are at hasn't is =
    let here = held n ls q (sym is) in
    let found = here.1 in
    record {
      at = here.0;
      named = ap (option_map (λ (l : Named). l.0)) found.at;
      other = λ same. false≢true (sym hasn't ∙ ap (λ (l : Named). has_mark n l.1) (same_Some (p, line) (q, found.line)
          (sym at ∙ ap (slice_get ls) (sym same) ∙ found.at)) ∙ found.has);
      alone = alone-here n ls here.0 q found.line are found.at found.has;
    }

-- ---- the lines
changed-nil : (k : ℕ) (f : LineContent → LineContent) → changed k f [] ≡ []
changed-nil zero f = refl
changed-nil (suc k) f = refl

-- where no other line has it
changed-alone : (n : ℕ) (ls : List Named) (k : ℕ) (new : LineContent) → holder n (take k ls) ≡ None →
    holder n (drop (suc k) ls) ≡ None → changed k (λ _. new) ls ≡ changed k (λ _. new) (all_without n ls)
changed-alone n [] k new before behind = refl
changed-alone n (l ∷ ls) zero new before behind = ap (λ xs. (l.0, new) ∷ xs) (sym (all-same n ls behind))
changed-alone n (l ∷ ls) (suc k) new before behind = let parts = not-first n l (take k ls) before in
    ap₂ (λ (x : Named) xs. x ∷ xs) (sym (same-without n l parts.0)) (changed-alone n ls k new parts.1 behind)

-- it is taken off the line that has it
taken-all : (n : ℕ) (ls : List Named) (k : ℕ) → holder n (take k ls) ≡ None → holder n (drop (suc k) ls) ≡ None →
    changed k (without_mark n) ls ≡ all_without n ls
taken-all n [] k before behind = changed-nil k (without_mark n)
taken-all n (l ∷ ls) zero before behind = ap (λ xs. (l.0, without_mark n l.1) ∷ xs) (sym (all-same n ls behind))
taken-all n (l ∷ ls) (suc k) before behind = let parts = not-first n l (take k ls) before in
    ap₂ (λ (x : Named) xs. x ∷ xs) (sym (same-without n l parts.0)) (taken-all n ls k parts.1 behind)

swapped : (ls : List Named) (j k : ℕ) (f g : LineContent → LineContent) → j ≢ k →
    changed j f (changed k g ls) ≡ changed k g (changed j f ls)
swapped [] j k f g apart =
    ap (changed j f) (changed-nil k g) ∙ changed-nil j f ∙ sym (ap (changed k g) (changed-nil j f) ∙ changed-nil k g)
swapped (l ∷ ls) zero zero f g apart = absurd (apart refl)
swapped (l ∷ ls) zero (suc k) f g apart = refl
swapped (l ∷ ls) (suc j) zero f g apart = refl
swapped (l ∷ ls) (suc j) (suc k) f g apart = ap (λ xs. l ∷ xs) (swapped ls j k f g (λ same. apart (ap suc same)))

pub names-stay : (ls : List Named) (j k : ℕ) (f : LineContent → LineContent) →
    option_map (λ (l : Named). l.0) (slice_get (changed k f ls) j) ≡ option_map (λ (l : Named). l.0) (slice_get ls j)
names-stay [] j k f = ap (λ ls. option_map (λ (l : Named). l.0) (slice_get ls j)) (changed-nil k f)
names-stay (l ∷ ls) zero zero f = refl
names-stay (l ∷ ls) zero (suc k) f = refl
names-stay (l ∷ ls) (suc j) zero f = refl
names-stay (l ∷ ls) (suc j) (suc k) f = names-stay ls j k f

-- put into the one, where no other has it
pub moved-alone : (n k : ℕ) (place : Place) (line : LineContent) (ls : List Named) → IsAloneAt n k ls →
    changed k (λ _. with_mark n place line) ls ≡ moved_to n k place line ls
moved-alone n k place line ls alone = changed-alone n ls k (with_mark n place line) alone.before alone.behind

-- and then taken off the other
pub moved-from : (n j k : ℕ) (place : Place) (line : LineContent) (ls : List Named) → IsAloneAt n j ls → j ≢ k →
    changed j (without_mark n) (changed k (λ _. with_mark n place line) ls) ≡ moved_to n k place line ls
moved-from n j k place line ls alone other =
    let new = with_mark n place line in
    swapped ls j k (without_mark n) (λ _. new) other
    ∙ ap (changed k (λ _. new)) (taken-all n ls j alone.before alone.behind)

-- ---- the marks of the lines
with-other : (q n : ℕ) (place : Place) (line : LineContent) → eq_by_cmp nat_cmp q n ≡ false →
    has_mark q (with_mark n place line) ≡ has_mark q line
with-other q n place line other =
    ap is_some (finite.get-insert nat_cmp_total line.marks n place q)
    ∙ ap (λ b. is_some (cond b (Some place) (finite.get line.marks q))) other

without-other : (q n : ℕ) (line : LineContent) → eq_by_cmp nat_cmp q n ≡ false →
    has_mark q (without_mark n line) ≡ has_mark q line
without-other q n line other =
    ap is_some (finite.get-remove nat_cmp_total line.marks n q)
    ∙ ap (λ b. is_some (cond b None (finite.get line.marks q))) other

has-put : (n : ℕ) (place : Place) (line : LineContent) → has_mark n (with_mark n place line) ≡ true
has-put n place line =
    ap is_some (finite.get-insert nat_cmp_total line.marks n place n)
    ∙ ap (λ b. is_some (cond b (Some place) (finite.get line.marks n))) (eq_self n)

hasn't-without : (n : ℕ) (line : LineContent) → has_mark n (without_mark n line) ≡ false
hasn't-without n line =
    ap is_some (finite.get-remove nat_cmp_total line.marks n n)
    ∙ ap (λ b. is_some (cond b None (finite.get line.marks n))) (eq_self n)

holder-other : (q n : ℕ) (ls : List Named) → eq_by_cmp nat_cmp q n ≡ false → holder q (all_without n ls) ≡ holder q ls
holder-other q n [] other = refl
holder-other q n (l ∷ ls) other =
    ap₂ (λ b o. cond b (Some l.0) o) (without-other q n l.1 other) (holder-other q n ls other)

holder-without : (n : ℕ) (ls : List Named) → holder n (all_without n ls) ≡ None
holder-without n [] = refl
holder-without n (l ∷ ls) = ap₂ (λ b o. cond b (Some l.0) o) (hasn't-without n l.1) (holder-without n ls)

holder-put : (n : ℕ) (ls : List Named) (k : ℕ) (l : Named) (new : LineContent) → holder n ls ≡ None →
    slice_get ls k ≡ Some l → has_mark n new ≡ true → holder n (changed k (λ _. new) ls) ≡ Some l.0
holder-put n [] k l new none at has = absurd (none-some l at)
holder-put n (x ∷ ls) zero l new none at has =
    ap (λ b. cond b (Some x.0) (holder n ls)) has ∙ ap (λ (y : Named). Some y.0) (same_Some x l at)
holder-put n (x ∷ ls) (suc k) l new none at has = let parts = not-first n x ls none in
    ap (λ b. cond b (Some x.0) (holder n (changed k (λ _. new) ls))) parts.0
    ∙ holder-put n ls k l new parts.1 at has

-- ---- the list of lines
contents-without : (n : ℕ) (ls : List Named) → contents (all_without n ls) ≡ map (without_mark n) (contents ls)
contents-without n [] = refl
contents-without n (l ∷ ls) = ap (λ xs. without_mark n l.1 ∷ xs) (contents-without n ls)

module _ (n k : ℕ) (place : Place) (p : NodePtr) (line : LineContent) (ls now : List Named)
    (at : slice_get ls k ≡ Some (p, line)) (within : k + 1 ≤ length (contents ls))
    (is : now ≡ moved_to n k place line ls) where
  abbrev free : List Named
  free = all_without n ls

  abbrev new : LineContent
  new = with_mark n place line

  here : slice_get free k ≡ Some (p, without_mark n line)
  here =
      slice_get-map (λ (l : Named). (l.0, without_mark n l.1)) ls k
      ∙ ap (option_map (λ (l : Named). (l.0, without_mark n l.1))) at

  low : k + 1 ≤ length (contents free)
  low =
      let long = ap length (contents-without n ls) ∙ length-map (contents ls) (without_mark n) in
      omega (arith, within, long)

  -- the line is there under its name
  pub moved-at : slice_get now k ≡ Some (p, new)
  moved-at =
      ap (λ ls. slice_get ls k) is ∙ changed-at free k (p, without_mark n line) (λ _. new) here

  pub moved-contents : contents now ≡ lines_marked n k place line (contents ls)
  moved-contents =
      over-contents free now k p (without_mark n line) new low here is
      ∙ ap (spliced k 1 (new ∷ [])) (contents-without n ls)

  pub moved-there : (start end : ℕ) → start ≡ length (whole (take k (contents ls))).columns →
      end ≡ start + length line.columns →
      IsThere now (record { index = k; name = p; start = start; end = end })
  moved-there start end starts ends =
      over-there free now k p (without_mark n line) new low here is start end
      (starts
      ∙ sym (ap (λ cs. length (whole (take k cs)).columns) (contents-without n ls)
      ∙ ap (λ cs. length (whole cs).columns) (take-map (without_mark n) k (contents ls))
      ∙ ap (λ (l : LineContent). length l.columns) (whole-without n (take k (contents ls))))) ends

  pub moved-table : (names grown : List (Option NodePtr)) → IsTable names ls → n < length grown →
      ((q : ℕ) → noted q grown ≡ noted q names) → IsTable (set grown n (Some p)) now
  moved-table names grown table room same = record {
    each = λ q. noted-set grown n q (Some p) room ∙ which q (eq_by_cmp nat_cmp q n) refl;
  } where
    which : (q : ℕ) (b : Bool) → eq_by_cmp nat_cmp q n ≡ b → cond b (Some p) (noted q grown) ≡ holder q now
    which q true tie =
        sym (ap (λ m. holder m now) (tied_same q n tie) ∙ ap (holder n) is
        ∙ holder-put n free k (p, without_mark n line) new (holder-without n ls) here (has-put n place line))
    which q false other =
        same q ∙ table.each q
        ∙ sym (ap (holder q) is ∙ holder-changed q k free (λ _. new) (λ l found.
        with-other q n place line other ∙ sym (without-other q n line other)
        ∙ ap (λ (x : Named). has_mark q x.1) (same_Some (p, without_mark n line) l (sym here ∙ found)))
        ∙ holder-other q n ls other)
