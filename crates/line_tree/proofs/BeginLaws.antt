-- How many characters stand before a line, from its name up to the root.
use Rattle.line_tree.proofs.Common.{◌≡◌, ℕ, zero, suc, ◌+◌, ◌-◌, ◌<◌, ◌≤◌, List, take, drop, refl, sym, ap, ◌∙◌, subst}
use Rattle.line_tree.proofs.Common.{arith, IfSome, Option, Some, option_map, take-append-drop, same_Some}
use Rattle.line_tree.proofs.Common.{slice_get_within, IsTree, lines_in, Named, total, NodePtr, Records, kids, sum_all}
use Rattle.line_tree.proofs.Common.{characters-add, characters_behind, lines-add, nothing-adds, Begins, IsChild}
use Rattle.line_tree.proofs.Common.{IsLineAt, characters_before, CharactersBefore}
use Rattle.line_tree.proofs.PlaceLaws.{child-parent, child-slot, line-within, named_line, through}
use Rattle.line_tree.proofs.SearchLaws.{Passes, arrives-before, passes-line, passes-start, passes-step, wide-all}
use Rattle.line_tree.proofs.SumLaws.{total-append}
use Rattle.line_tree.proofs.TreeLaws.{at_line, child-tree, count-tree, total-lines}
use Rattle.std.specs.FinMap as finite

-- ---- from the root down to a line
begins-line : (m : Records) (h d : ℕ) (r q p : NodePtr) (ls : List Named) (k o : ℕ) (old b : CharactersBefore) →
    old.characters ≡ 0 → IsTree m h q → Passes (λ s. s.lines) characters_behind ls (lines_in m h q) k o old b
    → Begins m d h r q b.characters → IsLineAt (lines_in m h q) o p
    → Begins m (d + h) 0 r p (total (take k ls)).characters
begins-line m zero d r q p ls k o old b none tree w begins at =
    let e : d ≡ d + 0 = omega arith in
    let same = same_Some q p (sym (at_line m q o (line-within (lines_in m zero q) o p at)) ∙ at) in
    let all = (total (take k ls)).characters in
    let so_far = ap (λ (a : CharactersBefore). a.characters)
    (arrives-before (passes-line characters-add m q ls k o old b w)) in
    let is : b.characters ≡ all = omega arith in
    subst (λ x. Begins m x 0 r p all) e (subst (λ x. Begins m d 0 r x all) same
    (subst (λ x. Begins m d 0 r q x) is begins))
begins-line m (suc h) d r q p ls k o old b none tree w begins at =
    let l = named_line (lines_in m (suc h) q) o p at in
    let t = through m h (kids m q) o l.0 tree.2 l.1 in
    let child = child-tree m h (kids m q) t.slot t.child tree.2 t.at in
    let before = sum_all m (take t.slot (kids m q)) in
    let lines = wide-all nothing-adds m (take t.slot (kids m q)) in let place = t.place in
    let less = slice_get_within (lines_in m h t.child) t.rest l.0 t.line in
    let count = count-tree m h t.child child in
    let step = passes-step characters-add m h q ls k o old b tree w t.slot t.child t.rest (characters_behind b before)
    t.at (omega arith) (omega arith) refl in
    let levels : suc d + h ≡ d + suc h = omega arith in
    subst (λ x. Begins m x 0 r p (total (take k ls)).characters) levels
    (begins-line m h (suc d) r t.child p ls k t.rest old (characters_behind b before) none step.0 step.1 (
      q,
      t.slot,
      b.characters,
      begins,
      record { tree = tree; at = t.at },
      ap (λ n. b.characters + n) (wide-all lines-add m (take t.slot (kids m q))),
    ) (ap (option_map (λ x. x.0)) t.line ∙ ap (λ x. Some x) l.2))

-- a line of the root
pub begins-named : (m : Records) (h : ℕ) (r p : NodePtr) (k : ℕ) → IsTree m h r → IsLineAt (lines_in m h r) k p →
    Begins m h 0 r p (total (take k (lines_in m h r))).characters
begins-named m h r p k tree at = let ls = lines_in m h r in let d : 0 + h ≡ h = omega arith in
    let count = total-lines ls in let within = line-within ls k p at in
    let none : CharactersBefore = record { characters = 0 } in
    subst (λ x. Begins m x 0 r p (total (take k ls)).characters) d
    (begins-line m h 0 r r p ls k k none none refl tree (passes-start characters-add ls k none (omega arith)) (refl, refl)
    at)

-- no more than all characters
pub first-characters : (k : ℕ) (ls : List Named) → (total (take k ls)).characters ≤ (total ls).characters
first-characters k ls = let all = ap (λ s. s.characters)
    (ap total (sym (take-append-drop k ls)) ∙ total-append (take k ls) (drop k ls)) in omega arith

-- ---- one level up
pub begins-level : (m : Records) (h j : ℕ) (r p : NodePtr) (b : ℕ) → j < h → Begins m (h - j) j r p b →
    Begins m (suc (h - suc j)) j r p b
begins-level m h j r p b less s = let e : h - j ≡ suc (h - suc j) = omega arith in
    subst (λ x. Begins m x j r p b) e s

pub record BeginsUp (m : Records) (d j : ℕ) (r p : NodePtr) (b : ℕ) (up : NodePtr) (slot : ℕ) : Type 0 where
  pub base : ℕ
  pub begins : Begins m d (suc j) r up base
  pub child : IsChild m j up slot p
  pub offset : b ≡ base + characters_before m up slot

pub begins-up : (m : Records) (d j : ℕ) (r p : NodePtr) (b : ℕ) → Begins m (suc d) j r p b → (parent : Option NodePtr) →
    IfSome (finite.get m p) (λ x. parent ≡ x.parent) → (up : NodePtr) → parent ≡ Some up
    → (slot : ℕ) → IfSome (finite.get m p) (λ x. slot ≡ x.slot) → BeginsUp m d j r p b up slot
begins-up m d j r p b s parent says up is slot slot_says =
    let q = same_Some s.0 up (sym (child-parent m j s.0 s.1 p s.4 parent says) ∙ is) in
    let i = sym (child-slot m j s.0 s.1 p s.4 slot slot_says) in
    let at_up : BeginsUp m d j r p b up s.1 = subst (λ x. BeginsUp m d j r p b x s.1) q
    (record { base = s.2; begins = s.3; child = s.4; offset = s.5 }) in
    subst (λ x. BeginsUp m d j r p b up x) i at_up
