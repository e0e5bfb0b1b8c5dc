-- A new line, and a new root.
use Rattle.line_tree.proofs.Common.{◌≡◌, ℕ, zero, suc, ◌-◌, ◌*◌, ◌^◌, ◌<◌, ◌≤◌, ◌⊎◌, inl, inr, List, [], ◌∷◌, ◌++◌}
use Rattle.line_tree.proofs.Common.{length, take, drop, refl, sym, ap, ◌∙◌, subst, arith, ◌≢◌, IsSome, chars}
use Rattle.line_tree.proofs.Common.{slice_index, Option, None, Some, len-empty, AllByRecursion, insert, append-nil}
use Rattle.line_tree.proofs.Common.{same_Some, plus-no_text, LineContent, line_count, plain_line, NodePtr, Records}
use Rattle.line_tree.proofs.Common.{blank, with_sum, plus, row, get_inserted, get_other, kept_insert, insert-named}
use Rattle.line_tree.proofs.Common.{Among, CanFill, Distinct, FitsSum, relinked, sum_all, sums, CanInsert, HasNoParent}
use Rattle.line_tree.proofs.Common.{Inserts, IsWide, NewLine, NewRoot, Stands, StandsAlone, lines_of, names_of, trees}
use Rattle.line_tree.proofs.Common.{with_line, Holds, IsTree, line_of, lines_in, sum_at, sum_of, tree_at, IsBalanced}
use Rattle.line_tree.proofs.Common.{IsBalancedRoot, Tree, inner, least_below_root, lines, names, tops, total}
use Rattle.std.proofs.lemmas.Str.{chars-IsAscii}
use mathlib.Core.Bool.{Bool, true, false, false≢true}
use Rattle.line_tree.proofs.AmongLaws.{among-or}
use Rattle.line_tree.proofs.BuildLaws.{built, sum-trees, tree-is}
use Rattle.line_tree.proofs.CountLaws.{least-lines-root}
use Rattle.line_tree.proofs.FillLaws.{at-update, relinked-row, relinked-sums, sum_all-same}
use Rattle.line_tree.proofs.FrameLaws.{all-same, holds-same, names-all-held, names-held, tops-among}
use Rattle.line_tree.proofs.GrowLaws.{of-one, to-one, unnamed}
use Rattle.line_tree.proofs.StepLaws.{total-with_line}
use Rattle.line_tree.proofs.TreeLaws.{top-tree_at, total-lines}
use Rattle.line_tree.proofs.UpdateLaws.{refilled-named}
use Rattle.std.specs.FinMap as finite

-- ---- records that are the same for a tree
pub tree-same : (m n : Records) (h : ℕ) (p : NodePtr) → IsTree m h p →
    ((q : NodePtr) → Among q (names h (tree_at m h p)) → finite.get n q ≡ finite.get m q) →
    tree_at n h p ≡ tree_at m h p
tree-same m n h p tree same =
    ap (tree_at n h) (sym (top m h p)) ∙ tree-is n h (tree_at m h p) (holds-same m n h (tree_at m h p) tree same)
  where
    top : (m : Records) (h : ℕ) (p : NodePtr) → (tree_at m h p).0 ≡ p
    top m zero p = refl
    top m (suc h) p = refl

pub wide-root : (h : ℕ) (t : Tree h) → IsBalancedRoot h t → IsWide 1 h t
wide-root zero t b = absurd b
wide-root (suc zero) t b = b
wide-root (suc (suc h)) t b = let low = b.0 in (omega arith, b.1, b.2)

-- ---- a line by itself
module _ (m n : Records) (x : NodePtr) (l : LineContent) (new : NewLine m n x l) where
  pub new-line : IsTree n 0 x
  new-line =
      let is = ap (λ z. finite.get z x) new.same ∙ get_inserted m x (blank (Some l)) in
      let now = ap line_of is in
      record {
        found = blank (Some l);
        is = is;
        line = sym now;
        some = subst (λ o. IsSome o) (sym now) refl;
        sum = sym (ap (λ o. total (lines zero (x, o))) now ∙ plus-no_text (line_count l));
      }

  pub new-other : (q : NodePtr) → IsSome (finite.get m q) → finite.get n q ≡ finite.get m q
  new-other q s = let not_x : q ≢ x = λ e. unnamed m q s (ap (finite.get m) e ∙ new.fresh) in
      ap (λ z. finite.get z q) new.same ∙ get_other m x (blank (Some l)) q not_x

  pub new-named : (q : NodePtr) → IsSome (finite.get n q) → (q ≡ x) ⊎ IsSome (finite.get m q)
  new-named q s = insert-named m x (blank (Some l)) q (subst (λ z. IsSome (finite.get z q)) new.same s)

  pub new-sum : sum_at n x ≡ line_count l
  new-sum = ap (λ z. sum_of (finite.get z x)) new.same ∙ ap sum_of (get_inserted m x (blank (Some l)))

  pub new-lines : lines zero (tree_at n 0 x) ≡ (x, l) ∷ []
  new-lines = ap (λ z. lines zero (x, line_of (finite.get z x))) new.same
      ∙ ap (λ o. lines zero (x, line_of o)) (get_inserted m x (blank (Some l)))

  pub same-lines : (h : ℕ) (r : NodePtr) → IsTree m h r → lines_in n h r ≡ lines_in m h r
  same-lines h r tree =
      ap (lines h) (tree-same m n h r tree (λ q a. new-other q (names-held m h (tree_at m h r) tree q a)))

  -- it can become a line of the tree
  pub can-insert : (h : ℕ) (r : NodePtr) (k : ℕ) → Stands m h r → k ≤ length (lines_in m h r) →
      FitsSum (plus (total (lines_in m h r)) (line_count l)) → CanInsert n h r k x
  can-insert h r k stands place fits =
      let all = names-held m h (tree_at m h r) stands.tree in
      let same = tree-same m n h r stands.tree (λ q a. new-other q (all q a)) in
      let out : Among x (names h (tree_at m h r)) → ⊥ = λ a. unnamed m x (all x a) new.fresh in
      record {
        tree = subst (λ t. Holds n h t) (sym same)
            (holds-same m n h (tree_at m h r) stands.tree (λ q a. new-other q (all q a)));
        wide = subst (λ t. IsWide 1 h t) (sym same) (wide-root h (tree_at m h r) stands.balanced);
        distinct = subst (λ t. Distinct (names h t)) (sym same) stands.distinct;
        place = subst (λ t. k ≤ length (lines h t)) (sym same) place;
        line = new-line;
        new = subst (λ t. Among x (names h t) → ⊥) (sym same) out;
        fits = subst FitsSum (sym (λ i. plus (total (lines h (same i))) (new-sum i))) fits;
      }

-- ---- the root after an insertion below it
least-small : (h : ℕ) → least_below_root h ≤ 6
least-small zero = omega arith
least-small (suc h) = omega arith

root-wide : (h : ℕ) (t u : Tree h) → ((least : ℕ) → least ≤ 6 → IsWide least h t → IsWide least h u) →
    IsBalancedRoot h t → IsBalancedRoot h u
root-wide zero t u keeps b = b
root-wide (suc h) t u keeps b = keeps (least_below_root h) (least-small h) b

two-wide : (h : ℕ) (r : NodePtr) (us : List (Tree h)) → 0 < h → length us ≡ 2 → AllByRecursion (IsBalanced h) us →
    IsBalancedRoot (suc h) (r, us)
two-wide zero r us some e b = absurd (omega arith)
two-wide (suc h) r us some e b = (omega arith, omega arith, b)

positive : (h : ℕ) (t : Tree h) → IsBalancedRoot h t → 0 < h
positive zero t b = absurd b
positive (suc h) t b = omega arith

pub positive-root : (m : Records) (h : ℕ) (r : NodePtr) → Stands m h r → 0 < h
positive-root m h r s = positive h (tree_at m h r) s.balanced

module _ (m n l : Records) (x : NodePtr) (line : LineContent) (new : NewLine m n x line) (h : ℕ) (r : NodePtr) (k : ℕ)
    (stands : Stands m h r) (o : Option NodePtr) (ins : Inserts n l h r k x o)
    (fits : FitsSum (plus (total (lines_in m h r)) (line_count line))) where
  old-tree : tree_at n h r ≡ tree_at m h r
  old-tree = let all = names-held m h (tree_at m h r) stands.tree in
      tree-same m n h r stands.tree (λ q a. new-other m n x line new q (all q a))

  lines-now : lines_of h (trees l h r o) ≡ insert (lines_in m h r) k (x, line)
  lines-now = ins.grows.line ∙ (λ i. with_line (lines h (old-tree i) ++ []) k (tree_at n 0 x))
      ∙ ap (λ ls. with_line ls k (tree_at n 0 x)) (append-nil (lines_in m h r))
      ∙ ap (λ ls. take k (lines_in m h r) ++ (ls ++ drop k (lines_in m h r))) (new-lines m n x line new)

  pub fits-now : FitsSum (total (lines_of h (trees l h r o)))
  fits-now = subst FitsSum (sym (ap total (ins.grows.line
      ∙ (λ i. with_line (lines h (old-tree i) ++ []) k (tree_at n 0 x))
      ∙ ap (λ ls. with_line ls k (tree_at n 0 x)) (append-nil (lines_in m h r)))
      ∙ total-with_line (lines_in m h r) k (tree_at n 0 x)
      ∙ ap (plus (total (lines_in m h r))) (ap total (new-lines m n x line new) ∙ plus-no_text (line_count line))))
      fits

  whole-now : ((q : NodePtr) → IsSome (finite.get m q) → Among q (names h (tree_at m h r))) → (q : NodePtr) →
      IsSome (finite.get l q) → Among q (names_of h (trees l h r o))
  whole-now whole q s = elim (among-or q (names_of h (trees l h r o))) [
    | inl a ↦ a
    | inr out ↦ elim (new-named m n x line new q (ins.grows.old q s out)) [
      | inl e ↦ subst (λ z. Among z (names_of h (trees l h r o))) (sym e) ins.grows.added
      | inr b ↦ ins.grows.inside q (to-one q (names h (tree_at n h r))
          (subst (λ t. Among q (names h t)) (sym old-tree) (whole q b)))
    ]
  ]

  no-parent : HasNoParent l r
  no-parent =
      let root = stands.root in let named = subst (λ z. IsSome z) (sym root.is) refl in
      let same = same_Some ins.link.before root.found (sym ins.link.was ∙ new-other m n x line new r named ∙ root.is) in
      record {
        found = ins.link.after;
        is = ins.link.is;
        parent = ins.link.parent ∙ ap (λ y. y.parent) same
            ∙ root.parent;
      }

pub same-root : (m n l : Records) (x : NodePtr) (line : LineContent) (new : NewLine m n x line) (h : ℕ) (r : NodePtr)
    (k : ℕ) → Stands m h r → Inserts n l h r k x None → FitsSum (plus (total (lines_in m h r)) (line_count line))
    → Stands l h r × (lines_in l h r ≡ insert (lines_in m h r) k (x, line))
same-root m n l x line new h r k stands ins fits =
    let one = append-nil (lines_in l h r) in (
      record {
        tree = ins.grows.holds.0;
        balanced = root-wide h (tree_at m h r) (tree_at l h r) (λ least small w.
            (ins.wide.wide least small (subst (λ t. IsWide least h t)
            (sym (old-tree m n l x line new h r k stands None ins fits)) w)).0) stands.balanced;
        distinct = subst Distinct (append-nil (names h (tree_at l h r))) ins.grows.distinct;
        root = no-parent m n l x line new h r k stands None ins fits;
        fits = subst (λ ls. FitsSum (total ls)) one (fits-now m n l x line new h r k stands None ins fits);
      },
      sym one ∙ lines-now m n l x line new h r k stands None ins fits,
    )

pub can-top : (m : Records) (a : NodePtr) (cs : List NodePtr) → finite.get m a ≡ None → length cs ≤ 12 →
    ((c : NodePtr) → Among c cs → IsSome (finite.get m c)) → FitsSum (sum_all m cs) →
    CanFill (finite.insert m a (blank None)) a cs
can-top m a cs fresh few named fits =
    let made = finite.insert m a (blank None) in
    let not_a : (q : NodePtr) → IsSome (finite.get m q) →
    q ≢ a = λ q c e. unnamed m q c (ap (finite.get m) e ∙ fresh) in
    record {
      found = blank None;
      is = get_inserted m a (blank None);
      inner = refl;
      long = refl;
      few = few;
      each = λ c b. kept_insert m a (blank None) c (named c b);
      apart = λ b. not_a a (named a b) refl;
      fits = subst FitsSum (sym (sum_all-same m made cs (λ c b.
          ap sum_of (get_other m a (blank None) c (not_a c (named c b)))))) fits;
    }

-- ---- and with a new one above it
pub can-root : (l : Records) (h : ℕ) (r s : NodePtr) → AllByRecursion (Holds l h) (trees l h r (Some s)) →
    FitsSum (total (lines_of h (trees l h r (Some s)))) → FitsSum (sum_all l (r ∷ s ∷ []))
can-root l h r s all fits =
    subst FitsSum (sym (ap (sum_all l) (sym (two-tops l h r s)) ∙ sum-trees l h (trees l h r (Some s)) all)) fits
  where
    two-tops : (l : Records) (h : ℕ) (r s : NodePtr) → tops h (trees l h r (Some s)) ≡ r ∷ s ∷ []
    two-tops l h r s = λ i. top-tree_at l h r i ∷ top-tree_at l h s i ∷ []

-- a root with no parent above nodes that stand by themselves
above : (l u : Records) (h : ℕ) (us : List (Tree h)) (a : NodePtr) → AllByRecursion (Holds l h) us →
    Distinct (names_of h us) → FitsSum (total (lines_of h us)) → length (tops h us) ≤ 12 →
    IsBalancedRoot (suc h) (a, us) → NewRoot l u a (tops h us) →
    (tree_at u (suc h) a ≡ (a, us)) × Stands u (suc h) a
above l u h us a all apart fits few balanced root =
    let made = finite.insert l a (blank None) in let cs = tops h us in let named = names-all-held l h us all in
    let not_a : (q : NodePtr) → IsSome (finite.get l q) →
    q ≢ a = λ q c e. unnamed l q c (ap (finite.get l) e ∙ root.fresh) in
    let can = can-top l a cs root.fresh few (λ c b. named c (tops-among h us c b))
    (subst FitsSum (sym (sum-trees l h us all)) fits) in
    let all_made = all-same l made h us all (λ q b. get_other l a (blank None) q (not_a q (named q b))) in
    let distinct : Distinct (a ∷ names_of h us) = ((λ b. not_a a (named a b) refl), apart) in
    let holds : Holds u (suc h) (a, us) = subst (λ z. Holds z (suc h) (a, us)) (sym root.same)
    (built made h a us can all_made distinct) in
    let tree = tree-is u (suc h) (a, us) holds in let links = relinked made a 0 (row cs) in
    let sum = sums links (row cs) in
    let at = at-update links a (λ y. with_sum y sum) (record (blank None) { children = row cs })
    (relinked-row made a cs (blank None) (get_inserted l a (blank None)) refl few can.apart) in (
      tree,
      record {
        tree = subst (Holds u (suc h)) (sym tree) holds;
        balanced = subst (IsBalancedRoot (suc h)) (sym tree) balanced;
        distinct = subst (λ t. Distinct (names (suc h) t)) (sym tree) distinct;
        root = record {
          found = with_sum (record (blank None) { children = row cs }) sum;
          is = ap (λ z. finite.get z a) root.same ∙ at;
          parent = refl;
        };
        fits = subst (λ t. FitsSum (total (lines (suc h) t))) (sym tree) fits;
      },
    )

module _ (m n l u : Records) (x : NodePtr) (line : LineContent) (new : NewLine m n x line) (h : ℕ) (r : NodePtr) (k : ℕ)
    (stands : Stands m h r) (s : NodePtr) (ins : Inserts n l h r k x (Some s))
    (fits : FitsSum (plus (total (lines_in m h r)) (line_count line))) (a : NodePtr)
    (root : NewRoot l u a (r ∷ s ∷ [])) where
  both-above : (tree_at u (suc h) a ≡ (a, trees l h r (Some s))) × Stands u (suc h) a
  both-above = above l u h (trees l h r (Some s)) a ins.grows.holds ins.grows.distinct
      (fits-now m n l x line new h r k stands (Some s) ins fits) (omega arith)
      (two-wide h a (trees l h r (Some s)) (positive-root m h r stands) refl
      (ins.wide.split refl (subst (λ t. IsWide 1 h t) (sym (old-tree m n l x line new h r k stands (Some s) ins fits))
      (wide-root h (tree_at m h r) stands.balanced))))
      (subst (NewRoot l u a) (λ i. sym (top-tree_at l h r) i ∷ sym (top-tree_at l h s) i ∷ []) root)

  pub root-tree : tree_at u (suc h) a ≡ (a, trees l h r (Some s))
  root-tree = both-above.0

  pub new-root : Stands u (suc h) a × (lines_in u (suc h) a ≡ insert (lines_in m h r) k (x, line))
  new-root = (both-above.1, ap (lines (suc h)) root-tree ∙ lines-now m n l x line new h r k stands (Some s) ins fits)

pub named-two : (m : Records) (left right : NodePtr) → IsSome (finite.get m left) → IsSome (finite.get m right) →
    (c : NodePtr) → Among c (left ∷ right ∷ []) → IsSome (finite.get m c)
named-two m left right has_left has_right c b = elim b [
  | inl e ↦ subst (λ z. IsSome (finite.get m z)) (sym e) has_left
  | inr d ↦ elim d [ inl e ↦ subst (λ z. IsSome (finite.get m z)) (sym e) has_right | inr e ↦ absurd e ]
]

pub named-one : (m : Records) (child : NodePtr) → IsSome (finite.get m child) → (c : NodePtr) → Among c (child ∷ []) →
    IsSome (finite.get m c)
named-one m child has c b = elim b [ inl e ↦ subst (λ z. IsSome (finite.get m z)) (sym e) has | inr e ↦ absurd e ]

-- ---- the first line
pub top-sum : (m : Records) (a x : NodePtr) → finite.get m a ≡ None → IsSome (finite.get m x)
    → sums (relinked (finite.insert m a (blank None)) a 0 (row (x ∷ []))) (row (x ∷ [])) ≡ sum_at m x
top-sum m a x fresh named = let made = finite.insert m a (blank None) in
    relinked-sums made a (x ∷ []) ∙ plus-no_text (sum_at made x)
    ∙ ap sum_of (get_other m a (blank None) x (λ e. unnamed m x named (ap (finite.get m) e ∙ fresh)))

lone-ascii : (i : ℕ) → slice_index (10 ∷ []) i < 128
lone-ascii zero = omega arith
lone-ascii (suc i) = omega arith

pub lone-line : plain_line (chars (10 ∷ [])) ≡ plain_line (10 ∷ [])
lone-line = ap plain_line (chars-IsAscii (10 ∷ []) lone-ascii)

pub lone-fits : FitsSum (line_count (plain_line (10 ∷ [])))
lone-fits = let none : finite.len (plain_line (10 ∷ [])).marks ≡ 0 = len-empty _ _ in
    record { lines = omega arith; characters = omega arith; marks = omega arith }

pub first-root : (m n u : Records) (x : NodePtr) (line : LineContent) → NewLine m n x line → FitsSum (line_count line) →
    (a : NodePtr) → NewRoot n u a (x ∷ []) → Stands u 1 a × (lines_in u 1 a ≡ (x, line) ∷ [])
first-root m n u x line new fits a root =
    let t = tree_at n 0 x in
    let is : lines_of 0 (t ∷ []) ≡ (x, line) ∷ [] = append-nil (lines zero t) ∙ new-lines m n x line new in
    let now = subst FitsSum (sym (ap total is ∙ plus-no_text (line_count line))) fits in
    let up = above n u 0 (t ∷ []) a (new-line m n x line new, tt) ((λ e. e), tt) now (omega arith)
    (omega arith, omega arith, (tt, tt)) root in
    (up.1, ap (lines 1) up.0 ∙ is)

one-line : (x : NodePtr) (line : LineContent) (ts : List (Tree 0)) → lines_of 0 ts ≡ (x, line) ∷ [] →
    Among x (names_of 0 ts)
one-line x line [] e = absurd (false≢true (ap (λ zs. elim zs as (λ _. Bool) [ [] ↦ false | z ∷ zs ↦ true ]) e))
one-line x line (t ∷ ts) e = leaf t.1 e (one-line x line ts) where
  leaf : (o : Option LineContent) → lines zero (t.0, o) ++ lines_of 0 ts ≡ (x, line) ∷ [] →
      (lines_of 0 ts ≡ (x, line) ∷ [] → Among x (names_of 0 ts)) → Among x (t.0 ∷ names_of 0 ts)
  leaf None e rest = inr (rest e)
  leaf (Some l) e rest = inl (sym (ap (λ zs. elim zs as (λ _. NodePtr) [ [] ↦ x | z ∷ zs ↦ z.0 ]) e))

pub first-root-alone : (m n u : Records) (x : NodePtr) (line : LineContent) →
    ((q : NodePtr) → IsSome (finite.get m q) → ⊥) → NewLine m n x line → FitsSum (line_count line) → (a : NodePtr) →
    NewRoot n u a (x ∷ []) → StandsAlone u 1 a
first-root-alone m n u x line none new fits a root =
    let made = finite.insert n a (blank None) in let st = (first-root m n u x line new fits a root).0 in
    record {
      stands = st;
      whole = λ q c. elim (insert-named n a (blank None) q
          (refilled-named made a (row (x ∷ [])) q (subst (λ z. IsSome (finite.get z q)) root.same c))) [
            | inl e ↦ inl e
            | inr b ↦ elim (new-named m n x line new q b) [
              | inl e ↦ inr (subst (λ z. Among z (inner 1 (tree_at u 1 a))) (sym e) below)
              | inr d ↦ absurd (none q d)
            ]
          ];
    }
  where
    below : Among x (inner 1 (tree_at u 1 a))
    below = one-line x line (tree_at u 1 a).1 (first-root m n u x line new fits a root).1

-- ---- what a tree that stands has
pub stands-least : (m : Records) (h : ℕ) (r : NodePtr) → Stands m h r → 2 ≤ h →
    2 * 6 ^ (h - 1) ≤ length (lines_in m h r)
stands-least m h r s two =
    let e : h ≡ suc (suc (h - 2)) = omega arith in let f : suc (h - 2) ≡ h - 1 = omega arith in
    let low = least-lines-root m (h - 2) (tree_at m (suc (suc (h - 2))) r) (subst (λ j. IsTree m j r) e s.tree)
    (subst (λ j. IsBalancedRoot j (tree_at m j r)) e s.balanced) in
    subst (λ j. 2 * 6 ^ (h - 1) ≤ length (lines_in m j r)) (sym e)
    (subst (λ j. 2 * 6 ^ j ≤ length (lines_in m (suc (suc (h - 2))) r)) f low)

pub stands-few : (m : Records) (h : ℕ) (r : NodePtr) → Stands m h r → length (lines_in m h r) < 2 ^ 64
stands-few m h r s = let e = total-lines (lines_in m h r) in let f = s.fits.lines in omega arith

-- ---- no other record
pub same-root-alone : (m n l : Records) (x : NodePtr) (line : LineContent) (new : NewLine m n x line) (h : ℕ)
    (r : NodePtr) (k : ℕ) → StandsAlone m h r → Inserts n l h r k x None →
    FitsSum (plus (total (lines_in m h r)) (line_count line)) → StandsAlone l h r
same-root-alone m n l x line new h r k alone ins fits = record {
  stands = (same-root m n l x line new h r k alone.stands ins fits).0;
  whole = λ q s. of-one q (names h (tree_at l h r))
      (whole-now m n l x line new h r k alone.stands None ins fits alone.whole q s);
}

pub new-root-alone : (m n l u : Records) (x : NodePtr) (line : LineContent) (new : NewLine m n x line) (h : ℕ)
    (r : NodePtr) (k : ℕ) → StandsAlone m h r → (s : NodePtr) → Inserts n l h r k x (Some s) →
    FitsSum (plus (total (lines_in m h r)) (line_count line))
    → (a : NodePtr) → NewRoot l u a (r ∷ s ∷ []) → StandsAlone u (suc h) a
new-root-alone m n l u x line new h r k alone s ins fits a root =
    let us = trees l h r (Some s) in let made = finite.insert l a (blank None) in
    let st = (new-root m n l u x line new h r k alone.stands s ins fits a root).0 in
    record {
      stands = st;
      whole = λ q c. elim (insert-named l a (blank None) q
          (refilled-named made a (row (r ∷ s ∷ [])) q (subst (λ z. IsSome (finite.get z q)) root.same c))) [
            | inl e ↦ inl e
            | inr b ↦ inr (below q (whole-now m n l x line new h r k alone.stands (Some s) ins fits alone.whole q b))
          ];
    }
  where
    below : (q : NodePtr) → Among q (names_of h (trees l h r (Some s))) → Among q (inner (suc h) (tree_at u (suc h) a))
    below q b = subst (λ t. Among q (inner (suc h) t))
        (sym (root-tree m n l u x line new h r k alone.stands s ins fits a root)) b
