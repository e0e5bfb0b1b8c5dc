-- Some of the lines in a row are taken out, and then the others.
use Rattle.line_tree.proofs.Common.{◌≡◌, ℕ, zero, suc, ◌+◌, ◌-◌, ◌≤◌, List, [], ◌∷◌, ◌++◌, length, take, drop, refl}
use Rattle.line_tree.proofs.Common.{sym, ap, ◌∙◌, arith, append_assoc, length-append, append-nil, drop-append-le}
use Rattle.line_tree.proofs.Common.{drop-drop, drop_all, length-take-le, take-append-drop, take-append-le, removed}
use Rattle.line_tree.proofs.Common.{Leaves, KeepsRoom, TreeState, Named, length-drop}
use Rattle.line_tree.proofs.LineRoomLaws.{length-removed}
use Rattle.line_tree.proofs.SpendingLaws.{keeps-on, keeps-self}

-- ---- out of the middle
removed-first : (ys zs : List Named) (from to : ℕ) → from ≤ to → to ≤ length ys →
    removed from to (ys ++ zs) ≡ removed from to ys ++ zs
removed-first ys zs from to ordered within =
    (λ i. take-append-le from ys zs (omega arith) i ++ drop-append-le to ys zs within i)
    ∙ sym (append_assoc (take from ys) (drop to ys) zs)

removed-behind : (xs ys : List Named) (a b from to : ℕ) → from ≡ length xs + a → to ≡ length xs + b →
    removed from to (xs ++ ys) ≡ xs ++ removed a b ys
removed-behind [] ys a b from to e f = let p : from ≡ a = omega arith in let q : to ≡ b = omega arith in
    λ i. take (p i) ys ++ drop (q i) ys
removed-behind (x ∷ xs) ys a b zero to e f = absurd (omega arith)
removed-behind (x ∷ xs) ys a b (suc from) zero e f = absurd (omega arith)
removed-behind (x ∷ xs) ys a b (suc from) (suc to) e f =
    ap (λ zs. x ∷ zs) (removed-behind xs ys a b from to (omega arith) (omega arith))

removed-middle : (xs ys zs : List Named) (a b from to : ℕ) → from ≡ length xs + a → to ≡ length xs + b → a ≤ b →
    b ≤ length ys → removed from to (xs ++ ys ++ zs) ≡ xs ++ removed a b ys ++ zs
removed-middle xs ys zs a b from to e f ordered within =
    ap (removed from to) (append_assoc xs ys zs) ∙ removed-behind xs (ys ++ zs) a b from to e f
    ∙ ap (λ ls. xs ++ ls) (removed-first ys zs a b ordered within) ∙ sym (append_assoc xs (removed a b ys) zs)

-- ---- what is left
pub leaves-all : (old : TreeState) (k gone : ℕ) → k + gone ≤ length old.lines → Leaves old k gone gone old
leaves-all old k gone within =
    let ls = old.lines in let rest = length-drop k ls in
    record {
      few = omega arith;
      rest = take gone (drop k ls);
      long = length-take-le gone (drop k ls) (omega arith);
      lines = sym (append_assoc (take k ls) (take gone (drop k ls)) (drop (k + gone) ls)
          ∙ ap (λ zs. take k ls ++ (take gone (drop k ls) ++ zs)) (sym (drop-drop gone k ls))
          ∙ ap (λ zs. take k ls ++ zs) (take-append-drop gone (drop k ls)) ∙ take-append-drop k ls);
      room = keeps-self old;
    }

pub leaves-long : (old now : TreeState) (k gone left : ℕ) → k + gone ≤ length old.lines → Leaves old k gone left now →
    length now.lines + gone ≡ length old.lines + left
leaves-long old now k gone left within leaves =
    let ls = old.lines in
    let a = ap length leaves.lines in let b = length-append (take k ls ++ leaves.rest) (drop (k + gone) ls) in
    let c = length-append (take k ls) leaves.rest in let d = length-take-le k ls (omega arith) in
    let e = length-drop (k + gone) ls in let f = leaves.long in let few = leaves.few in omega arith

pub leaves-fewer : (old now after : TreeState) (k gone left start n less : ℕ) → k + gone ≤ length old.lines →
    Leaves old k gone left now → k ≤ start → start + n ≤ k + left → less + n ≡ left →
    after.lines ≡ removed start (start + n) now.lines → KeepsRoom now after →
    Leaves old k gone less after
leaves-fewer old now after k gone left start n less within leaves low high count is room =
    let front = take k old.lines in let long = length-take-le k old.lines (omega arith) in
    let e : start ≡ length front + (start - k) = omega arith in
    let f : start + n ≡ length front + (start - k + n) = omega arith in
    let rest = leaves.long in let few = leaves.few in
    let inside : start - k + n ≤ length leaves.rest = omega arith in
    let part = removed (start - k) (start - k + n) leaves.rest in
    let l = length-removed leaves.rest part (start - k) n inside refl in
    record {
      few = omega arith;
      rest = part;
      long = omega arith;
      lines = is ∙ ap (removed start (start + n)) leaves.lines
          ∙ removed-middle front leaves.rest (drop (k + gone) old.lines) (start - k) (start - k + n) start (start + n) e
          f (omega arith) inside;
      room = keeps-on old now after leaves.room room;
    }

-- ---- the others go too
pub rest-out : (old now : TreeState) (k gone left : ℕ) → k + gone ≤ length old.lines → Leaves old k gone left now →
    take k now.lines ++ drop (k + left) now.lines ≡ take k old.lines ++ drop (k + gone) old.lines
rest-out old now k gone left within leaves =
    let front = take k old.lines in let back = drop (k + gone) old.lines in
    let long = length-take-le k old.lines (omega arith) in let all = leaves.long in
    ap (removed k (k + left)) leaves.lines
    ∙ removed-middle front leaves.rest back 0 left k (k + left) (omega arith) (omega arith) (omega arith) (omega arith)
    ∙ ap (λ zs. front ++ zs ++ back) (drop_all left leaves.rest (omega arith))
    ∙ ap (λ zs. zs ++ back) (append-nil front)
