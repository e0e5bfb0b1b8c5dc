-- What is left of a sum where a part goes.
--     less-plus        a part without toggles
--     without-plus     a part whose toggled slots are toggled in the rest too
--     sum_all-remove   a child
--     total-gone       some lines
use Rattle.line_tree.proofs.Common.{◌≡◌, ℕ, zero, suc, ◌+◌, ◌-◌, ◌≤◌, List, [], ◌∷◌, ◌++◌, take, drop, sym, ap, ◌∙◌}
use Rattle.line_tree.proofs.Common.{arith, remove, split_between, none-some, same_Some, differing, removed}
use Rattle.line_tree.proofs.Common.{differing-associative, differing-empty, differing-self, plus-associative}
use Rattle.line_tree.proofs.Common.{plus-commutative, union-empty, Count, IsBare, IsWithin, less, plus, without, Named}
use Rattle.line_tree.proofs.Common.{total, NodePtr, Records, sum_all, sum_at, Some, slice_get, slice_range}
use Rattle.line_tree.proofs.SumLaws.{total-append}
use Rattle.std.specs.FinSet as set

pub less-plus : (rest part : Count) → IsBare part → less part.lines part.characters part.marks (plus rest part) ≡ rest
less-plus rest part bare =
    let lines : (rest.lines + part.lines) - part.lines ≡ rest.lines = omega arith in
    let characters : (rest.characters + part.characters) - part.characters ≡ rest.characters = omega arith in
    let marks : (rest.marks + part.marks) - part.marks ≡ rest.marks = omega arith in
    let parity = ap (differing rest.parity) bare.parity ∙ differing-empty rest.parity in
    let presence = ap (set.union rest.presence) bare.presence ∙ union-empty rest.presence in
    λ i. record {
      lines = lines i;
      characters = characters i;
      marks = marks i;
      parity = parity i;
      presence = presence i;
    }

pub without-plus : (rest part : Count) → IsWithin part rest → without part (plus rest part) ≡ rest
without-plus rest part within =
    let lines : (rest.lines + part.lines) - part.lines ≡ rest.lines = omega arith in
    let characters : (rest.characters + part.characters) - part.characters ≡ rest.characters = omega arith in
    let marks : (rest.marks + part.marks) - part.marks ≡ rest.marks = omega arith in
    let parity = differing-associative rest.parity part.parity part.parity
    ∙ ap (differing rest.parity) (differing-self part.parity) ∙ differing-empty rest.parity in
    λ i. record {
      lines = lines i;
      characters = characters i;
      marks = marks i;
      parity = parity i;
      presence = within i;
    }

pub sum_all-remove : (m : Records) (cs : List NodePtr) (k : ℕ) (c : NodePtr) → slice_get cs k ≡ Some c →
    plus (sum_all m (remove cs k)) (sum_at m c) ≡ sum_all m cs
sum_all-remove m [] k c at = absurd (none-some c at)
sum_all-remove m (d ∷ cs) zero c at =
    ap (λ q. plus (sum_all m cs) (sum_at m q)) (sym (same_Some d c at)) ∙ plus-commutative (sum_all m cs) (sum_at m d)
sum_all-remove m (d ∷ cs) (suc k) c at = plus-associative (sum_at m d) (sum_all m (remove cs k)) (sum_at m c)
    ∙ ap (plus (sum_at m d)) (sum_all-remove m cs k c at)

pub total-gone : (ls : List Named) (from to : ℕ) → from ≤ to →
    plus (total (removed from to ls)) (total (slice_range ls from to)) ≡ total ls
total-gone ls from to ordered =
    let front = total (take from ls) in let part = total (slice_range ls from to) in let back = total (drop to ls) in
    ap (λ s. plus s part) (total-append (take from ls) (drop to ls)) ∙ plus-associative front back part
    ∙ ap (plus front) (plus-commutative back part)
    ∙ sym (ap total (split_between ls from to ordered)
    ∙ total-append (take from ls) (slice_range ls from to ++ drop to ls)
    ∙ ap (plus front) (total-append (slice_range ls from to) (drop to ls)))
