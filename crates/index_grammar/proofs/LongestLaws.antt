-- The longest closed front, from the last closed front on.
use Rattle.index_grammar.proofs.Common.{◌≡◌, ℕ, zero, suc, ◌+◌, ◌-◌, ◌<◌, ◌≤◌, Bool, true, false, not, List, [], ◌∷◌}
use Rattle.index_grammar.proofs.Common.{take, drop, length, get_or, refl, sym, ap, ◌∙◌, arith, nat_lt, option_map}
use Rattle.index_grammar.proofs.Common.{if◌then◌else◌, list_all, nat_tests, Decides-ltb, false≢true, drop_more}
use Rattle.index_grammar.proofs.Common.{get_or-drop, get_or-take, length-take, length-drop, is_break, closes, longest}
use Rattle.index_grammar.proofs.Common.{closed_front, of_length, Base, Option, Some, None}
use Rattle.std.specs.Option.{option_or}
use Rattle.index_grammar.proofs.TokenLaws.{inside}
use Rattle.index_grammar.proofs.CharLaws.{both}

-- what isn't found above a length isn't the longest
pub downs : (found : ℕ → Option (Base × ℕ)) (least more most : ℕ) → most ≡ more + least →
    ((i : ℕ) → least < i → i ≤ most → found i ≡ None)
    → longest found most ≡ longest found least
downs found least zero most is none = ap (longest found) (let e : most ≡ least = omega (arith, is) in e)
downs found least (suc more) zero is none = absurd (omega (arith, is))
downs found least (suc more) (suc most) is none =
    ap (λ o. option_or o (longest found most)) (none (suc most) (omega (arith, is)) (omega arith))
    ∙ downs found least more most (omega (arith, is)) (λ i low high. none i low (omega (arith, high)))

pub nones : (found : ℕ → Option (Base × ℕ)) (most : ℕ) → ((i : ℕ) → i ≤ most → found i ≡ None) →
    longest found most ≡ None
nones found zero none = none 0 (omega arith)
nones found (suc most) none =
    ap (λ o. option_or o (longest found most)) (none (suc most) (omega arith))
    ∙ nones found most (λ i high. none i (omega (arith, high)))

pub first : (found : ℕ → Option (Base × ℕ)) (most : ℕ) (it : Base × ℕ) → found most ≡ Some it →
    longest found most ≡ Some it
first found zero it is = is
first found (suc most) it is = ap (λ o. option_or o (longest found most)) is

all-get : (xs : List ℕ) (i : ℕ) → list_all inside xs ≡ true → i < length xs → inside (get_or xs i 0) ≡ true
all-get [] i all lt = absurd (omega (arith, lt))
all-get (x ∷ xs) zero all lt = (both (inside x) (list_all inside xs) all).0
all-get (x ∷ xs) (suc i) all lt = all-get xs i (both (inside x) (list_all inside xs) all).1 (omega (arith, lt))

not-break : (b : Bool) → not b ≡ true → b ≡ false
not-break true is = absurd (false≢true is)
not-break false is = refl

-- before a character that is no blank or sign nothing is closed
open-front : (named : List ℕ → Option Base) (text : List ℕ) (i : ℕ) → i < length text →
    inside (get_or text i 0) ≡ true → closed_front named text i ≡ None
open-front named text i lt in_run =
    ap (λ rest. if closes rest then option_map (of_length i) (named (take i text)) else None) (drop_more text i 0 lt)
    ∙ ap (λ b. if b then option_map (of_length i) (named (take i text))
    else None) (not-break (is_break (get_or text i 0)) in_run)

unnamed-front : (named : List ℕ → Option Base) (text : List ℕ) (i : ℕ) → named (take i text) ≡ None →
    closed_front named text i ≡ None
unnamed-front named text i none =
    ap (λ o. if closes (drop i text) then option_map (of_length i) o else None) none
    ∙ elim (closes (drop i text)) as (λ b. (if b then option_map (of_length i) None else None)
    ≡ None) [ true ↦ refl | false ↦ refl ]

at-or-below : (P : Type 0) (i most : ℕ) → i ≤ most → (i < most → P) → (i ≡ most → P) → P
at-or-below P i most high below same = elim (nat_lt i most) as (λ b. nat_lt i most ≡ b → P) [
  | true ↦ λ is. below ((Decides-ltb i most).0 is)
  | false ↦ λ isn't. same (let e : i ≡ most = grind (arith, nat_tests) in e)
] refl

-- a front that names nothing, with no blank or sign behind a place in it
pub skip-front : (named : List ℕ → Option Base) (text : List ℕ) (least most : ℕ) → least < most → most ≤ length text →
    named (take most text) ≡ None
    → list_all inside (drop (least + 1) (take most text)) ≡ true
    → longest (closed_front named text) most ≡ longest (closed_front named text) least
skip-front named text least most lt within none all =
    downs (closed_front named text) least (most - least) most (omega (arith, lt)) (λ i low high.
    at-or-below (closed_front named text i ≡ None) i most high
    (λ below.
    let j : ℕ = i - (least + 1) in
    let sum : least + 1 + j ≡ i = omega (arith, low) in
    let size : j < length (drop (least + 1) (take most text)) = omega (
      arith,
      length-drop (least + 1) (take most text),
      length-take most text,
      low,
      below,
      within,
    ) in
    let same : get_or (drop (least + 1) (take most text)) j 0 ≡ get_or text i 0 =
    get_or-drop (least + 1) (take most text) j 0 ∙ ap (λ k. get_or (take most text) k 0) sum
    ∙ get_or-take most text i 0 below in
    open-front named text i (omega (arith, below, within)) (ap inside (sym same)
    ∙ all-get (drop (least + 1) (take most text)) j all size))
    (λ same. unnamed-front named text i (ap (λ k. named (take k text)) same ∙ none)))

-- a front that names nothing, with no blank or sign in it
pub skip-all : (named : List ℕ → Option Base) (text : List ℕ) (most : ℕ) → most ≤ length text →
    named (take most text) ≡ None
    → list_all inside (take most text) ≡ true → longest (closed_front named text) most ≡ None
skip-all named text most within none all =
    nones (closed_front named text) most (λ i high.
    at-or-below (closed_front named text i ≡ None) i most high
    (λ below.
    let size : i < length (take most text) = omega (arith, length-take most text, below, within) in
    open-front named text i (omega (arith, below, within)) (ap inside (sym (get_or-take most text i 0 below))
    ∙ all-get (take most text) i all size))
    (λ same. unnamed-front named text i (ap (λ k. named (take k text)) same ∙ none)))

-- a closed front that names something
pub found-front : (named : List ℕ → Option Base) (text : List ℕ) (most : ℕ) (base : Base) →
    closes (drop most text) ≡ true → named (take most text) ≡ Some base
    → longest (closed_front named text) most ≡ Some (base, most)
found-front named text most base closed is =
    first (closed_front named text) most (base, most)
    (ap (λ b. if b then option_map (of_length most) (named (take most text)) else None) closed
    ∙ ap (option_map (of_length most)) is)
