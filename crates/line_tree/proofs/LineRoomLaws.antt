-- How many lines there are, and how many can be put in.
use Rattle.line_tree.proofs.Common.{◌≡◌, ℕ, zero, suc, ◌+◌, ◌-◌, ◌*◌, ◌/◌, ◌<◌, ◌≤◌, min, max, inl, inr, List, length}
use Rattle.line_tree.proofs.Common.{sym, ap, subst, arith, lit<, ◌⊎◌, ◌++◌, OnOk, Result, Ok, Err, take, drop}
use Rattle.line_tree.proofs.Common.{length-append, insert, remove, div-mul-le_self, le-max_left, le-max_right, le-min}
use Rattle.line_tree.proofs.Common.{mul-le-mul_left, le-div, length-take-le, length-insert, removed, levels_at_most}
use Rattle.line_tree.proofs.Common.{room_by_height, room_by_width, TreeState, Named, length-drop}
use Rattle.line_tree.specs.Room.{line_room}
use Rattle.line_tree.proofs.LevelLaws.{low-levels}

-- ---- the number of lines is kept
pub one-more : (ls : List Named) (k : ℕ) (l : Named) (now : List Named) (count : ℕ) → k ≤ length ls →
    count ≡ length ls → now ≡ insert ls k l → count + 1 ≡ length now
one-more ls k l now count place was is = let a = length-insert ls k l place in let b = ap length is in omega arith

pub length-removed : (ls now : List Named) (k n : ℕ) → k + n ≤ length ls → now ≡ removed k (k + n) ls →
    length now + n ≡ length ls
length-removed ls now k n within is =
    let a = ap length is in let b = length-append (take k ls) (drop (k + n) ls) in
    let c = length-take-le k ls (omega arith) in let d = length-drop (k + n) ls in omega arith

pub fewer-lines : (ls now : List Named) (k n count : ℕ) → k + n ≤ length ls → count ≡ length ls →
    now ≡ removed k (k + n) ls → count - n ≡ length now
fewer-lines ls now k n count within was is = let a = length-removed ls now k n within is in omega arith

pub removed-one : (ls : List Named) (k : ℕ) → removed k (k + 1) ls ≡ remove ls k
removed-one ls k = let e : k + 1 ≡ suc k = omega arith in ap (λ n. take k ls ++ drop n ls) e

-- ---- what a line takes off the room
one-part : (q b d : ℕ) → 0 < d → q * d ≤ b + d → q ≤ b / d + 1
one-part zero b d some h = omega arith
one-part (suc q) b d some h = let r = le-div q b d some (omega arith) in omega arith

part-falls : (a b d : ℕ) → 0 < d → a ≤ b + d → a / d ≤ b / d + 1
part-falls a b d some h = one-part (a / d) b d some (let m = div-mul-le_self a d in omega arith)

min-falls : (s r t u d : ℕ) → s ≤ t + d → r ≤ u + d → min s r ≤ min t u + d
min-falls s r t u d a b = omega arith

max-falls : (a b c d e : ℕ) → a ≤ c + e → b ≤ d + e → max a b ≤ max c d + e
max-falls a b c d e p q = omega arith

sixth : (a b : ℕ) → a ≤ b + 6 → a / 6 ≤ b / 6 + 1
sixth a b h = omega arith

pub room-falls : (t u : TreeState) → t.height ≤ levels_at_most t.nodes → u.nodes ≡ t.nodes →
    length u.lines ≡ length t.lines + 1 → t.spares ≤ u.spares + t.height + 2 →
    u.rooms + t.spares ≡ t.rooms + u.spares + 1 → line_room t ≤ line_room u + 1
unfolding line_room
room-falls t u low nodes lines spares rooms =
    let few = low-levels t.nodes in
    let part = levels_at_most t.nodes + 2 in
    let r : t.rooms ≤ u.rooms + part = omega arith in
    let s : t.spares ≤ u.spares + part = omega arith in
    let a = subst (λ n. min t.spares t.rooms / part ≤ min u.spares u.rooms / (levels_at_most n + 2) + 1) (sym nodes)
    (part-falls (min t.spares t.rooms) (min u.spares u.rooms) part (omega arith)
    (min-falls t.spares t.rooms u.spares u.rooms part s r)) in
    let p : 5 * t.nodes - (6 * length t.lines + 129) ≤ 5 * u.nodes - (6 * length u.lines + 129) + 6 = omega arith in
    let q : 5 * t.nodes + 5 * t.rooms - (5 * t.spares + 6 * length t.lines + 129)
    ≤ 5 * u.nodes + 5 * u.rooms - (5 * u.spares + 6 * length u.lines + 129) + 1 = omega arith in
    max-falls (room_by_height t) (room_by_width t) (room_by_height u) (room_by_width u) 1 a
    (min-falls ((5 * t.nodes - (6 * length t.lines + 129)) / 6)
    (5 * t.nodes + 5 * t.rooms - (5 * t.spares + 6 * length t.lines + 129))
    ((5 * u.nodes - (6 * length u.lines + 129)) / 6)
    (5 * u.nodes + 5 * u.rooms - (5 * u.spares + 6 * length u.lines + 129)) 1
    (sixth (5 * t.nodes - (6 * length t.lines + 129)) (5 * u.nodes - (6 * length u.lines + 129)) p) q)

-- ---- lines out
div-grows : (a b k : ℕ) → 0 < k → a ≤ b → a / k ≤ b / k
div-grows a b k some h = le-div (a / k) b k some (let m = div-mul-le_self a k in omega arith)

pub room-grows : (t u : TreeState) (n : ℕ) → u.nodes ≡ t.nodes → length u.lines + n ≡ length t.lines →
    t.spares + n ≤ u.spares → u.rooms + t.spares + n ≡ t.rooms + u.spares → line_room t ≤ line_room u
unfolding line_room
room-grows t u n nodes lines spares rooms =
    let r : t.rooms ≤ u.rooms + 0 = omega arith in
    let s : t.spares ≤ u.spares + 0 = omega arith in
    let least = min-falls t.spares t.rooms u.spares u.rooms 0 s r in
    let part = levels_at_most t.nodes + 2 in
    let a = subst (λ n. min t.spares t.rooms / part ≤ min u.spares u.rooms / (levels_at_most n + 2)) (sym nodes)
    (div-grows (min t.spares t.rooms) (min u.spares u.rooms) part (omega arith) (omega arith)) in
    let p : 5 * t.nodes - (6 * length t.lines + 129) ≤ 5 * u.nodes - (6 * length u.lines + 129) = omega arith in
    let q : 5 * t.nodes + 5 * t.rooms - (5 * t.spares + 6 * length t.lines + 129)
    ≤ 5 * u.nodes + 5 * u.rooms - (5 * u.spares + 6 * length u.lines + 129) + 0 = omega arith in
    let b = div-grows (5 * t.nodes - (6 * length t.lines + 129)) (5 * u.nodes - (6 * length u.lines + 129)) 6 (lit< tt)
    p in
    let all = max-falls (room_by_height t) (room_by_width t) (room_by_height u) (room_by_width u) 0 (omega arith)
    (min-falls ((5 * t.nodes - (6 * length t.lines + 129)) / 6)
    (5 * t.nodes + 5 * t.rooms - (5 * t.spares + 6 * length t.lines + 129))
    ((5 * u.nodes - (6 * length u.lines + 129)) / 6)
    (5 * u.nodes + 5 * u.rooms - (5 * u.spares + 6 * length u.lines + 129)) 0 (omega arith) q) in
    omega arith

-- ---- the same numbers
pub room-stays : (t u : TreeState) → u.nodes ≡ t.nodes → length u.lines ≡ length t.lines → u.spares ≡ t.spares →
    u.rooms ≡ t.rooms → line_room u ≡ line_room t
unfolding line_room
room-stays t u nodes lines spares rooms = λ i.
    max (min (spares i) (rooms i) / (levels_at_most (nodes i) + 2))
    (min ((5 * nodes i - (6 * lines i + 129)) / 6) (5 * nodes i + 5 * rooms i - (5 * spares i + 6 * lines i + 129)))

-- ---- where there is room, a line can be put in
one-least : (a b : ℕ) → 1 ≤ min a b → (1 ≤ a) × (1 ≤ b)
one-least a b h = (omega arith, omega arith)

one-most : (a b : ℕ) → 1 ≤ max a b → (1 ≤ a) ⊎ (1 ≤ b)
one-most zero b h = inr (omega arith)
one-most (suc a) b h = inl (omega arith)

whole-part : (q a d : ℕ) → 1 ≤ q → q * d ≤ a → d ≤ a
whole-part zero a d some h = omega arith
whole-part (suc q) a d some h = omega arith

pub room-serves : (t : TreeState) → t.height ≤ levels_at_most t.nodes →
    5 * t.nodes ≤ 6 * length t.lines + 5 * t.spares + 4 → 1 ≤ line_room t →
    (t.height + 2 ≤ t.spares) × (t.height + 1 ≤ t.rooms)
unfolding line_room
room-serves t low few some = elim (one-most (room_by_height t) (room_by_width t) some) [
  | inl deep ↦
      let part = levels_at_most t.nodes + 2 in
      let m = whole-part (room_by_height t) (min t.spares t.rooms) part deep
      (div-mul-le_self (min t.spares t.rooms) part) in (omega arith, omega arith)
  | inr wide ↦
      let most = low-levels t.nodes in
      let two = one-least ((5 * t.nodes - (6 * length t.lines + 129)) / 6)
      (5 * t.nodes + 5 * t.rooms - (5 * t.spares + 6 * length t.lines + 129)) wide in
      let a : 6 ≤ 5 * t.nodes - (6 * length t.lines + 129) = omega (arith, two.0) in
      let b = two.1 in (omega arith, omega arith)
]

-- ---- what is reserved serves
pub steep-room : (t : TreeState) (n levels : ℕ) → levels_at_most t.nodes ≤ levels → n * (levels + 2) ≤ t.spares →
    n * (levels + 2) ≤ t.rooms → n ≤ line_room t
unfolding line_room
steep-room t n levels high spares rooms =
    let part = levels_at_most t.nodes + 2 in
    let less : n * part ≤ n * (levels + 2) = mul-le-mul_left n (omega arith) in
    let a = le-div n (min t.spares t.rooms) part (omega arith) (omega arith) in
    let b = le-max_left (room_by_height t) (room_by_width t) in omega (arith, a, b)

pub wide-room : (t : TreeState) (n rooms count : ℕ) → count ≡ length t.lines → rooms ≡ count / 5 + n / 5 + 27 →
    rooms ≤ t.rooms → rooms + n ≤ t.spares → length t.lines + t.spares + 1 ≤ t.nodes → n ≤ line_room t
unfolding line_room
wide-room t n rooms count is made inner all many =
    let p : n * 6 ≤ 5 * t.nodes - (6 * length t.lines + 129) = omega arith in
    let q : n ≤ 5 * t.nodes + 5 * t.rooms - (5 * t.spares + 6 * length t.lines + 129) = omega arith in
    let a = le-div n (5 * t.nodes - (6 * length t.lines + 129)) 6 (lit< tt) p in
    let c : n ≤ room_by_width t = le-min a q in
    let b = le-max_right (room_by_height t) (room_by_width t) in omega (arith, c, b)

pub on_ok_two : {T E P Q R : Type 0} (r : Result T E) → (P → Q → R) → OnOk r P → OnOk r Q → OnOk r R
on_ok_two (Ok x) f p q = f p q
on_ok_two (Err e) f p q = tt
