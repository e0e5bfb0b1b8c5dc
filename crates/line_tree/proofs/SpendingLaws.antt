-- What putting lines in, and taking lines out, leaves of the room for rows.
use Rattle.line_tree.proofs.Common.{◌≡◌, ℕ, ◌+◌, ◌*◌, ◌/◌, ◌<◌, ◌≤◌, min, inl, inr, refl, length, sym, ap, ◌∙◌, subst}
use Rattle.line_tree.proofs.Common.{arith, add-mul, le-max_left, mul-add, mul-le-mul_left, mul-le-mul_right, cases_lt}
use Rattle.line_tree.proofs.Common.{le-div, CanPutRow, HasRoom, KeepsRoom, PutsRoom, SpendsRoom, levels_at_most}
use Rattle.line_tree.proofs.Common.{nodes_above, room_by_height, room_by_width, TreeState}
use Rattle.line_tree.specs.Room.{line_room}
use Rattle.line_tree.proofs.LineRoomLaws.{room-stays}

-- ---- nodes above rows
above-more : (p a b : ℕ) → a / 11 + p * (a / 32768 + 1) ≤ (a + b) / 11 + p * ((a + b) / 32768 + 1)
above-more p a b = let m = mul-le-mul_left {m = a / 32768 + 1} {n = (a + b) / 32768 + 1} p (omega arith) in omega arith

above-two : (p a b : ℕ) → (a / 11 + p * (a / 32768 + 1)) + (b / 11 + p * (b / 32768 + 1))
    ≤ (a + b) / 11 + p * ((a + b) / 32768 + 1) + p
above-two p a b =
    let u = a / 32768 + 1 in let v = b / 32768 + 1 in let w = (a + b) / 32768 + 1 in
    let d = mul-add p u v in let e = mul-add p w 1 in
    let m = mul-le-mul_left {m = u + v} {n = w + 1} p (omega arith) in omega arith

-- ---- a row can be put in
pub room-row : (t : TreeState) (n more rows : ℕ) → HasRoom t (n + more) (min 1 n + rows) → 16 ≤ n → 0 < t.row_room →
    CanPutRow t n
room-row t n more rows has many named = elim has [
  | inl alone ↦ let none = alone.0 in absurd (omega arith)
  | inr r ↦
      let a = above-more (2 * levels_at_most t.nodes + 6) n more in let names = r.names in
      let spares = r.spares in let rooms = r.rooms in
      record { rooms = omega arith; spares = omega arith; names = omega arith }
]

-- and few lines one by one
pub room-alone : (t : TreeState) (n more rows : ℕ) → HasRoom t (n + more) (min 1 n + rows) →
    (16 ≤ n → t.row_room ≡ 0) → n ≤ line_room t
unfolding line_room
room-alone t n more rows has named = elim has [
  | inl alone ↦ let room = alone.1 in omega arith
  | inr r ↦ elim (cases_lt n 16) [
    | inl few ↦ elim (cases_lt 0 n) [
      | inl some ↦
          let part = levels_at_most t.nodes + 2 in
          let all = mul-le-mul_right {m = 1} {n = min 1 n + rows} (16 * part) (omega arith) in
          let spares = r.spares in let rooms = r.rooms in
          let d = le-div 16 (min t.spares t.rooms) part (omega arith) (omega arith) in
          let m = le-max_left (room_by_height t) (room_by_width t) in omega (arith, few, d, m)
      | inr none ↦ omega arith
    ]
    | inr many ↦ let none = named many in let names = r.names in absurd (omega arith)
  ]
]

-- ---- what is reserved serves
pub flat-room : (t : TreeState) (count rows levels flat : ℕ) → levels_at_most t.nodes ≤ levels →
    flat ≡ rows * (16 * (levels + 2)) + (count / 11 + (2 * levels + 6) * (count / 32768 + 1)) → flat ≤ t.rooms →
    count + flat ≤ t.spares → min count 32768 ≤ t.row_room → HasRoom t count rows
flat-room t count rows levels flat high is rooms spares names =
    let part = levels_at_most t.nodes in
    let a = mul-le-mul_left {m = 16 * (part + 2)} {n = 16 * (levels + 2)} rows (omega arith) in
    let b = mul-le-mul_right {m = 2 * part + 6} {n = 2 * levels + 6} (count / 32768 + 1) (omega arith) in
    inr record { rooms = omega arith; spares = omega arith; names = names }

-- ---- what is left
pub keeps-room : (t u : TreeState) (lines rows : ℕ) → KeepsRoom t u → HasRoom t lines rows → HasRoom u lines rows
keeps-room t u lines rows keeps has = elim has [
  | inl alone ↦ let more = keeps.lines in let room = alone.1 in inl (keeps.names ∙ alone.0, omega arith)
  | inr r ↦
      let same = sym (ap levels_at_most keeps.nodes) in
      let spares = r.spares in let rooms = r.rooms in let kept = keeps.spares in let free = keeps.rooms in
      inr record {
        rooms = subst (λ l. lines / 11 + (2 * l + 6) * (lines / 32768 + 1) + rows * (16 * (l + 2)) ≤ u.rooms) same
            (omega arith);
        spares = subst (λ l. lines + (lines / 11 + (2 * l + 6) * (lines / 32768 + 1) + rows * (16 * (l + 2)))
            ≤ u.spares) same (omega arith);
        names = subst (λ n. min lines 32768 ≤ n) (sym keeps.names) r.names;
      }
]

pub spends-keeps : (t u v : TreeState) (lines rows : ℕ) → SpendsRoom t u lines rows → KeepsRoom u v →
    SpendsRoom t v lines rows
spends-keeps t u v lines rows spends keeps = λ more others has. keeps-room u v more others keeps (spends more others has)

-- few lines one by one
few-ends : (n part rows : ℕ) → n < 16 → n * part + rows * (16 * part) ≤ (min 1 n + rows) * (16 * part)
few-ends n part rows few =
    let d = add-mul (min 1 n) rows (16 * part) in elim (cases_lt 0 n) [
      | inl some ↦
          let m = mul-le-mul_right {m = n} {n = 16} part (omega arith) in
          let o = mul-le-mul_right {m = 1} {n = min 1 n} (16 * part) (omega arith) in omega arith
      | inr none ↦ let m = mul-le-mul_right {m = n} {n = 0} part (omega arith) in omega arith
    ]

pub spends-alone : (t u : TreeState) (n : ℕ) → PutsRoom t u n → (16 ≤ n → t.row_room ≡ 0) →
    SpendsRoom t u n (min 1 n)
spends-alone t u n puts named = λ more rows has. elim has [
  | inl alone ↦ let room = alone.1 in let falls = puts.lines in inl (puts.names ∙ alone.0, omega arith)
  | inr r ↦ elim (cases_lt n 16) [
    | inl few ↦
        let same = sym (ap levels_at_most puts.nodes) in let part = levels_at_most t.nodes + 2 in
        let less = above-more (2 * levels_at_most t.nodes + 6) more n in
        let turned : more + n ≡ n + more = omega arith in
        let above = subst (λ k. more / 11 + (2 * levels_at_most t.nodes + 6) * (more / 32768 + 1)
        ≤ k / 11 + (2 * levels_at_most t.nodes + 6) * (k / 32768 + 1)) turned less in
        let ends = few-ends n part rows few in
        let spares = r.spares in let rooms = r.rooms in let kept = puts.spares in let free = puts.rooms in
        let names = r.names in
        inr record {
          rooms = subst (λ l. more / 11 + (2 * l + 6) * (more / 32768 + 1) + rows * (16 * (l + 2)) ≤ u.rooms) same
              (omega arith);
          spares = subst (λ l. more + (more / 11 + (2 * l + 6) * (more / 32768 + 1) + rows * (16 * (l + 2)))
              ≤ u.spares) same (omega arith);
          names = subst (λ k. min more 32768 ≤ k) (sym puts.names) (omega arith);
        }
    | inr many ↦ let none = named many in let names = r.names in absurd (omega arith)
  ]
]

-- many at once
pub spends-row : (t u : TreeState) (n : ℕ) → 16 ≤ n → 0 < t.row_room → u.nodes ≡ t.nodes →
    t.rooms ≤ u.rooms + nodes_above t n → u.rooms + t.spares ≡ t.rooms + u.spares + n → u.row_room ≡ t.row_room →
    SpendsRoom t u n (min 1 n)
spends-row t u n many named nodes used rooms_and names_same = λ more rows has. elim has [
  | inl alone ↦ let none = alone.0 in absurd (omega arith)
  | inr r ↦
      let same = sym (ap levels_at_most nodes) in let part = levels_at_most t.nodes + 2 in
      let above = above-two (2 * levels_at_most t.nodes + 6) n more in
      let d = add-mul (min 1 n) rows (16 * part) in let o = mul-le-mul_right {m = 1} {n = min 1 n} (16 * part) (omega arith) in
      let spares = r.spares in let rooms = r.rooms in let names = r.names in
      inr record {
        rooms = subst (λ l. more / 11 + (2 * l + 6) * (more / 32768 + 1) + rows * (16 * (l + 2)) ≤ u.rooms) same
            (omega arith);
        spares = subst (λ l. more + (more / 11 + (2 * l + 6) * (more / 32768 + 1) + rows * (16 * (l + 2)))
            ≤ u.spares) same (omega arith);
        names = subst (λ k. min more 32768 ≤ k) (sym names_same) (omega arith);
      }
]

-- ---- one step after the other
pub keeps-self : (t : TreeState) → KeepsRoom t t
keeps-self t = record { nodes = refl; spares = omega arith; rooms = omega arith; names = refl; lines = omega arith }

pub keeps-same : (t u : TreeState) → u.nodes ≡ t.nodes → length u.lines ≡ length t.lines → u.spares ≡ t.spares →
    u.rooms ≡ t.rooms → u.row_room ≡ t.row_room → KeepsRoom t u
keeps-same t u nodes lines spares rooms names =
    let all = room-stays t u nodes lines spares rooms in
    record { nodes = nodes; spares = omega arith; rooms = omega arith; names = names; lines = omega arith }

pub keeps-on : (t u v : TreeState) → KeepsRoom t u → KeepsRoom u v → KeepsRoom t v
keeps-on t u v a b =
    let s = a.spares in let r = a.rooms in let l = a.lines in
    let p = b.spares in let q = b.rooms in let m = b.lines in
    record {
      nodes = b.nodes ∙ a.nodes;
      spares = omega arith;
      rooms = omega arith;
      names = b.names ∙ a.names;
      lines = omega arith;
    }

pub keeps-out : (t u : TreeState) → u.nodes ≡ t.nodes → t.spares + 1 ≤ u.spares →
    u.rooms + t.spares + 1 ≡ t.rooms + u.spares → u.row_room ≡ t.row_room → line_room t ≤ line_room u → KeepsRoom t u
keeps-out t u nodes spares rooms names lines =
    record { nodes = nodes; spares = omega arith; rooms = omega arith; names = names; lines = lines }

pub puts-none : (t u : TreeState) → PutsRoom t u 0 → KeepsRoom t u
puts-none t u puts =
    let s = puts.spares in let r = puts.rooms in let l = puts.lines in
    record { nodes = puts.nodes; spares = omega arith; rooms = omega arith; names = puts.names; lines = omega arith }

pub puts-kept : (t u : TreeState) → KeepsRoom t u → PutsRoom t u 0
puts-kept t u keeps =
    let s = keeps.spares in let r = keeps.rooms in let l = keeps.lines in
    record {
      nodes = keeps.nodes;
      spares = omega arith;
      rooms = omega arith;
      names = keeps.names;
      lines = omega arith;
    }

pub puts-on : (t u v : TreeState) (n d : ℕ) → PutsRoom t u n → PutsRoom u v d → PutsRoom t v (n + d)
puts-on t u v n d a b =
    let part = levels_at_most t.nodes + 2 in let e = add-mul n d part in
    let s = a.spares in let r = a.rooms in let l = a.lines in
    let p = subst (λ k. u.spares ≤ v.spares + d * (levels_at_most k + 2)) a.nodes b.spares in
    let q = subst (λ k. u.rooms ≤ v.rooms + d * (levels_at_most k + 2)) a.nodes b.rooms in let m = b.lines in
    record {
      nodes = b.nodes ∙ a.nodes;
      spares = omega arith;
      rooms = omega arith;
      names = b.names ∙ a.names;
      lines = omega arith;
    }

pub puts-one : (t u : TreeState) → t.height ≤ levels_at_most t.nodes → u.nodes ≡ t.nodes →
    t.spares ≤ u.spares + t.height + 2 → u.rooms + t.spares ≡ t.rooms + u.spares + 1 → u.row_room ≡ t.row_room →
    line_room t ≤ line_room u + 1 → PutsRoom t u 1
puts-one t u low nodes spares rooms names lines =
    record { nodes = nodes; spares = omega arith; rooms = omega arith; names = names; lines = omega arith }
