use Rattle.line_tree.proofs.Common.{◌≡◌, ℕ, ◌+◌, ◌-◌, ◌*◌, ◌/◌, ◌<◌, ◌≤◌, ◌++◌, length, take, drop, sym, ap, ◌∙◌, subst}
use Rattle.line_tree.proofs.Common.{append_assoc, arith, inl, inr, length-take, cases_lt, levels_at_most, most_in_row}
use Rattle.line_tree.proofs.Common.{nodes_above}
use Rattle.line_tree.proofs.LevelLaws.{low-levels}
use Rattle.line_tree.proofs.RowsLaws.{left-first, left-last, more-contents, more-rows, part-fits}
use Rattle.line_tree.proofs.tree.LineTree.put_rows.Goals as goal

-- ---- numbers: how many levels, how many lines to come, how many after this row; nodes above them
abbrev above : ℕ → ℕ → ℕ
above levels lines = lines / 11 + (2 * levels + 6) * (lines / most_in_row + 1)

above-less : (levels lines : ℕ) → 32768 ≤ lines →
    above levels lines ≡ lines / 11 + ((2 * levels + 6) * ((lines - 32768) / 32768 + 1) + (2 * levels + 6))
above-less levels lines many =
    let e : lines / 32768 ≡ (lines - 32768) / 32768 + 1 = omega (arith, many) in
    let f : (2 * levels + 6) * ((lines - 32768) / 32768 + 1 + 1)
    ≡ (2 * levels + 6) * ((lines - 32768) / 32768 + 1) + (2 * levels + 6) = omega arith in
    ap (λ j. lines / 11 + (2 * levels + 6) * (j + 1)) e ∙ ap (λ s. lines / 11 + s) f

-- rooms are left for the row that comes next
row-rooms : (levels lines part all before now : ℕ) → levels ≤ 25 → part ≤ lines →
    before + above levels lines ≤ now + all → all ≤ before → part + 23 * levels ≤ 11 * now
row-rooms levels lines part all before now low few some had = omega (arith, low, few, some, had)

-- and spares
row-spares : (levels rest at some total all rooms_old rooms_now spares_old spares_now : ℕ) → levels ≤ 25 → rest ≤ at →
    at ≤ some → some ≤ total → rooms_old + above levels (some - rest) ≤ rooms_now + all →
    total - rest + all ≤ spares_old → rooms_now + spares_old + some ≡ rooms_old + spares_now + total
    → 12 * some + 23 * levels ≤ 12 * at + 11 * spares_now
row-spares levels rest at some total all rooms_old rooms_now spares_old spares_now few low high within used had same =
    omega (arith, few, low, high, within, used, had, same)

-- and what is used of them is allowed for
row-some : (levels lines all before now left : ℕ) → levels ≤ 25 → 32768 ≤ lines →
    before + above levels lines ≤ now + all → 11 * now ≤ 11 * left + 32768 + 23 * levels →
    before + above levels (lines - 32768) ≤ left + all
row-some levels lines all before now left low many some used =
    let e = above-less levels lines many in omega (arith, low, many, some, used, e)

row-all : (levels lines all before now left : ℕ) → levels ≤ 25 → before + above levels lines ≤ now + all →
    11 * now ≤ 11 * left + lines + 23 * levels → before ≤ left + all
row-all levels lines all before now left low some used = omega (arith, low, some, used)

pub put_part-requires-clause-fits : goal.put_part-requires-clause-fits
put_part-requires-clause-fits g c =
    let now = c.loop-lines.invariant in let xs = c.loop-lines.lines.items in let at = c.max-part.result in
    let is = c.max-part.ensures in let sub = c.saturating_sub.ensures in let len = c.len-in-loop-lines.ensures in
    let ok = c.loop-lines.lines.ok.0 in let rest = now.rest in let low : c.args.rest ≤ at = omega (arith, is) in
    let high : at ≤ length xs = omega (arith, is, sub, len, ok, rest) in
    part-fits c.args.self.now.lines c.loop-lines.self.lines now.lines.0 c.args.k c.args.lines.now.items xs c.args.rest at
    now.lines.2 now.lines.1 now.left low high now.within c.requires.fits

pub put_part-requires-clause-rooms : goal.put_part-requires-clause-rooms
put_part-requires-clause-rooms g c =
    let now = c.loop-lines.invariant in let xs = c.loop-lines.lines.items in let at = c.max-part.result in
    let is = c.max-part.ensures in let test = c.loop-lines-test.true in let first = c.len.ensures in
    let ok = c.loop-lines.lines.ok.0 in
    let some = now.some (omega (arith, test, first, ok)) in
    let levels = levels_at_most c.args.self.now.nodes in let same = ap levels_at_most now.nodes in
    let a = row-rooms levels (length xs - c.args.rest) (length xs - at)
    (nodes_above c.args.self.now (length c.args.lines.now.items - c.args.rest)) c.args.self.now.rooms
    c.loop-lines.self.rooms (low-levels c.args.self.now.nodes) (omega (arith, is)) some c.requires.room.rooms in
    omega (arith, a, same)

pub put_part-requires-clause-spares : goal.put_part-requires-clause-spares
put_part-requires-clause-spares g c =
    let now = c.loop-lines.invariant in let xs = c.loop-lines.lines.items in let at = c.max-part.result in
    let is = c.max-part.ensures in let test = c.loop-lines-test.true in let first = c.len.ensures in
    let sub = c.saturating_sub.ensures in let len = c.len-in-loop-lines.ensures in let rest = now.rest in
    let ok = c.loop-lines.lines.ok.0 in
    let some = now.some (omega (arith, test, first, ok)) in
    let levels = levels_at_most c.args.self.now.nodes in let same = ap levels_at_most now.nodes in
    let a = row-spares levels c.args.rest at (length xs) (length c.args.lines.now.items)
    (nodes_above c.args.self.now (length c.args.lines.now.items - c.args.rest)) c.args.self.now.rooms
    c.loop-lines.self.rooms c.args.self.now.spares c.loop-lines.self.spares (low-levels c.args.self.now.nodes)
    (omega (arith, is)) (omega (arith, is, sub, len, ok, rest)) now.within some c.requires.room.spares now.rooms in
    omega (arith, a, same)

pub loop-lines-preserved : goal.loop-lines-preserved
loop-lines-preserved g c =
    let now = c.loop-lines.invariant in let xs = c.loop-lines.lines.items in let all = c.args.lines.now.items in
    let ys = c.put_part.new.lines.items in
    let at = c.max-part.result in let first = c.len.ensures in let len = c.len-in-loop-lines.ensures in
    let is = c.max-part.ensures in let sub = c.saturating_sub.ensures in let test = c.loop-lines-test.true in
    let ok = c.loop-lines.lines.ok.0 in let rest = now.rest in let within = now.within in
    let low : c.args.rest ≤ at = omega (arith, is) in
    let high : at ≤ length xs = omega (arith, is, sub, len, ok, rest) in
    let long = ap length c.put_part.ensures.left in let taken = length-take at xs in
    let e : at ≡ length ys = omega (arith, long, taken, high) in
    let levels = levels_at_most c.args.self.now.nodes in let same = ap levels_at_most now.nodes in
    let few = low-levels c.args.self.now.nodes in
    let some = now.some (omega (arith, test, first, ok)) in let used = c.put_part.ensures.used in
    let total = nodes_above c.args.self.now (length all - c.args.rest) in
    let rooms_were = now.rooms in let rooms_are = c.put_part.ensures.rooms in
    let put = c.put_part.ensures.lines in
    let more : c.args.rest < at → c.args.self.now.rooms + nodes_above c.args.self.now (at - c.args.rest)
    ≤ c.put_part.new.self.rooms + total = λ less.
    let f : at - c.args.rest ≡ length xs - c.args.rest - 32768 = omega (arith, is, sub, len, ok, less, rest) in
    subst (λ j. c.args.self.now.rooms + nodes_above c.args.self.now j ≤ c.put_part.new.self.rooms + total) (sym f)
    (row-some levels (length xs - c.args.rest) total c.args.self.now.rooms c.loop-lines.self.rooms
    c.put_part.new.self.rooms few (omega (arith, is, sub, len, ok, less, rest)) some
    (omega (arith, used, same, is, sub, len, ok, less, rest))) in
    record {
      rest = omega (arith, low, e);
      within = omega (arith, high, e, within);
      left = c.put_part.ensures.left ∙ left-first all xs at now.left high ∙ ap (λ j. take j all) e;
      lines = (
        put.0 ++ now.lines.0,
        more-contents put.0 now.lines.0 (drop at xs) (drop (length xs) all) put.1 now.lines.1
            ∙ sym (left-last all xs at now.left high) ∙ ap (λ j. drop j all) e,
        more-rows c.args.self.now.lines c.loop-lines.self.lines c.put_part.new.self.lines put.0 now.lines.0 c.args.k
            c.requires.place now.lines.2
            (put.2 ∙ append_assoc (take c.args.k c.loop-lines.self.lines) put.0 (drop c.args.k c.loop-lines.self.lines)),
      );
      nodes = c.put_part.ensures.nodes ∙ now.nodes;
      names = c.put_part.ensures.names ∙ now.names;
      some = λ less. subst (λ j. c.args.self.now.rooms + nodes_above c.args.self.now (j - c.args.rest)
          ≤ c.put_part.new.self.rooms + total) e (more (omega (arith, less, e)));
      all = elim (cases_lt c.args.rest at) [
        | inl less ↦ let m = more less in omega (arith, m)
        | inr none ↦ row-all levels (length xs - c.args.rest) total c.args.self.now.rooms c.loop-lines.self.rooms
            c.put_part.new.self.rooms few some (omega (arith, used, same, low, none, rest))
      ];
      rooms = omega (arith, rooms_were, rooms_are, e);
    }
