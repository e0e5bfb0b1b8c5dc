use Rattle.line_tree.proofs.Common.{◌≡◌, ◌+◌, length, vec_len, subst, sym, ap, ◌∙◌, arith, slice_range, All}
use Rattle.line_tree.proofs.Common.{LineContent, contents, AreLines, NumbersBelow, more_lines, row_of, HasRoom, holder}
use Rattle.line_tree.proofs.Common.{lines_without}
use Rattle.line_tree.proofs.ListedLaws.{Comes, comes-below, comes-contents, comes-long, comes-others, end-fits}
use Rattle.line_tree.proofs.ListedLaws.{fits-counted, gone-fits, some-left}
use Rattle.line_tree.proofs.tree_lines.TreeLinesLineList.splice.Goals as goal

pub overflow_add-end : goal.overflow_add-end
overflow_add-end c = let fits = end-fits c.args.self.now.tree.lines c.args.from c.args.count c.args.new.items
    c.requires.within c.requires.lines in
    let n = c.len-2.ensures in let ok = c.args.new.ok.0 in omega (arith, fits, n, ok)

pub overflow_add-from : goal.overflow_add-from
overflow_add-from c = let fits = gone-fits c.args.self.now.tree.lines c.args.from c.args.count c.args.new.items
    c.requires.within c.args.self.now.are_lines in omega (arith, fits)

pub splice-requires-clause-some : goal.splice-requires-clause-some
splice-requires-clause-some c =
    some-left c.args.self.now.tree.lines c.args.from c.args.count c.args.new.items c.requires.within c.requires.lines

pub splice-requires-clause-fits : goal.splice-requires-clause-fits
splice-requires-clause-fits c = fits-counted c.args.self.now.tree.lines c.args.new.items c.requires.counted

pub note-requires : goal.note-requires
note-requires c =
    let old = c.args.self.now.tree.lines in let now = c.splice.new.self.lines in let made = c.splice.ensures.lines in
    let comes : Comes old c.args.from c.args.count c.args.new.items c.requires.within now = record {
      added = made.0;
      contents_of = made.1;
      is = made.2;
    } in let n = c.len-2.ensures in let ok = c.args.new.ok.0 in
    record {
      ordered = omega arith;
      within =
          let long = comes-long old c.args.from c.args.count c.args.new.items c.requires.within now comes in
          omega (arith, long, n, ok);
      lines = subst AreLines
          (sym (comes-contents old c.args.from c.args.count c.args.new.items c.requires.within now comes))
          c.requires.lines;
      below =
          let names = c.args.self.now.names.ok.0 in let same = c.forget.ensures.len in
          let bound : length c.args.self.now.names.items ≡ vec_len c.forget.new.names = omega (arith, names, same) in
          let end : c.args.from + length c.args.new.items ≡ c.args.from + c.len-2.result = omega (arith, n, ok) in
          subst (λ m. All (λ (line : LineContent). NumbersBelow m line.marks)
          (slice_range (contents now) c.args.from (c.args.from + c.len-2.result))) bound (subst (λ m. All
          (λ (line : LineContent). NumbersBelow (length c.args.self.now.names.items) line.marks)
          (slice_range (contents now) c.args.from m)) end (comes-below old c.args.from c.args.count c.args.new.items
          c.requires.within now (length c.args.self.now.names.items) comes c.requires.numbers));
      table =
          let end : c.args.from + c.len-2.result ≡ c.args.from + length c.args.new.items = omega (arith, n, ok) in
          let same = ap (λ m. lines_without c.args.from m now) end
          ∙ comes-others old c.args.from c.args.count c.args.new.items c.requires.within now comes in
          record { each = λ q. c.forget.ensures.table.each q ∙ sym (ap (holder q) same) };
    }

pub invariant_of-self : goal.invariant_of-self
invariant_of-self c = let old = c.args.self.now.tree.lines in let now = c.splice.new.self.lines in
    let made = c.splice.ensures.lines in
    let comes : Comes old c.args.from c.args.count c.args.new.items c.requires.within now = record {
      added = made.0;
      contents_of = made.1;
      is = made.2;
    } in
    record {
      are_lines = subst AreLines
          (sym (comes-contents old c.args.from c.args.count c.args.new.items c.requires.within now comes))
          c.requires.lines;
      table = c.note.ensures.table;
      remembered = tt;
    }

pub returns-clause-lines : goal.returns-clause-lines
returns-clause-lines c = let old = c.args.self.now.tree.lines in let now = c.splice.new.self.lines in
    let made = c.splice.ensures.lines in
    let comes : Comes old c.args.from c.args.count c.args.new.items c.requires.within now = record {
      added = made.0;
      contents_of = made.1;
      is = made.2;
    } in
    comes-contents old c.args.from c.args.count c.args.new.items c.requires.within now comes

pub returns-then-len-eq1-clause-room : goal.returns-then-len-eq1-clause-room
returns-then-len-eq1-clause-room c more rows has =
    let n = c.len.ensures in let ok = c.args.new.ok.0 in
    let one : length c.args.new.items ≡ 1 = omega arith in
    let none : more_lines c.args.count c.args.new.items + more ≡ more = omega arith in
    let none_in : row_of c.args.count c.args.new.items + rows ≡ rows = omega arith in
    c.replace.ensures.room more rows
    (subst (λ m. HasRoom c.args.self.now.tree m rows) none
    (subst (λ r. HasRoom c.args.self.now.tree (more_lines c.args.count c.args.new.items + more) r) none_in has))
