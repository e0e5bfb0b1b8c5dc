use Rattle.line_tree.proofs.Common.{◌≡◌, ◌+◌, ◌++◌, ◌∙◌, ap, arith, chars, slice_range, string_bytes, characters}
use Rattle.line_tree.proofs.Common.{contents, whole}
use Rattle.line_lists.proofs.TextRows.{pushed-line, pushed-none}
use Rattle.line_tree.proofs.ListedLaws.{listed, walked}
use Rattle.line_tree.proofs.NearestLaws.{long}
use Rattle.line_tree.proofs.tree_lines.TreeLinesLineList.push_lines.Goals as goal

pub loop-index-init : goal.loop-index-init
loop-index-init c = record {
  next = tt;
  text = pushed-none (contents c.args.self.now.tree.lines) c.args.from (chars (string_bytes c.args.text.now));
}

pub name_at-name-requires : goal.name_at-name-requires
name_at-name-requires c = let l = long c.args.self.now.tree.lines in record {
  within = omega (arith, l, c.requires.within, c.loop-index-test.true);
  found = c.loop-index.invariant.next;
}

pub line-line-requires : goal.line-line-requires
line-line-requires c = (c.loop-index.index, c.name_at-name.ensures)

pub next_name-next-requires : goal.next_name-next-requires
next_name-next-requires c = (c.loop-index.index, c.name_at-name.ensures)

pub loop-index-preserved : goal.loop-index-preserved
loop-index-preserved c =
    let ls = c.args.self.now.tree.lines in let k = c.loop-index.index in
    let is = c.line-line.ensures k c.name_at-name.ensures in
    record {
      next = walked ls (k + 1) c.next_name-next.result (c.next_name-next.ensures.value k c.name_at-name.ensures);
      text = pushed-line (contents ls) c.args.from k c.len.result c.line-line.result.now
          (chars (string_bytes c.args.text.now)) (chars (string_bytes c.loop-index.text))
          (chars (string_bytes c.push_text.new.text)) (listed ls k c.name_at-name.result c.line-line.result.now is)
          c.loop-index.auto.index c.len.ensures c.loop-index.invariant.text c.in_ok-push_text.ensures;
    }

pub returns : goal.returns
returns c =
    let lines = contents c.args.self.now.tree.lines in
    let end : c.loop-index.index ≡ c.args.to = omega (
      arith,
      c.loop-index-test.false,
      c.loop-index.auto.index-end c.requires.ordered,
    ) in
    c.loop-index.invariant.text ∙ ap (λ n. chars (string_bytes c.args.text.now)
    ++ characters (whole (slice_range lines c.args.from n)).columns) end
