use Rattle.line_lists.proofs.Common.{◌≡◌, ◌++◌, ◌∙◌, ap, arith, slice_range, string_bytes, characters, whole, chars}
use Rattle.line_lists.proofs.TextRows.{pushed-line, pushed-none}
use Rattle.line_lists.proofs.lists.LineList.push_lines.Goals as goal

pub loop-index-init : goal.loop-index-init
loop-index-init g c =
    pushed-none (g.Self.LineList.lines c.args.self.now) c.args.from (chars (string_bytes c.args.text.now))

pub loop-index-preserved : goal.loop-index-preserved
loop-index-preserved g c =
    pushed-line (g.Self.LineList.lines c.args.self.now) c.args.from c.loop-index.index c.len.result
    c.line-line.result.now (chars (string_bytes c.args.text.now)) (chars (string_bytes c.loop-index.text))
    (chars (string_bytes c.push_text.new.text)) c.line-line.ensures c.loop-index.auto.index c.len.ensures
    c.loop-index.invariant c.in_ok-push_text.ensures

pub returns : goal.returns
returns g c =
    let list = g.Self.LineList.lines c.args.self.now in
    let end : c.loop-index.index ≡ c.args.to = omega (
      arith,
      c.loop-index-test.false,
      c.loop-index.auto.index-end c.requires.ordered,
    ) in
    c.loop-index.invariant ∙ ap (λ n. chars (string_bytes c.args.text.now)
    ++ characters (whole (slice_range list c.args.from n)).columns) end
