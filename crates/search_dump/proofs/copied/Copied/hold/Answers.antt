use Rattle.search_dump.proofs.Common.{shown, part_of, ◌≡◌, ◌≤◌, ◌+◌, ap, arith, subst, sym, ◌∙◌, max, min, length-shown}
use Rattle.search_dump.proofs.Common.{IsCharBoundary-start, IsUtf8-string_bytes, string_bytes}
use Rattle.search_dump.proofs.CopiedLaws.{copy-counted, copy-within}
use Rattle.search_dump.proofs.copied.Copied.hold.Given.{Over}
use Rattle.search_dump.proofs.copied.Copied.hold.Goals.{In_ok-text}
use Rattle.search_dump.proofs.copied.Copied.hold.Goals as goal

-- how far it is copied
far : (g : Over) (c : In_ok-text g) → c.max-end.result
    ≡ max (min c.args.spot.line.end c.args.self.now.limit) c.args.to
far g c = c.max-end.ensures ∙ ap (λ place. max place c.args.to) c.min.ensures

within : (g : Over) (c : In_ok-text g) → c.args.view.now.start + c.max-end.result ≤ c.args.view.now.end
within g c =
    let view = c.args.view.now in
    let limit = c.args.self.now.limit in
    subst (λ place. view.start + place ≤ view.end) (sym (far g c))
    (copy-within c.args.spot.line.end limit c.args.to view.start view.end view.whole_lines.ordered
    (subst (λ n. limit ≤ n) (length-shown (part_of view) view.whole_lines)
    c.requires.left.limit) c.requires.within)

ordered : (g : Over) (c : In_ok-text g) → c.args.spot.place ≤ c.max-end.result
ordered g c = omega (arith, far g c, c.requires.ordered)

pub invariant_of-drop : goal.invariant_of-drop
invariant_of-drop g c =
    let view = c.args.view.now in
    record {
      boundary = IsCharBoundary-start _ (IsUtf8-string_bytes c.in_ok-text.text);
      counted = copy-counted (shown (part_of view)) (string_bytes c.in_ok-text.text) c.args.spot.place
          c.max-end.result (ordered g c) (omega (arith, within g c, length-shown (part_of view) view.whole_lines))
          c.in_ok-text.ensures;
    }

pub returns-clause-left : goal.returns-clause-left
returns-clause-left g c =
    let view = c.args.view.now in
    let copied = (goal.at.returns-clause-left g c).In_ok-text in
    record {
      within = omega (
        arith,
        length-shown (part_of view) view.whole_lines,
        within g copied,
      );
      limit = c.requires.left.limit;
      are = c.in_ok-text.ensures;
    }
