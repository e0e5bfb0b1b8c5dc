use Rattle.line_lists.proofs.Common.{◌≡◌, ◌+◌, ◌≤◌, chars, length, text_in, place_of, IsPartly}
use denote.Text.{Utf8}
use denote.Shadow.{shadow}
use Rattle.line_lists.proofs.drafts.Draft.put_lines.Given as goal

abbrev pub invariant-loop-line : goal.invariant-loop-line
invariant-loop-line g l =
    shadow (Utf8 l.rest)
    × (l.count + length l.rest ≤ length l.text)
    × (l.self.list.now ≡ l.initial.self.list.now)
    × IsPartly (g.L.LineList.lines l.self.list.now) l.self.front.items l.self.back.items
    (place_of (g.L.LineList.lines l.initial.self.list.now) l.initial.self.front.items) (chars l.text) (chars l.rest)
    (text_in g.L.LineList.lines l.initial.self)

abbrev pub decreases-loop-line : goal.decreases-loop-line
decreases-loop-line g l = length l.rest
