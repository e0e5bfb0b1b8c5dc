use Rattle.text_cursor.proofs.LookLaws.{PassedOn}
use Rattle.text_cursor.proofs.cursors.next_line_of.Given as goal

abbrev pub invariant-loop-part : goal.invariant-loop-part
invariant-loop-part g l =
    PassedOn (g.S.TextStore.content l.store).cells l.fresh l.parts l.part-index l.far
