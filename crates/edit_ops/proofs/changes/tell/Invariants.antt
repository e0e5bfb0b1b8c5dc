use Rattle.edit_ops.proofs.TellLaws.{Telling}
use Rattle.edit_ops.proofs.changes.tell.Given as goal

abbrev pub invariant-loop-hunk : goal.invariant-loop-hunk
invariant-loop-hunk g l = Telling (g.S.TextStore.content l.store).cells l.fn.hunks.items l.changes.items l.walk
    l.hunk-iterator.rest.items
