use Rattle.reports.proofs.Common.{List, take, Named, texts_of, AreSeats, AreGone}
use Rattle.reports.proofs.tags_gone.tell_gone.Given as goal

abbrev pub invariant-loop-name : goal.invariant-loop-name
invariant-loop-name g l =
    (seats : List Named) → AreSeats seats →
    AreGone seats l.tags (g.S.TextStore.content l.store).cells (texts_of (take l.name-index l.names)) l.seen l.told
