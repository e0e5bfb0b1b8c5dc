use Rattle.command_effects.proofs.Common.{◌≡◌, take, texts_of, marks_left, AreMarks}
use Rattle.command_effects.proofs.marking.unset_names.Given as goal

abbrev pub invariant-loop-name : goal.invariant-loop-name
invariant-loop-name l = record {
  value : l.marks ≡ record l.fn.marks { marks = marks_left (texts_of (take l.name-index l.names)) l.fn.marks.marks };
  sound : AreMarks l.fn.marks → AreMarks l.marks;
}
