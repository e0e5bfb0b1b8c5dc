use Rattle.name_list.proofs.Common.{IsIndexTo}
use Rattle.std.specs.HashMap.{values}
use Rattle.name_list.proofs.places.note_places.Given as goal

abbrev pub invariant-loop-place : goal.invariant-loop-place
invariant-loop-place l = IsIndexTo (values l.numbers) l.place l.places
