-- What C's handle owns: nothing where it is empty, else the session on the heap and the right to free it.
use Rattle.std.specs.Prelude.{Option, Some, None}
use mir.Syntax.{Ty}
use base.Fml.{Fml, ftrue}
use denote.RattleType.{RattleType}
use denote.RawPtr.{Ptr}
use Rattle.std.specs.Box.Ownership.{box_owns}
use Rattle.std_heap.specs.contracts.GlobalAllocator.TheImpl.{ghosts}

-- the right to free a block of the C library's heap, which has one handle
abbrev pub frees : Ty → Ptr → Fml
frees = ghosts.dealloc_token (record { memory = record { seal = tt } })

abbrev pub held_value : (R : RattleType) → Ptr → Option R.Denot → Fml
held_value R p (Some x) = box_owns frees R p x
held_value R p None = ftrue
