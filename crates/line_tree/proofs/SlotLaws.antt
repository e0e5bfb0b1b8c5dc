-- Whether a slot is on before a place that comes nearer by a node.
use Rattle.line_tree.proofs.Common.{◌≡◌, ◌<◌, Bool, true, false, not, refl, ap, ◌∙◌, IfSome, None, Option, Some, Count}
use Rattle.line_tree.proofs.Common.{Record, slot_behind, SlotBefore, either}
use Rattle.segments.proofs.EntryLaws.{unequal}
use Rattle.std.proofs.Props.{props}
use Rattle.std.specs.Bool.{beq}
use Rattle.text_model.specs.TagBits.{slot_count}
use mathlib.Core.HLevel.{is_prop→PathP}
use Rattle.std.specs.FinSet as set

pub either-none : (a : Bool) → either false a ≡ a
either-none true = refl
either-none false = refl

either-twice : (a b : Bool) → either (either a b) b ≡ a
either-twice true true = refl
either-twice true false = refl
either-twice false true = refl
either-twice false false = refl

same-before : (a b : SlotBefore) → a.slot ≡ b.slot → a.is_odd ≡ b.is_odd → a ≡ b
same-before a b slot odd = λ i. record {
  slot = slot i;
  is_odd = odd i;
  known = is_prop→PathP (λ j. (slot j).0 < slot_count) (λ j. Prim.hlevel props) a.known b.known i;
}

turned : (a now : SlotBefore) (s : Count) (odd : Bool) → now.slot ≡ a.slot → now.is_odd ≡ not (beq a.is_odd odd) →
    odd ≡ set.contains s.parity a.slot.0 → now ≡ slot_behind a s
turned a now s odd slot turns is =
    same-before now (slot_behind a s) slot (turns ∙ unequal a.is_odd odd ∙ ap (either a.is_odd) is)

-- on to the node's end
pub passed-slot : (o : Option Record) (a now : SlotBefore) (odd : Bool) → now.slot ≡ a.slot →
    now.is_odd ≡ not (beq a.is_odd odd) → IfSome o (λ r. odd ≡ set.contains r.sum.parity a.slot.0) →
    IfSome o (λ r. now ≡ slot_behind a r.sum)
passed-slot None a now odd slot turns is = tt
passed-slot (Some r) a now odd slot turns is = turned a now r.sum odd slot turns is

-- back to its beginning
pub back-slot : (a b now : SlotBefore) (s : Count) (odd : Bool) → now.slot ≡ b.slot →
    now.is_odd ≡ not (beq b.is_odd odd) → b ≡ slot_behind a s → odd ≡ set.contains s.parity b.slot.0 → now ≡ a
back-slot a b now s odd slot turns before is =
    turned b now s odd slot turns is ∙ ap (λ c. slot_behind c s) before
    ∙ same-before _ a refl (either-twice a.is_odd (set.contains s.parity a.slot.0))
