use Rattle.search_dump.proofs.Common.{ℕ, ◌<◌, ◌≢◌, arith, cases_lt, inl, inr, length, refl, slots_of, slot_of_row}
use Rattle.search_dump.proofs.Common.{slice_index_or, AreKept, IsApart}
use Rattle.search_dump.proofs.TurnLaws.{turn-either, turn-more, turned-none}
use Rattle.search_dump.proofs.tag_changes.TagChanges.turned.Goals as goal

pub loop-at-init : goal.loop-at-init
loop-at-init c =
    let names = c.args.names.now in
    let slots = slots_of names.tags.now.tags in
    let stays : (change : ℕ → ℕ) → AreKept change names.widget.0 slots (length names.tags.now.tags)
    c.args.self.now.next.items → (at : ℕ) → at < length names.tags.now.tags → IsApart c.args.rows at →
    change (slot_of_row names.widget.0 slots at) ≢ c.args.place =
    λ change kept at below outside same. omega (arith, kept at below, same, c.requires.apart at below outside) in
    record {
      turned = λ change kept at below which.
          turned-none change c.args.place (slot_of_row names.widget.0 slots at) c.args.tags.now (stays change kept at below
          (elim which [ inl outside ↦ outside | inr front ↦ inl front ]));
      either = λ change kept q. inl refl;
    }

pub loop-at-preserved : goal.loop-at-preserved
loop-at-preserved c =
    let names = c.args.names.now in
    let slots = slots_of names.tags.now.tags in
    let row = c.loop-at.at in
    let slot = slot_of_row names.widget.0 slots row in
    let next = slice_index_or c.args.self.now.next.items row 0 in
    let before = c.loop-at.invariant in
    record {
      turned = λ change kept at below which.
          turn-more change c.args.place slot next c.args.tags.now c.loop-at.turned
          c.turn.new.turned (kept row (omega arith)) c.turn.ensures.turned c.turn.ensures.same names.widget.0 slots
          row refl (before.either change kept) at
          (λ other. before.turned change kept at below
          (elim which [ inl outside ↦ inl outside | inr upto ↦ inr (omega (arith, upto, other)) ]));
      either = λ change kept q. turn-either change c.args.place slot next c.args.tags.now c.loop-at.turned
          c.turn.new.turned (kept row (omega arith)) c.turn.ensures.turned c.turn.ensures.same q
          (before.either change kept q);
    }

pub returns : goal.returns
returns c change kept at below =
    c.loop-at.invariant.turned change kept at below (elim (cases_lt at c.args.rows.end) [
      | inl inside ↦ inr (omega (arith, inside))
      | inr behind ↦ inl (inr behind)
    ])
