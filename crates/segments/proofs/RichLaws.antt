-- What a line with room for toggles and marks is kept as, and the line that it is seen as.
use Rattle.segments.proofs.Common.{◌≡◌, sym, ap, subst, ◌∙◌, length, LineContent, characters, columns_from, marks_of}
use Rattle.segments.proofs.Common.{AreKept, StandIn, LieIn, toggles, parity, presence, odd_of, any_of, arith, Inside}
use Rattle.segments.proofs.ColumnLaws.{characters-columns, length-columns, parity-columns, presence-columns}
use Rattle.segments.proofs.MarkPlaceLaws.{kept_stand}

abbrev pub seen : Inside → LineContent
seen inside = record { columns = columns_from 0 inside.text inside.toggles.items; marks = marks_of inside.marks.items }

module _ (inside : Inside) {line : LineContent} (is : seen inside ≡ line) where
  pub as_long : length inside.text ≡ length line.columns
  as_long = sym (length-columns 0 inside.text inside.toggles.items) ∙ ap (λ (l : LineContent). length l.columns) is

  pub same_text : characters line.columns ≡ inside.text
  same_text = sym (ap (λ (l : LineContent). characters l.columns) is)
      ∙ characters-columns 0 inside.text inside.toggles.items

  pub marks_within : AreKept (length inside.text) inside.reach inside.marks.items →
      StandIn (length line.columns) inside.marks.items
  marks_within kept = subst (λ n. StandIn n inside.marks.items) as_long
      (kept_stand (length inside.text) inside.reach inside.marks.items kept)

  -- what its toggles say of its columns
  module _ (lie : LieIn 0 (length inside.text) inside.toggles.items) where
    pub same_parity : parity (toggles line.columns) ≡ odd_of inside.toggles.items
    same_parity = sym (ap (λ (l : LineContent). parity (toggles l.columns)) is)
        ∙ parity-columns 0 (length inside.text) inside.text inside.toggles.items (omega arith) lie

    pub same_presence : presence (toggles line.columns) ≡ any_of inside.toggles.items
    same_presence = sym (ap (λ (l : LineContent). presence (toggles l.columns)) is)
        ∙ presence-columns 0 (length inside.text) inside.text inside.toggles.items (omega arith) lie
