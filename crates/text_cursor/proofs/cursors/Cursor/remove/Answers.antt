use Rattle.text_cursor.proofs.Common.{arith}
use Rattle.text_cursor.proofs.CursorLaws.{takes-none, takes-both}
use Rattle.text_cursor.proofs.cursors.Cursor.remove.Goals as goal

pub loop-self-init : goal.loop-self-init
loop-self-init c = record { takes = takes-none c.requires.cursor; above = omega arith }

pub loop-self-preserved : goal.loop-self-preserved
loop-self-preserved c = record {
  takes = takes-both c.requires.cursor c.loop-self.invariant.takes
      c.in_ok-drop_part.ensures.takes;
  above = let bound = c.in_ok-drop_part.ensures.bound in omega arith;
}
