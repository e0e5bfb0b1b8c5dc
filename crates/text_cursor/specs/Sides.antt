-- The parts on one side of a place, the nearest one last.
use Rattle.std.specs.Prelude.{◌≡◌, Bool, List, [], ◌∷◌, ◌++◌}
use Rattle.text_cursor.specs.declared.blocks.Block.{Block}
use Rattle.text_cursor.specs.declared.parts.Part.{Part}
use Rattle.text_cursor.specs.declared.sides.Side.{Side}
use Rattle.text_cursor.specs.Parts.{turned_if}

-- the parts of blocks, each block in the order of the text, or turned
abbrev pub block_parts : Bool → List Block → List Part
block_parts turned [] = []
block_parts turned (block ∷ blocks) = turned_if turned block.parts.items ++ block_parts turned blocks

abbrev pub side_parts : Side → List Part
side_parts side = block_parts side.turned side.far.items ++ side.near.items

-- the same parts, some of them in other blocks
pub record StaysSide (before now : Side) : Type 0 where
  pub turned : now.turned ≡ before.turned
  pub parts : side_parts now ≡ side_parts before
