-- When a world is well formed.
use Rattle.std.specs.Prelude.{◌<◌, ◌≤◌, length}
use Rattle.std.specs.List.{AllByRecursion, IsDistinct}
use Rattle.text_model.specs.LimitTable.{AreLimits}
use Rattle.command_effects.specs.Words.{is_same}
use Rattle.documents.specs.WellFormed.{IsWellFormedDocument}
use Rattle.documents.specs.Documents.{Document}
use Rattle.peers.specs.World.{World, all_windows}

-- each document with a widget and each part in order, no two widgets of one name, and no more of them than there may be
pub record IsWellFormed (world : World) : Type 0 where
  pub limits : AreLimits world.limits
  pub shown : AllByRecursion (λ (document : Document). 0 < length document.widgets) world.documents
  pub documents : AllByRecursion (IsWellFormedDocument world.limits) world.documents
  pub widget_names : IsDistinct is_same (all_windows world)
  pub widget_count : length (all_windows world) ≤ world.limits.widgets
