-- The part of a text that a view of a store shows.
use Rattle.text_model.specs.declared.store.TextStore.{Ghosts}
use Rattle.text_index.specs.Views.{Part}
use Rattle.text_index.specs.declared.views.View.{View}

module _ {S P : Type 0} {g : Ghosts S P} where
  abbrev pub part_of : View S P g → Part
  part_of view = record { content = g.content view.store.now; start = view.start; end = view.end }
