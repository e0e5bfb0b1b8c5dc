-- What a sight of a text shows.
use Rattle.text_model.specs.declared.store.TextStore.{Ghosts}
use Rattle.text_index.specs.Parts.{part_of}
use Rattle.search_dump.specs.Dump.{Outlook}
use Rattle.search_dump.specs.declared.sights.Sight.{Sight}

module _ {S P : Type 0} {g : Ghosts S P} where
  abbrev pub outlook : Sight S P g → Outlook
  outlook sight = record {
    part = part_of sight.view.now;
    tags = sight.names.now.tags.now.tags;
    marks = sight.names.now.marks.now.marks;
    widget = sight.names.now.widget.0;
  }
