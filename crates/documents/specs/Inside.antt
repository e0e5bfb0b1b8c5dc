-- A document as the code has it.
use Rattle.text_model.specs.Content.{Content}
use Rattle.edit_ops.specs.States.{log_of}
use Rattle.documents.specs.Documents.{Parts}
use Rattle.documents.specs.declared.documents.Document.TheInside.{Inside}

-- its parts, where a function tells the content of its store
abbrev pub parts_of : {S P : Type 0} → (S → Content) → Inside S P → Parts
parts_of content inside = record {
  seats = inside.seats;
  tags = inside.tags;
  marks = inside.marks;
  journal = record {
    settings = inside.settings;
    disabled = inside.disabled.items;
    anchors = inside.text.anchors.items;
    log = log_of inside.text.history;
  };
  content = content inside.text.store;
}
