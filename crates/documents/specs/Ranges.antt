-- The ranges that a command's indices make.
use Rattle.std.specs.Prelude.{ℕ, List, length}
use Rattle.edit_ops.specs.declared.spans.Span.{Span}
use Rattle.documents.specs.Views.{view_start, shown}
use Rattle.documents.specs.Documents.{Document, Widget}
use Rattle.documents.specs.declared.ranges.Ranges.{Ranges}
use Rattle.documents.specs.declared.ranges.Ranges.TheVariants.{One, Many}
use Rattle.command_effects.specs.Ranges.{spans_of}

abbrev pub spans_shown : Document → Widget → List ℕ → List Span
spans_shown document widget places = spans_of (view_start widget) (length (shown document widget)) places

-- ranges as they are kept
abbrev pub ranges_in : Ranges → List Span
ranges_in (One span) = span
ranges_in (Many spans) = spans.items
