-- A link is a name, or none where its pointer is null.
use Rattle.std.specs.Prelude.{◌≡◌, Option, None, Some}
use mathlib.Core.Path.{ap}
use denote.RawPtr.{Ptr, block_ptr, null_ptr, count_of}
use Rattle.raw_nodes.specs.declared.names.Link.{Link}
use Rattle.raw_nodes.specs.declared.names.NodePtr.{NodePtr}

abbrev pub name_at : (p : Ptr) → count_of p ≡ 0 → Option NodePtr
name_at (block_ptr b o) start = Some (record { at = block_ptr b o; start = ap (block_ptr b) start })
name_at null_ptr start = None

abbrev pub link_name : Link → Option NodePtr
link_name l = name_at l.at l.start
