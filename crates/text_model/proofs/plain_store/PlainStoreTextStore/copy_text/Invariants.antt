use Rattle.text_model.proofs.Common.{◌≡◌, take, chars, string_bytes, characters}
use Rattle.text_model.proofs.plain_store.PlainStoreTextStore.copy_text.Given as goal

abbrev pub invariant-loop-cell : goal.invariant-loop-cell
invariant-loop-cell l = chars (string_bytes l.text) ≡ characters (take l.cell-index l.cell-items)
