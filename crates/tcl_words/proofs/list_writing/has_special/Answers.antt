use Rattle.tcl_words.proofs.Common.{◌∙◌, ap, refl, has_special, get_or_default}
use Rattle.tcl_words.proofs.ListForms.{special_found, special_goes, special_ends}
use Rattle.tcl_words.proofs.ElementBytes.{special_of}
use Rattle.tcl_words.proofs.list_writing.has_special.Goals as goal

pub returns-then-needs_backslash : goal.returns-then-needs_backslash
returns-then-needs_backslash c =
    let bytes = c.as_bytes-bytes.result.now in
    let same = get_or_default bytes c.loop-byte.byte-index 0 c.from.result c.loop-byte-test.true in
    special_found bytes c.loop-byte.byte-index c.from.result c.needs_backslash.result
    (c.loop-byte-test.true, c.from.ensures ∙ same)
    c.loop-byte.invariant c.needs_backslash.ensures c.if-needs_backslash.true
    ∙ ap has_special c.as_bytes-bytes.ensures.value ∙ special_of c.args.element.now c.utf8.element

pub loop-byte-preserved : goal.loop-byte-preserved
loop-byte-preserved c =
    let bytes = c.as_bytes-bytes.result.now in
    let same = get_or_default bytes c.loop-byte.byte-index 0 c.from.result c.loop-byte-test.true in
    special_goes bytes c.loop-byte.byte-index _ c.from.result c.needs_backslash.result
    (c.loop-byte-test.true, c.from.ensures ∙ same)
    c.loop-byte.invariant c.needs_backslash.ensures c.if-needs_backslash.false refl

pub returns : goal.returns
returns c =
    special_ends c.as_bytes-bytes.result.now c.loop-byte.byte-index c.loop-byte-test.false c.loop-byte.invariant
    ∙ ap has_special c.as_bytes-bytes.ensures.value ∙ special_of c.args.element.now c.utf8.element
