use Rattle.handles.proofs.Common.{◌+◌, drop, get_or, sym, ◌∙◌, drop_more}
use Rattle.handles.proofs.WordLaws.{cutting-more, text-valid, whole-more}
use Rattle.handles.proofs.words.fault_of.Goals as goal

pub loop-length-preserved : goal.loop-length-preserved
loop-length-preserved c =
    let lengths = c.args.lengths.now in let bytes = c.args.bytes.now in
    let rest = c.loop-length.rest.now in let i = c.loop-length.length-index in
    let n = get_or lengths i 0 in
    let kept = c.loop-length.invariant in
    let left = drop_more lengths i 0 c.loop-length-test.true in
    let cases = c.in-Some.ensures.cases in
    let valid = text-valid _ _ _ _ c.from_utf8.ensures.cases (sym c.is_err.ensures.value ∙ c.if-is_err.false) in
    let text = rw cases.1 at valid in
    rw cases.2 (
      λ later. whole-more bytes rest n kept.0 text later,
      cutting-more lengths bytes (drop i lengths) rest n (drop (i + 1) lengths) kept.1 left cases.0,
    )
