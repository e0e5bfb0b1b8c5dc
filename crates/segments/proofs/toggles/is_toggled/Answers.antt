use Rattle.segments.proofs.Common.{◌≡◌, ◌*◌, ◌≤◌, take, drop, sym, ap, ap₂, subst, ◌∙◌, arith, nat_tests}
use Rattle.segments.proofs.Common.{take-append-drop, WORDS, LieIn, toggled_at, differing, differing-empty}
use Rattle.segments.proofs.EntryLaws.{RiseIn-low, none_above, none_before}
use Rattle.segments.proofs.SpanLaws.{counts_rise}
use Rattle.segments.proofs.ToggleLaws.{toggled-append}
use Rattle.std.specs.FinSet as set
use Rattle.segments.proofs.toggles.is_toggled.Goals as goal

pub returns : goal.returns
returns c = λ none low high at lie above below.
    let entries = c.args.toggles.now in
    let n = c.count_before.result in
    let m = c.count_before-2.result in
    let all = RiseIn-low (WORDS * low) (WORDS * 0) (WORDS * high) entries lie (omega arith) in
    let before = c.count_before.ensures.before 0 high all in
    let behind = c.count_before-2.ensures.behind 0 high all (omega arith) in
    let rises = counts_rise (WORDS * 0) (WORDS * c.args.from) (WORDS * c.args.to) (WORDS * high) entries n m before behind
    (omega (arith, above, below)) c.count_before.ensures.bound in
    let falls : m ≤ n = grind (arith, nat_tests) in
    let same : m ≡ n = omega (arith, rises, falls) in
    sym (ap (λ es. toggled_at es at) (take-append-drop n entries))
    ∙ toggled-append (take n entries) (drop n entries) at
    ∙ ap₂ differing (none_above (WORDS * 0) (WORDS * c.args.from) (take n entries) at before (omega (arith, above)))
    (none_before c.args.to high (drop n entries) at (subst (λ k. LieIn c.args.to high (drop k entries)) same behind) below)
    ∙ differing-empty set.empty
