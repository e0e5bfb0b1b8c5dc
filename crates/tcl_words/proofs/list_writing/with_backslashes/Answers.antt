use Rattle.tcl_words.proofs.Common.{◌++◌, ◌∙◌, ap, length, chars, string_bytes, encode_utf8, arith, length_push}
use Rattle.std.proofs.lemmas.Iterator.{YieldsList-from_chars}
use Rattle.std.proofs.lemmas.Iterator.Consumers.{YieldsList-turn, YieldsList-end}
use Rattle.tcl_words.proofs.ListForms.{back_special, back_other, back_ends}
use Rattle.tcl_words.proofs.list_writing.with_backslashes.Goals as goal

pub loop-c-preserved-in-Continue-branch-4 : goal.loop-c-preserved-in-Continue-branch-4
loop-c-preserved-in-Continue-branch-4 c =
    let t = YieldsList-turn (YieldsList-from_chars c.args.element.now c.utf8.element cc) c.loop-c.yielded _
    c.loop-c.yielded_by _ _ c.in-Some.c c.in-Some.is c.next.ensures.steps in
    back_special (chars c.args.element.now) (length c.loop-c.yielded) _ c.in-Some.c c.needs_backslash.result _ _ _ t
    c.loop-c.invariant c.needs_backslash.ensures c.if-needs_backslash.true
    (length_push c.loop-c.yielded c.in-Some.c) c.in_ok-push-2.ensures.bytes
    (c.in_ok-push-3.ensures.bytes ∙ ap (λ d. string_bytes c.push-then-needs_backslash.new.self ++ encode_utf8 d)
    c.white_letter.ensures)

pub loop-c-preserved : goal.loop-c-preserved
loop-c-preserved c =
    let t = YieldsList-turn (YieldsList-from_chars c.args.element.now c.utf8.element cc) c.loop-c.yielded _
    c.loop-c.yielded_by _ _ c.in-Some.c c.in-Some.is c.next.ensures.steps in
    back_other (chars c.args.element.now) (length c.loop-c.yielded) _ c.in-Some.c c.needs_backslash.result _ _ t
    c.loop-c.invariant c.needs_backslash.ensures c.if-needs_backslash.false
    (length_push c.loop-c.yielded c.in-Some.c) c.in_ok-push-4.ensures.bytes

pub returns : goal.returns
returns c =
    let t = YieldsList-end (YieldsList-from_chars c.args.element.now c.utf8.element cc) c.loop-c.yielded _
    c.loop-c.yielded_by _ _ c.in-None.is c.next.ensures.steps in
    let long = t.1 in
    back_ends (chars c.args.element.now) (length c.loop-c.yielded) _ (omega arith) c.loop-c.invariant
