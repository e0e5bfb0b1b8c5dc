use Rattle.peers.proofs.commands.answer.Goals as goal

pub returns-in-MarkGravity-clause-does : goal.returns-in-MarkGravity-clause-does
returns-in-MarkGravity-clause-does g c = λ windows.
    rw c.in-MarkGravity.is (c.mark_gravity.ensures c.args.request.now.caller.limits.now)

pub returns-in-TagRaise-clause-does : goal.returns-in-TagRaise-clause-does
returns-in-TagRaise-clause-does g c = λ windows.
    rw c.in-TagRaise.is (c.tag_raise.ensures c.args.request.now.caller.limits.now)

pub returns-in-TagLower-clause-does : goal.returns-in-TagLower-clause-does
returns-in-TagLower-clause-does g c = λ windows.
    rw c.in-TagLower.is (c.tag_lower.ensures c.args.request.now.caller.limits.now)

pub returns-in-Configure-clause-does : goal.returns-in-Configure-clause-does
returns-in-Configure-clause-does g c = λ windows.
    rw c.in-Configure.is (c.configure.ensures c.args.request.now.caller.limits.now)

pub returns-in-EditModified-clause-does : goal.returns-in-EditModified-clause-does
returns-in-EditModified-clause-does g c = λ windows.
    rw c.in-EditModified.is (c.edit_modified.ensures.does c.args.request.now.caller.limits.now)

pub returns-in-EditReset-clause-does : goal.returns-in-EditReset-clause-does
returns-in-EditReset-clause-does g c = λ windows.
    rw c.in-EditReset.is (c.edit_reset.ensures c.args.request.now.caller.limits.now)

pub returns-in-EditSeparator-clause-does : goal.returns-in-EditSeparator-clause-does
returns-in-EditSeparator-clause-does g c = λ windows.
    rw c.in-EditSeparator.is (c.edit_separator.ensures c.args.request.now.caller.limits.now)

pub returns-in-MarkUnset-clause-does : goal.returns-in-MarkUnset-clause-does
returns-in-MarkUnset-clause-does g c = λ windows.
    rw c.in-MarkUnset.is (c.unset_marks.ensures c.args.request.now.caller.limits.now)
