use Rattle.peers.proofs.history.edit_modified.Goals as goal

pub returns-clause-does : goal.returns-clause-does
returns-clause-does g c = λ limits.
    rw (c.in_ok-word.ensures.ok, c.in-Some.is, ← c.in_ok-modified.ensures) (c.set_modified.ensures limits)
