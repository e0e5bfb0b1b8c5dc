use Rattle.peers.proofs.tags.tag_lower.Goals as goal

pub returns : goal.returns
returns g c = λ limits. rw c.in_ok-name.ensures.ok (c.lower.ensures limits)
