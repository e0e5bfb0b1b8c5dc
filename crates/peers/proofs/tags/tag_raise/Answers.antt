use Rattle.peers.proofs.tags.tag_raise.Goals as goal

pub returns : goal.returns
returns g c = λ limits. rw c.in_ok-name.ensures.ok (c.raise.ensures limits)
