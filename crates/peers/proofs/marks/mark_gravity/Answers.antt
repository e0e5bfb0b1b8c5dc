use Rattle.peers.proofs.marks.mark_gravity.Goals as goal

pub returns : goal.returns
returns g c = λ limits.
    rw (
      c.in_ok-name.ensures.ok,
      c.in-Some-word.is,
      ← c.place_named.ensures.value,
      c.in-Some.is,
      ← c.read_gravity.ensures,
      c.in-Some-read_gravity.is,
    ) (c.put_mark.ensures limits)
