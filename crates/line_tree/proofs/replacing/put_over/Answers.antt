use Rattle.line_tree.proofs.Common.{◌≡◌, ap, sym, ◌∙◌, subst, OnSome, WroteLine, at_some, line_of}
use Rattle.std.proofs.Common.{option_map}
use Rattle.line_tree.proofs.replacing.put_over.Goals as goal

pub returns : goal.returns
returns g c = let new = c.args.line in
    record {
      puts =
          let wrote = subst (λ o. OnSome o (WroteLine c.args.store.now (c.line_mut.follows.lender new) c.args.name new))
          c.unwrap-place.ensures (c.line_mut.follows.holds new) in
          record {
            line = c.unwrap-place.result.now;
            was = ap line_of c.requires.line.is
                ∙ sym (at_some _ (λ r. option_map (λ x. x.now) c.line_mut.result ≡ r.line) c.requires.line.found
                c.line_mut.ensures.value c.requires.line.is) ∙ ap (option_map (λ x. x.now)) c.unwrap-place.ensures;
            same = wrote.records;
            went = c.sum_to-2.ensures;
            came = c.sum_to.ensures;
          };
      spares = (subst (λ o. OnSome o (WroteLine c.args.store.now (c.line_mut.follows.lender new) c.args.name new))
          c.unwrap-place.ensures (c.line_mut.follows.holds new)).spares;
      rooms = (subst (λ o. OnSome o (WroteLine c.args.store.now (c.line_mut.follows.lender new) c.args.name new))
          c.unwrap-place.ensures (c.line_mut.follows.holds new)).rooms;
    }
