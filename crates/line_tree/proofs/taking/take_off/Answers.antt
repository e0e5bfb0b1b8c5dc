use Rattle.line_tree.proofs.Common.{◌≡◌, ap, sym, ◌∙◌, subst, OnSome, length, option_to_list, without_mark, LineContent}
use Rattle.line_tree.proofs.Common.{line_of, records, update, WroteLine, at_some}
use Rattle.raw_nodes.specs.Records.{with_line}
use Rattle.std.proofs.Common.{option_map}
use Rattle.line_tree.proofs.TakingLaws.{how-many}
use Rattle.line_tree.proofs.taking.take_off.Goals as goal

pub returns : goal.returns
returns g c = let new = c.take_mark.new.self in
    record {
      takes =
          let m = records c.args.store.now in let p = c.args.name in let number = c.args.number.0 in
          let old = c.unwrap-line.result.now in
          let wrote = subst (λ o. OnSome o (WroteLine c.args.store.now (c.line_mut.follows.lender new) p new))
          c.unwrap-line.ensures (c.line_mut.follows.holds new) in
          let without : new ≡ without_mark number old = λ i. record {
            columns = c.take_mark.ensures.columns i;
            marks = c.take_mark.ensures.marks i;
          } in
          record {
            line = old;
            was = ap line_of c.requires.line.is
                ∙ sym (at_some _ (λ r. option_map (λ x. x.now) c.line_mut.result ≡ r.line) c.requires.line.found
                c.line_mut.ensures.value c.requires.line.is) ∙ ap (option_map (λ x. x.now)) c.unwrap-line.ensures;
            same = wrote.records ∙ ap (λ (l : LineContent). update m p (λ r. with_line r l)) without;
            few = how-many c.mark_place.result c.is_some.result c.from-gone.result c.is_some.ensures c.from-gone.ensures
                ∙ ap (λ o. length (option_to_list o)) c.mark_place.ensures.value;
          };
      spares = (subst (λ o. OnSome o (WroteLine c.args.store.now (c.line_mut.follows.lender new) c.args.name new))
          c.unwrap-line.ensures (c.line_mut.follows.holds new)).spares;
      rooms = (subst (λ o. OnSome o (WroteLine c.args.store.now (c.line_mut.follows.lender new) c.args.name new))
          c.unwrap-line.ensures (c.line_mut.follows.holds new)).rooms;
    }
