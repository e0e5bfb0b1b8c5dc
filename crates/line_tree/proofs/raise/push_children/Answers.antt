use Rattle.line_tree.proofs.Common.{◌++◌, sym, ap, ◌∙◌, arith, vec_capacity, Vec, option_to_list, append-nil, NodePtr}
use Rattle.line_tree.proofs.Common.{kids, records}
use Rattle.std.specs.Global.{Global}
use Rattle.line_tree.proofs.RaiseLaws.{grown}
use Rattle.line_tree.proofs.raise.push_children.Goals.{in-Some, in_default}
use Rattle.line_tree.proofs.raise.push_children.Goals as goal

pub loop-slot-preserved : goal.loop-slot-preserved
loop-slot-preserved g c =
    let cs = kids (records c.args.store.now) c.args.node in let from = c.loop-slot.invariant.from in
    let next = grown c.args.list.now.items cs c.args.from c.loop-slot.slot from in
    elim c.match-listed.branch [
      | in-Some w ↦ record {
        from = omega (arith, from);
        list = ap (λ (v : Vec NodePtr Global). v.items) w.list-is ∙ w.push_reserved.ensures.items
            ∙ (λ i. c.loop-slot.invariant.list i ++ sym (ap option_to_list (sym c.listed.ensures ∙ w.in-Some.is)) i) ∙ next;
        names = ap vec_capacity w.list-is ∙ w.push_reserved.ensures.capacity ∙ c.loop-slot.invariant.names;
      }
      | in_default w ↦ record {
        from = omega (arith, from);
        list = ap (λ (v : Vec NodePtr Global). v.items) w.list-is ∙ sym (append-nil c.loop-slot.list.items)
            ∙ (λ i. c.loop-slot.invariant.list i ++ sym (ap option_to_list (sym c.listed.ensures ∙ w.in_default.is)) i) ∙ next;
        names = ap vec_capacity w.list-is ∙ c.loop-slot.invariant.names;
      }
    ]
