use Rattle.raw_nodes.proofs.Common.{◌≡◌, None, Some, ap, refl, sym, ◌∙◌, is_some, line_in, link_name, record_in}
use Rattle.raw_nodes.proofs.Common.{room_in, with_line, Node}
use Rattle.raw_nodes.specs.Names.{records}
use Rattle.raw_nodes.proofs.NameLaws.{line_if, line_said, lined, name_within, no_line, same_node}
use Rattle.raw_nodes.proofs.StoreLaws.{changed, kept, place_of, read, used}
use Rattle.raw_nodes.proofs.store.NodeStore.line_mut.Goals as goal

pub node-requires : goal.node-requires
node-requires g c = place_of c.args.self.now c.args.name c.requires

pub node_mut-requires : goal.node_mut-requires
node_mut-requires g c = place_of c.args.self.now c.args.name c.requires

pub returns-then-not-is_line : goal.returns-then-not-is_line
returns-then-not-is_line g c =
    let held = c.node.result.now.held in (
      (refl, (λ w. tt), refl),
      record {
        writes_back = tt;
        value = read c.args.self.now c.args.name c.requires c.node.ensures (λ r. None ≡ r.line)
            (sym (line_said held _ (used c.args.self.now c.args.name c.requires c.node.ensures)
            ∙ no_line held (sym c.if-not-is_line.ensures)));
      },
    )

pub line_mut-requires : goal.line_mut-requires
unfolding records
line_mut-requires g c =
    let h = c.args.self.now.heap in let p = c.args.name in let x = c.node_mut.result.now in
    let e = c.node_mut.ensures.value in
    let within = name_within h.places h.values p x h.paired c.requires e in
    let same = same_node h.places h.values p c.node.result.now x within c.node.ensures e in
    line_if x.held (sym (ap (λ (z : Node). is_some (line_in z.held)) same) ∙ sym c.if-not-is_line.ensures)

pub invariant_of-self-lent : goal.invariant_of-self-lent
invariant_of-self-lent g c = λ w.
    let a = kept c.args.self.now c.args.name c.requires c.node_mut.ensures.value _ refl refl refl
    (sym (ap room_in c.line_mut.ensures.value)) in
    (a.listed, (a.whole, (a.small, (a.chained, (a.counted, (a.followed, (a.apart, (a.roomed, (a.fitting, tt)))))))))

pub returns : goal.returns
unfolding records
returns g c =
    let x = c.node_mut.result.now in (
      (
        refl,
        (λ w. record {
          records = changed c.args.self.now c.args.name c.requires c.node_mut.ensures.value _ refl (λ r. with_line r w)
              (lined x.held _ w _ c.line_mut.ensures.value);
          spares = refl;
          rooms = refl;
        }),
        refl,
      ),
      record {
        writes_back = tt;
        value = read c.args.self.now c.args.name c.requires c.node_mut.ensures.value
            (λ r. Some c.line_mut.result.now ≡ r.line)
            (sym (ap (λ k. (record_in k (link_name x.parent)).line) c.line_mut.ensures.value));
      },
    )
