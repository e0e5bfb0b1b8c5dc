use Rattle.raw_nodes.proofs.Common.{◌∙◌, arith, sym, ats}
use Rattle.raw_nodes.proofs.NeighbourLaws.{apart_had, before_first, before_number}
use Rattle.raw_nodes.proofs.store.NodeStore.place.Goals as goal

pub loop-before-init : goal.loop-before-init
loop-before-init g c = record { place = c.requires; counted = omega arith }

pub node-requires : goal.node-requires
node-requires g c = c.loop-before.invariant.place

pub overflow_add-steps : goal.overflow_add-steps
overflow_add-steps g c =
    let s = c.args.self.now in let h = s.heap in let l = c.loop-before in
    let back = before_number h.places h.values s.last l.at c.node.result.now h.paired l.invariant.place c.node.ensures
    (apart_had (ats h.places) s.apart) s.listed c.in-Some.before (sym c.name.ensures ∙ c.in-Some.is) in
    let next = back.1 in let counted = l.invariant.counted in let within = c.requires in let paired = h.paired in
    let whole = s.whole in let small = s.small in
    record { fits = omega (arith, next, counted, within, paired, whole, small) }

pub loop-before-preserved : goal.loop-before-preserved
loop-before-preserved g c =
    let s = c.args.self.now in let h = s.heap in let l = c.loop-before in
    let back = before_number h.places h.values s.last l.at c.node.result.now h.paired l.invariant.place c.node.ensures
    (apart_had (ats h.places) s.apart) s.listed c.in-Some.before (sym c.name.ensures ∙ c.in-Some.is) in
    let next = back.1 in let counted = l.invariant.counted in
    record { place = back.0; counted = omega (arith, next, counted) }

pub loop-before-smaller : goal.loop-before-smaller
loop-before-smaller g c =
    let s = c.args.self.now in let h = s.heap in let l = c.loop-before in
    let back = before_number h.places h.values s.last l.at c.node.result.now h.paired l.invariant.place c.node.ensures
    (apart_had (ats h.places) s.apart) s.listed c.in-Some.before (sym c.name.ensures ∙ c.in-Some.is) in
    let next = back.1 in omega (arith, next)

pub returns : goal.returns
returns g c =
    let s = c.args.self.now in let h = s.heap in let l = c.loop-before in
    let first = before_first h.places h.values s.last l.at c.node.result.now h.paired l.invariant.place c.node.ensures
    (apart_had (ats h.places) s.apart) s.listed (sym c.name.ensures ∙ c.in_default.is) in
    let counted = l.invariant.counted in omega (arith, first, counted)
