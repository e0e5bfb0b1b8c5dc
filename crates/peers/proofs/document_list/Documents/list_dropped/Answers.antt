use Rattle.peers.proofs.Common.{◌<◌, ◌≤◌, ◌∙◌, ap, arith, flat_map, length, take_all, texts_of, marks_dropped}
use Rattle.peers.proofs.DroppedLaws.{dropped-next}
use Rattle.peers.proofs.document_list.Documents.list_dropped.Goals as goal

pub loop-place-preserved : goal.loop-place-preserved
loop-place-preserved g c =
    let documents = c.args.self.now.list.items in
    let within : c.loop-place.place < length documents = omega (
      arith,
      c.loop-place-test.true,
      c.len-place-end.ensures,
      c.args.self.now.list.ok.0,
    ) in
    dropped-next (texts_of c.args.names.now) documents c.loop-place.place c.index.result.now c.loop-place.marks
    c.list_dropped.new.marks within c.index.ensures c.loop-place.invariant c.in_ok-list_dropped.ensures

pub returns : goal.returns
returns g c =
    let documents = c.args.self.now.list.items in
    let past : length documents ≤ c.loop-place.place = omega (
      arith,
      c.loop-place-test.false,
      c.len-place-end.ensures,
      c.args.self.now.list.ok.0,
    ) in
    c.loop-place.invariant
    ∙ ap (flat_map (marks_dropped (texts_of c.args.names.now))) (take_all c.loop-place.place documents past)
