use Rattle.peers.proofs.Common.{◌<◌, ◌≤◌, ap, ◌∙◌, arith, length, homes_of, take_all}
use Rattle.peers.proofs.HomeLaws.{homes-more}
use Rattle.peers.proofs.document_list.Documents.homes.Goals as goal

pub loop-place-preserved : goal.loop-place-preserved
loop-place-preserved g c =
    let documents = c.args.self.now.list.items in
    let within : c.loop-place.place < length documents = omega (
      arith,
      c.loop-place-test.true,
      c.len-place-end.ensures,
      c.args.self.now.list.ok.0,
    ) in
    homes-more documents c.loop-place.place c.index.result.now c.loop-place.homes c.push_widgets.new.self within
    c.index.ensures c.loop-place.invariant c.in_ok-push_widgets.ensures

pub returns : goal.returns
returns g c =
    let documents = c.args.self.now.list.items in
    let past : length documents ≤ c.loop-place.place = omega (
      arith,
      c.loop-place-test.false,
      c.len-place-end.ensures,
      c.args.self.now.list.ok.0,
    ) in
    c.loop-place.invariant ∙ ap homes_of (take_all c.loop-place.place documents past)
