use Rattle.peers.proofs.Common.{◌+◌, ◌<◌, ◌≤◌, ap, ◌∙◌, arith, length, take_all, windows_of}
use Rattle.peers.proofs.WindowLaws.{front-windows, next-windows}
use Rattle.peers.proofs.WorldLaws.{read-count}
use Rattle.peers.proofs.document_list.Documents.widget_count.Goals as goal

pub overflow_add-count : goal.overflow_add-count
overflow_add-count g c =
    let documents = c.args.self.now.list.items in
    let within : c.loop-place.place < length documents = omega (
      arith,
      c.loop-place-test.true,
      c.len-place-end.ensures,
      c.args.self.now.list.ok.0,
    ) in
    omega (
      arith,
      c.requires,
      c.loop-place.invariant,
      c.widget_count-count.ensures,
      next-windows c.loop-place.place documents within,
      front-windows (c.loop-place.place + 1) documents,
      read-count documents c.loop-place.place c.index.result.now within c.index.ensures,
    )

pub loop-place-preserved : goal.loop-place-preserved
loop-place-preserved g c =
    let documents = c.args.self.now.list.items in
    let within : c.loop-place.place < length documents = omega (
      arith,
      c.loop-place-test.true,
      c.len-place-end.ensures,
      c.args.self.now.list.ok.0,
    ) in
    omega (
      arith,
      c.loop-place.invariant,
      c.widget_count-count.ensures,
      next-windows c.loop-place.place documents within,
      read-count documents c.loop-place.place c.index.result.now within c.index.ensures,
    )

pub returns : goal.returns
returns g c =
    let documents = c.args.self.now.list.items in
    let past : length documents ≤ c.loop-place.place = omega (
      arith,
      c.loop-place-test.false,
      c.len-place-end.ensures,
      c.args.self.now.list.ok.0,
    ) in
    c.loop-place.invariant ∙ ap (λ ds. length (windows_of ds)) (take_all c.loop-place.place documents past)
