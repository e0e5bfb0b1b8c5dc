use Rattle.text_model.proofs.Common.{◌≡◌, drop, plain_content, IsPlain, Fits, after}
use Rattle.text_model.proofs.plain_store.PlainStoreTextStore.prepare.Given as goal

abbrev pub invariant-loop-step : goal.invariant-loop-step
invariant-loop-step l = record {
  plain : IsPlain l.cells.items l.places.items;
  fits : Fits (drop l.step-index l.steps) (plain_content l.cells.items l.places.items);
  rest : after (drop l.step-index l.steps) (plain_content l.cells.items l.places.items)
      ≡ after l.fn.edit.steps (plain_content l.fn.self.cells.items l.fn.self.places.items);
}
