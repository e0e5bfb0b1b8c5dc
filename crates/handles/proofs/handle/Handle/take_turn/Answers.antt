use Rattle.handles.proofs.Common.{Some, sym, ap, ◌∙◌}
use Rattle.handles.proofs.CallLaws.{takes-held, takes_told-held}
use Rattle.handles.proofs.handle.Handle.take_turn.Goals as goal

pub returns : goal.returns
returns c =
    let was = c.take-session.ensures.value ∙ ap (λ s. Some s) (sym c.deref_mut.ensures.value) in
    record {
      plain = λ no. takes-held _ _ c.deref_mut.result.now c.take_turn-ended.new.self c.take_turn-ended.result was
          c.put.ensures.session (c.take_turn-ended.ensures.plain no);
      told = λ yes. takes_told-held c.args.marks _ _ c.deref_mut.result.now c.take_turn-ended.new.self
          c.take_turn-ended.result was c.put.ensures.session (c.take_turn-ended.ensures.told yes);
    }
