use Rattle.handles.proofs.Common.{Some, sym, ap, ◌∙◌}
use Rattle.handles.proofs.CallLaws.{calls-held, calls_told-held}
use Rattle.handles.proofs.handle.Handle.call.Goals as goal

pub returns : goal.returns
returns c =
    let was = c.take-session.ensures.value ∙ ap (λ s. Some s) (sym c.deref_mut.ensures.value) in
    record {
      plain = λ no. calls-held _ _ c.deref_mut.result.now c.call_bytes-ended.new.self c.args.lengths.now
          c.args.bytes.now c.call_bytes-ended.result was c.put.ensures.session (c.call_bytes-ended.ensures.plain no);
      told = λ yes. calls_told-held c.args.marks _ _ c.deref_mut.result.now c.call_bytes-ended.new.self
          c.args.lengths.now c.args.bytes.now c.call_bytes-ended.result was c.put.ensures.session (c.call_bytes-ended.ensures.told yes);
    }
