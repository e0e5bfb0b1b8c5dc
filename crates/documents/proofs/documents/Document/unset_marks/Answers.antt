use Rattle.documents.proofs.Common.{map, ap, ◌∙◌, texts_of, Content, MarkNo, parts_of}
use Rattle.documents.proofs.ChangeLaws.{some_limits, stands-same}
use Rattle.documents.proofs.MarkLaws.{leaves-unset}
use Rattle.documents.proofs.PartsLaws.{stand}
use Rattle.documents.proofs.documents.Document.unset_marks.Goals as goal

pub invariant_of-self : goal.invariant_of-self
invariant_of-self g c =
    let parts = parts_of g.S.TextStore.content c.self.inside in
    (stands-same (stand c.self.invariant c.self.view_is) (ap (λ (content : Content).
    record parts { content = content }) c.in_err-take_marks.ensures.err)).sound

pub invariant_of-self-2 : goal.invariant_of-self-2
invariant_of-self-2 g c =
    (leaves-unset some_limits (texts_of c.args.names.now) (stand c.self.invariant c.self.view_is)
    c.unset_names.ensures.sound c.unset_names.ensures.value
    (ap (map (λ (number : MarkNo). number.0)) c.deref.ensures.value ∙ c.in_ok-numbers.ensures)
    c.in_ok-take_marks.ensures.ok).sound

pub returns : goal.returns
returns g c = λ limits.
    (leaves-unset limits (texts_of c.args.names.now) (stand c.self.invariant c.self.view_is)
    c.unset_names.ensures.sound c.unset_names.ensures.value
    (ap (map (λ (number : MarkNo). number.0)) c.deref.ensures.value ∙ c.in_ok-numbers.ensures)
    c.in_ok-take_marks.ensures.ok).does
