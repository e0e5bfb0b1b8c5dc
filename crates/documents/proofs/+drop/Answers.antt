use Rattle.documents.proofs.Common.{◌∷◌, sym, ap, subst, ◌∙◌, AllByRecursion, Content, texts_of, IsWellFormedDocument}
use Rattle.documents.proofs.Common.{if◌then◌else◌, refl, Stands, Parts, Document, ◌≡◌, ap₂, map, nil_from_length}
use Rattle.documents.proofs.Common.{IfOk-from_err, on_err_weaker}
use Rattle.documents.proofs.ChangeLaws.{stands-same}
use Rattle.documents.proofs.PartsLaws.{stand}
use Rattle.documents.proofs.ResultLaws.{on_err, on_ok, on_ok_both}
use Rattle.documents.proofs.UnseatedLaws.{leaves-others}
use Rattle.documents.specs.Widgets as widgets
use Rattle.documents.proofs.+drop.Goals as goal

-- the text is prepared, and stays as it was
stands-prepared : {parts : Parts} {document : Document} {content : Content} → Stands parts document →
    content ≡ parts.content → Stands (record parts { content = content }) document
stands-prepared {parts} stands same = stands-same stands (ap (λ content. record parts { content = content }) same)

pub documents::Document::drop_with-returns-in_err-slots :
    goal.documents::Document::drop_with-returns-in_err-slots
documents::Document::drop_with-returns-in_err-slots g t c =
    let result = c.from_residual.result in
    let fails = c.from_residual.ensures.0 in
    record {
      ok = IfOk-from_err result _ fails;
      others = IfOk-from_err result _ fails;
      err = on_err result (refl, refl);
      well_formed = λ limits formed. formed;
      all = λ limits formed. formed;
    }

pub documents::Document::drop_with-invariant_of-self : goal.documents::Document::drop_with-invariant_of-self
documents::Document::drop_with-invariant_of-self g t c =
    (stands-prepared (stand c.self.invariant c.self.view_is) c.prepare_drop.ensures.same).sound

pub documents::Document::drop_with-returns-in_err-change :
    goal.documents::Document::drop_with-returns-in_err-change
documents::Document::drop_with-returns-in_err-change g t c =
    let result = c.from_residual-in_err-change.result in
    let fails = c.from_residual-in_err-change.ensures.0 in
    let same = (stands-prepared (stand c.self.invariant c.self.view_is) c.prepare_drop.ensures.same).is in
    record {
      ok = IfOk-from_err result _ fails;
      others = IfOk-from_err result _ fails;
      err = on_err result (same, refl);
      well_formed = λ limits. subst (IsWellFormedDocument limits) (sym same);
      all = λ limits formed. formed;
    }

pub documents::Document::drop_with-invariant_of-self-in_err-drop_widgets :
    goal.documents::Document::drop_with-invariant_of-self-in_err-drop_widgets
documents::Document::drop_with-invariant_of-self-in_err-drop_widgets g t c =
    (stands-prepared (stand c.self.invariant c.self.view_is) c.prepare_drop.ensures.same).sound

pub documents::Document::drop_with-returns-in_err-drop_widgets :
    goal.documents::Document::drop_with-returns-in_err-drop_widgets
documents::Document::drop_with-returns-in_err-drop_widgets g t c =
    let result = c.from_residual-in_err-drop_widgets.result in
    let fails = c.from_residual-in_err-drop_widgets.ensures.0 in
    let same = (stands-prepared (stand c.self.invariant c.self.view_is) c.prepare_drop.ensures.same).is in
    record {
      ok = IfOk-from_err result _ fails;
      others = IfOk-from_err result _ fails;
      err = on_err result (same, c.in_err-drop_widgets.ensures.err);
      well_formed = λ limits. subst (IsWellFormedDocument limits) (sym same);
      all = c.in_err-drop_widgets.ensures.well_formed;
    }

pub documents::Document::drop_with-invariant_of-self-2 : goal.documents::Document::drop_with-invariant_of-self-2
documents::Document::drop_with-invariant_of-self-2 g t c =
    (leaves-others (texts_of c.args.names.now) (stand c.self.invariant c.self.view_is) c.remove_seats.ensures.value
    (c.commit.ensures ∙ c.in_ok-change.ensures.outcome) c.deref.ensures.value c.in_ok-slots.ensures.value).sound

pub documents::Document::drop_with-returns-clause-ok : goal.documents::Document::drop_with-returns-clause-ok
documents::Document::drop_with-returns-clause-ok g t c =
    let keeps = sym c.keeps_some.ensures ∙ c.if-not-keeps_some.false in
    (leaves-others (texts_of c.args.names.now) (stand c.self.invariant c.self.view_is) c.remove_seats.ensures.value
    (c.commit.ensures ∙ c.in_ok-change.ensures.outcome) c.deref.ensures.value c.in_ok-slots.ensures.value).is
    ∙ sym (ap (λ b. if b then widgets.without_widgets (texts_of c.args.names.now) c.args.self.now
    else c.args.self.now) keeps)

pub documents::Document::drop_with-returns-clause-well_formed :
    goal.documents::Document::drop_with-returns-clause-well_formed
documents::Document::drop_with-returns-clause-well_formed g t c =
    (leaves-others (texts_of c.args.names.now) (stand c.self.invariant c.self.view_is) c.remove_seats.ensures.value
    (c.commit.ensures ∙ c.in_ok-change.ensures.outcome) c.deref.ensures.value c.in_ok-slots.ensures.value).formed

pub widgets::drop_widgets-returns-in-Some-clause-well_formed :
    goal.widgets::drop_widgets-returns-in-Some-clause-well_formed
widgets::drop_widgets-returns-in-Some-clause-well_formed g t c = λ limits formed.
    let parts : AllByRecursion (IsWellFormedDocument limits) (c.in-Some.first.now ∷ c.in-Some.others.now) = subst
    (AllByRecursion (IsWellFormedDocument limits)) c.in-Some.ensures.cases.0 formed in
    (c.drop_with.ensures.well_formed limits parts.0, c.drop_with.ensures.all limits parts.1)

pub documents::Document::drop_with-returns-clause-others : goal.documents::Document::drop_with-returns-clause-others
documents::Document::drop_with-returns-clause-others g t c = c.in_ok-drop_widgets.ensures.ok

pub documents::Document::drop_with-returns-clause-all : goal.documents::Document::drop_with-returns-clause-all
documents::Document::drop_with-returns-clause-all g t c = c.in_ok-drop_widgets.ensures.well_formed

pub documents::Document::drop_with-returns-then-not-keeps_some :
    goal.documents::Document::drop_with-returns-then-not-keeps_some
documents::Document::drop_with-returns-then-not-keeps_some g t c =
    let result = c.drop_widgets.result in
    let keeps = sym c.keeps_some.ensures ∙ c.if-not-keeps_some.true in
    record {
      ok = on_ok result (sym (ap (λ b. if b then widgets.without_widgets (texts_of c.args.names.now) c.args.self.now
          else c.args.self.now) keeps));
      others = c.drop_widgets.ensures.ok;
      err = on_err_weaker result (λ same. (refl, same)) c.drop_widgets.ensures.err;
      well_formed = λ limits formed. formed;
      all = c.drop_widgets.ensures.well_formed;
    }

pub widgets::drop_widgets-returns-in-None : goal.widgets::drop_widgets-returns-in-None
widgets::drop_widgets-returns-in-None g t c =
    let none = nil_from_length c.args.documents.now c.in-None.ensures.cases in
    record {
      ok = none ∙ sym (ap (map (widgets.thinned (texts_of c.args.names.now))) none);
      err = tt;
      well_formed = λ limits formed. formed;
    }

pub widgets::drop_widgets-returns-in-Some-clause-ok : goal.widgets::drop_widgets-returns-in-Some-clause-ok
widgets::drop_widgets-returns-in-Some-clause-ok g t c =
    on_ok_both c.drop_with.result (λ first others.
    ap₂ (λ (document : Document) documents. document ∷ documents) first others
    ∙ sym (ap (map (widgets.thinned (texts_of c.args.names.now))) c.in-Some.ensures.cases.0)) c.drop_with.ensures.ok
    c.drop_with.ensures.others

pub widgets::drop_widgets-returns-in-Some-clause-err : goal.widgets::drop_widgets-returns-in-Some-clause-err
widgets::drop_widgets-returns-in-Some-clause-err g t c =
    on_err_weaker c.drop_with.result (λ same.
    ap₂ (λ (document : Document) documents. document ∷ documents) same.0 same.1 ∙ sym c.in-Some.ensures.cases.0) c.drop_with.ensures.err
