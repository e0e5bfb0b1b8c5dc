use Rattle.documents.proofs.Common.{◌≡◌, false, subst, sym, ap, ◌∙◌, arith, get_or_default, Anchors, lines, Settings}
use Rattle.documents.proofs.Common.{characters, parts_of, AreLines}
use Rattle.documents.proofs.PartsLaws.{sits, stand}
use Rattle.documents.proofs.WidgetLaws.{anchors-within, line_numbered, settings-kept, settings-lines, settings_at}
use Rattle.documents.proofs.documents.Document.settings.Given.{Over}
use Rattle.documents.proofs.documents.Document.settings.Goals.{After-line_at-2}
use Rattle.text_model.specs.Content as model
use Rattle.documents.proofs.documents.Document.settings.Goals as goal

pub index-anchors-requires : goal.index-anchors-requires
index-anchors-requires g c =
    let seat = sits c.args.seat (stand c.self.invariant c.self.view_is) c.number-slot.ensures.value in
    omega (arith, seat.anchors, c.self.inside.text.anchors.ok.0)

pub index-requires : goal.index-requires
index-requires g c =
    let seat = sits c.args.seat (stand c.self.invariant c.self.view_is) c.number-slot.ensures.value in
    omega (arith, seat.disabled, c.self.inside.disabled.ok.0)

pub line_at-requires-clause-within : goal.line_at-requires-clause-within
line_at-requires-clause-within g c =
    (anchors-within (sits c.args.seat (stand c.self.invariant c.self.view_is) c.number-slot.ensures.value)
    c.index-anchors.ensures).1

pub line_at-requires-2-clause-within : goal.line_at-requires-2-clause-within
line_at-requires-2-clause-within g c =
    (anchors-within (sits c.args.seat (stand c.self.invariant c.self.view_is) c.number-slot.ensures.value)
    c.index-anchors.ensures).2

-- the options that are told, by the slot
told : (g : Over) (c : After-line_at-2 g)
    → ◌≡◌ {A = Settings} (record {
      document = c.self.inside.settings;
      disabled = c.index.result.now;
      start = c.line_at.result;
      end = c.line_at-2.result;
    }) (settings_at (parts_of g.S.TextStore.content c.self.inside)
    (model.characters (g.S.TextStore.content c.self.inside.text.store).cells) c.number-slot.result)
told g c =
    let old = c.self.inside in
    let seat = sits c.args.seat (stand c.self.invariant c.self.view_is) c.number-slot.ensures.value in
    let anchors = (anchors-within seat c.index-anchors.ensures).0 in
    let flag = c.index.ensures ∙ get_or_default old.disabled.items c.number-slot.result c.index.result.now false
    seat.disabled in
    let text = model.characters (g.S.TextStore.content old.text.store).cells in
    λ i. record {
      document = old.settings;
      disabled = flag i;
      start = (c.line_at.ensures ∙ ap (λ (a : Anchors). line_numbered text a.start) anchors) i;
      end = (c.line_at-2.ensures ∙ ap (λ (a : Anchors). line_numbered text a.end) anchors) i;
    }

pub returns-clause-value : goal.returns-clause-value
returns-clause-value g c =
    let stands = stand c.self.invariant c.self.view_is in
    told g (goal.at.returns-clause-value g c).After-line_at-2
    ∙ settings-kept stands (sits c.args.seat stands c.number-slot.ensures.value)

pub returns-clause-lines : goal.returns-clause-lines
returns-clause-lines g c =
    subst (AreLines (lines (characters c.args.self.now.cells)))
    (sym (told g (goal.at.returns-clause-lines g c).After-line_at-2))
    (settings-lines c.number-slot.result (stand c.self.invariant c.self.view_is))
