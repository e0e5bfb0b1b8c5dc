use Rattle.documents.proofs.Common.{◌≡◌, take, sym, ap, subst, ◌∙◌, arith, chars, Anchors, Kept, Parts, document_of}
use Rattle.documents.proofs.Common.{history_under, log_of, parts_of, Stands, IsWellFormedDocument, IsSeatPut}
use Rattle.documents.proofs.PartsLaws.{stand}
use Rattle.documents.proofs.SeatedLaws.{IsSeatMade, own-within, seated-made, stands-longer, unnamed}
use Rattle.documents.proofs.documents.Document.add_widget.Given.{Over}
use Rattle.documents.proofs.documents.Document.add_widget.Goals.{After-bound, After-make_seat-made}
use Rattle.documents.proofs.documents.Document.add_widget.Goals as goal

pub make_seat-made-requires-clause-new : goal.make_seat-made-requires-clause-new
make_seat-made-requires-clause-new g c =
    unnamed (parts_of g.S.TextStore.content c.self.inside) c.args.self.now (chars c.args.name.now)
    (stand c.self.invariant c.self.view_is) c.requires.new

pub make_seat-made-requires-clause-within : goal.make_seat-made-requires-clause-within
make_seat-made-requires-clause-within g c =
    let own : Anchors = record { start = c.anchor_at-start.result; end = c.anchor_at-end.result } in
    let within = (own-within (parts_of g.S.TextStore.content c.self.inside) c.args.self.now c.args.settings own
    (stand c.self.invariant c.self.view_is) c.requires.lines c.requires.ordered (λ i.
    record { start = c.anchor_at-start.ensures i; end = c.anchor_at-end.ensures i })).1 in
    omega (arith, within, c.unwrap_or.ensures)

-- the document is the same where the lists by slot have got longer
grown : (g : Over) (c : After-make_seat-made g)
    → let parts : Parts = parts_of g.S.TextStore.content c.self.inside in
    Stands (record parts {
      journal = record parts.journal {
        disabled = c.make_seat-made.new.disabled.items;
        anchors = c.make_seat-made.new.text.anchors.items;
      };
    }) c.args.self.now
grown g c =
    stands-longer (stand c.self.invariant c.self.view_is) c.make_seat-made.ensures.disabled
    c.make_seat-made.ensures.anchors

-- the seat that was made
made : (g : Over) (c : After-bound g)
    → let parts : Parts = parts_of g.S.TextStore.content c.self.inside in
    IsSeatMade (record parts {
      journal = record parts.journal {
        disabled = c.make_seat-made.new.disabled.items;
        anchors = c.make_seat-made.new.text.anchors.items;
      };
    }) c.self.inside.text.history c.bound.new.history (chars c.args.name.now) c.in-Ok.slot c.args.settings
    c.make_seat-made.new.seats (record { start = c.anchor_at-start.result; end = c.anchor_at-end.result })
    (g.S.TextStore.content c.make_seat-made.new.text.store)
made g c = record {
  named = c.requires.named;
  put = subst (λ n. IsSeatPut (chars c.args.name.now) n c.self.inside.seats c.make_seat-made.new.seats
      (g.S.TextStore.content c.self.inside.text.store) (g.S.TextStore.content c.make_seat-made.new.text.store)
      c.in-Ok.slot) c.unwrap_or.ensures c.in-Ok.ensures.seat;
  flagged = c.in-Ok.ensures.room.0;
  anchored = c.in-Ok.ensures.room.1;
  own_is = (λ i. record { start = c.anchor_at-start.ensures i; end = c.anchor_at-end.ensures i });
  history = c.bound.ensures.history
      ∙ ap (λ (kept : Kept). history_under c.args.settings.document kept.history) c.in-Ok.ensures.history;
  modified = c.bound.ensures.modified ∙ ap (λ (kept : Kept). kept.modified) c.in-Ok.ensures.history;
  most = c.bound.ensures.most;
}

pub invariant_of-self-in-Ok : goal.invariant_of-self-in-Ok
invariant_of-self-in-Ok g c =
    let at = goal.at.invariant_of-self-in-Ok g c in
    (seated-made (made g at.After-bound) (grown g at.After-make_seat-made) c.requires.lines c.requires.ordered).sound

pub returns-in-Ok-clause-ok : goal.returns-in-Ok-clause-ok
returns-in-Ok-clause-ok g c =
    let at = goal.at.returns-in-Ok-clause-ok g c in
    (seated-made (made g at.After-bound) (grown g at.After-make_seat-made) c.requires.lines c.requires.ordered).is

pub returns-in-Ok-clause-well_formed : goal.returns-in-Ok-clause-well_formed
returns-in-Ok-clause-well_formed g c =
    let at = goal.at.returns-in-Ok-clause-well_formed g c in
    (seated-made (made g at.After-bound) (grown g at.After-make_seat-made) c.requires.lines c.requires.ordered).formed

-- nothing else is left of a seat that was refused
pub returns-in-Err-clause-err : goal.returns-in-Err-clause-err
returns-in-Err-clause-err g c =
    let parts : Parts = parts_of g.S.TextStore.content c.self.inside in
    let new = c.make_seat-made.new in
    let back : c.truncate.new.self ≡ parts.seats = c.truncate.ensures
    ∙ ap (λ n. record new.seats { entries = take n new.seats.entries }) c.len-front.ensures.value
    ∙ c.in-Err.ensures.front in
    ap document_of (λ i. record parts {
      seats = back i;
      journal = record parts.journal {
        disabled = new.disabled.items;
        anchors = new.text.anchors.items;
        log = log_of (c.in-Err.ensures.history i);
      };
      content = c.in-Err.ensures.err i;
    }) ∙ (grown g (goal.at.returns-in-Err-clause-err g c).After-make_seat-made).is

pub returns-in-Err-clause-well_formed : goal.returns-in-Err-clause-well_formed
returns-in-Err-clause-well_formed g c = λ limits formed.
    subst (IsWellFormedDocument limits) (sym (returns-in-Err-clause-err g c)) formed
