use Rattle.documents.proofs.Common.{◌≡◌, [], sym, ap, subst, ◌∙◌, MOST_MARKS, MOST_TAGS, log_of, Parts, document_of}
use Rattle.documents.proofs.Common.{IsSound, IsWellFormedDocument}
use Rattle.documents.proofs.FirstLaws.{bare_parts, formed-bare, sel_alone, sound-bare}
use Rattle.documents.proofs.documents.Document.bare.Given.{Over}
use Rattle.documents.proofs.documents.Document.bare.Goals.{After-new-8}
use Rattle.documents.proofs.documents.Document.bare.Goals as goal

-- the parts that were made
made : (g : Over) (c : After-new-8 g)
    → ◌≡◌ {A = Parts} (record {
      seats = c.in_ok-new.field-0;
      tags = c.in_ok-new-3.field-0;
      marks = c.in_ok-new-4.field-0;
      journal = record {
        settings = c.new-8.result;
        disabled = c.new-2.result.items;
        anchors = c.new-5.result.items;
        log = log_of c.new-4.result;
      };
      content = g.S.TextStore.content c.in_ok-new-2.field-0;
    }) bare_parts
made g c =
    let tags : c.in_ok-new-3.field-0 ≡ record { tags = sel_alone; limit = MOST_TAGS } = c.in_ok-new-3.ensures
    ∙ ap (λ limit. record { tags = sel_alone; limit = limit }) c.greatest_limits-limits.ensures.tags in
    let marks : c.in_ok-new-4.field-0 ≡ record { marks = []; limit = MOST_MARKS } = c.in_ok-new-4.ensures
    ∙ ap (λ limit. record { marks = []; limit = limit }) c.greatest_limits-limits.ensures.marks in
    λ i. record {
      seats = c.in_ok-new.ensures i;
      tags = tags i;
      marks = marks i;
      journal = record {
        settings = c.new-8.ensures i;
        disabled = c.new-2.ensures.items i;
        anchors = c.new-5.ensures.items i;
        log = record {
          history = c.new-4.ensures.history i;
          modified = c.new-4.ensures.modified i;
          most = c.new-4.ensures.most i;
        };
      };
      content = c.in_ok-new-2.ensures i;
    }

pub invariant_of-result : goal.invariant_of-result
invariant_of-result g c = subst IsSound (sym (made g (goal.at.invariant_of-result g c).After-new-8)) sound-bare

pub returns-clause-well_formed : goal.returns-clause-well_formed
returns-clause-well_formed g c = λ limits are.
    subst (λ (parts : Parts). IsWellFormedDocument limits (document_of parts))
    (sym (made g (goal.at.returns-clause-well_formed g c).After-new-8)) (formed-bare limits are)
