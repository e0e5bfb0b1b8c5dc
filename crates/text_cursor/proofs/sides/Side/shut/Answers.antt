use Rattle.text_cursor.proofs.Common.{refl, ap, ◌∙◌}
use Rattle.text_cursor.proofs.SideLaws.{shut-stays}
use Rattle.text_cursor.proofs.sides.Side.shut.Goals as goal

pub returns-clause-stays : goal.returns-clause-stays
returns-clause-stays c =
    shut-stays c.args.self.now _ c.of.result c.args.count refl c.in_ok-push.ensures.items
    (c.of.ensures ∙ ap (λ (parts : _). parts.items) c.replace-parts.ensures.value ∙ c.in_ok-rest.ensures.items)
    (ap (λ (parts : _). parts.items) c.replace-parts.ensures.after ∙ c.in_ok-rest.ensures.tail)
