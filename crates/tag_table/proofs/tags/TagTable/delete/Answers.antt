use Rattle.tag_table.proofs.Common.{ap, sym, ◌∙◌, subst, map-remove, chars, remove, AreKept, tag, tags_kept, deleted}
use Rattle.tag_table.proofs.Common.{Tags, ◌-◌, not}
use mathlib.Core.Bool.{not-not}
use Rattle.tag_table.proofs.TagLaws.{place_of_tag, is_sel, deleted-sel, deleted-at, deleted-none, AreKept-remove}
use Rattle.tag_table.proofs.TagLaws.{AreTags-kept, AreTags-seen}
use Rattle.tag_table.proofs.tags.TagTable.delete.Goals as goal

pub returns-in_default-clause-value : goal.returns-in_default-clause-value
returns-in_default-clause-value c =
    ap (λ tags. record c.args.self.now { tags = tags }) (sym (deleted-none (chars c.args.name.now) c.args.self.now.tags
    (place_of_tag _ c.self.inside.names c.args.self.now _ c.self.view_is c.place.ensures.value ∙ c.in_default.is)))

pub returns-in_default-clause-sound : goal.returns-in_default-clause-sound
returns-in_default-clause-sound c =
    let sound = AreTags-seen c.self.view_is c.place.ensures.sound c.self.invariant in (sound, sound)

pub invariant_of-self : goal.invariant_of-self
invariant_of-self c =
    let other = sym (is_sel c.args.name.now c.utf8.name) ∙ sym (not-not _) ∙ ap not (sym c.ne.ensures ∙ c.if-ne.true) in
    subst AreKept (sym c.remove.ensures.value) (AreKept-remove c.self.inside.names (chars c.args.name.now)
    c.in-Some.place (sym c.place.ensures.value ∙ c.in-Some.is) other c.self.invariant)

pub returns-then-ne-clause-value : goal.returns-then-ne-clause-value
returns-then-ne-clause-value c =
    let other = sym (is_sel c.args.name.now c.utf8.name) ∙ sym (not-not _) ∙ ap not (sym c.ne.ensures ∙ c.if-ne.true) in
    let at = place_of_tag (chars c.args.name.now) c.self.inside.names c.args.self.now _ c.self.view_is
    c.place.ensures.value ∙ c.in-Some.is in
    ap tags_kept c.remove.ensures.value
    ∙ ap (λ tags. record { tags = tags; limit = c.self.inside.names.limit - 1 })
    (map-remove tag c.self.inside.names.entries c.in-Some.place
    ∙ ap (λ (ts : Tags). remove ts.tags c.in-Some.place) c.self.view_is
    ∙ sym (deleted-at (chars c.args.name.now) c.args.self.now.tags c.in-Some.place other at))
    ∙ ap (λ (ts : Tags). record { tags = deleted (chars c.args.name.now) c.args.self.now.tags; limit = ts.limit })
    c.self.view_is

pub returns-then-ne-clause-sound : goal.returns-then-ne-clause-sound
returns-then-ne-clause-sound c = (
  AreTags-seen c.self.view_is c.place.ensures.sound c.self.invariant,
  AreTags-kept c.remove.new.self c.remove.ensures.sound (invariant_of-self c),
)

pub returns-else-ne-clause-value : goal.returns-else-ne-clause-value
returns-else-ne-clause-value c =
    let same = sym (is_sel c.args.name.now c.utf8.name) ∙ sym (not-not _) ∙ ap not (sym c.ne.ensures ∙ c.if-ne.false) in
    ap (λ tags. record c.args.self.now { tags = tags })
    (sym (deleted-sel (chars c.args.name.now) c.args.self.now.tags same))

pub returns-else-ne-clause-sound : goal.returns-else-ne-clause-sound
returns-else-ne-clause-sound c =
    let sound = AreTags-seen c.self.view_is c.place.ensures.sound c.self.invariant in (sound, sound)
