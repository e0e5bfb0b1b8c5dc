use Rattle.tag_table.proofs.Common.{ap, sym, ◌∙◌, subst, map, chars, string_bytes, map_push, Names, AreKept, tag}
use Rattle.tag_table.proofs.Common.{deleted, refl, Tags, slot_of, slots_of, IsLeastFree, IsNone}
use Rattle.tag_table.proofs.TagLaws.{no_place, AreTags-kept, AreKept-push, IsLeastFree-slot, deleted-push, sel_number}
use Rattle.tag_table.proofs.tags.TagTable.create.Goals as goal

pub create-requires : goal.create-requires
create-requires c = no_place (chars (string_bytes c.args.name)) c.self.inside.names.entries
    (ap (λ (ts : Tags). slot_of (chars (string_bytes c.args.name)) ts.tags) c.self.view_is ∙ c.requires)

pub invariant_of-self-2 : goal.invariant_of-self-2
invariant_of-self-2 c =
    let last = rw c.in-Some.is at c.in_ok-number.ensures.last in
    subst AreKept (sym last) (AreKept-push c.self.inside.names _ c.self.invariant)

pub returns-clause-least : goal.returns-clause-least
returns-clause-least c =
    let least = rw c.in-Some.is at c.in_ok-number.ensures.least in
    subst (λ (ts : Tags). IsLeastFree (slots_of ts.tags) c.slot_of_number.result.0) c.self.view_is
    (rw c.slot_of_number.ensures.value (IsLeastFree-slot c.self.inside.names.entries c.in-Some.number
    (sel_number c.self.inside.names c.self.invariant) least))

pub returns-clause-back : goal.returns-clause-back
returns-clause-back c =
    let names = c.self.inside.names in
    let name = chars (string_bytes c.args.name) in
    let last = rw c.in-Some.is at c.in_ok-number.ensures.last in
    let none = no_place name names.entries (ap (λ (ts : Tags). slot_of name ts.tags) c.self.view_is ∙ c.requires) in
    ap (λ (ns : Names). deleted name (map tag ns.entries)) last
    ∙ ap (deleted name) (map_push tag names.entries (record { name = name; number = c.in-Some.number }))
    ∙ deleted-push names name c.in-Some.number c.self.invariant none
    ∙ ap (λ (ts : Tags). ts.tags) c.self.view_is

pub returns-in_default-clause-sound : goal.returns-in_default-clause-sound
returns-in_default-clause-sound c = AreTags-kept c.create.new.self c.in_ok-number.ensures.sound
    (subst AreKept (sym (c.in_ok-number.ensures.refused (subst IsNone (sym c.in_default.is) refl))) c.self.invariant)

pub returns-clause-sound : goal.returns-clause-sound
returns-clause-sound c = AreTags-kept c.create.new.self c.in_ok-number.ensures.sound (invariant_of-self-2 c)
