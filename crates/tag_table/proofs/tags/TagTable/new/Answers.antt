use Rattle.tag_table.proofs.Common.{Some, ◌≡◌, ◌+◌, ap, ap₂, ◌-◌, sym, ◌∙◌, subst, arith, [], ◌∷◌, chars, string_bytes}
use Rattle.tag_table.proofs.Common.{AreKept, tags_kept}
use Rattle.tag_table.proofs.TagLaws.{first_name, chars_of_sel}
use Rattle.tag_table.proofs.tags.TagTable.new.Goals as goal

pub invariant_of-result : goal.invariant_of-result
invariant_of-result c =
    let h = c.in_ok-create.ensures in
    let made : c.create.new.self
    ≡ record {
      entries = record { name = chars (string_bytes c.in_ok-from_str.field-0); number = 0 } ∷ [];
      limit = c.tags.result + 1;
    } = first_name c.in_ok-names.names c.create.new.self c.tags.result _
    c.in_ok-create.field-0 c.in_ok-names.ensures h.full.0 h.least h.last in
    let few = c.tags.ensures.bounds.tags in
    let count = c.tags.ensures.value in
    subst AreKept (sym made) (record {
      some = omega arith;
      few = omega arith;
      selection = (
        0,
        ap (λ name. Some (record { name = name; number = 0 })) (ap chars c.in_ok-from_str.ensures.ok
            ∙ chars_of_sel),
      );
    })

pub returns : goal.returns
returns c =
    let h = c.in_ok-create.ensures in
    let made : c.create.new.self
    ≡ record {
      entries = record { name = chars (string_bytes c.in_ok-from_str.field-0); number = 0 } ∷ [];
      limit = c.tags.result + 1;
    } = first_name c.in_ok-names.names c.create.new.self c.tags.result _
    c.in_ok-create.field-0 c.in_ok-names.ensures h.full.0 h.least h.last in
    ap tags_kept made ∙ ap₂ (λ name limit. record { tags = record { name = name; slot = 0 } ∷ []; limit = limit })
    (ap chars c.in_ok-from_str.ensures.ok ∙ chars_of_sel) (let less : c.tags.result + 1 - 1
    ≡ c.tags.result = omega arith in less ∙ c.tags.ensures.value)
