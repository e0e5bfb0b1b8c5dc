use Rattle.documents.proofs.Common.{◌++◌, ◌+◌, ◌∷◌, [], ℕ, Bool, Some, refl, sym, ap, ◌∙◌, subst, chars, is_at}
use Rattle.documents.proofs.Common.{list_any, IsUnchanged, contains, nat_cmp, none-some, rank_of, ◌≡◌, ◌≢◌, arith}
use Rattle.documents.proofs.Common.{same_Some, WidgetMark, AreListed}
use Rattle.mark_table.specs.declared.order.WidgetMark.TheVariants.{Insert, Current, Shared}
use Rattle.documents.proofs.ListedMarksLaws.{listed-kept, listed-more, listed-seen}
use Rattle.documents.proofs.MarksToldLaws.{not-false, not-true, on-false, other-number}
use Rattle.documents.proofs.documents.Document.push_shared.Goals as goal

-- a widget's own mark has no number of a shared one
unnumbered : (mark : WidgetMark) (number : ℕ) → ((place : ℕ) → mark ≡ Shared place → ⊥) → rank_of mark ≢ 2 + number
unnumbered Insert number own same = omega (arith, same)
unnumbered Current number own same = omega (arith, same)
unnumbered (Shared place) number own same = own place refl

pub returns-in_default : goal.returns-in_default
returns-in_default g c = λ words listed.
    let seen : ℕ → Bool = contains nat_cmp c.args.seen.now in
    listed-kept c.args.self.now words seen seen c.args.marks.now (chars c.args.name.now) listed
    (λ number is. absurd (none-some (2 + number) (c.in_default.ensures ∙ is))) (λ number. refl)

pub returns-in_default-mark : goal.returns-in_default-mark
returns-in_default-mark g c = λ words listed.
    let seen : ℕ → Bool = contains nat_cmp c.args.seen.now in
    listed-kept c.args.self.now words seen seen c.args.marks.now (chars c.args.name.now) listed
    (λ number is. absurd (unnumbered c.in-Some.mark number c.in_default-mark.not-Shared
    (same_Some (rank_of c.in-Some.mark) (2 + number) (c.in-Some.ensures ∙ is)))) (λ number. refl)

pub returns-in_ok-push_mark : goal.returns-in_ok-push_mark
returns-in_ok-push_mark g c = λ words listed.
    let document = c.args.self.now in
    let word = chars c.args.name.now in
    let place = c.in-Shared.place in
    let seen : ℕ → Bool = contains nat_cmp c.args.seen.now in
    let after : ℕ → Bool = contains nat_cmp c.insert.new.self in
    subst (AreListed document (words ++ word ∷ []) after) (sym c.in_ok-push_mark.ensures)
    (listed-more document words seen after c.args.marks.now word listed place
    (sym c.in-Some.ensures ∙ ap (λ m. Some (rank_of m)) c.in-Shared.is)
    (not-true (seen place) c.in_ok-insert.field-0 c.in_ok-insert.ensures.added c.if-branch.true)
    c.in_ok-insert.ensures.updates.1
    (λ number other. c.in_ok-insert.ensures.updates.2 number (other-number place number other)))

pub returns-else-branch : goal.returns-else-branch
returns-else-branch g c = λ words listed.
    let document = c.args.self.now in
    let word = chars c.args.name.now in
    let place = c.in-Shared.place in
    let seen : ℕ → Bool = contains nat_cmp c.args.seen.now in
    let after : ℕ → Bool = contains nat_cmp c.insert.new.self in
    listed-seen document words seen after c.args.marks.now word listed place
    (sym c.in-Some.ensures ∙ ap (λ m. Some (rank_of m)) c.in-Shared.is)
    (not-false (seen place) c.in_ok-insert.field-0 c.in_ok-insert.ensures.added c.if-branch.false)
    (λ number. ap (list_any (is_at (nat_cmp number))) (on-false c.in_ok-insert.field-0
    (IsUnchanged c.args.seen.now c.insert.new.self) c.in_ok-insert.ensures.unchanged c.if-branch.false))
