-- What it does to tag spans depends on the offsets that lie in them alone.
use Rattle.edit_ops.proofs.Common.{◌≡◌, ℕ, ◌+◌, ◌==◌, ◌||◌, Bool, true, false, cond, List, [], ◌∷◌, length, refl, sym}
use Rattle.edit_ops.proofs.Common.{ap, ◌∙◌, arith, subst, reverse, nat_cmp_total, All, All-head, All-tail, All-push}
use Rattle.edit_ops.proofs.Common.{Cell, Content, Slots, changed, set_slot, with_slot, Span, in_spans, AreApart}
use Rattle.edit_ops.proofs.Common.{SpanFits, tagged}
use mathlib.Core.Bool.{or_comm}
use mathlib.Core.List.{reverse-cons}
use Rattle.text_model.proofs.CellLaws.{contains-set_slot}
use Rattle.edit_ops.proofs.PaintLaws.{apart-fit, painted, painted-same}
use Rattle.edit_ops.proofs.RunLaws.{in-append, inside}
use Rattle.std.specs.FinSet as set

-- ---- a slot that is set twice, or taken off twice

cond_twice : (b on has : Bool) → cond b on (cond b on has) ≡ cond b on has
cond_twice true on has = refl
cond_twice false on has = refl

set_twice : (slot : ℕ) (on : Bool) (slots : Slots) → set_slot slot on (set_slot slot on slots) ≡ set_slot slot on slots
set_twice slot on slots = set.same_set nat_cmp_total set.nat_cmp-IsAntisymmetric _ _ (λ q.
    contains-set_slot slot on (set_slot slot on slots) q
    ∙ ap (cond (q == slot) on) (contains-set_slot slot on slots q)
    ∙ cond_twice (q == slot) on (set.contains slots q) ∙ sym (contains-set_slot slot on slots q))

with_twice : (slot : ℕ) (on : Bool) (cell : Cell) → with_slot slot on (with_slot slot on cell) ≡ with_slot slot on cell
with_twice slot on cell = ap (λ tags. record cell { tags = tags }) (set_twice slot on cell.tags)

tagged-painted : (slot : ℕ) (on : Bool) (spans : List Span) (content : Content) →
    tagged slot on spans content ≡ record content { cells = painted (with_slot slot on) spans content.cells }
tagged-painted slot on [] content = refl
tagged-painted slot on (span ∷ spans) content =
    tagged-painted slot on spans
    (record content { cells = changed (with_slot slot on) span.from span.to content.cells })

-- spans in which the same offsets lie are tagged alike
pub tagged-same : (slot : ℕ) (on : Bool) (spans others : List Span) (content : Content) →
    All (SpanFits (length content.cells)) spans → All (SpanFits (length content.cells)) others
    → ((offset : ℕ) → in_spans spans offset ≡ in_spans others offset)
    → tagged slot on spans content ≡ tagged slot on others content
tagged-same slot on spans others content fits others_fit same =
    tagged-painted slot on spans content
    ∙ ap (λ cells. record content { cells = cells })
    (painted-same (with_slot slot on) (with_twice slot on) spans others content.cells fits others_fit same)
    ∙ sym (tagged-painted slot on others content)

-- ---- runs in the other order

pub in-reversed : (spans : List Span) (offset : ℕ) → in_spans (reverse spans) offset ≡ in_spans spans offset
in-reversed [] offset = refl
in-reversed (span ∷ spans) offset =
    ap (λ all. in_spans all offset) (reverse-cons span spans) ∙ in-append (reverse spans) span offset
    ∙ ap (λ b. b || inside span offset) (in-reversed spans offset)
    ∙ or_comm (in_spans spans offset) (inside span offset)

all-reversed : (P : Span → Type 0) (spans : List Span) → All P spans → All P (reverse spans)
all-reversed P [] all = all
all-reversed P (span ∷ spans) all = subst (All P) (sym (reverse-cons span spans))
    (All-push P (reverse spans) span (all-reversed P spans (All-tail P span spans all)) (All-head P span spans all))

pub runs-fit : (len : ℕ) (runs : List Span) → AreApart (len + 1) runs → All (SpanFits len) (reverse runs)
runs-fit len runs apart = all-reversed (SpanFits len) runs (apart-fit (len + 1) len runs (omega arith) apart)
