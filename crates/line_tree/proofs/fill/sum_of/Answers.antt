use Rattle.line_tree.proofs.Common.{◌≡◌, ◌+◌, ◌≤◌, ◌<◌, ℕ, List, drop, length, get_or, sym, ap, ◌∙◌, subst, Some, None}
use Rattle.line_tree.proofs.Common.{arith, slice_get, Option, at_drop_more, drop_all, slice_get-get_or, no_text-plus}
use Rattle.line_tree.proofs.Common.{plus-associative, plus-no_text, CountsFit, plus, FitsSum, sum_or_none, sums}
use Rattle.line_tree.proofs.Common.{NodePtr, Records, records, sum_at}
use Rattle.line_tree.proofs.RowLaws.{added_is, asks, none_of}
use Rattle.line_tree.proofs.SumLaws.{fits-both, fits-left}
use Rattle.line_tree.proofs.fill.sum_of.Goals.{in-Some, in_default}
use Rattle.line_tree.proofs.fill.sum_of.Goals as goal

-- what the node at a slot adds
some_step : (m : Records) (os : List (Option NodePtr)) (i : ℕ) (d : Option NodePtr) (c : NodePtr) →
    i < length os → get_or os i d ≡ Some c → sums m (drop i os) ≡ plus (sum_at m c) (sums m (drop (i + 1) os))
some_step m os i d c within is =
    at_drop_more (sums m) os i d within ∙ ap (λ x. plus (sum_or_none m x) (sums m (drop (i + 1) os))) is

none_step : (m : Records) (os : List (Option NodePtr)) (i : ℕ) (d : Option NodePtr) → i < length os →
    get_or os i d ≡ None → sums m (drop i os) ≡ sums m (drop (i + 1) os)
none_step m os i d within none =
    at_drop_more (sums m) os i d within ∙ ap (λ x. plus (sum_or_none m x) (sums m (drop (i + 1) os))) none
    ∙ no_text-plus (sums m (drop (i + 1) os))

at : (os : List (Option NodePtr)) (i : ℕ) (d : Option NodePtr) (c : NodePtr) → i < length os → get_or os i d ≡ Some c →
    slice_get os i ≡ Some (Some c)
at os i d c within is = slice_get-get_or os i d within ∙ ap (λ o. Some o) is

pub loop-slot-init : goal.loop-slot-init
loop-slot-init g c = let m = records c.args.store.now in let os = c.args.nodes.now in
    record { sum = ap (λ s. plus s (sums m os)) c.zero-sum.ensures ∙ no_text-plus (sums m os) }

pub add_sum_to-requires : goal.add_sum_to-requires
add_sum_to-requires g c = let os = c.args.nodes.now in let i = c.loop-slot.slot in
    let within : i < length os = omega (arith, c.told-nodes, c.loop-slot-test.true) in
    record {
      name = c.requires.nodes i c.in-Some.node (at os i _ c.in-Some.node within c.in-Some.is);
      fits =
          let m = records c.args.store.now in let rest = sums m (drop (i + 1) os) in let n = c.in-Some.node in
          let named = c.requires.nodes i n (at os i _ n within c.in-Some.is) in let sum = c.loop-slot.sum in
          let more = sum_at m n in let step = some_step m os i _ n within c.in-Some.is in
          asks (CountsFit sum) m n named (fits-both sum more (fits-left (plus sum more) rest (subst FitsSum
          (sym (plus-associative sum more rest ∙ ap (plus sum) (sym step) ∙ c.loop-slot.invariant.sum))
          c.requires.fits)));
    }

pub loop-slot-preserved : goal.loop-slot-preserved
loop-slot-preserved g c = let m = records c.args.store.now in let os = c.args.nodes.now in let i = c.loop-slot.slot in
    let rest = sums m (drop (i + 1) os) in
    let within : i < length os = omega (arith, c.told-nodes, c.loop-slot-test.true) in
    elim c.match-nodes-slot.branch [
      | in-Some w ↦
          let n = w.in-Some.node in
          let named = c.requires.nodes i n (at os i _ n within w.in-Some.is) in
          let step = some_step m os i _ n within w.in-Some.is in
          record {
            sum = ap (λ s. plus s rest) (w.sum-is ∙ added_is m n c.loop-slot.sum _ named w.add_sum_to.ensures.value)
                ∙ plus-associative c.loop-slot.sum (sum_at m n) rest ∙ ap (plus c.loop-slot.sum) (sym step)
                ∙ c.loop-slot.invariant.sum;
          }
      | in_default w ↦
          let step = none_step m os i _ within (none_of _ w.in_default.not-Some) in
          record {
            sum = ap (λ s. plus s rest) w.sum-is ∙ ap (plus c.loop-slot.sum) (sym step)
                ∙ c.loop-slot.invariant.sum;
          }
    ]

pub returns : goal.returns
returns g c = let m = records c.args.store.now in let os = c.args.nodes.now in
    let past : length os ≤ c.loop-slot.slot = omega (arith, c.told-nodes, c.loop-slot-test.false) in
    let none = ap (sums m) (drop_all c.loop-slot.slot os past) in
    sym (plus-no_text c.loop-slot.sum) ∙ ap (plus c.loop-slot.sum) (sym none) ∙ c.loop-slot.invariant.sum
