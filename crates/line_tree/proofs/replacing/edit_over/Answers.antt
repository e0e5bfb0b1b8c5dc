use Rattle.line_tree.proofs.Common.{◌≡◌, ap, sym, ◌∙◌, subst, OnSome, WroteLine, Some, LineContent, at_some, line_of}
use Rattle.line_tree.proofs.Common.{line_count, records, Ok, Err, map, option_to_list, plus-no_text, total, OnErr}
use Rattle.line_tree.proofs.Common.{Result, update}
use Rattle.std.proofs.Common.{option_map}
use Rattle.line_tree.proofs.KeptLaws.{update-same}
use Rattle.raw_nodes.specs.Records.{with_line}
use Rattle.line_tree.proofs.replacing.edit_over.Given.{Over}
use Rattle.line_tree.proofs.replacing.edit_over.Goals.{After-make}
use Rattle.line_tree.proofs.replacing.edit_over.Goals as goal

on_err : {A E P : Type 0} (result : Result A E) → P → OnErr result P
on_err (Ok value) holds = tt
on_err (Err error) holds = holds

-- the line of the name, and what the store is once it is given back
held : (g : Over) (c : After-make g) → c.requires.line.found.line ≡ Some c.unwrap-line.result.now
held g c =
    sym (at_some _ (λ r. option_map (λ x. x.now) c.line_mut.result ≡ r.line) c.requires.line.found
    c.line_mut.ensures.value c.requires.line.is) ∙ ap (option_map (λ x. x.now)) c.unwrap-line.ensures

wrote : (g : Over) (c : After-make g) (new : LineContent) →
    WroteLine c.args.store.now (c.line_mut.follows.lender new) c.args.name new
wrote g c new =
    subst (λ o. OnSome o (WroteLine c.args.store.now (c.line_mut.follows.lender new) c.args.name new))
    c.unwrap-line.ensures (c.line_mut.follows.holds new)

pub returns-in_err-make-clause-refused : goal.returns-in_err-make-clause-refused
returns-in_err-make-clause-refused g c =
    let at = (goal.at.returns-in_err-make-clause-refused g c).After-make in
    let new = c.make.new.line in
    let found = c.requires.line.found in
    let refused = c.in_err-make.ensures.refused in
    let old = c.unwrap-line.result.now in
    let same = ap (λ (line : LineContent). Some line) refused ∙ sym (held g at) in
    let total_is = c.requires.line.sum
    ∙ ap (λ o. total (map (λ (line : LineContent). (c.args.name, line)) (option_to_list o)))
    (ap line_of c.requires.line.is ∙ held g at) ∙ plus-no_text (line_count old) in
    let sum = ap line_count refused ∙ sym total_is in
    on_err c.from_residual.result ((wrote g at new).records
    ∙ update-same (records c.args.store.now) c.args.name (λ r. with_line r new) found c.requires.line.is
    (λ i. record found { sum = sum i; line = same i }))

pub returns-in_err-make-clause-spares : goal.returns-in_err-make-clause-spares
returns-in_err-make-clause-spares g c =
    (wrote g (goal.at.returns-in_err-make-clause-spares g c).After-make c.make.new.line).spares

pub returns-in_err-make-clause-rooms : goal.returns-in_err-make-clause-rooms
returns-in_err-make-clause-rooms g c =
    (wrote g (goal.at.returns-in_err-make-clause-rooms g c).After-make c.make.new.line).rooms

pub returns-clause-edits : goal.returns-clause-edits
returns-clause-edits g c =
    let at = (goal.at.returns-clause-edits g c).After-make in
    let line = c.unwrap-line.result.now in
    let was = ap line_of c.requires.line.is ∙ held g at in
    let made = c.trim.ensures ∙ c.in_ok-make.ensures.made in
    record {
      line = line;
      was = was;
      puts = record {
        line = line;
        was = was;
        same = (wrote g at c.trim.new.self).records
            ∙ ap (λ new. update (records c.args.store.now) c.args.name (λ r. with_line r new)) made;
        went = c.sum_to.ensures;
        came = c.sum_to-2.ensures ∙ ap line_count made;
      };
    }

pub returns-clause-spares : goal.returns-clause-spares
returns-clause-spares g c = (wrote g (goal.at.returns-clause-spares g c).After-make c.trim.new.self).spares

pub returns-clause-rooms : goal.returns-clause-rooms
returns-clause-rooms g c = (wrote g (goal.at.returns-clause-rooms g c).After-make c.trim.new.self).rooms
