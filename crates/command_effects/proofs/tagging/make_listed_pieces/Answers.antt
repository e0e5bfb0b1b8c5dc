use Rattle.command_effects.proofs.Common.{ap, sym, ◌∙◌, arith, ◌+◌, ◌++◌, ◌∷◌, [], map, map-append, names_of, all_names}
use Rattle.command_effects.proofs.Common.{listed_names, with_names, piece_of, append_assoc, err_from_is_err_and}
use Rattle.command_effects.proofs.MadeLaws.{front_on, too_many, with_names-append}
use Rattle.command_effects.proofs.tagging.make_listed_pieces.Goals as goal

pub returns-in_err-make_piece-clause-fault : goal.returns-in_err-make_piece-clause-fault
returns-in_err-make_piece-clause-fault c =
    let from = c.from_residual-in_err-make_piece in
    let fault = err_from_is_err_and from.result from.ensures.1 in
    rw (fault.1, fault.2) (λ other.
    let found = c.in_err-make_piece.ensures.fault other in
    let l = c.loop-pair in (
      found.0,
      too_many (names_of l.tags.tags) (listed_names c.in-Some.pair.names) (all_names c.next.new.self.rest.items) _
          (c.args.tags.now.limit + 1) (omega (arith, found.1, l.invariant.front.limit))
          (ap (λ ps. with_names (names_of l.tags.tags) (all_names ps)) (sym c.in-Some.ensures.steps.0)
          ∙ l.invariant.made),
    ))

pub loop-pair-preserved : goal.loop-pair-preserved
loop-pair-preserved c =
    let l = c.loop-pair in
    let rest = c.next.new.self.rest.items in
    record {
      whole = l.invariant.whole ∙ ap (λ ps. l.yielded ++ ps) c.in-Some.ensures.steps.0
          ∙ sym (append_assoc l.yielded (c.in-Some.pair ∷ []) rest);
      front = front_on c.args.tags.now l.tags c.make_piece.new.tags l.invariant.front c.make_piece.ensures.front;
      made = ap (λ ns. with_names ns (all_names rest)) c.in_ok-make_piece.ensures.made
          ∙ sym (with_names-append (names_of l.tags.tags) (listed_names c.in-Some.pair.names) (all_names rest))
          ∙ ap (λ ps. with_names (names_of l.tags.tags) (all_names ps)) (sym c.in-Some.ensures.steps.0)
          ∙ l.invariant.made;
      pieces = λ later front.
          let piece_there = piece_of later.tags c.args.own.0 in
          c.in_ok-push.ensures.items
          ∙ ap (λ ps. ps ++ c.in_ok-make_piece.field-0 ∷ []) (l.invariant.pieces later
          (front_on l.tags c.make_piece.new.tags later c.make_piece.ensures.front front))
          ∙ ap (λ p. map piece_there l.yielded ++ p ∷ []) (c.in_ok-make_piece.ensures.piece later front)
          ∙ sym (map-append piece_there l.yielded (c.in-Some.pair ∷ []));
    }
