use Rattle.command_effects.proofs.Common.{◌≡◌, ◌++◌, map, Tags, names_of, with_names, all_names, IsFront, piece_of}
use Rattle.command_effects.proofs.tagging.make_listed_pieces.Given as goal

abbrev pub invariant-loop-pair : goal.invariant-loop-pair
invariant-loop-pair l = record {
  whole : l.fn.pairs.items ≡ l.yielded ++ l.pair-iterator.rest.items;
  front : IsFront l.fn.tags l.tags;
  made : with_names (names_of l.tags.tags) (all_names l.pair-iterator.rest.items)
      ≡ with_names (names_of l.fn.tags.tags) (all_names l.fn.pairs.items);
  pieces : (later : Tags) → IsFront l.tags later → l.pieces.items ≡ map (piece_of later.tags l.own.0) l.yielded;
}
