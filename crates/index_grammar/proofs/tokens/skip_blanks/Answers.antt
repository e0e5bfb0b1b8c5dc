use Rattle.index_grammar.proofs.Common.{arith, prefix_len-le-length, is_blank}
use Rattle.index_grammar.proofs.tokens.skip_blanks.Goals as goal

pub split_at-requires : goal.split_at-requires
split_at-requires c = omega (arith, c.blanks.ensures, prefix_len-le-length is_blank c.args.text.now)
