use Rattle.command_table.proofs.Common.{[], refl, arith, codes}
use Rattle.std.specs.Str.{chars}
use Rattle.command_table.proofs.PlaceLaws.{by_bytes}
use Rattle.command_table.proofs.entries.place_alone.Goals as goal

pub returns-in-insert : goal.returns-in-insert
unfolding chars
returns-in-insert c = by_bytes [] 0 c.args.word.now (codes "insert") (omega arith) (grind arith) (λ rest. (omega arith, refl))

pub returns-in-delete : goal.returns-in-delete
unfolding chars
returns-in-delete c = by_bytes [] 1 c.args.word.now (codes "delete") (omega arith) (grind arith) (λ rest. (omega arith, refl))

pub returns-in-replace : goal.returns-in-replace
unfolding chars
returns-in-replace c = by_bytes [] 2 c.args.word.now (codes "replace") (omega arith) (grind arith) (λ rest. (omega arith, refl))

pub returns-in-get : goal.returns-in-get
unfolding chars
returns-in-get c = by_bytes [] 3 c.args.word.now (codes "get") (omega arith) (grind arith) (λ rest. (omega arith, refl))

pub returns-in-index : goal.returns-in-index
unfolding chars
returns-in-index c = by_bytes [] 4 c.args.word.now (codes "index") (omega arith) (grind arith) (λ rest. (omega arith, refl))

pub returns-in-compare : goal.returns-in-compare
unfolding chars
returns-in-compare c = by_bytes [] 5 c.args.word.now (codes "compare") (omega arith) (grind arith) (λ rest. (omega arith, refl))

pub returns-in-configure : goal.returns-in-configure
unfolding chars
returns-in-configure c = by_bytes [] 26 c.args.word.now (codes "configure") (omega arith) (grind arith) (λ rest. (omega arith, refl))

pub returns-in-cget : goal.returns-in-cget
unfolding chars
returns-in-cget c = by_bytes [] 27 c.args.word.now (codes "cget") (omega arith) (grind arith) (λ rest. (omega arith, refl))

pub returns-in-search : goal.returns-in-search
unfolding chars
returns-in-search c = by_bytes [] 28 c.args.word.now (codes "search") (omega arith) (grind arith) (λ rest. (omega arith, refl))

pub returns-in-count : goal.returns-in-count
unfolding chars
returns-in-count c = by_bytes [] 29 c.args.word.now (codes "count") (omega arith) (grind arith) (λ rest. (omega arith, refl))

pub returns-in-dump : goal.returns-in-dump
unfolding chars
returns-in-dump c = by_bytes [] 30 c.args.word.now (codes "dump") (omega arith) (grind arith) (λ rest. (omega arith, refl))
