use Rattle.command_table.proofs.Common.{subst, IfSome, IsPlaceOf, texts_of}
use Rattle.command_table.proofs.PlaceLaws.{entry_at, entry-short}
use Rattle.command_table.proofs.entries.find_entry.Goals as goal

pub returns-in-Some-clause-first : goal.returns-in-Some-clause-first
returns-in-Some-clause-first c =
    entry_at c.entries.result.now (texts_of c.args.words.now) c.in-Some.place _ c.entries.ensures
    (subst (λ found. IfSome found (λ place. IsPlaceOf place (texts_of c.args.words.now))) c.in-Some.is
    c.place_of.ensures)

pub returns-in-Some-clause-short : goal.returns-in-Some-clause-short
returns-in-Some-clause-short c =
    entry-short _ c.args.words.now (entry_at c.entries.result.now (texts_of c.args.words.now) c.in-Some.place _ c.entries.ensures
    (subst (λ found. IfSome found (λ place. IsPlaceOf place (texts_of c.args.words.now))) c.in-Some.is
    c.place_of.ensures))
