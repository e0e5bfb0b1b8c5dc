use Rattle.search_dump.proofs.Common.{[], sym, ap, ◌∙◌, get_or_from_slice_get, rank_of, names_of, name_of_rank}
use Rattle.std.specs.Str.{chars}
use Rattle.search_dump.proofs.MarkLaws.{insert-characters, current-characters, shared-name}
use Rattle.search_dump.proofs.dumped_marks.Marked.name.Goals as goal

pub returns-in-Insert : goal.returns-in-Insert
returns-in-Insert c = insert-characters
    ∙ sym (ap (λ m. name_of_rank (names_of c.args.names.now.marks.now.marks) (rank_of m)) c.in-Insert.is)

pub returns-in-Current : goal.returns-in-Current
returns-in-Current c = current-characters
    ∙ sym (ap (λ m. name_of_rank (names_of c.args.names.now.marks.now.marks) (rank_of m)) c.in-Current.is)

pub returns-in-Shared : goal.returns-in-Shared
returns-in-Shared c =
    sym (get_or_from_slice_get (names_of c.args.names.now.marks.now.marks) c.in-Shared.at (chars c.name.result.now) []
    c.name.ensures)
    ∙ sym (shared-name (names_of c.args.names.now.marks.now.marks) c.in-Shared.at)
    ∙ sym (ap (λ m. name_of_rank (names_of c.args.names.now.marks.now.marks) (rank_of m)) c.in-Shared.is)
