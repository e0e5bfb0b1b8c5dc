use Rattle.documents.proofs.Common.{◌≤◌, [], length, ap, sym, ◌∙◌, arith, chars, chars-nil, rank_of, mark_names}
use Rattle.documents.proofs.Common.{slice_index_or}
use Rattle.documents.proofs.ListedLaws.{name-past, name-shared}
use Rattle.documents.proofs.PartsLaws.{stand}
use Rattle.documents.proofs.documents.Document.mark_name.Goals.{in-Insert, in-Current, in-Shared, in-Shared-2}
use Rattle.documents.proofs.documents.Document.mark_name.Goals as goal

pub returns : goal.returns
returns g c =
    let document = c.args.self.now in
    let stands = stand c.self.invariant c.self.view_is in
    c.new.ensures ∙ ap chars c.in_ok-from_str.ensures.ok
    ∙ elim c.match-mark.branch [
      | in-Insert w ↦ ap (λ n. chars n.now) w.name-is
          ∙ ap (λ m. slice_index_or (mark_names document) (rank_of m) []) (sym w.in-Insert.is)
      | in-Current w ↦ ap (λ n. chars n.now) w.name-is
          ∙ ap (λ m. slice_index_or (mark_names document) (rank_of m) []) (sym w.in-Current.is)
      | in-Shared w ↦
          ap (λ n. chars n.now) w.name-is
          ∙ name-shared w.in-Shared.place (chars w.name-name.result.now) stands w.name-name.ensures
          ∙ ap (λ m. slice_index_or (mark_names document) (rank_of m) []) (sym w.in-Shared.is)
      | in-Shared-2 w ↦
          let past : length c.self.inside.marks.marks ≤ w.in-Shared.place = omega (
            arith,
            w.len.ensures.value,
            w.if-place-len.false,
          ) in
          ap (λ n. chars n.now) w.name-is ∙ chars-nil ∙ name-past w.in-Shared.place stands past
          ∙ ap (λ m. slice_index_or (mark_names document) (rank_of m) []) (sym w.in-Shared.is)
    ]
