-- What the changes of a report make of the text and of its tags.
use Rattle.reports.proofs.Common.{◌≡◌, ℕ, List, [], ◌∷◌, length, refl, sym, ap, ◌∙◌, subst, Action, Tells, hunk_changes}
use Rattle.reports.proofs.Common.{patched, patched_by, map-patched, AreExact, AreHunksOf, KeyedCell, characters}
use Rattle.reports.proofs.Common.{TellsTags, after_changes, untagged, TellsCells, EditTold, All, AreGapped, IsTagRun}
use Rattle.reports.proofs.Common.{TagChange}
use Rattle.edit_ops.specs.declared.hunks.Hunk.{Hunk}
use Rattle.edit_ops.proofs.TellLaws.{changes-exact, hunks-made}
use Rattle.reports.proofs.TagRunLaws.{tag-runs}
use Rattle.reports.proofs.TagsToldLaws.{told-characters}

-- hunks of the text, and changes of tags behind these
pub hunks-tell : (edits : List Action) (cells new : List KeyedCell) (hunks : List Hunk) (told : EditTold)
    → AreHunksOf edits (length cells) hunks → told.changes ≡ hunk_changes (characters cells) hunks
    → Tells told.changes (characters cells) (patched 0 hunks (characters cells))
    → TellsTags told.tags (patched_by untagged 0 hunks cells) new → AreGapped told.tags → TellsCells edits cells new told
hunks-tell edits cells new hunks told of are tells tags gapped =
    let between = patched_by untagged 0 hunks cells in
    let spelled : characters between ≡ patched 0 hunks (characters cells) =
    map-patched (λ (cell : KeyedCell). cell.character) untagged (λ text. text) characters-untagged 0 hunks cells in
    let made : after_changes told.changes cells ≡ between = ap (λ changes. after_changes changes cells) are
    ∙ hunks-made untagged (characters cells) 0 hunks cells of.stand in
    record {
      text = subst (Tells told.changes (characters cells)) (sym (told-characters told.tags between new tags ∙ spelled))
          tells;
      exact = subst (AreExact edits (length cells)) (sym are)
          (changes-exact edits (length cells) (characters cells) hunks of);
      tags = subst (λ old. TellsTags told.tags old new) (sym made) tags;
      runs = subst (λ old. All (IsTagRun old new) told.tags) (sym made) (tag-runs told.tags between new tags gapped);
    }
  where
    characters-untagged : (text : List ℕ) → characters (untagged text) ≡ text
    characters-untagged [] = refl
    characters-untagged (character ∷ text) = ap (λ rest. character ∷ rest) (characters-untagged text)

-- changes of tags alone
abbrev pub of_tags : List TagChange → EditTold
of_tags told = record { changes = []; tags = told }

pub tags-alone : (told : List TagChange) (old new : List KeyedCell) → TellsTags told old new → AreGapped told →
    TellsCells [] old new (of_tags told)
tags-alone told old new tells gapped = record {
  text = told-characters told old new tells;
  exact = record { same = λ text long. refl; falling = tt };
  tags = tells;
  runs = tag-runs told old new tells gapped;
}

-- nothing, where the characters stay with their tags
pub still-tells : (old new : List KeyedCell) → new ≡ old → TellsCells [] old new (of_tags [])
still-tells old new same = tags-alone [] old new same tt
