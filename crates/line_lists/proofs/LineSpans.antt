-- The line that an offset stands in, of lines in a row.
use Rattle.line_lists.proofs.Common.{◌≡◌, ℕ, suc, ◌+◌, ◌-◌, List, Some, length, sym, ap, ◌∙◌, arith, slice_get}
use Rattle.line_lists.proofs.Common.{length-map, Cell, IsLineOf, line_start-later, line_start-le, LineContent, AreRows}
use Rattle.line_lists.proofs.Common.{Holds, content_of}
use Rattle.text_model.specs.Content.{characters}
use Rattle.text_model.specs.Lines.{line_start}
use Rattle.line_lists.proofs.LineStarts.{lent-length, start-all, start-next, start_of}
use Rattle.line_lists.proofs.NewlineRows.{line_of-end, line_of-located, start-content}
use Rattle.line_lists.proofs.PlaceRows.{length-content}

pub held-span : (list : List LineContent) (offset k column : ℕ) (here : LineContent) (start end : ℕ) → AreRows list →
    Holds list offset k column → slice_get list k ≡ Some here → start ≡ offset - column
    → end ≡ start + length here.columns
    → IsLineOf (characters (content_of list).cells) offset (record { number = k; start = start; end = end })
held-span list offset k column here start end rows holds is start_is end_is =
    let begins : start ≡ start_of list k = omega (arith, start_is, holds.behind) in
    let next : end ≡ start_of list (suc k) = omega (
      arith,
      end_is,
      begins,
      start-next list k holds.within,
      lent-length list k here is,
    ) in
    let one : suc k ≡ k + 1 = omega arith in
    record {
      number = sym (line_of-located list offset k column rows holds);
      start = begins ∙ sym (start-content list k rows (omega (arith, holds.within)));
      end = next ∙ ap (start_of list) one ∙ sym (start-content list (k + 1) rows (omega (arith, holds.within)));
    }

-- from the end of the text on
pub end-span : (list : List LineContent) (offset count : ℕ) → AreRows list → offset ≡ length (content_of list).cells →
    count ≡ length list
    → IsLineOf (characters (content_of list).cells) offset (record { number = count; start = offset; end = offset })
end-span list offset count rows is count_is =
    let cells = (content_of list).cells in
    let text = characters cells in
    let all : line_start count text ≡ offset = ap (λ k. line_start k text) count_is
    ∙ start-content list (length list) rows (omega arith) ∙ start-all list ∙ sym (is ∙ length-content list) in
    let one : suc count ≡ count + 1 = omega arith in
    record {
      number = count_is ∙ sym (line_of-end list offset rows is);
      start = sym all;
      end = omega (
        arith,
        all,
        is,
        line_start-later text count,
        line_start-le text (suc count),
        ap (λ k. line_start k text) one,
        length-map cells (λ (cell : Cell). cell.character),
      );
    }
