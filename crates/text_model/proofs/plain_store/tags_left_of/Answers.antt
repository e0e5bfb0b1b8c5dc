use Rattle.text_model.proofs.Common.{◌≡◌, ℕ, zero, suc, ◌-◌, ◌≤◌, ◌≢◌, List, get_or, length, refl, sym, ap, ◌∙◌, arith}
use Rattle.text_model.proofs.Common.{get_or-map, slots_left_of, Cell}
use Rattle.std.specs.FinSet as set
use Rattle.text_model.proofs.plain_store.tags_left_of.Goals as goal

last_slots : (offset : ℕ) (cells : List Cell) (cell : Cell) → offset ≢ 0 → offset ≤ length cells →
    (get_or cells (offset - 1) cell).tags ≡ slots_left_of offset cells
last_slots zero cells cell some within = absurd (some refl)
last_slots (suc n) cells cell some within =
    let before : suc n - 1 ≡ n = omega arith in
    ap (λ k. (get_or cells k cell).tags) before
    ∙ sym (get_or-map (λ (x : Cell). x.tags) cells n cell set.empty (omega (arith, within)))

pub returns : goal.returns
returns c =
    last_slots c.args.offset c.args.cells.now c.index-cells-offset.result c.if-offset-eq0.false c.requires
