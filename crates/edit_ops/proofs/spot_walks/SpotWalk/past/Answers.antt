use Rattle.edit_ops.proofs.Common.{◌≡◌, ap, arith, subst, sym, chars, slice_range, length-map, Cell, characters}
use Rattle.edit_ops.proofs.Common.{SpotWalk, Spot}
use Rattle.edit_ops.proofs.SpotLaws.{room-at, spot-along}
use Rattle.edit_ops.proofs.spot_walks.SpotWalk.past.Goals as goal

pub behind-requires : goal.behind-requires
behind-requires g c =
    room-at (g.S.TextStore.content c.args.store.now).cells c.args.self.offset _ c.args.self.spot c.requires.short
    c.requires.stands (omega (arith, c.as_str.type_inv.1))

pub returns : goal.returns
returns g c =
    let cells = (g.S.TextStore.content c.args.store.now).cells in
    let piece : chars c.as_str.result.now ≡ slice_range (characters cells) c.args.self.offset c.args.offset =
    subst (λ bytes. chars bytes ≡ slice_range (characters cells) c.args.self.offset c.args.offset)
    (sym c.as_str.ensures.value) c.in_ok-between.ensures in
    let walk : Spot → SpotWalk = λ spot. record { offset = c.args.offset; spot = spot } in
    ap walk (spot-along (characters cells) (chars c.as_str.result.now) c.args.self.offset c.args.offset
    c.args.self.spot c.behind.result c.requires.ordered
    (omega (arith, length-map cells (λ (cell : Cell). cell.character), c.requires.within)) c.requires.stands
    piece c.behind.ensures)
