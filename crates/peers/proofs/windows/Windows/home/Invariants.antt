use Rattle.peers.proofs.Common.{◌≡◌, chars, drop, map, home_in, home_kept}
use Rattle.peers.proofs.windows.Windows.home.Given as goal

abbrev pub invariant-loop-index : goal.invariant-loop-index
invariant-loop-index l =
    home_in (chars l.name) (map home_kept (drop l.index l.self-inside.homes.items))
    ≡ home_in (chars l.name) (map home_kept l.self-inside.homes.items)
