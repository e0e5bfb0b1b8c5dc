use Rattle.peers.proofs.Common.{◌≡◌, ◌++◌, map, take, home_kept, homes_at, window_names}
use Rattle.peers.proofs.windows.Windows.push_widgets.Given as goal

abbrev pub invariant-loop-seat : goal.invariant-loop-seat
invariant-loop-seat g l =
    map home_kept l.self-inside.homes.items
    ≡ map home_kept l.initial.self-inside.homes.items ++ homes_at l.place (take l.seat (window_names l.document))
