-- The host's turn and the client's turn call each other. The measures are twice the edges left, and one more for the
-- host's turn: it hands over with as many left, and the client's turn hands back with one fewer.
use Rattle.std.proofs.Common.{◌+◌, ◌*◌}
use Rattle.link_calls.proofs.+client_turn_host_turn.Given as goal

abbrev pub decreases-client_turn : goal.decreases-client_turn
decreases-client_turn l = 2 * l.left

abbrev pub decreases-host_turn : goal.decreases-host_turn
decreases-host_turn l = 2 * l.left + 1
