-- A word at both ends leaves fewer edges, and the run goes on from there. The measure is the edges left.
use Rattle.link_calls.proofs.+run.Given as goal

abbrev pub decreases-run : goal.decreases-run
decreases-run l = l.left
