-- Each branch is the whole edge of its kind of module.
use Rattle.module_edges.proofs.edge.Goals as goal

pub framed_edge-requires : goal.framed_edge-requires
framed_edge-requires c = rw (c.is_framed.ensures, c.settings_in-s.ensures) at c.if-is_framed.true

pub plain_edge-requires : goal.plain_edge-requires
plain_edge-requires c = rw (c.is_framed.ensures, c.settings_in-s.ensures) at c.if-is_framed.false

pub returns-then-is_framed : goal.returns-then-is_framed
returns-then-is_framed c = c.framed_edge.ensures

pub returns-else-is_framed : goal.returns-else-is_framed
returns-else-is_framed c = c.plain_edge.ensures
