use Rattle.std.proofs.Common.{inl, inr, refl}
use Rattle.flat_layout.proofs.Judging.{exit, names-weaker}
use Rattle.flat_views.specs.Tables.{bytes_of, place_of}
use Rattle.geometry_view.specs.Kinds.{number_of}
use Rattle.geometry_view.proofs.ReadLists.{read_ring, read_point, read_part}
use Rattle.geometry_view.proofs.lists.Lists.read.Goals as goal

pub returns-in_err-ends : goal.returns-in_err-ends
returns-in_err-ends c = exit _ _ _ _ c.from_residual.ensures.1 (names-weaker _ _ _ _ (read_ring (number_of c.args.kind) (bytes_of c.args.table) (place_of c.args.table) c.has_rings.result c.has_rings.ensures) c.in_err-ends.ensures)

pub returns-in_err-xy : goal.returns-in_err-xy
returns-in_err-xy c = exit _ _ _ _ c.from_residual-in_err-xy.ensures.1 (names-weaker _ _ _ _ (read_point (number_of c.args.kind) (bytes_of c.args.table) (place_of c.args.table) c.has_points-has_points.result c.has_points-has_points.ensures 1 (inl refl)) c.in_err-xy.ensures)

pub returns-in_err-z : goal.returns-in_err-z
returns-in_err-z c = exit _ _ _ _ c.from_residual-in_err-z.ensures.1 (names-weaker _ _ _ _ (read_point (number_of c.args.kind) (bytes_of c.args.table) (place_of c.args.table) c.has_points-has_points.result c.has_points-has_points.ensures 2 (inr (inl refl))) c.in_err-z.ensures)

pub returns-in_err-m : goal.returns-in_err-m
returns-in_err-m c = exit _ _ _ _ c.from_residual-in_err-m.ensures.1 (names-weaker _ _ _ _ (read_point (number_of c.args.kind) (bytes_of c.args.table) (place_of c.args.table) c.has_points-has_points.result c.has_points-has_points.ensures 3 (inr (inr (inl refl)))) c.in_err-m.ensures)

pub returns-in_err-t : goal.returns-in_err-t
returns-in_err-t c = exit _ _ _ _ c.from_residual-in_err-t.ensures.1 (names-weaker _ _ _ _ (read_point (number_of c.args.kind) (bytes_of c.args.table) (place_of c.args.table) c.has_points-has_points.result c.has_points-has_points.ensures 4 (inr (inr (inr (inl refl))))) c.in_err-t.ensures)

pub returns-in_err-tm : goal.returns-in_err-tm
returns-in_err-tm c = exit _ _ _ _ c.from_residual-in_err-tm.ensures.1 (names-weaker _ _ _ _ (read_point (number_of c.args.kind) (bytes_of c.args.table) (place_of c.args.table) c.has_points-has_points.result c.has_points-has_points.ensures 5 (inr (inr (inr (inr (inl refl)))))) c.in_err-tm.ensures)

pub returns-in_err-parts : goal.returns-in_err-parts
returns-in_err-parts c = exit _ _ _ _ c.from_residual-in_err-parts.ensures.1 (names-weaker _ _ _ _ (read_part (number_of c.args.kind) (bytes_of c.args.table) (place_of c.args.table) c.has_parts.result c.has_parts.ensures) c.in_err-parts.ensures)
