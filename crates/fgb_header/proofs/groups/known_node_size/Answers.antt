use Rattle.std.proofs.Common.{◌≡◌, ◌==◌, ℕ, false, not, refl, sym, ◌∙◌}
use Rattle.flat_views.specs.Tables.{bytes_of, place_of}
use Rattle.fgb_header.proofs.HeaderGroups.{node_size_one}
use Rattle.fgb_header.proofs.groups.known_node_size.Goals as goal

one : (n : ℕ) → n ≡ 1 → not (n == 1) ≡ false
one n h = rw h

pub returns-then-node_size-eq1 : goal.returns-then-node_size-eq1
returns-then-node_size-eq1 c =
    let size = c.in_ok-node_size.ensures in
    rw c.refused.ensures (place_of c.args.table, refl, node_size_one (bytes_of c.args.table) (place_of c.args.table) c.args.table.sound size.1 (one _ (sym size.0 ∙ c.if-node_size-eq1.true)))
