use Rattle.std.proofs.Common.{List, ℕ, sym, subst, false}
use Rattle.range_server.specs.Core.{Core, IsSound}
use Rattle.range_server.proofs.AnyPieces.{sound_new}
use Rattle.range_server.proofs.one_core.ServerCore.new.Goals as goal

pub invariant_of-result : goal.invariant_of-result
invariant_of-result c =
    let make : List ℕ → Core = λ xs. record { size = c.args.size; kept = xs; answered = 0; closed = false } in
    (c.requires, subst (λ xs. IsSound (make xs)) (sym c.new.ensures) (sound_new c.args.size))
