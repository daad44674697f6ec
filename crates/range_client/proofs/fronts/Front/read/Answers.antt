use Rattle.std.proofs.Common.{◌≡◌, ℕ, List, ◌++◌, length, take, drop, ap, arith}
use Rattle.std.specs.Prelude.{slice_range}
use Rattle.std.proofs.lemmas.List.{take_at}
use Rattle.range_client.specs.Fronts.{Fronted}
use Rattle.range_client.proofs.Ending.{front_begun}
use Rattle.range_client.proofs.fronts.Front.read.Goals as goal

fronted : List ℕ → ℕ → ℕ → Fronted
fronted bytes end len = record { head = take end bytes; rest = slice_range bytes end len }

pub returns-in-Ok-clause-begun : goal.returns-in-Ok-clause-begun
unfolding fronted
returns-in-Ok-clause-begun g c =
    let all : take c.self.inside.bytes.len (c.read_head.new.bytes ++ drop (length c.read_head.new.bytes) c.self.inside.bytes.items) ≡ c.read_head.new.bytes =
    take_at c.read_head.new.bytes (drop (length c.read_head.new.bytes) c.self.inside.bytes.items) c.self.inside.bytes.len (omega arith) in
    front_begun (g.L.Link.shown c.args.link.now) (g.L.Link.shown c.read_head.new.link) c.read_head.new.bytes c.in-Ok.end c.read_head.new.len c.args.ahead _ (omega arith) c.in-Ok.ensures.came
    (ap (λ l. fronted l c.in-Ok.end c.read_head.new.len) all)
