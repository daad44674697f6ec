-- A shape that is owned can stand in a file, also where it is one that may be missing.
use Rattle.std.proofs.Common.{◌≡◌, ◌∙◌, Option, Some, sym, subst}
use Rattle.std.specs.Option.{ForSome}
use Rattle.std.proofs.lemmas.Option.{same_Some}
use Rattle.fgb_schema.specs.Shapes.{Shape}
use Rattle.owned_shape.specs.Records.{IsRecord as IsOwned}
use Rattle.owned_shape.proofs.Standing.{can_stand}
use Rattle.shape_tables.specs.Records.{IsRecord as IsShape}

pub some_stands : (o : Option Shape) (s : Shape) → o ≡ Some s → IsOwned s → ForSome o IsShape
some_stands o s is owned = λ x at. subst IsShape (same_Some s x (sym is ∙ at)) (can_stand s owned)
