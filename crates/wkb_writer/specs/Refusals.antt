-- Why a shape is not written.
use Rattle.std.specs.Prelude.{◌≡◌, ⊤}
use Rattle.flat_layout.specs.declared.Broken.{Broken}
use Rattle.flat_layout.specs.declared.Rule.TheVariants.{NoWkb}
use Rattle.fgb_schema.specs.Shapes.{Shape}
use Rattle.wkb_writer.specs.declared.error.WkbError.{WkbError}
use Rattle.wkb_writer.specs.declared.error.WkbError.TheVariants.{Memory, Refused}
use Rattle.wkb_writer.specs.Dimensions.{HasNoWkb}

-- the rule NoWkb is broken at 0, since no WKB holds the shape
pub record IsNoWkb (g : Shape) (broken : Broken) : Type 0 where
  pub place : broken.place ≡ 0
  pub rule : broken.rule ≡ NoWkb
  pub none : HasNoWkb g

-- want of memory, or no WKB holds the shape
abbrev pub IsRefusal : Shape → WkbError → Type 0
IsRefusal g Memory = ⊤
IsRefusal g (Refused broken) = IsNoWkb g broken
