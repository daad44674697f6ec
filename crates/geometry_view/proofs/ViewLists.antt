-- What a view of a geometry reads of its table: the lists of the shape that it is seen as.
use Rattle.std.proofs.Common.{◌≡◌, ℕ, ◌-◌, ◌≤◌, ◌==◌, Bool, false, List, [], length, Option, subst}
use Rattle.std.specs.Option.{ForSome}
use Rattle.flat_layout.specs.declared.Broken.{Broken}
use Rattle.flat_layout.specs.Promises.{IsClean, Names}
use Rattle.flat_views.specs.declared.vectors.VecView.{VecView}
use Rattle.flat_views.specs.declared.vectors.TableVec.{TableVec}
use Rattle.flat_views.specs.TableVecs.{tables_bytes, tables_place}
use Rattle.flat_views.specs.Tables.{base_of, bytes_of, place_of}
use Rattle.flat_views.specs.Vectors.{longs_shown}
use Rattle.fgb_schema.specs.Tables.{has_points, has_rings, has_parts, part_type}
use Rattle.fgb_schema.specs.Paths.{Breaks}
use Rattle.fgb_schema.specs.Shapes.{pairs_of, type_in, points_in, rings_in, ordinates_in, parts_in}
use Rattle.geometry_view.specs.declared.geometry.GeometryView.{GeometryView}
use Rattle.geometry_view.specs.declared.kind.Ordinate.{Ordinate}
use Rattle.geometry_view.specs.Fits.{BreaksRead, ShowsRead, ShowsReadTables}
use Rattle.geometry_view.specs.Kinds.{field_of, number_of}
use Rattle.geometry_view.specs.Lists.{AreFinite}
use Rattle.geometry_view.specs.Views.{geometry_shown, listed, parts_shown, rings_shown}
use Rattle.geometry_view.proofs.Levels.{parts_at}
use Rattle.geometry_view.proofs.OwnShapes.{never_points, never_ends, never_parts, finite_read, parts_clean}
use Rattle.geometry_view.proofs.OwnType.{known_kind, not_zero, some_kind}
use Rattle.geometry_view.proofs.Showing.{type_read, points_read, rings_read, rings_lacking, ordinates_read, parts_read}

module _ (g : GeometryView) where
  abbrev kind : ℕ
  kind = number_of g.kind

  abbrev bytes : List ℕ
  bytes = bytes_of g.table

  abbrev base : ℕ
  base = base_of g.table

  abbrev place : ℕ
  place = place_of g.table

  abbrev levels : ℕ
  levels = 16 - g.depth

  some : (kind == 0) ≡ false
  some = not_zero kind (some_kind g.kind)

  pub view_type : type_in (geometry_shown g) ≡ kind
  view_type = type_read kind bytes base place some levels

  module _ (o : Option VecView) where
    pub view_points : ShowsRead (has_points kind) 8 bytes base place 1 o → pairs_of (longs_shown o) ≡ points_in (geometry_shown g)
    view_points shows = points_read kind bytes base place some levels o shows

    pub view_finite : ShowsRead (has_points kind) 8 bytes base place 1 o → AreFinite o
    view_finite shows = finite_read kind g.depth bytes base place g.table.sound (known_kind g.kind) g.clean o shows

    pub view_rings : (is_read : Bool) → is_read ≡ has_rings kind → ShowsRead is_read 4 bytes base place 0 o → rings_in (geometry_shown g) ≡ rings_shown kind o (length (points_in (geometry_shown g)))
    view_rings is_read same shows = rings_read kind bytes base place some levels o (subst (λ s. ShowsRead s 4 bytes base place 0 o) same shows)

    pub view_ordinates : (which : Ordinate) (f : ℕ) → f ≡ field_of which → ShowsRead (has_points kind) 8 bytes base place f o → listed which (ordinates_in (geometry_shown g)) ≡ longs_shown o
    view_ordinates which f is shows = ordinates_read kind bytes base place some levels which o (subst (λ f. ShowsRead (has_points kind) 8 bytes base place f o) is shows)

  pub view_lacking : has_rings kind ≡ false → rings_in (geometry_shown g) ≡ []
  view_lacking lacks = rings_lacking kind bytes base place some levels lacks

  module _ (o : Option TableVec) (is_read : Bool) (same : is_read ≡ has_parts kind) (shows : ShowsReadTables is_read bytes base place 7 o) where
    there : ShowsReadTables (has_parts kind) bytes base place 7 o
    there = subst (λ s. ShowsReadTables s bytes base place 7 o) same shows

    pub view_clean : ForSome o (λ tables. IsClean (Breaks (tables_bytes tables) (parts_at kind g.depth (tables_place tables))))
    view_clean = parts_clean kind g.depth bytes base place g.table.sound (known_kind g.kind) g.clean o there

    pub view_parts : parts_in (geometry_shown g) ≡ parts_shown (15 - g.depth) (part_type kind) o
    view_parts = parts_read kind bytes base place some o there g.depth g.shallow view_clean

  -- no list is refused
  module _ (is_read : Bool) (e : Broken) where
    pub view_never_points : is_read ≡ has_points kind → (f : ℕ) → 1 ≤ f → f ≤ 5 → Names base (BreaksRead is_read 8 bytes place f) e → ⊥
    view_never_points same f first last named = never_points kind g.depth bytes base place g.table.sound (known_kind g.kind) g.clean is_read e same f first last named

    pub view_never_ends : is_read ≡ has_rings kind → Names base (BreaksRead is_read 4 bytes place 0) e → ⊥
    view_never_ends same named = never_ends kind g.depth bytes base place g.table.sound (known_kind g.kind) g.clean is_read e same named

    pub view_never_parts : is_read ≡ has_parts kind → Names base (BreaksRead is_read 4 bytes place 7) e → ⊥
    view_never_parts same named = never_parts kind g.depth bytes base place g.table.sound (known_kind g.kind) g.clean is_read e same named
