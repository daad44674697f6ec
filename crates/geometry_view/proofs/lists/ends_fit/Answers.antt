use Rattle.std.proofs.Common.{◌≡◌, ⊎_elim, arith}
use Rattle.flat_layout.specs.Layout.{count}
use Rattle.flat_views.specs.Vectors.{vector_bytes, vector_place}
use Rattle.geometry_view.specs.Fits.{falls}
use Rattle.geometry_view.proofs.Fitting.{descends_at, rings_clean, ends_elsewhere}
use Rattle.geometry_view.proofs.lists.ends_fit.Goals as goal

pub returns-then-end-last : goal.returns-then-end-last
returns-then-end-last c =
    let known = c.loop-i.invariant in (
      vector_place c.args.ends,
      c.place.ensures,
      falls (descends_at (vector_bytes c.args.ends) (vector_place c.args.ends) c.loop-i.i c.loop-i.last c.at_u32-end.result (omega arith) known.1 known.2 c.at_u32-end.ensures c.if-end-last.true),
    )

pub returns-then-last-points : goal.returns-then-last-points
returns-then-last-points c =
    let b = vector_bytes c.args.ends in let v = vector_place c.args.ends in
    let whole : c.loop-i.i ≡ count b v = omega arith in (
      v,
      c.place.ensures,
      ends_elsewhere b v c.args.points c.loop-i.i c.loop-i.last whole (omega arith) c.loop-i.invariant.2 c.if-last-points.true,
    )

pub returns : goal.returns
returns c =
    let b = vector_bytes c.args.ends in let v = vector_place c.args.ends in
    let whole : c.loop-i.i ≡ count b v = omega arith in (
      tt,
      rings_clean b v c.args.points c.loop-i.i c.loop-i.last whole c.loop-i.invariant.0 c.loop-i.invariant.2
          (λ some. ⊎_elim (λ right. right.1) (λ none. absurd (omega (arith, some, none))) c.else-len-gt0.either),
    )
