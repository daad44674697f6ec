use Rattle.std.proofs.Common.{sym, ap, ◌∙◌, arith}
use Rattle.flat_views.specs.Vectors.{vector_base, vector_bytes, vector_place}
use Rattle.order_keys.specs.Keys.{is_finite}
use Rattle.geometry_view.proofs.Fitting.{infinite_at, finite_clean}
use Rattle.flat_views.proofs.Elements.{size_within}
use Rattle.geometry_view.proofs.lists.all_finite.Goals as goal

pub overflow_mul-result : goal.overflow_mul-result
overflow_mul-result c = omega (arith, size_within c.args.xy 8 c.requires)

pub overflow_add-result-then-not-is_finite : goal.overflow_add-result-then-not-is_finite
overflow_add-result-then-not-is_finite c = omega (arith, size_within c.args.xy 8 c.requires)

pub returns-then-not-is_finite : goal.returns-then-not-is_finite
returns-then-not-is_finite c = infinite_at (vector_bytes c.args.xy) (vector_place c.args.xy) (vector_base c.args.xy) c.loop-i.i _ (omega arith)
    (ap is_finite (sym c.at_u64.ensures) ∙ sym c.is_finite.ensures ∙ c.if-not-is_finite.true) (omega arith)

pub returns : goal.returns
returns c = finite_clean (vector_bytes c.args.xy) (vector_place c.args.xy) (λ i early. c.loop-i.invariant i (omega (arith, early)))
