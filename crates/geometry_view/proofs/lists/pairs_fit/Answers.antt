use Rattle.std.proofs.Common.{inl, inr, ⊎_elim, sym, ◌∙◌, arith}
use Rattle.flat_views.specs.Vectors.{vector_base, vector_bytes, vector_place}
use Rattle.fgb_schema.specs.Paths.{odd}
use Rattle.geometry_view.specs.Kinds.{number_of}
use Rattle.geometry_view.proofs.Fitting.{pairs_several, judge_finite}
use Rattle.geometry_view.proofs.lists.pairs_fit.Goals as goal

pub returns-then-count-eq1 : goal.returns-then-count-eq1
returns-then-count-eq1 c = (vector_place c.args.xy, c.place.ensures, odd (omega arith))

pub returns-then-count-gt2 : goal.returns-then-count-gt2
returns-then-count-gt2 c = (
  vector_place c.args.xy,
  c.place-then-count-gt2.ensures,
  pairs_several (vector_bytes c.args.xy) (vector_place c.args.xy) (number_of c.args.kind) (sym c.is_point.ensures ∙ c.if-is_point.true) (omega arith) (λ is. c.if-count-eq1.false (omega (arith, is))),
)

pub returns : goal.returns
returns c = judge_finite (vector_bytes c.args.xy) (vector_place c.args.xy) (vector_base c.args.xy) (number_of c.args.kind) c.all_finite.result (λ is. c.if-count-eq1.false (omega (arith, is)))
    (⊎_elim (λ few. inr (omega (arith, few))) (λ other. inl (sym c.is_point.ensures ∙ other)) c.else-is_point.either) c.all_finite.ensures
