use Rattle.std.proofs.Common.{Ok, Err, inl, inr, refl, lit≤}
use Rattle.flat_layout.proofs.Judging.{exit, names-weaker}
use Rattle.flat_views.specs.Tables.{base_of, bytes_of, place_of}
use Rattle.geometry_view.specs.Kinds.{number_of}
use Rattle.geometry_view.proofs.Fitting.{pairs_broken, ends_broken, count_broken}
use Rattle.geometry_view.proofs.ReadLists.{points_same, pairs_judged, ends_judged, count_judged, all_judged}
use Rattle.geometry_view.proofs.lists.Lists.judge.Goals as goal

pub returns-in_err-judge_pairs-clause-fit : goal.returns-in_err-judge_pairs-clause-fit
returns-in_err-judge_pairs-clause-fit c =
    let k = number_of c.args.kind in let b = bytes_of c.args.table in let t = place_of c.args.table in let points = c.points-points.result in
    exit _ _ _ _ c.from_residual.ensures.1 (names-weaker _ _ _ _ (pairs_broken k points b t c.requires.clean) (pairs_judged k b (base_of c.args.table) t c.args.self c.requires.shows points (Err c.in_err-judge_pairs.field-0.0) c.in_err-judge_pairs.ensures))

pub returns-in_err-judge_ends-clause-fit : goal.returns-in_err-judge_ends-clause-fit
returns-in_err-judge_ends-clause-fit c =
    let k = number_of c.args.kind in let b = bytes_of c.args.table in let t = place_of c.args.table in let points = c.points-points.result in
    exit _ _ _ _ c.from_residual-in_err-judge_ends.ensures.1 (names-weaker _ _ _ _ (ends_broken k points b t c.requires.clean (points_same k b (base_of c.args.table) t c.args.self c.requires.shows points c.points-points.ensures)) (ends_judged k b (base_of c.args.table) t c.args.self c.requires.shows points (Err c.in_err-judge_ends.field-0.0) c.in_err-judge_ends.ensures))

pub returns-in_err-judge_count-clause-fit : goal.returns-in_err-judge_count-clause-fit
returns-in_err-judge_count-clause-fit c =
    let k = number_of c.args.kind in let b = bytes_of c.args.table in let t = place_of c.args.table in let points = c.points-points.result in
    exit _ _ _ _ c.from_residual-in_err-judge_count.ensures.1 (names-weaker _ _ _ _ (count_broken k points b t c.requires.clean (points_same k b (base_of c.args.table) t c.args.self c.requires.shows points c.points-points.ensures) 2 (lit≤ tt) (lit≤ tt) (inr (inl refl))) (count_judged k b (base_of c.args.table) t c.args.self c.requires.shows points 2 c.args.self.z c.requires.shows.z (Err c.in_err-judge_count.field-0.0) c.in_err-judge_count.ensures))

pub returns-in_err-judge_count-2-clause-fit : goal.returns-in_err-judge_count-2-clause-fit
returns-in_err-judge_count-2-clause-fit c =
    let k = number_of c.args.kind in let b = bytes_of c.args.table in let t = place_of c.args.table in let points = c.points-points.result in
    exit _ _ _ _ c.from_residual-in_err-judge_count-2.ensures.1 (names-weaker _ _ _ _ (count_broken k points b t c.requires.clean (points_same k b (base_of c.args.table) t c.args.self c.requires.shows points c.points-points.ensures) 3 (lit≤ tt) (lit≤ tt) (inr (inr (inl refl)))) (count_judged k b (base_of c.args.table) t c.args.self c.requires.shows points 3 c.args.self.m c.requires.shows.m (Err c.in_err-judge_count-2.field-0.0) c.in_err-judge_count-2.ensures))

pub returns-in_err-judge_count-3-clause-fit : goal.returns-in_err-judge_count-3-clause-fit
returns-in_err-judge_count-3-clause-fit c =
    let k = number_of c.args.kind in let b = bytes_of c.args.table in let t = place_of c.args.table in let points = c.points-points.result in
    exit _ _ _ _ c.from_residual-in_err-judge_count-3.ensures.1 (names-weaker _ _ _ _ (count_broken k points b t c.requires.clean (points_same k b (base_of c.args.table) t c.args.self c.requires.shows points c.points-points.ensures) 4 (lit≤ tt) (lit≤ tt) (inr (inr (inr (inl refl))))) (count_judged k b (base_of c.args.table) t c.args.self c.requires.shows points 4 c.args.self.t c.requires.shows.t' (Err c.in_err-judge_count-3.field-0.0) c.in_err-judge_count-3.ensures))

pub returns-clause-fit : goal.returns-clause-fit
returns-clause-fit c =
    let k = number_of c.args.kind in let b = bytes_of c.args.table in let t = place_of c.args.table in let points = c.points-points.result in
    all_judged k b (base_of c.args.table) t c.args.self c.requires.shows points c.requires.clean (points_same k b (base_of c.args.table) t c.args.self c.requires.shows points c.points-points.ensures)
    (pairs_judged k b (base_of c.args.table) t c.args.self c.requires.shows points (Ok c.in_ok-judge_pairs.field-0) c.in_ok-judge_pairs.ensures).1
    (ends_judged k b (base_of c.args.table) t c.args.self c.requires.shows points (Ok c.in_ok-judge_ends.field-0) c.in_ok-judge_ends.ensures).1
    (count_judged k b (base_of c.args.table) t c.args.self c.requires.shows points 2 c.args.self.z c.requires.shows.z (Ok c.in_ok-judge_count.field-0) c.in_ok-judge_count.ensures).1
    (count_judged k b (base_of c.args.table) t c.args.self c.requires.shows points 3 c.args.self.m c.requires.shows.m (Ok c.in_ok-judge_count-2.field-0) c.in_ok-judge_count-2.ensures).1
    (count_judged k b (base_of c.args.table) t c.args.self c.requires.shows points 4 c.args.self.t c.requires.shows.t' (Ok c.in_ok-judge_count-3.field-0) c.in_ok-judge_count-3.ensures).1
    c.judge_count-4.result (count_judged k b (base_of c.args.table) t c.args.self c.requires.shows points 5 c.args.self.tm c.requires.shows.tm c.judge_count-4.result c.judge_count-4.ensures)
