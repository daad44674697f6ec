-- The step of an extent.
use Rattle.std.proofs.Common.{◌≡◌, ap}
use Rattle.order_keys.specs.declared.bounds.Bounds.{Bounds}
use Rattle.order_keys.specs.Boxes.{join}
use Rattle.found_features.specs.Entries.{Entry}
use Rattle.fgb_reports.specs.States.{extent, step}

pub extended : (bounds joined : Bounds) (e : Entry) → joined ≡ join bounds e.own → extent joined ≡ step (extent bounds) e
unfolding step
extended bounds joined e is = ap extent is
