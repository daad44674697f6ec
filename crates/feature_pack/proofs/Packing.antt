-- What is written of a plan, of features that were laid.
use Rattle.std.proofs.Common.{◌≡◌, ◌∙◌, ℕ, List, length, map, ap, subst}
use Rattle.std.specs.Prelude.{Vec, vec_items, option_map}
use Rattle.std.specs.declared.alloc.Global.{Global}
use Rattle.std.specs.List.{AllByRecursion}
use Rattle.std.proofs.lemmas.List.{length-map}
use Rattle.level_bounds.specs.Shapes.{shape_of}
use Rattle.fgb_schema.specs.Headers.{Header}
use Rattle.fgb_schema.specs.Features.{Feature}
use Rattle.fgb_outside.specs.Sink.{Sink, Appends, AppendsPart}
use Rattle.fgb_file.specs.File.{header_in, nodes_of}
use Rattle.packed_file.specs.Packing.{IsPacking, IsTooLarge, packed_header}
use Rattle.packed_file.proofs.Alls.{all_weaker}
use Rattle.packed_file.proofs.Ordered.{ordered_same}
use Rattle.feature_tables.specs.Records.{Fits}
use Rattle.laid_features.specs.Buffers.{IsTooLarge as HasTooLarge, buffer_of, buffers_of, framed, pieces_of, shown_in}
use Rattle.feature_pack.specs.Packs.{IsSound, LacksPacking, large_feature, large_packing, Packs, PacksPart, front}
use Rattle.feature_pack.specs.Pieces.{pieces_in}
use Rattle.feature_pack.specs.Plans.{IsPlan, planned_bytes}
use Rattle.feature_pack.specs.declared.planning.Plan.{Plan}
use Rattle.feature_pack.proofs.Frames.{same_pieces}

-- laid features as they are lent, and what is planned of them
module _ (features : List Feature) (laid lent : List (Vec ℕ Global)) (ok : map vec_items laid ≡ buffers_of features) (is : lent ≡ laid) where
  pub lent_pieces : pieces_in lent ≡ pieces_of features
  lent_pieces = ap pieces_in is ∙ same_pieces laid features ok

pub planned : (header : Header) (features : List Feature) (node_size : ℕ) (laid lent : List (Vec ℕ Global)) (plan : Plan) → map vec_items laid ≡ buffers_of features → lent ≡ laid
    → IsPlan header (pieces_in lent) node_size plan → IsPlan header (pieces_of features) node_size plan
planned header features node_size laid lent plan ok is plans = subst (λ ps. IsPlan header ps node_size plan) (lent_pieces features laid lent ok is) plans

-- neither the number of features nor the node size of a header says what fits it
pub fits_again : (header : Header) (count node_size : ℕ) (features : List Feature) → AllByRecursion (Fits header) features → AllByRecursion (Fits (packed_header header count node_size)) features
fits_again header count node_size features fit =
    all_weaker (Fits header) (Fits (packed_header header count node_size)) features (λ f fits. record { shape = fits.shape; properties = fits.properties }) fit

-- where nothing is too large, there is a packing
pub lacks_nothing : (header : Header) (features : List Feature) (node_size : ℕ) → (HasTooLarge features → ⊥) → (IsTooLarge header (pieces_of features) node_size → ⊥) → LacksPacking header features node_size → ⊥
lacks_nothing header features node_size small fits (large_feature large) = small large
lacks_nothing header features node_size small fits (large_packing large) = fits large

module _ (header : Header) (features : List Feature) (node_size : ℕ) (plan : Plan) (is : IsPlan header (pieces_of features) node_size plan) (o o' : Sink) where
  abbrev bytes : List ℕ
  bytes = planned_bytes (pieces_of features) plan

  abbrev packing : IsPacking header (pieces_of features) node_size bytes
  packing = record { order = plan.numbers.items; index = option_map shape_of plan.levels; ordered = is.ordered; over = is.over; whole = is.whole }

  many : length (pieces_of features) ≡ length features
  many = length-map features (λ f. framed (buffer_of f))

  told : header_in bytes ≡ packed_header header (length features) node_size
  told = is.told ∙ ap (λ n. packed_header header n node_size) many

  sound : map (shown_in (packed_header header (length features) node_size)) (pieces_of features) ≡ features → IsSound header features node_size bytes packing
  sound shown = record {
    file = is.file;
    told = told;
    same = ordered_same header (pieces_of features) plan.numbers.items is.ordered;
    shown = ap (λ h. map (shown_in h) (pieces_of features)) told ∙ shown;
  }

  -- all of it was written
  pub packs : (counted nodes : ℕ) → counted ≡ length features → nodes ≡ nodes_of (option_map shape_of plan.levels)
      → map (shown_in (packed_header header (length features) node_size)) (pieces_of features) ≡ features
      → Appends o o' bytes → Packs header features node_size (record { features = counted; nodes = nodes; bytes = plan.size }) o o'
  packs counted nodes all named shown written = record {
    bytes = bytes;
    packing = packing;
    sound = sound shown;
    written = written;
    counted = all;
    nodes = named;
    size = is.size;
  }

  -- or a front of it
  pub packs_part : AppendsPart o o' bytes → PacksPart header features node_size o o'
  packs_part written = front packing written
