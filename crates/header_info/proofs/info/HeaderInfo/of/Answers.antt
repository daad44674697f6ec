use Rattle.std.proofs.Common.{◌≤◌, length, sym, subst, ◌∙◌}
use Rattle.fgb_header.proofs.Known.{few_columns}
use Rattle.header_info.proofs.Records.{owned_utf8}
use Rattle.header_info.proofs.info.HeaderInfo.of.Goals as goal

pub invariant_of-result : goal.invariant_of-result
invariant_of-result c = record {
  kind = subst (λ kind. kind ≤ 7) (sym c.geometry_type.ensures) c.args.view.now.own.known;
  wide = λ one. c.args.view.now.own.several (sym c.index_node_size.ensures ∙ one);
  few = subst (λ columns. length columns ≤ 65536) (sym c.in_ok-columns_of.ensures.ok) (few_columns c.columns.result);
  columns = c.in_ok-columns_of.ensures.sound;
  crs = c.in_ok-crs_of.ensures.sound;
  envelope = c.in_ok-numbers_of.ensures.sound;
  count = c.features_count.type_inv;
  size = c.index_node_size.type_inv;
  name = owned_utf8 c.in_ok-owned.field-0;
  title = owned_utf8 c.in_ok-owned-2.field-0;
  description = owned_utf8 c.in_ok-owned-3.field-0;
  metadata = owned_utf8 c.in_ok-owned-4.field-0;
}
