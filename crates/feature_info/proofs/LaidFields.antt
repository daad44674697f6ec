-- The fields of a feature's table, put one by one.
use Rattle.std.proofs.Common.{◌≡◌, ◌∙◌, ℕ, ◌+◌, List, [], ◌∷◌, Option, Some, None, refl, ap}
use Rattle.std.specs.Option.{option_map}
use Rattle.fgb_schema.specs.Features.{Feature}
use Rattle.flat_builder.specs.Trees.{Item, table, Fields, none}
use Rattle.header_info.specs.Puts.{put_some}
use Rattle.header_tables.specs.Laying.{columns_item}
use Rattle.shape_tables.specs.Laying.{numbers_item, shape_table, with_fields}
use Rattle.feature_tables.specs.Laying.{feature_table, properties_bytes}

-- a field in front of others
later : (fs : Fields) (id : ℕ) (o : Option Item) (rest : List (Option Item)) → with_fields (put_some fs id o) (id + 1) rest ≡ with_fields fs id (o ∷ rest)
later fs id None rest = refl
later fs id (Some it) rest = refl

pub feature_laid : (f : Feature) (t0 t1 t2 t3 : Fields) → t0 ≡ none → t1 ≡ put_some t0 0 (option_map (λ s. table (shape_table s)) f.shape)
    → t2 ≡ put_some t1 1 (numbers_item 1 (properties_bytes f.properties)) → t3 ≡ put_some t2 2 (columns_item f.columns) → t3 ≡ feature_table f
unfolding feature_table
feature_laid f t0 t1 t2 t3 e0 e1 e2 e3 =
    let shape = option_map (λ s. table (shape_table s)) f.shape in
    let properties = numbers_item 1 (properties_bytes f.properties) in
    let columns = columns_item f.columns in
    e3 ∙ later t2 2 columns []
    ∙ ap (λ fs. with_fields fs 2 (columns ∷ [])) e2 ∙ later t1 1 properties (columns ∷ [])
    ∙ ap (λ fs. with_fields fs 1 (properties ∷ columns ∷ [])) e1 ∙ later t0 0 shape (properties ∷ columns ∷ [])
    ∙ ap (λ fs. with_fields fs 0 (shape ∷ properties ∷ columns ∷ [])) e0
