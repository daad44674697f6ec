-- What a value that is sought is seen as.
use Rattle.fgb_where.specs.declared.values.Wanted.{Wanted}
use Rattle.fgb_where.specs.declared.values.Wanted.TheVariants.{Whole, Double, Text}
use Rattle.fgb_where.specs.Values.{Sought, whole_value, double_value, text_value}

abbrev pub sought_in : Wanted → Sought
sought_in (Whole z) = whole_value z
sought_in (Double c) = double_value c
sought_in (Text text) = text_value text.now
