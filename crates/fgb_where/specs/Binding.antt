-- A condition under a header: what it breaks, and where, and what it seeks.
use Rattle.std.specs.Prelude.{◌≡◌, ℕ, List, Option, Some, None, slice_get}
use Rattle.flat_layout.specs.Layout.{target, led_to, entry_place}
use Rattle.flat_layout.specs.declared.Rule.{Rule}
use Rattle.flat_layout.specs.declared.Rule.TheVariants.{WhereColumn, WhereType, WhereValue}
use Rattle.fgb_schema.specs.Headers.{Header, header_of, types}
use Rattle.fgb_where.specs.declared.class.Class.{Class}
use Rattle.fgb_where.specs.declared.words.Op.{Op}
use Rattle.fgb_where.specs.declared.words.Condition.{Condition}
use Rattle.fgb_where.specs.Values.{Sought, IsValue, class_of}
use Rattle.fgb_where.specs.Columns.{first_named}

-- the first column of a condition's name has this number and this type
pub record HasColumn (h : Header) (c : Condition) (j kind : ℕ) : Type 0 where
  pub number : first_named c.name.now h.columns ≡ Some j
  pub kinded : slice_get (types h.columns) j ≡ Some kind

-- the rule that a condition breaks on a column of this type: that has no class, or the value is none of its class
pub data BreaksAs (c : Condition) (kind : ℕ) : Rule → Type 0 where
  no_class : class_of kind ≡ None → BreaksAs c kind WhereType
  no_value : (class : Class) → class_of kind ≡ Some class → ((s : Sought) → IsValue class c.value.now s → ⊥) → BreaksAs c kind WhereValue

-- the rule that it breaks under a header: there is no column of its name, or what it breaks on the first one
pub data Breaks (h : Header) (c : Condition) : Rule → Type 0 where
  no_column : first_named c.name.now h.columns ≡ None → Breaks h c WhereColumn
  on_column : {r : Rule} (j kind : ℕ) → HasColumn h c j kind → BreaksAs c kind r → Breaks h c r

-- the place of the j-th column's table in a header's buffer, or of the header's own
abbrev pub table_place : List ℕ → Option ℕ → ℕ
table_place b None = target b 0
table_place b (Some j) = target b (entry_place b (led_to b (target b 0) 7) j)

-- a rule is broken at place q of the header's buffer: at the table of the first column of the condition's name, or at the
-- header's where there is none
pub record BreaksCondition (b : List ℕ) (c : Condition) (q : ℕ) (r : Rule) : Type 0 where
  pub rule : Breaks (header_of b) c r
  pub place : q ≡ table_place b (first_named c.name.now (header_of b).columns)

-- a condition whose value was read: the name, the relation and what is sought
pub record Bounded : Type 0 where
  pub name : List ℕ
  pub op : Op
  pub sought : Sought

-- it is that of a condition on a column of this type: the value is of the type's class
pub record BindsAs (c : Condition) (kind : ℕ) (bounded : Bounded) : Type 0 where
  pub name : bounded.name ≡ c.name.now
  pub op : bounded.op ≡ c.op
  pub class : Class
  pub classed : class_of kind ≡ Some class
  pub value : IsValue class c.value.now bounded.sought

-- it is that of a condition under a header: on the first column of its name
pub record Binds (h : Header) (c : Condition) (bounded : Bounded) : Type 0 where
  pub number : ℕ
  pub kind : ℕ
  pub column : HasColumn h c number kind
  pub bound : BindsAs c kind bounded
