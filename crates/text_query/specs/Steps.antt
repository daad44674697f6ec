-- What a writer does with a header and with the features that it is handed.
use Rattle.std.specs.Prelude.{◌≡◌, ◌⊎◌, ℕ, Bool, true, List, [], Option, Some, None}
use Rattle.fgb_outside.specs.Source.{Rose}
use Rattle.fgb_outside.specs.Sink.{Sink}
use Rattle.fgb_schema.specs.Headers.{Header}
use Rattle.fgb_schema.specs.Features.{feature_of}
use Rattle.fgb_schema.specs.Shapes.{Shape}
use Rattle.found_features.specs.Entries.{Entry}
use Rattle.text_query.specs.Lines.{line}
use Rattle.text_query.specs.Pages.{Adds, AddsPart}
use Rattle.text_query.specs.Texts.{copy, front, hex_line, IsTooWide}
use Rattle.text_query.specs.declared.output.Output.{Output}
use Rattle.text_query.specs.declared.output.Output.TheVariants.{Lines, Fgb, Wkb}
use Rattle.text_query.specs.declared.writer.Writer.{Writer}

-- the header under which features are read again, of one that is kept
abbrev pub told_of : Output → Option Header → Option Header
told_of Lines kept = None
told_of Fgb kept = None
told_of Wkb kept = kept

-- the shape in a feature's buffer under the header that was told; without one none is read
abbrev pub shape_under : Option Header → List ℕ → Option Shape
shape_under None buffer = None
shape_under (Some h) buffer = (feature_of h buffer).shape

-- what is written of a feature under it
abbrev pub piece_under : Output → Option Header → Entry → List ℕ
piece_under Lines told e = line e
piece_under Fgb told e = copy e
piece_under Wkb told e = hex_line (shape_under told e.buffer)

-- what a writer shows: its sink, what stands on its page, what it writes, the header under which it reads features
-- again, whether a header was too wide for it, and how often it has stopped
pub record State : Type 0 where
  pub sink : Sink
  pub page : List ℕ
  pub output : Output
  pub told : Option Header
  pub wide : Bool
  pub stops : ℕ

-- by what its sink shows
abbrev pub state_of : {W : Type 0} → Sink → Writer W → State
state_of shown w = record {
  sink = shown;
  page = w.page.bytes.items;
  output = w.output;
  told = told_of w.output w.header;
  wide = w.too_wide;
  stops = w.stops;
}

-- it begins: what stands in front of all features is laid onto an empty page
pub record Starts (a : State) (h : Header) (b : State) : Type 0 where
  pub sink : b.sink ≡ a.sink
  pub page : a.page ≡ [] → b.page ≡ front a.output h
  pub output : b.output ≡ a.output
  pub told : b.told ≡ told_of a.output (Some h)
  pub wide : b.wide ≡ a.wide
  pub stops : b.stops ≡ a.stops
  pub fits : IsTooWide a.output h → ⊥

-- it fails to begin, and stops where the header is too wide
pub record FailsStart (a : State) (h : Header) (b : State) : Type 0 where
  pub sink : b.sink ≡ a.sink
  pub page : b.page ≡ a.page
  pub reason : ((b.wide ≡ a.wide) × (b.stops ≡ a.stops)) ⊎ ((b.wide ≡ true) × IsTooWide a.output h)

-- what stays while it takes features
pub record Stays (a b : State) : Type 0 where
  pub output : b.output ≡ a.output
  pub told : b.told ≡ a.told
  pub wide : b.wide ≡ a.wide

-- a text is written, or stands on the page
pub record Writes (a b : State) (text : List ℕ) : Type 0 where
  pub stays : Stays a b
  pub stops : b.stops ≡ a.stops
  pub adds : Adds a.sink b.sink a.page b.page text

-- a front of it, and it stops where the sink fails
pub record WritesPart (a b : State) (text : List ℕ) : Type 0 where
  pub stays : Stays a b
  pub stops : (b.stops ≡ a.stops) ⊎ Rose a.sink.faults b.sink.faults
  pub adds : AddsPart a.sink b.sink a.page b.page text

-- it takes a feature, or fails to
abbrev pub Steps : State → Entry → State → Type 0
Steps a e b = Writes a b (piece_under a.output a.told e)

abbrev pub FailsStep : State → Entry → State → Type 0
FailsStep a e b = WritesPart a b (piece_under a.output a.told e)
