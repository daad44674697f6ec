-- Positions that are asked for over several calls rise.
use Rattle.std.proofs.Common.{◌≤◌, [], ◌++◌, arith}
use Rattle.std.proofs.lemmas.List.{append-nil}
use Rattle.fgb_outside.specs.Source.{Source}
use Rattle.fgb_outside.proofs.Asking.{reads_front, reads_nothing, reads_reads, reads_then_front, ascends_append, ascends_wider, front_along}
use Rattle.section_window.specs.Window.{Held, ahead}
use Rattle.hit_reader.specs.declared.section.Section.{Section}
use Rattle.hit_reader.specs.Asking.{AsksRising}
use Rattle.hit_reader.specs.Rising.{Rises, RisesPart}

module _ (section : Section) where
  pub rises_nothing : (w : Held) (s : Source) → Rises section w w s s
  rises_nothing w s = record { rising = []; rises = omega arith; reads = reads_nothing s }

  module _ (u v : Held) (a b : Source) (first : Rises section u v a b) where
    pub rises_on : (w : Held) (c : Source) → Rises section v w b c → Rises section u w a c
    rises_on w c second = record {
      rising = first.rising ++ second.rising;
      rises = ascends_append (ahead u) (ahead v) (ahead w) first.rising second.rising first.rises second.rises;
      reads = reads_reads first.reads second.reads;
    }

    pub rises_then_part : (c : Source) → RisesPart section v b c → RisesPart section u a c
    rises_then_part c second = record {
      rising = first.rising ++ second.rising;
      rises = ascends_append (ahead u) (ahead v) section.end first.rising second.rising first.rises second.rises;
      reads = reads_then_front first.reads second.reads;
    }

    -- all that was asked for is a front of it
    pub rises_whole : ahead v ≤ section.end → RisesPart section u a b
    rises_whole within = record {
      rising = first.rising;
      rises = ascends_wider (ahead u) (ahead u) (ahead v) section.end first.rising (omega arith) within first.rises;
      reads = front_along _ _ (append-nil first.rising) (reads_front [] first.reads);
    }

  -- from the first feature on
  pub asks_rising : (w : Held) (s s' : Source) → section.first ≤ ahead w → RisesPart section w s s' → AsksRising section.first section.end s s'
  asks_rising w s s' le part = record {
    rising = part.rising;
    rises = ascends_wider (ahead w) section.first section.end section.end part.rising le (omega arith) part.rises;
    reads = part.reads;
  }
