use Rattle.std.proofs.Common.{◌≡◌}
use Rattle.flat_layout.specs.Promises.{IsClean}
use Rattle.fgb_schema.specs.Headers.{header_of}
use Rattle.fgb_schema.specs.Paths.{header_root}
use Rattle.fgb_schema.specs.Weights.{BreaksBuffer}
use Rattle.header_info.proofs.Back.{of_buffer}
use Rattle.header_info.proofs.info.HeaderInfo.to_bytes.Goals as goal

pub returns-clause-clean : goal.returns-clause-clean
returns-clause-clean c =
    let h = c.args.self.now in let made = c.in_ok-table.ensures in
    of_buffer (λ b. IsClean (BreaksBuffer b header_root)) c.finish-2.result c.in_ok-table.field-0 h made.ok c.finish-2.ensures.ok c.finish-2.ensures.within
    (c.laid_headers_read_back.ensures.clean h made.writable)

pub returns-clause-shown : goal.returns-clause-shown
returns-clause-shown c =
    let h = c.args.self.now in let made = c.in_ok-table.ensures in
    of_buffer (λ b. header_of b ≡ h) c.finish-2.result c.in_ok-table.field-0 h made.ok c.finish-2.ensures.ok c.finish-2.ensures.within
    (c.laid_headers_read_back.ensures.shown h made.writable)
