use Rattle.std.proofs.Common.{arith}
use Rattle.command_words.specs.declared.command.Command.TheVariants.{Query, Check, Pack, Convert, Make, Report, Serve}
use Rattle.command_words.proofs.Wording.{headed, query_asked, check_asked, pack_asked, convert_asked, make_asked, report_asked, serve_asked}
use Rattle.command_words.proofs.words.read_words.Goals as goal

pub returns-in_err-read_query-in-Query-clause-only : goal.returns-in_err-read_query-in-Query-clause-only
returns-in_err-read_query-in-Query-clause-only c = λ request asks.
    let asked = query_asked _ request (headed c.args.words.now _ (omega arith) _ Query request c.in_ok-named.ensures.some c.in-Query.is asks) in
    absurd (c.in_err-read_query-in-Query.ensures.only asked.0 asked.1 asked.2 asked.3 asked.4 asked.6)

pub returns-in_ok-read_query-in-Query-clause-only : goal.returns-in_ok-read_query-in-Query-clause-only
returns-in_ok-read_query-in-Query-clause-only c = λ request asks.
    let asked = query_asked _ request (headed c.args.words.now _ (omega arith) _ Query request c.in_ok-named.ensures.some c.in-Query.is asks) in
    let same = c.in_ok-read_query-in-Query.ensures.only asked.0 asked.1 asked.2 asked.3 asked.4 asked.6 in
    cc

pub returns-in_err-read_check-in-Check-clause-only : goal.returns-in_err-read_check-in-Check-clause-only
returns-in_err-read_check-in-Check-clause-only c = λ request asks.
    let asked = check_asked _ request (headed c.args.words.now _ (omega arith) _ Check request c.in_ok-named.ensures.some c.in-Check.is asks) in
    absurd (c.in_err-read_check-in-Check.ensures.only asked.0 asked.2)

pub returns-in_ok-read_check-in-Check-clause-only : goal.returns-in_ok-read_check-in-Check-clause-only
returns-in_ok-read_check-in-Check-clause-only c = λ request asks.
    let asked = check_asked _ request (headed c.args.words.now _ (omega arith) _ Check request c.in_ok-named.ensures.some c.in-Check.is asks) in
    let same = c.in_ok-read_check-in-Check.ensures.only asked.0 asked.2 in
    cc

pub returns-in_err-read_pack-in-Pack-clause-only : goal.returns-in_err-read_pack-in-Pack-clause-only
returns-in_err-read_pack-in-Pack-clause-only c = λ request asks.
    let asked = pack_asked _ request (headed c.args.words.now _ (omega arith) _ Pack request c.in_ok-named.ensures.some c.in-Pack.is asks) in
    absurd (c.in_err-read_pack-in-Pack.ensures.only asked.0 asked.1 asked.3)

pub returns-in_ok-read_pack-in-Pack-clause-only : goal.returns-in_ok-read_pack-in-Pack-clause-only
returns-in_ok-read_pack-in-Pack-clause-only c = λ request asks.
    let asked = pack_asked _ request (headed c.args.words.now _ (omega arith) _ Pack request c.in_ok-named.ensures.some c.in-Pack.is asks) in
    let same = c.in_ok-read_pack-in-Pack.ensures.only asked.0 asked.1 asked.3 in
    cc

pub returns-in_err-read_convert-in-Convert-clause-only : goal.returns-in_err-read_convert-in-Convert-clause-only
returns-in_err-read_convert-in-Convert-clause-only c = λ request asks.
    let asked = convert_asked _ request (headed c.args.words.now _ (omega arith) _ Convert request c.in_ok-named.ensures.some c.in-Convert.is asks) in
    absurd (c.in_err-read_convert-in-Convert.ensures.only asked.0 asked.1 asked.2 asked.4)

pub returns-in_ok-read_convert-in-Convert-clause-only : goal.returns-in_ok-read_convert-in-Convert-clause-only
returns-in_ok-read_convert-in-Convert-clause-only c = λ request asks.
    let asked = convert_asked _ request (headed c.args.words.now _ (omega arith) _ Convert request c.in_ok-named.ensures.some c.in-Convert.is asks) in
    let same = c.in_ok-read_convert-in-Convert.ensures.only asked.0 asked.1 asked.2 asked.4 in
    cc

pub returns-in_err-read_make-in-Make-clause-only : goal.returns-in_err-read_make-in-Make-clause-only
returns-in_err-read_make-in-Make-clause-only c = λ request asks.
    let asked = make_asked _ request (headed c.args.words.now _ (omega arith) _ Make request c.in_ok-named.ensures.some c.in-Make.is asks) in
    absurd (c.in_err-read_make-in-Make.ensures.only asked.0 asked.1 asked.3)

pub returns-in_ok-read_make-in-Make-clause-only : goal.returns-in_ok-read_make-in-Make-clause-only
returns-in_ok-read_make-in-Make-clause-only c = λ request asks.
    let asked = make_asked _ request (headed c.args.words.now _ (omega arith) _ Make request c.in_ok-named.ensures.some c.in-Make.is asks) in
    let same = c.in_ok-read_make-in-Make.ensures.only asked.0 asked.1 asked.3 in
    cc

pub returns-in_err-read_report-in-Report-clause-only : goal.returns-in_err-read_report-in-Report-clause-only
returns-in_err-read_report-in-Report-clause-only c = λ request asks.
    let asked = report_asked _ request (headed c.args.words.now _ (omega arith) _ Report request c.in_ok-named.ensures.some c.in-Report.is asks) in
    absurd (c.in_err-read_report-in-Report.ensures.only asked.0 asked.1 asked.2 asked.4)

pub returns-in_ok-read_report-in-Report-clause-only : goal.returns-in_ok-read_report-in-Report-clause-only
returns-in_ok-read_report-in-Report-clause-only c = λ request asks.
    let asked = report_asked _ request (headed c.args.words.now _ (omega arith) _ Report request c.in_ok-named.ensures.some c.in-Report.is asks) in
    let same = c.in_ok-read_report-in-Report.ensures.only asked.0 asked.1 asked.2 asked.4 in
    cc

pub returns-in_err-read_serve-in-Serve-clause-only : goal.returns-in_err-read_serve-in-Serve-clause-only
returns-in_err-read_serve-in-Serve-clause-only c = λ request asks.
    let asked = serve_asked _ request (headed c.args.words.now _ (omega arith) _ Serve request c.in_ok-named.ensures.some c.in-Serve.is asks) in
    absurd (c.in_err-read_serve-in-Serve.ensures.only asked.0 asked.1 asked.2 asked.4)
