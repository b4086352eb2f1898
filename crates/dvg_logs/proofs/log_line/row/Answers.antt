use Rattle.std.proofs.Common.{◌<◌, codes, arith}
use Rattle.dvg_read.proofs.EventRows.{byte_fits}
use Rattle.dvg_logs.proofs.LogRows.{bare_parts, bare_row, behind_name, fetched_line, fetched_made, fetched_numbers, low_line, low_made, low_numbers, same_line, without, wrote_line, wrote_made, wrote_numbers}
use Rattle.dvg_logs.proofs.log_line.row.Goals as goal

pub returns-in_err-address-clause-only : goal.returns-in_err-address-clause-only
returns-in_err-address-clause-only c logged row =
    let line = c.args.line.now in
    let is = behind_name line (codes "wrote ") c.strip_prefix.result c.in-Some.rest c.strip_prefix.ensures.cases c.in-Some.is in
    let spelled = wrote_numbers line c.in-Some.rest.now is row in
    let answered = c.in_err-address.ensures.only spelled.a spelled.n spelled.written in
    absurd (cc)

pub returns-in_ok-address-clause-found : goal.returns-in_ok-address-clause-found
returns-in_ok-address-clause-found c =
    let line = c.args.line.now in
    let is = behind_name line (codes "wrote ") c.strip_prefix.result c.in-Some.rest c.strip_prefix.ensures.cases c.in-Some.is in
    wrote_made line c.in-Some.rest.now is c.in_ok-address.ensures.found

pub returns-in_ok-address-clause-only : goal.returns-in_ok-address-clause-only
returns-in_ok-address-clause-only c logged row =
    let line = c.args.line.now in
    let is = behind_name line (codes "wrote ") c.strip_prefix.result c.in-Some.rest c.strip_prefix.ensures.cases c.in-Some.is in
    let spelled = wrote_numbers line c.in-Some.rest.now is row in
    same_line wrote_line c.in_ok-address.address c.in_ok-address.byte spelled.a spelled.n logged (c.in_ok-address.ensures.only spelled.a spelled.n spelled.written) spelled.is

pub returns-in_err-address-2-clause-only : goal.returns-in_err-address-2-clause-only
returns-in_err-address-2-clause-only c logged row =
    let line = c.args.line.now in
    let is = behind_name line (codes "fetched ") c.strip_prefix-in_default.result c.in-Some-strip_prefix.rest c.strip_prefix-in_default.ensures.cases c.in-Some-strip_prefix.is in
    let spelled = fetched_numbers line c.in-Some-strip_prefix.rest.now is row in
    let answered = c.in_err-address-2.ensures.only spelled.a spelled.n spelled.numbers in
    absurd (cc)

pub returns-in_ok-address-2-clause-found : goal.returns-in_ok-address-2-clause-found
returns-in_ok-address-2-clause-found c =
    let line = c.args.line.now in
    let is = behind_name line (codes "fetched ") c.strip_prefix-in_default.result c.in-Some-strip_prefix.rest c.strip_prefix-in_default.ensures.cases c.in-Some-strip_prefix.is in
    fetched_made line c.in-Some-strip_prefix.rest.now is c.in_ok-address-2.ensures.found

pub returns-in_ok-address-2-clause-only : goal.returns-in_ok-address-2-clause-only
returns-in_ok-address-2-clause-only c logged row =
    let line = c.args.line.now in
    let is = behind_name line (codes "fetched ") c.strip_prefix-in_default.result c.in-Some-strip_prefix.rest c.strip_prefix-in_default.ensures.cases c.in-Some-strip_prefix.is in
    let spelled = fetched_numbers line c.in-Some-strip_prefix.rest.now is row in
    same_line fetched_line c.in_ok-address-2.address c.in_ok-address-2.word spelled.a spelled.n logged (c.in_ok-address-2.ensures.only spelled.a spelled.n spelled.numbers) spelled.is

pub overflow_cast-result : goal.overflow_cast-result
overflow_cast-result c = let small : c.in_ok-address-3.byte < 256 = byte_fits c.in_ok-address-3.ensures.found.number in omega arith

pub returns-in_err-address-3-clause-only : goal.returns-in_err-address-3-clause-only
returns-in_err-address-3-clause-only c logged row =
    let line = c.args.line.now in
    let is = behind_name line (codes "low ") c.strip_prefix-in_default-strip_prefix.result c.in-Some-strip_prefix-2.rest c.strip_prefix-in_default-strip_prefix.ensures.cases c.in-Some-strip_prefix-2.is in
    let spelled = low_numbers line c.in-Some-strip_prefix-2.rest.now is row in
    let answered = c.in_err-address-3.ensures.only spelled.a spelled.n spelled.numbers in
    absurd (cc)

pub returns-in_ok-address-3-clause-found : goal.returns-in_ok-address-3-clause-found
returns-in_ok-address-3-clause-found c =
    let line = c.args.line.now in
    let is = behind_name line (codes "low ") c.strip_prefix-in_default-strip_prefix.result c.in-Some-strip_prefix-2.rest c.strip_prefix-in_default-strip_prefix.ensures.cases c.in-Some-strip_prefix-2.is in
    low_made line c.in-Some-strip_prefix-2.rest.now is c.in_ok-address-3.ensures.found

pub returns-in_ok-address-3-clause-only : goal.returns-in_ok-address-3-clause-only
returns-in_ok-address-3-clause-only c logged row =
    let line = c.args.line.now in
    let is = behind_name line (codes "low ") c.strip_prefix-in_default-strip_prefix.result c.in-Some-strip_prefix-2.rest c.strip_prefix-in_default-strip_prefix.ensures.cases c.in-Some-strip_prefix-2.is in
    let spelled = low_numbers line c.in-Some-strip_prefix-2.rest.now is row in
    same_line low_line c.in_ok-address-3.address c.in_ok-address-3.byte spelled.a spelled.n logged (c.in_ok-address-3.ensures.only spelled.a spelled.n spelled.numbers) spelled.is

pub returns-in_default-strip_prefix-2-clause-found : goal.returns-in_default-strip_prefix-2-clause-found
returns-in_default-strip_prefix-2-clause-found c = bare_parts c.args.base c.args.line.now c.bare.result (c.bare.ensures.found c.args.base)

pub returns-in_default-strip_prefix-2-clause-only : goal.returns-in_default-strip_prefix-2-clause-only
returns-in_default-strip_prefix-2-clause-only c logged row =
    let line = c.args.line.now in
    c.bare.ensures.only c.args.base logged (bare_row c.args.line.now row
    (without line (codes "wrote ") c.strip_prefix.result c.strip_prefix.ensures.cases c.in_default.not-Some)
    (without line (codes "fetched ") c.strip_prefix-in_default.result c.strip_prefix-in_default.ensures.cases c.in_default-strip_prefix.not-Some)
    (without line (codes "low ") c.strip_prefix-in_default-strip_prefix.result c.strip_prefix-in_default-strip_prefix.ensures.cases c.in_default-strip_prefix-2.not-Some))
