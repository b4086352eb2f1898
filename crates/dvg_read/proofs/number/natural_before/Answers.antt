use Rattle.dvg_read.proofs.number.natural_before.Goals as goal

pub returns-in-Some-after_byte-clause-spelled : goal.returns-in-Some-after_byte-clause-spelled
returns-in-Some-after_byte-clause-spelled c =
    let text = c.args.text.now in
    let two = c.in_ok-number-2.ensures.spelled text c.in_ok-number.ensures.spelled in
    let end = c.in-Some-after_byte.ensures in
    cc

pub returns-in-Some-after_byte-2-clause-spelled : goal.returns-in-Some-after_byte-2-clause-spelled
returns-in-Some-after_byte-2-clause-spelled c =
    let text = c.args.text.now in
    let two = c.in_ok-number-2.ensures.spelled text c.in_ok-number.ensures.spelled in
    let three = c.in_ok-number-3.ensures.spelled text two in
    let end = c.in-Some-after_byte-2.ensures in
    cc

pub returns-in-Some-after_byte-3-clause-spelled : goal.returns-in-Some-after_byte-3-clause-spelled
returns-in-Some-after_byte-3-clause-spelled c =
    let text = c.args.text.now in
    let two = c.in_ok-number-2.ensures.spelled text c.in_ok-number.ensures.spelled in
    let three = c.in_ok-number-3.ensures.spelled text two in
    let four = c.in_ok-number-4.ensures.spelled text three in
    let end = c.in-Some-after_byte-3.ensures in
    cc

pub returns-clause-spelled : goal.returns-clause-spelled
returns-clause-spelled c =
    let text = c.args.text.now in
    let two = c.in_ok-number-2.ensures.spelled text c.in_ok-number.ensures.spelled in
    let three = c.in_ok-number-3.ensures.spelled text two in
    let four = c.in_ok-number-4.ensures.spelled text three in
    let five = c.in_ok-number-5.ensures.spelled text four in
    let end = c.in_ok-after_byte.ensures in
    cc
