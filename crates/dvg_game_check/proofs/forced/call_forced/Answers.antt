use Rattle.std.proofs.Common.{◌≡◌, ◌+◌, ◌∙◌, ap, refl, sym, arith}
use Rattle.dvg_game_words.specs.Checker.{Nmi, Sub, begun, ends_of, enters, leads, noted, same_level}
use Rattle.dvg_game_words.specs.Machine.{blank_after, is_reset}
use Rattle.dvg_game_check.specs.Rules.{calls_fine, level_meant}
use Rattle.dvg_game_check.proofs.Barred.{barred, call_enters, contrary, not_both, not_true}
use Rattle.dvg_game_check.proofs.Steps.{call_drives, call_on}
use Rattle.dvg_game_check.proofs.forced.call_forced.Goals as goal

pub returns-then-not-may_enter : goal.returns-then-not-may_enter
returns-then-not-may_enter c is all n under comes =
    not_true (calls_fine all c.args.word c.args.at n) (λ h.
    contrary (enters c.args.word n) (c.may_enter.ensures c.if-not-may_enter.true n comes)
    (call_enters all c.args.word c.args.at n (sym c.is_driver.ensures ∙ c.if-is_driver.true) h))

pub returns-then-is_driver : goal.returns-then-is_driver
returns-then-is_driver c is all n under comes =
    not_true (calls_fine all c.args.word c.args.at n) (λ h.
    let two = call_drives all c.args.word c.args.at n (sym c.is_driver.ensures ∙ c.if-is_driver.true) h in
    barred all (c.args.at + 3) (level_meant c.args.now.now.level) c.from-depth.result _
    (λ new. c.is_barred.ensures is all new under) two.1 (sym comes.level) (sym comes.depth ∙ sym c.from-depth.ensures))

pub returns-then-same_level : goal.returns-then-same_level
returns-then-same_level c is all n under comes =
    not_true (calls_fine all c.args.word c.args.at n) (λ h.
    let one = call_on all c.args.word c.args.at n (sym c.is_driver.ensures ∙ c.if-is_driver.false) h in
    not_both (same_level n.level Nmi) one.level
    (ap (λ l. same_level l Nmi) (sym comes.level) ∙ (sym c.same_level.ensures ∙ c.if-same_level.true)))

pub returns-then-is_barred : goal.returns-then-is_barred
returns-then-is_barred c is all n under comes =
    not_true (calls_fine all c.args.word c.args.at n) (λ h.
    let one = call_on all c.args.word c.args.at n (sym c.is_driver.ensures ∙ c.if-is_driver.false) h in
    let new = begun (ends_of (noted all c.args.word)) n in
    barred all c.from.result Sub 0 new (λ x. c.is_barred-2.ensures c.if-is_barred.true all x under)
    (ap (λ a. leads all a new) c.from.ensures ∙ one.begins) refl refl)

pub returns : goal.returns
returns c is all n under comes =
    not_true (calls_fine all c.args.word c.args.at n) (λ h.
    let one = call_on all c.args.word c.args.at n (sym c.is_driver.ensures ∙ c.if-is_driver.false) h in
    barred all (c.args.at + 3) (level_meant c.args.now.now.level) c.from-depth.result _
    (λ new. c.is_barred-3.ensures is all new under) one.behind (sym comes.level) (sym comes.depth ∙ sym c.from-depth.ensures))
