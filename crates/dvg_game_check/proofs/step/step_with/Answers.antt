use Rattle.std.proofs.Common.{◌≡◌, ◌+◌, ◌&&◌, ◌∙◌, ℕ, ap, arith, not, refl, subst, sym, true, nat_le}
use Rattle.dvg_game_words.specs.Checker.{Note, Notes, holding, leads, may_write, is_strobe, newest, of_held, pulling, pushing, set, Any}
use Rattle.dvg_game_words.specs.Processor.{A}
use Rattle.dvg_game_words.specs.Machine.{is_own}
use Rattle.dvg_game_check.specs.declared.kind.Kind.{Kind}
use Rattle.dvg_game_check.specs.declared.kind.Kind.TheVariants.{Quiet, Reads, Transfer, Stores, Push, PushFlags, Pull, PullFlags, Branch}
use Rattle.dvg_game_check.specs.declared.note.Slot.TheVariants.{Any as MadeAny}
use Rattle.dvg_game_words.specs.Kinds.{size}
use Rattle.dvg_game_check.specs.Least.{stacked, state_meant}
use Rattle.dvg_game_check.specs.Meant.{kind_meant, place_meant, register_meant, sets_meant}
use Rattle.dvg_game_check.specs.Rules.{fine_with, reached_by, slot_meant}
use Rattle.dvg_game_check.proofs.Onwards.{on_moves, on_pulls_a, on_pulls_flags, on_pushes_a, on_pushes_any, on_sets, on_stores}
use Rattle.dvg_game_check.proofs.Suited.{both}
use Rattle.dvg_game_check.proofs.step.step_with.Goals as goal

-- what is fine by a kind
of_kind : (kind k : Kind) (notes : Notes) (low word reset at : ℕ) (n : Note) → kind ≡ k
    → fine_with (kind_meant kind) notes low word reset at n ≡ true → fine_with (kind_meant k) notes low word reset at n ≡ true
of_kind kind k notes low word reset at n e h = subst (λ x. fine_with (kind_meant x) notes low word reset at n ≡ true) e h

pub returns-in-Quiet : goal.returns-in-Quiet
returns-in-Quiet c n notes comes ends fine =
    let m = state_meant c.args.state in
    let sets = sets_meant c.in-Quiet.sets in
    let is = of_kind c.args.kind (Quiet c.in-Quiet.sets c.in-Quiet.bytes) notes c.args.low c.args.word c.args.reset c.args.at n c.in-Quiet.is fine in
    c.straight.ensures m n notes (omega arith)
    (on_sets m n notes comes (c.args.at + c.from.result) sets c.set.result c.set.ensures
    (ap (λ b. leads notes (c.args.at + b) (record n { held = set sets n.held })) c.from.ensures ∙ is))

pub returns-in-Reads : goal.returns-in-Reads
returns-in-Reads c n notes comes ends fine =
    let m = state_meant c.args.state in
    let sets = sets_meant c.in-Reads.sets in
    let place = place_meant c.in-Reads.place in
    let new : Note = record n { held = set sets n.held } in
    let is = of_kind c.args.kind (Reads c.in-Reads.sets c.in-Reads.place) notes c.args.low c.args.word c.args.reset c.args.at n c.in-Reads.is fine in
    let two = both (reached_by place c.args.low c.args.word (λ a. not (is_strobe a))) (leads notes (c.args.at + size place) new) is in
    c.straight-in-Reads.ensures m n notes (omega arith)
    (on_sets m n notes comes (c.args.at + c.from-in-Reads.result) sets c.set-in-Reads.result c.set-in-Reads.ensures
    (ap (λ b. leads notes (c.args.at + b) new) (c.from-in-Reads.ensures ∙ c.size.ensures) ∙ two.1))

pub returns-in-Transfer : goal.returns-in-Transfer
returns-in-Transfer c n notes comes ends fine =
    let m = state_meant c.args.state in
    let from = register_meant c.in-Transfer.from in
    let to = register_meant c.in-Transfer.to in
    let is = of_kind c.args.kind (Transfer c.in-Transfer.from c.in-Transfer.to) notes c.args.low c.args.word c.args.reset c.args.at n c.in-Transfer.is fine in
    c.straight-in-Transfer.ensures m n notes (omega arith)
    (on_moves m n notes comes (c.args.at + 1) from to c.holding.result
    (c.holding.ensures ∙ ap (λ slot. holding to slot m.held) c.of_held.ensures) is)

pub returns-in-Stores : goal.returns-in-Stores
returns-in-Stores c n notes comes ends fine =
    let m = state_meant c.args.state in
    let place = place_meant c.in-Stores.place in
    let kept = reached_by place c.args.low c.args.word (λ a. not (is_own a)) in
    let new : Note = record n { awake = n.awake && kept } in
    let is = of_kind c.args.kind (Stores c.in-Stores.place) notes c.args.low c.args.word c.args.reset c.args.at n c.in-Stores.is fine in
    let two = both (reached_by place c.args.low c.args.word (may_write n.level)) (leads notes (c.args.at + size place) new) is in
    c.straight-in-Stores.ensures m n notes (omega arith)
    (on_stores m n notes comes (c.args.at + c.from-in-Stores.result) c.still_awake-awake.result kept c.still_awake-awake.ensures
    (ap (λ b. leads notes (c.args.at + b) new) (c.from-in-Stores.ensures ∙ c.size-in-Stores.ensures) ∙ two.1))

pub returns-in-Push : goal.returns-in-Push
returns-in-Push c n notes comes ends fine =
    let m = state_meant c.args.state in
    let is = of_kind c.args.kind Push notes c.args.low c.args.word c.args.reset c.args.at n c.in-Push.is fine in
    let two = both (nat_le 1 n.room) (leads notes (c.args.at + 1) (pushing n.held.a n)) is in
    c.straight-in-Push.ensures m n notes (omega arith)
    (on_pushes_a m n notes comes (c.args.at + 1) c.args.state.held.a refl two.0 two.1)

pub returns-in-PushFlags : goal.returns-in-PushFlags
returns-in-PushFlags c n notes comes ends fine =
    let m = state_meant c.args.state in
    let is = of_kind c.args.kind PushFlags notes c.args.low c.args.word c.args.reset c.args.at n c.in-PushFlags.is fine in
    let two = both (nat_le 1 n.room) (leads notes (c.args.at + 1) (pushing Any n)) is in
    c.straight-in-PushFlags.ensures m n notes (omega arith) (on_pushes_any m n notes comes (c.args.at + 1) MadeAny two.0 two.1)

pub returns-in-Pull : goal.returns-in-Pull
returns-in-Pull c n notes comes ends fine =
    let m = state_meant c.args.state in
    let is = of_kind c.args.kind Pull notes c.args.low c.args.word c.args.reset c.args.at n c.in-Pull.is fine in
    let two = both (nat_le 1 n.depth) (leads notes (c.args.at + 1) (record (pulling n) { held = holding A (newest n.slots) n.held })) is in
    c.straight-in-Pull.ensures m n notes (omega arith)
    (on_pulls_a m n notes comes (c.args.at + 1) c.holding-in-Pull.result
    (c.holding-in-Pull.ensures ∙ ap (λ slot. holding A slot m.held) c.top.ensures) two.0 two.1)

pub returns-in-PullFlags : goal.returns-in-PullFlags
returns-in-PullFlags c n notes comes ends fine =
    let m = state_meant c.args.state in
    let is = of_kind c.args.kind PullFlags notes c.args.low c.args.word c.args.reset c.args.at n c.in-PullFlags.is fine in
    let two = both (nat_le 1 n.depth) (leads notes (c.args.at + 1) (pulling n)) is in
    c.straight-in-PullFlags.ensures m n notes (omega arith)
    (on_pulls_flags m n notes comes (c.args.at + 1) c.args.state.held refl two.0 two.1)

pub returns-in-Branch : goal.returns-in-Branch
returns-in-Branch c n notes comes ends fine =
    c.branch-at.ensures (state_meant c.args.state) n notes comes
    (of_kind c.args.kind Branch notes c.args.low c.args.word c.args.reset c.args.at n c.in-Branch.is fine)
