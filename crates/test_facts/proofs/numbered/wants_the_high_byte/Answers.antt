use Rattle.std.proofs.Common.{◌≡◌, ◌⊎◌, ℕ, ◌+◌, ◌^◌, [], ◌∷◌, Option, Some, None, true, false, sym, ap, ◌∙◌, subst, inl, inr}
use Rattle.dvg_gen.specs.Bytes.{met}
use Rattle.dvg_gen.specs.Machine.{Machine, HasTaken}
use Rattle.dvg_gen.specs.Told.{Start, wants}
use Rattle.dvg_log.specs.Entries.{entry_by}
use Rattle.dvg_device.specs.Devices.{Held, Turned, Generator}
use Rattle.dvg_device.specs.Generators.{Fetches, LacksRoom, StaysStill, onward}
use Rattle.dvg_device.specs.Replies.{number_of}
use Rattle.dvg_device.specs.declared.reply.Reply.{Reply}
use Rattle.test_facts.proofs.Opening.{begins, is_open, opens, wants_zero}
use Rattle.test_facts.proofs.numbered.wants_the_high_byte.Goals as goal

some_same : {x y : ℕ} → ◌≡◌ {A = Option ℕ} (Some x) (Some y) → x ≡ y
some_same e = cc

-- a low byte that is handed over after a start: the high byte is wanted next
low_taken : (machine later : Machine) (reply : Reply) → HasTaken machine (Start ∷ []) None
    → Fetches (Some 0) machine later reply → number_of reply ≡ 12 + 2 ^ 60 + 2 ^ 40
low_taken machine later reply after fetches =
    let zero = some_same (sym (fetches.wanted (Start ∷ []) None after) ∙ wants_zero after.run after.leaves) in
    let now = (fetches.answers (Start ∷ []) None after).0 in
    let entry = fetches.came (Start ∷ []) None after
    ∙ ap (λ address. entry_by address (met None (Some 0)) fetches.step tt) zero in
    let told = fetches.answered (Start ∷ []) (Some 0) now in
    ap number_of (told ∙ ap (λ entry. onward entry (wants now.run) (Some 0)) entry
    ∙ ap (λ address. onward (entry_by 0 (met None (Some 0)) fetches.step tt) address (Some 0))
    (wants_zero now.run now.leaves))

-- there is room for it
never_lacks : (machine later : Machine) (reply : Reply) → HasTaken machine (Start ∷ []) None
    → LacksRoom (Some 0) machine later reply → ⊥
never_lacks machine later reply after lacks = lacks.room (Start ∷ []) None after tt

-- and the run is open
never_still : (machine later : Machine) (reply : Reply) → HasTaken machine (Start ∷ []) None
    → StaysStill machine later reply → ⊥
never_still machine later reply after still =
    let closed = still.halted (Start ∷ []) None after in
    let both : true ≡ false = sym (is_open after.run after.leaves) ∙ closed in
    cc

pub returns : goal.returns
returns c =
    let first = opens c.new-device.result c.turn.new.self c.turn.result c.new-device.ensures c.turn.ensures.turned in
    let next = begins c.turn.new.self c.turn-2.new.self c.turn-2.result first.1 first.2 first.3 c.turn-2.ensures.turned in
    let there = next.3 ∙ ap (λ (d : Held). record d { open_part = Generator next.1 }) first.3 in
    let last = subst (λ d. Turned d 4 c.turn-3.new.self c.turn-3.result) there c.turn-3.ensures.turned in
    last.2 ∙ taken next.1 last.1.0 last.0 next.2 last.1.2
  where
    taken : (machine later : Machine) (reply : Reply) → HasTaken machine (Start ∷ []) None
        → Fetches (Some 0) machine later reply ⊎ (LacksRoom (Some 0) machine later reply ⊎ StaysStill machine later reply)
        → number_of reply ≡ 12 + 2 ^ 60 + 2 ^ 40
    taken machine later reply after (inl fetches) = low_taken machine later reply after fetches
    taken machine later reply after (inr (inl lacks)) = absurd (never_lacks machine later reply after lacks)
    taken machine later reply after (inr (inr still)) = absurd (never_still machine later reply after still)
