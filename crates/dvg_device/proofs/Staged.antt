-- A byte is staged once.
use Rattle.std.proofs.Common.{◌≡◌, ℕ, ◌+◌, ◌<◌, List, [], ◌∷◌, ◌++◌, length, sym, ap, ◌∙◌, subst, arith}
use Rattle.dvg_device.specs.Devices.{Held, StageAnswers, Answered, Turned}
use Rattle.dvg_device.specs.Requests.{request_of}
use Rattle.dvg_device.specs.Replies.{packed}
use Rattle.dvg_device.specs.declared.device.TheConstants.{MOST_STAGED}
use Rattle.dvg_device.specs.declared.reply.Reply.TheVariants.{Staged}
use Rattle.dvg_device.specs.declared.request.Request.{Request}
use Rattle.dvg_device.specs.declared.request.Request.TheVariants.{Stage}

pub staged_once : (number byte count n answer : ℕ) (asked : Request) (old : Held) (bytes : List ℕ) → asked ≡ request_of number → asked ≡ Stage byte count → count ≡ 1
    → length old.staged < MOST_STAGED → n ≡ length old.staged + 1 → bytes ≡ old.staged ++ byte ∷ [] → answer ≡ packed 21 0 n
    → Turned old number (record old { staged = bytes }) answer
staged_once number byte count n answer asked old bytes asked_is is one room n_is bytes_are answer_is =
    let new : Held = record old { staged = bytes } in
    let once : StageAnswers byte 1 old new (Staged n) = (n_is, omega arith, ap (λ l. record old { staged = l }) bytes_are) in
    let times : StageAnswers byte count old new (Staged n) = subst (λ k. StageAnswers byte k old new (Staged n)) (sym one) once in
    (Staged n, subst (λ request. Answered request old new (Staged n)) (sym is ∙ asked_is) times, answer_is)
