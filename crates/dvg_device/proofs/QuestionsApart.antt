-- A question that is told apart is answered as each request is.
use Rattle.std.proofs.Common.{◌≡◌, ℕ, refl, ap, ◌∙◌}
use Rattle.dvg_device.specs.Devices.{Open, Nothing, World, Driver, Generator, Wrapping, Judge, Held, PartAnswers, ToldBy}
use Rattle.dvg_device.specs.Replies.{number_of}
use Rattle.dvg_device.specs.declared.reply.Reply.{Reply}
use Rattle.dvg_device.specs.declared.reply.Reply.TheVariants as replies
use Rattle.dvg_device.specs.declared.request.Question.{Question}
use Rattle.dvg_device.specs.declared.request.Request.TheVariants as requests

-- a device with this open part is one in which it is put
put : (old new : Held) (part : Open) → new ≡ old → old.open_part ≡ part → new ≡ record old { open_part = part }
put old new part same there = same ∙ ap (λ p. record old { open_part = p }) there

told_part : (question : Question) (old new : Held) (part : Open) (answer : ℕ) → new ≡ old → old.open_part ≡ part
    → ToldBy question part answer
    → (told : Reply) × PartAnswers part (requests.Ask question) old new told × (answer ≡ number_of told)
told_part question old new Nothing answer same there told = (replies.Closed, (same, refl), told)
told_part question old new (World world) answer same there told =
    (told.0, (world, put old new (World world) same there, (refl, told.1)), told.2)
told_part question old new (Driver driven) answer same there told =
    (replies.Unknown, (driven, put old new (Driver driven) same there, refl, (refl, refl)), told)
told_part question old new (Generator machine) answer same there told =
    (told.0, (machine, put old new (Generator machine) same there, (refl, told.1)), told.2)
told_part question old new (Wrapping wrapped) answer same there told =
    (told.0, (wrapped, put old new (Wrapping wrapped) same there, (refl, told.1)), told.2)
told_part question old new (Judge judge) answer same there told =
    (replies.Unknown, (judge, put old new (Judge judge) same there, (refl, refl)), told)

-- the same of a device
pub told_apart : (question : Question) (old new : Held) (answer : ℕ) → new ≡ old → ToldBy question old.open_part answer
    → (told : Reply) × PartAnswers old.open_part (requests.Ask question) old new told × (answer ≡ number_of told)
told_apart question old new answer same told = told_part question old new old.open_part answer same refl told
