use Rattle.std.proofs.Common.{◌≡◌, ℕ, refl}
use Rattle.dvg_world.specs.Standing.{State}
use Rattle.dvg_device.specs.Generators.{IsAnswerTo}
use Rattle.dvg_device.specs.Worlds.{TellsWorld}
use Rattle.dvg_device.specs.declared.reply.Reply.{Reply}
use Rattle.dvg_device.specs.declared.request.Question.{Question}
use Rattle.dvg_device.specs.declared.request.Question.TheVariants as asked
use Rattle.dvg_device.proofs.happening.tell_world.Goals as goal

-- what is no question of the world's own is told by its generator
told : (question : Question) (world : State) (reply : Reply) → ((n : ℕ) → question ≡ asked.Byte n → ⊥)
    → (question ≡ asked.Driver → ⊥) → ((n : ℕ) → question ≡ asked.Operation n → ⊥)
    → IsAnswerTo question world.machine reply → TellsWorld question world reply
told (asked.Move byte) world reply b d o tells = tells
told (asked.MoveTo byte) world reply b d o tells = tells
told asked.Beam world reply b d o tells = tells
told asked.Holds world reply b d o tells = tells
told (asked.ReturnTo n) world reply b d o tells = tells
told (asked.State n) world reply b d o tells = tells
told (asked.Byte n) world reply b d o tells = absurd (b n refl)
told asked.Driver world reply b d o tells = absurd (d refl)
told (asked.Operation n) world reply b d o tells = absurd (o n refl)

pub returns-in_default : goal.returns-in_default
returns-in_default c =
    told c.args.question c.args.world.now c.tell_generator.result c.in_default.not-Byte c.in_default.not-Driver
    c.in_default.not-Operation c.tell_generator.ensures
