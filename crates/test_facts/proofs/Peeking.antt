-- The first tick of a world in a device.
use Rattle.std.proofs.Common.{◌≡◌, ℕ, List, [], false, take, drop, refl, ap, ◌∙◌, subst, ⊎_elim}
use Rattle.dvg_driver.specs.declared.action.Action.TheVariants.{Peek}
use Rattle.dvg_gen.specs.declared.stroke.Stroke.{Stroke}
use Rattle.dvg_log.specs.declared.entry.Entry.{Entry}
use Rattle.dvg_log.specs.Entries.{map_entry}
use Rattle.dvg_world.specs.Standing.{State, WorldAfter}
use Rattle.dvg_device.specs.Devices.{Answered, Held, IsNewWorld, Open, PartAnswers, Nothing, World, Driver, Generator, Wrapping, Judge}
use Rattle.dvg_device.specs.declared.reply.Reply.{Reply}
use Rattle.dvg_device.specs.declared.reply.Reply.TheVariants.{Came}
use Rattle.dvg_log.specs.declared.entry.Entry.TheVariants.{Acted, Done}
use Rattle.dvg_device.specs.declared.request.Request.TheVariants.{Tick}
use Rattle.test_facts.proofs.Clients.{peeks}

-- what is a new world is a world
new_world : (staged : List ℕ) (part : Open) → IsNewWorld staged part → (world : State) × (part ≡ World world) × WorldAfter (drop 2048 staged) (take 2048 staged) [] world
new_world staged Nothing is = absurd is
new_world staged (World world) is = (world, refl, is.stands)
new_world staged (Driver driven) is = absurd is
new_world staged (Generator machine) is = absurd is
new_world staged (Wrapping wrapped) is = absurd is
new_world staged (Judge judge) is = absurd is

-- an entry without strokes is what it was before it had some
without : (strokes : List Stroke) (entry : Entry (Unit {0})) → entry ≡ map_entry (λ _. tt) (map_entry (λ _. strokes) entry)
without strokes (Done address word drew) = refl
without strokes _ = refl

-- it peeks
pub first_peek : (old new : Held) (answer : Reply) (staged : List ℕ) → IsNewWorld staged old.open_part → Answered (Tick false 0) old new answer → answer ≡ Came (Acted Peek)
first_peek old new answer staged is answered =
    let opened = new_world staged old.open_part is in
    let part = subst (λ part. PartAnswers part (Tick false 0) old new answer) opened.1 answered in
    ⊎_elim
    (λ happens.
    let after = happens.stands (drop 2048 staged) (take 2048 staged) [] opened.2 in
    happens.answered ∙ ap Came (without part.0.machine.picture happens.entry
    ∙ ap (map_entry (λ _. tt)) (peeks (drop 2048 staged) (take 2048 staged) opened.2.legal _ after.legal)))
    (λ lacks. absurd lacks.room)
    part.2
