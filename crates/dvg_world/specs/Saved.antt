-- A world's state as a plain value.
use Rattle.std.specs.Prelude.{◌≡◌, ◌↔◌, ℕ, List}
use Rattle.dvg_gen.specs.declared.state.GeneratorStateFault.TheVariants as of_generator
use Rattle.dvg_gen.specs.declared.stroke.Stroke.{Stroke}
use Rattle.dvg_gen.specs.Saved as generator
use Rattle.dvg_gen.specs.Saved.{CanResume, machine_of}
use Rattle.dvg_driver.specs.Saved as driver
use Rattle.dvg_driver.specs.Saved.{driving_in}
use Rattle.dvg_world.specs.declared.state.WorldState.{WorldState}
use Rattle.dvg_world.specs.declared.state.WorldStateFault.{WorldStateFault}
use Rattle.dvg_world.specs.declared.state.WorldStateFault.TheVariants.{Driver, Generator}
use Rattle.dvg_world.specs.Standing.{KeepsLogs, State}

-- a generator goes on in its part of a state, with the strokes
abbrev pub HasGenerator : {A : Type 0} → WorldState A → Type 0
HasGenerator state = CanResume (generator.IsState state.generator) state.strokes.items

-- the parts of a state fit, over this ROM: a generator goes on in its own, and those of the driver fit together
abbrev pub IsState : {A : Type 0} → List ℕ → WorldState A → Type 0
IsState R state = HasGenerator state × driver.IsState R state.driver

-- why they don't fit: the generator's, by a stroke exactly if its state is one, or else the driver's
abbrev pub IsUnfit : {A : Type 0} → List ℕ → WorldState A → WorldStateFault → Type 0
IsUnfit R state (Generator fault) =
    ¬ HasGenerator state × ((fault ≡ of_generator.Stroke) ↔ generator.IsState state.generator)
IsUnfit R state (Driver fault) = HasGenerator state × driver.IsUnfit R state.driver fault

-- the world in a state, over this ROM and with this picture
abbrev pub world_in : {A : Type 0} → List ℕ → WorldState A → List Stroke → State
world_in R state picture = record {
  rom = R;
  ram = state.ram;
  machine = machine_of state.generator state.strokes.items picture;
  driver = driving_in state.driver;
  sent = state.strobe_sent;
}

-- a world stands after each log that a world in this state over this ROM stands after
abbrev pub GoesOnAs : {A : Type 0} → List ℕ → WorldState A → State → Type 0
GoesOnAs R state world = (saved : State) (picture : List Stroke) → saved ≡ world_in R state picture
    → KeepsLogs saved world
