use Rattle.std.proofs.Common.{refl, inl}
use Rattle.dvg_device.proofs.happening.ask_world.Goals as goal

pub returns-in-ResetGenerator : goal.returns-in-ResetGenerator
returns-in-ResetGenerator c =
    rw c.in-ResetGenerator.is (inl (record {
      entry = c.reset_generator.result;
      stands = c.reset_generator.ensures.stands;
      headline = c.reset_generator.ensures.headline;
      picture = λ _. c.reset_generator.ensures.picture;
      answered = refl;
    }))

pub returns-in-ResetProcessor : goal.returns-in-ResetProcessor
returns-in-ResetProcessor c =
    rw c.in-ResetProcessor.is (inl (record {
      entry = c.reset_processor.result;
      stands = c.reset_processor.ensures.stands;
      headline = c.reset_processor.ensures.headline;
      picture = λ _. c.reset_processor.ensures.picture;
      answered = refl;
    }))
