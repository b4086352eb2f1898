-- What a judge says of a line that it was told.
use Rattle.std.proofs.Common.{◌≡◌, ◌≢◌, ℕ, ◌+◌, ◌*◌, ◌/◌, ◌∷◌, Bool, false, Option, Some, None, refl, sym, ◌∙◌, subst}
use Rattle.std.specs.Prelude.{IsTrue, ◌↔◌}
use Rattle.std.proofs.lemmas.Bool.{false≢true}
use Rattle.std.proofs.lemmas.Option.{none-some}
use Rattle.dvg_log.specs.Entries.{Shown}
use Rattle.dvg_log.specs.Events.{Happening}
use Rattle.dvg_log.specs.declared.entry.Entry.TheVariants.{Fetched, Done}
use Rattle.dvg_log.specs.Log.{Line, ◌⟼◌, Log, waiting}
use Rattle.dvg_moment.specs.declared.judge.MomentJudge.{MomentJudge}
use Rattle.dvg_moment.specs.Judging.{StandsAfter}
use Rattle.dvg_moment.specs.Moment.{reads, waits, Contradicts}
use Rattle.dvg_moment.proofs.LinesRead.{high_reads}
use Rattle.dvg_device.specs.declared.reply.Reply.{Reply}
use Rattle.dvg_device.specs.declared.reply.Reply.TheVariants.{Judged}
use Rattle.dvg_device.specs.declared.reply.RunState.{RunState}
use Rattle.dvg_device.specs.Judges.{IsJudged, IsWrong, JudgesLine, RunIs, Says, StandsNow}

-- what reads nothing contradicts nothing
silent : (log : Log) (entry : Shown) → ((a : ℕ) → reads log entry a ≡ None) → ¬ Contradicts log entry
silent log (Fetched address word) none c =
    none-some (word / 256) (sym (none (2 * address + 1)) ∙ high_reads (waits (waiting log) address) address word)
silent log (Done address word drew) none c =
    none-some (word / 256) (sym (none (2 * address + 1)) ∙ high_reads (waits (waiting log) address) address word)
silent log entry none c = none-some c.1 (sym (none c.0) ∙ c.4)

-- so it isn't wrong
pub reads_nothing : (log : Log) (event : Happening) (entry : Shown) → ((a : ℕ) → reads log entry a ≡ None)
    → IsTrue false ↔ IsWrong log (event ⟼ entry)
reads_nothing log event entry none = ((λ f. absurd (false≢true f)), λ c. absurd (silent log entry none c))

-- no run is open where it isn't that one is
pub none_of : {A : Type 0} (there : Option A) → ¬ (there ≢ None) → there ≡ None
none_of None n = refl
none_of (Some a) n = absurd (n (λ e. cc))

said : (line : Line) (log : Log) (wrong : Bool) (reply : Reply) → IsJudged (line ∷ log) wrong reply
    → IsTrue wrong ↔ IsWrong log line → ((run : RunState) → StandsNow (line ∷ log) run → RunIs log line run)
    → Says log line reply
said line log wrong (Judged run flag) judged is_wrong runs =
    (runs run judged.0, subst (λ b. IsTrue b ↔ IsWrong log line) (sym judged.1) is_wrong)
said line log wrong _ judged is_wrong runs = absurd judged

-- a line that is no HALT was told
pub was_told : (line : Line) (judge later : MomentJudge) (wrong : Bool) (reply : Reply)
    → ((log : Log) → StandsAfter judge log → StandsAfter later (line ∷ log))
    → ((log : Log) → StandsAfter later log → IsJudged log wrong reply)
    → ((log : Log) → StandsAfter judge log → IsTrue wrong ↔ IsWrong log line)
    → ((log : Log) (run : RunState) → StandsNow (line ∷ log) run → RunIs log line run)
    → JudgesLine line judge later reply
was_told line judge later wrong reply stands judged is_wrong runs = record {
  stands = stands;
  says = λ log s. said line log wrong reply (judged (line ∷ log) (stands log s)) (is_wrong log s) (runs log);
}
