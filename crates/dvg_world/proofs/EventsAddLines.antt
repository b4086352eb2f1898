-- Each event adds its line to the logs that a world stands after.
use Rattle.std.proofs.Common.{◌≡◌, ℕ, ◌<◌, Bool, true, false, List, [], ◌∷◌, length, Option, Some, None, refl, sym, ap, ◌∙◌, subst, lit<}
use Rattle.std.proofs.lemmas.Bool.{eqb-true, eqb-false}
use Rattle.std.proofs.lemmas.Option.{none-some, same_Some}
use Rattle.std.proofs.lemmas.List.{get_or-set_other, get_or-set_same}
use Rattle.std.specs.Prelude.{◌↔◌, IsTrue, IsNone, OnErr, Result, Ok, Err, is_some, is_none, slice_index, slice_set, nat_eq, if◌then◌else◌}
use Rattle.dvg_mem.specs.Areas.{half_of_high, other}
use Rattle.dvg_mem.specs.Memory.{fetched_byte, IsImage, IsRom}
use Rattle.dvg_gen.specs.Bytes.{Met, met, Waits, Whole, word_of}
use Rattle.dvg_gen.specs.Completing.{DrawsNothing}
use Rattle.dvg_gen.specs.declared.stroke.Stroke.{Stroke}
use Rattle.dvg_gen.specs.declared.taken.Step.{Step}
use Rattle.dvg_gen.specs.declared.taken.Step.TheVariants as step
use Rattle.dvg_gen.specs.Machine as generator
use Rattle.dvg_gen.specs.Machine.{Machine, Answers, answer_by}
use Rattle.dvg_gen.specs.Told.{Told, Start, Reset, Fed, More, Drew, Fails, reply, wants}
use Rattle.dvg_gen.proofs.OneRun.{held_first}
use Rattle.dvg_gen.proofs.WordAddsStroke.{draws_some}
use Rattle.dvg_frame.specs.declared.op.OpKind.{OpKind}
use Rattle.dvg_frame.specs.declared.fault.FrameFault.{FrameFault}
use Rattle.dvg_frame.specs.Ops.{IsDraft}
use Rattle.dvg_frame.specs.Faults.{Refuses, Accepts}
use Rattle.dvg_driver.specs.declared.action.Action.{Action}
use Rattle.dvg_driver.specs.declared.action.Action.TheVariants.{Peek, Wrote, Read, Sent, Idle}
use Rattle.dvg_driver.specs.Script as script
use Rattle.dvg_driver.specs.Script.{Item, Did, IsWhole, IsLife, has_flip}
use Rattle.dvg_driver.specs.Stands as driver
use Rattle.dvg_driver.specs.Stands.{Driving, ShowsFlag, byte1_of, peeked_after}
use Rattle.dvg_log.specs.Events.{Happening}
use Rattle.dvg_log.specs.declared.event.Event.TheVariants.{Offer, Redraw, Tick, Strobe, Fetch, ResetGen, ResetCpu, ResetAll}
use Rattle.dvg_log.specs.Entries.{Shown, entry_by, map_entry}
use Rattle.dvg_log.specs.declared.entry.Entry.{Entry}
use Rattle.dvg_log.specs.declared.entry.Entry.TheVariants.{Offered, Refused, Busy, Asked, NothingPublished, Acted, Started, NoStrobe, Still, Cleared}
use Rattle.dvg_log.specs.Log.{◌⟼◌, Log, ram, low_byte, meets, history, open_run, life, strobed}
use Rattle.dvg_world.specs.Desks.{Driven, IsFresh, OfferAnswers, RedrawAnswers}
use Rattle.dvg_world.specs.Standing.{State, StandsAt, WorldAfter, AddsLine, ChangesNothing, KeepsHeadlineAfter, KeepsLogs, DrawsNow}
use Rattle.dvg_world.specs.own.Stepping.{ram_by, sent_by}
use Rattle.dvg_theorem.proofs.Headline.{headline}
use Rattle.dvg_theorem.proofs.Linked.{opened}

-- a world of these parts
abbrev pub world_of : List ℕ → List ℕ → Machine → Driving → Bool → State
world_of rom bytes machine driving sent = record { rom = rom; ram = bytes; machine = machine; driver = driving; sent = sent }

-- what is known of a world by equations
pub adds_between : {old old' new new' : State} (event : Happening) (entry : Shown) → old' ≡ old → new ≡ new' → AddsLine old' event entry new' → AddsLine old event entry new
adds_between {old' = old'} {new = new} event entry same_old same_new adds =
    subst (λ s. AddsLine s event entry new) same_old (subst (λ s. AddsLine old' event entry s) (sym same_new) adds)

pub keeps_between : {old old' new new' : State} → old' ≡ old → new ≡ new' → KeepsLogs old' new' → KeepsLogs old new
keeps_between {old' = old'} {new = new} same_old same_new keeps =
    subst (λ s. KeepsLogs s new) same_old (subst (λ s. KeepsLogs old' s) (sym same_new) keeps)

-- the entry by an equation
pub adds_as : {old new : State} {event : Happening} {entry entry' : Shown} → entry' ≡ entry → AddsLine old event entry' new → AddsLine old event entry new
adds_as {old} {new} {event} same adds = subst (λ entry. AddsLine old event entry new) same adds

-- a line, and then a world that stands after the same logs
pub then_keeps : {old mid new : State} {event : Happening} {entry : Shown} → AddsLine old event entry mid → KeepsLogs mid new → AddsLine old event entry new
then_keeps {event = event} {entry = entry} adds keeps R image log after = keeps R image ((event ⟼ entry) ∷ log) (adds R image log after)

-- the same, where the ROM is known by an equation
pub same_rom : {old : State} {event : Happening} {entry : Shown} {rom rom' bytes : List ℕ} {machine : Machine}
    {driving : Driving} {sent : Bool} → rom' ≡ rom → AddsLine old event entry (world_of rom bytes machine driving sent)
    → AddsLine old event entry (world_of rom' bytes machine driving sent)
same_rom {old} {event} {entry} {bytes = bytes} {machine} {driving} {sent} same adds =
    subst (λ rom. AddsLine old event entry (world_of rom bytes machine driving sent)) (sym same) adds

pub new_world : (rom image bytes : List ℕ) (machine : Machine) (driven : Driven) → IsRom rom → IsImage bytes → bytes ≡ image → generator.HasTaken machine [] None
    → IsFresh rom driven → WorldAfter rom image [] (world_of driven.rom bytes machine driven.driver false)
new_world rom image bytes machine driven r b same g fresh = record {
  legal = (r, subst IsImage same b);
  stands = record { rom = fresh.0; ram = same; machine = g; peeked = slice_index image 1; stage = fresh.1 (slice_index image 1); byte1 = refl; sent = refl };
}

module _ {rom bytes R ram : List ℕ} {machine : Machine} {driving : Driving} {sent strobe : Bool} {told : List Told} {low : Option ℕ} {items : List Item} (stands : StandsAt (world_of rom bytes machine driving sent) R ram told low items strobe) where
  with_machine : {machine' : Machine} {told' : List Told} {low' : Option ℕ} → generator.HasTaken machine' told' low' → StandsAt (world_of rom bytes machine' driving sent) R ram told' low' items strobe
  with_machine after = record { rom = stands.rom; ram = stands.ram; machine = after; peeked = stands.peeked; stage = stands.stage; byte1 = stands.byte1; sent = stands.sent }

  with_stage : {driving' : Driving} {items' : List Item} (peeked : ℕ) → driver.StandsAfter driving'.stage peeked items' → byte1_of peeked items' ≡ slice_index ram 1
      → StandsAt (world_of rom bytes machine driving' sent) R ram told low items' strobe
  with_stage peeked after byte1 = record { rom = stands.rom; ram = stands.ram; machine = stands.machine; peeked = peeked; stage = after; byte1 = byte1; sent = stands.sent }

  same_stage : {driving' : Driving} → driving' ≡ driving → StandsAt (world_of rom bytes machine driving' sent) R ram told low items strobe
  same_stage same = with_stage stands.peeked (subst (λ (s : Driving). driver.StandsAfter s.stage stands.peeked items) (sym same) stands.stage) stands.byte1

-- a run is open in the generator exactly where one is open in the log
open_is : {R image : List ℕ} {log : Log} {world : State} → WorldAfter R image log world → world.machine.is_open ≡ is_some (open_run log)
open_is {R} {image} {log} w = w.stands.machine.stands.is_open ∙ opened R image log w.legal w.stands.machine.leaves

module _ {rom bytes : List ℕ} {machine : Machine} {driving : Driving} {sent : Bool} where
  pub offer_refused : {F : List OpKind} {fault : FrameFault} → IsDraft F → Refuses F rom fault
      → AddsLine (world_of rom bytes machine driving sent) (Offer F) (Refused fault) (world_of rom bytes machine driving sent)
  offer_refused {F} {fault} draft refuses R image log w = record { legal = (subst (λ x. Refuses F x fault) w.stands.rom refuses, draft, w.legal); stands = w.stands }

  pub offer_busy : {F : List OpKind} {driving' : Driving} → IsDraft F → Accepts F rom → driving' ≡ driving → ((peeked : ℕ) (items : List Item) → driver.StandsAfter driving.stage peeked items → ¬ IsWhole items)
      → AddsLine (world_of rom bytes machine driving sent) (Offer F) Busy (world_of rom bytes machine driving' sent)
  offer_busy {F} draft accepts same busy R image log w = record {
    legal = ((subst (λ x. Accepts F x) w.stands.rom accepts, busy w.stands.peeked (life image log) w.stands.stage), draft, w.legal);
    stands = same_stage w.stands same;
  }

  pub offer_taken : {F : List OpKind} {frame : List OpKind} {driving' : Driving} → IsDraft F → Accepts F rom → frame ≡ F → ((peeked : ℕ) (items : List Item) → driver.StandsAfter driving.stage peeked items → IsWhole items)
      → ((peeked : ℕ) (items : List Item) → driver.StandsAfter driving.stage peeked items → driver.StandsAfter driving'.stage peeked (script.Offered (other (half_of_high (byte1_of peeked items))) frame ∷ items))
      → AddsLine (world_of rom bytes machine driving sent) (Offer F) Offered (world_of rom bytes machine driving' sent)
  offer_taken {F} {frame} {driving'} draft accepts same whole taken R image log w =
      let peeked = w.stands.peeked in
      let items = life image log in
      let after = taken peeked items w.stands.stage in
      let of_draft = subst (λ f. driver.StandsAfter driving'.stage peeked (script.Offered (other (half_of_high (byte1_of peeked items))) f ∷ items)) same after in
      let to_free = subst (λ byte. driver.StandsAfter driving'.stage peeked (script.Offered (other (half_of_high byte)) F ∷ items)) w.stands.byte1 of_draft in
      record {
        legal = ((subst (λ x. Accepts F x) w.stands.rom accepts, whole peeked items w.stands.stage), draft, w.legal);
        stands = with_stage w.stands peeked to_free w.stands.byte1;
      }

  pub redraw_nothing : {driving' : Driving} → driving' ≡ driving → ((peeked : ℕ) (items : List Item) → driver.StandsAfter driving.stage peeked items → has_flip items ≡ false)
      → AddsLine (world_of rom bytes machine driving sent) Redraw NothingPublished (world_of rom bytes machine driving' sent)
  redraw_nothing same nothing R image log w = record { legal = (nothing w.stands.peeked (life image log) w.stands.stage, tt, w.legal); stands = same_stage w.stands same }

  pub redraw_busy : {driving' : Driving} → driving' ≡ driving → ((peeked : ℕ) (items : List Item) → driver.StandsAfter driving.stage peeked items → (has_flip items ≡ true) × ¬ IsWhole items)
      → AddsLine (world_of rom bytes machine driving sent) Redraw Busy (world_of rom bytes machine driving' sent)
  redraw_busy same busy R image log w = record { legal = (busy w.stands.peeked (life image log) w.stands.stage, tt, w.legal); stands = same_stage w.stands same }

  pub redraw_taken : {driving' : Driving} → ((peeked : ℕ) (items : List Item) → driver.StandsAfter driving.stage peeked items → (has_flip items ≡ true) × IsWhole items)
      → ((peeked : ℕ) (items : List Item) → driver.StandsAfter driving.stage peeked items → driver.StandsAfter driving'.stage peeked (script.Asked ∷ items))
      → AddsLine (world_of rom bytes machine driving sent) Redraw Asked (world_of rom bytes machine driving' sent)
  redraw_taken can taken R image log w = record {
    legal = (can w.stands.peeked (life image log) w.stands.stage, tt, w.legal);
    stands = with_stage w.stands w.stands.peeked (taken w.stands.peeked (life image log) w.stands.stage) w.stands.byte1;
  }

-- an offer or a redraw, by what the driver answers at its desk
pub offers : {rom bytes : List ℕ} {F : List OpKind} {machine : Machine} {driving driving' : Driving} {sent : Bool} (picture : List Stroke)
    (entry : Entry (Unit {0})) → IsDraft F → OfferAnswers rom F driving driving' entry
    → AddsLine (world_of rom bytes machine driving sent) (Offer F) (map_entry (λ _. picture) entry) (world_of rom bytes machine driving' sent)
offers {rom = rom} {bytes} {F} {machine} {driving} {sent = sent} picture (Refused fault) draft answers =
    subst (λ s. AddsLine (world_of rom bytes machine driving sent) (Offer F) (Refused fault) (world_of rom bytes machine s sent))
    (sym answers.1) (offer_refused draft answers.0)
offers picture Busy draft answers = offer_busy draft answers.0 answers.1 answers.2
offers picture Offered draft answers =
    offer_taken draft answers.0 refl (λ peeked life after. (answers.1 peeked life after).0)
    (λ peeked life after. (answers.1 peeked life after).1)
offers picture entry draft answers = absurd answers

pub redraws : {rom bytes : List ℕ} {machine : Machine} {driving driving' : Driving} {sent : Bool} (picture : List Stroke)
    (entry : Entry (Unit {0})) → RedrawAnswers driving driving' entry
    → AddsLine (world_of rom bytes machine driving sent) Redraw (map_entry (λ _. picture) entry) (world_of rom bytes machine driving' sent)
redraws picture NothingPublished answers = redraw_nothing answers.0 answers.1
redraws picture Busy answers = redraw_busy answers.0 answers.1
redraws picture Asked answers =
    redraw_taken (λ peeked life after. let can = answers peeked life after in (can.0, can.1))
    (λ peeked life after. (answers peeked life after).2)
redraws picture entry answers = absurd answers

-- where they change nothing, the driver stays
pub offer_same : (R : List ℕ) (F : List OpKind) (driving later : Driving) (entry : Entry (Unit {0})) → ChangesNothing entry
    → OfferAnswers R F driving later entry → later ≡ driving
offer_same R F driving later (Refused fault) nothing answers = answers.1
offer_same R F driving later Busy nothing answers = answers.1
offer_same R F driving later Offered nothing answers = absurd nothing
offer_same R F driving later _ nothing answers = absurd answers

pub redraw_same : (driving later : Driving) (entry : Entry (Unit {0})) → ChangesNothing entry
    → RedrawAnswers driving later entry → later ≡ driving
redraw_same driving later NothingPublished nothing answers = answers.0
redraw_same driving later Busy nothing answers = answers.0
redraw_same driving later Asked nothing answers = absurd nothing
redraw_same driving later _ nothing answers = absurd answers

pub same_parts : {rom rom' bytes : List ℕ} {machine : Machine} {driving driving' : Driving} {sent : Bool} → rom' ≡ rom
    → driving' ≡ driving → world_of rom' bytes machine driving' sent ≡ world_of rom bytes machine driving sent
same_parts {rom} {bytes = bytes} {machine} {driving' = driving'} {sent} same_rom same_stage =
    ap (λ rom. world_of rom bytes machine driving' sent) same_rom
    ∙ ap (λ driving. world_of rom bytes machine driving sent) same_stage

-- of the actions only an idle one changes nothing
pub acts_idle : (action : Action) → ChangesNothing (Acted action) → action ≡ Idle
acts_idle Idle nothing = refl
acts_idle _ nothing = absurd nothing

-- what a tick hands in as the flag
flag_is : (halted : Bool) (run : Option (List (ℕ × ℕ))) (is_open : Bool) → (IsTrue halted ↔ (is_open ≡ false)) → is_open ≡ is_some run → halted ≡ is_none run
flag_is true None is_open flag same = refl
flag_is true (Some met) is_open flag same = let shut = flag.0 refl in absurd (cc)
flag_is false None is_open flag same = flag.1 same
flag_is false (Some met) is_open flag same = refl

true_read : (log : Log) (halted : Bool) (action : Action) → ShowsFlag action halted → halted ≡ is_none (open_run log) → ShowsFlag action (is_none (open_run log))
true_read log halted (Read shown) tells flag = tells ∙ flag
true_read log halted Peek tells flag = tt
true_read log halted (Wrote a byte) tells flag = tt
true_read log halted Sent tells flag = tt
true_read log halted Idle tells flag = tt

ram_acted : (image : List ℕ) (log : Log) (action : Action) → ram_by action (ram image log) ≡ ram image ((Tick ⟼ Acted action) ∷ log)
ram_acted image log Peek = refl
ram_acted image log (Wrote a byte) = refl
ram_acted image log (Read halted) = refl
ram_acted image log Sent = refl
ram_acted image log Idle = refl

strobed_acted : (log : Log) (action : Action) → sent_by action (strobed log) ≡ strobed ((Tick ⟼ Acted action) ∷ log)
strobed_acted log Peek = refl
strobed_acted log (Wrote a byte) = refl
strobed_acted log (Read halted) = refl
strobed_acted log Sent = refl
strobed_acted log Idle = refl

written_byte1 : (bytes : List ℕ) (a byte told : ℕ) → 1 < length bytes → told ≡ slice_index bytes 1 → (if nat_eq a 1 then byte else told) ≡ slice_index (slice_set bytes a byte) 1
written_byte1 bytes a byte told inside known = by (nat_eq a 1) refl
  where
    by : (test : Bool) → nat_eq a 1 ≡ test → (if test then byte else told) ≡ slice_index (slice_set bytes a byte) 1
    by true same =
        let at_1 : a ≡ 1 = eqb-true a 1 same in
        rw at_1 (sym (get_or-set_same bytes 1 byte 0 inside))
    by false other = known ∙ sym (get_or-set_other bytes a 1 byte 0 (λ at_1. eqb-false a 1 other (sym at_1)))

byte1_acted : (action : Action) (bytes : List ℕ) (byte1 peeked : ℕ) (items : List Item) → 1 < length bytes → byte1 ≡ slice_index bytes 1 → byte1_of peeked items ≡ slice_index bytes 1
    → byte1_of (peeked_after action byte1 peeked) (Did action ∷ items) ≡ slice_index (ram_by action bytes) 1
byte1_acted Peek bytes byte1 peeked items inside read known = read
byte1_acted (Wrote a byte) bytes byte1 peeked items inside read known = written_byte1 bytes a byte (byte1_of peeked items) inside known
byte1_acted (Read halted) bytes byte1 peeked items inside read known = known
byte1_acted Sent bytes byte1 peeked items inside read known = known
byte1_acted Idle bytes byte1 peeked items inside read known = known

pub ticks : {rom bytes : List ℕ} {machine : Machine} {driving driving' : Driving} {sent halted : Bool} {action : Action} {byte1 : ℕ} → IsImage bytes → byte1 ≡ slice_index bytes 1
    → (IsTrue halted ↔ (machine.is_open ≡ false)) → ShowsFlag action halted
    → ((peeked : ℕ) (items : List Item) → driver.StandsAfter driving.stage peeked items → IsLife (Did action ∷ items))
    → ((peeked : ℕ) (items : List Item) → driver.StandsAfter driving.stage peeked items → driver.StandsAfter driving'.stage (peeked_after action byte1 peeked) (Did action ∷ items))
    → AddsLine (world_of rom bytes machine driving sent) Tick (Acted action) (world_of rom (ram_by action bytes) machine driving' (sent_by action sent))
ticks {rom} {bytes} {machine} {driving} {driving'} {sent} {halted} {action} {byte1} content read flag tells scripted stands R image log w =
    let s = w.stands in
    let inside : 1 < length (ram image log) = subst (λ b. 1 < length b) s.ram (rw content.count (lit< tt)) in
    let same_byte = read ∙ ap (λ b. slice_index b 1) s.ram in
    record {
      legal = ((scripted s.peeked (life image log) s.stage, true_read log halted action tells (flag_is halted (open_run log) machine.is_open flag (open_is w))), tt, w.legal);
      stands = record {
        rom = s.rom;
        ram = ap (λ b. ram_by action b) s.ram ∙ ram_acted image log action;
        machine = s.machine;
        peeked = peeked_after action byte1 s.peeked;
        stage = stands s.peeked (life image log) s.stage;
        byte1 = byte1_acted action (ram image log) byte1 s.peeked (life image log) inside same_byte s.byte1 ∙ ap (λ b. slice_index b 1) (ram_acted image log action);
        sent = ap (λ b. sent_by action b) s.sent ∙ strobed_acted log action;
      };
    }

module _ {rom bytes : List ℕ} {machine : Machine} {driving : Driving} {sent : Bool} where
  pub strobe_lost : sent ≡ false → AddsLine (world_of rom bytes machine driving sent) Strobe NoStrobe (world_of rom bytes machine driving sent)
  strobe_lost none R image log w = record { legal = (sym w.stands.sent ∙ none, tt, w.legal); stands = w.stands }

  pub strobe_starts : {machine' : Machine} → sent ≡ true → ((told : List Told) (low : Option ℕ) → generator.HasTaken machine told low → generator.HasTaken machine' (Start ∷ told) None)
      → AddsLine (world_of rom bytes machine driving sent) Strobe Started (world_of rom bytes machine' driving sent)
  strobe_starts some starts R image log w = record {
    legal = (sym w.stands.sent ∙ some, tt, w.legal);
    stands = with_machine w.stands (starts (history R image log) (low_byte log) w.stands.machine);
  }

  pub reset_gen : {machine' : Machine} → ((told : List Told) (low : Option ℕ) → generator.HasTaken machine told low → generator.HasTaken machine' (Reset ∷ told) None)
      → AddsLine (world_of rom bytes machine driving sent) ResetGen Cleared (world_of rom bytes machine' driving sent)
  reset_gen resets R image log w = record { legal = (tt, tt, w.legal); stands = with_machine w.stands (resets (history R image log) (low_byte log) w.stands.machine) }

  pub reset_cpu : {driving' : Driving} → ((peeked : ℕ) → driver.StandsAfter driving'.stage peeked []) → AddsLine (world_of rom bytes machine driving sent) ResetCpu Cleared (world_of rom bytes machine driving' sent)
  reset_cpu resets R image log w =
      let peeked = slice_index (ram image log) 1 in
      record { legal = (tt, tt, w.legal); stands = with_stage w.stands peeked (resets peeked) refl }

  pub reset_all : {machine' : Machine} {driving' : Driving} {all bytes' : List ℕ} → IsImage bytes' → bytes' ≡ all → ((told : List Told) (low : Option ℕ) → generator.HasTaken machine told low → generator.HasTaken machine' (Reset ∷ told) None)
      → ((peeked : ℕ) → driver.StandsAfter driving'.stage peeked []) → AddsLine (world_of rom bytes machine driving sent) (ResetAll all) Cleared (world_of rom bytes' machine' driving' false)
  reset_all {all = all} content same resets again R image log w = record {
    legal = (tt, subst IsImage same content, w.legal);
    stands = record {
      rom = w.stands.rom;
      ram = same;
      machine = resets (history R image log) (low_byte log) w.stands.machine;
      peeked = slice_index all 1;
      stage = again (slice_index all 1);
      byte1 = refl;
      sent = refl;
    };
  }

none_open : (run : Option (List (ℕ × ℕ))) → is_some run ≡ false → run ≡ None
none_open None none = refl
none_open (Some met) none = absurd (cc)

module _ {rom bytes : List ℕ} {machine : Machine} {driving : Driving} {sent : Bool} where
  pub fetch_still : machine.is_open ≡ false → AddsLine (world_of rom bytes machine driving sent) Fetch Still (world_of rom bytes machine driving sent)
  fetch_still shut R image log w = record { legal = (none_open (open_run log) (sym (open_is w) ∙ shut), tt, w.legal); stands = w.stands }

  -- the line of a fetch, by what it met
  line_of_fetch : {machine' : Machine} (R image : List ℕ) (log : Log) (address : ℕ) (found : Met) (answer : Step)
      (picture : List Stroke)
      → (w : WorldAfter R image log (world_of rom bytes machine driving sent)) → wants w.stands.machine.run ≡ Some address → meets R image log address ≡ found
      → Answers (history R image log) found machine' (answer_by answer picture)
      → WorldAfter R image ((Fetch ⟼ entry_by address found answer picture) ∷ log)
      (world_of rom bytes machine' driving sent)
  line_of_fetch R image log address (Waits byte) answer picture w wanted met x =
      let m = w.stands.machine in
      record { legal = ((met, record { run = m.run; leaves = m.leaves; wanted = wanted }), tt, w.legal); stands = with_machine w.stands x.0 }
  line_of_fetch {machine'} R image log address (Whole None) answer picture w wanted met x =
      let m = w.stands.machine in
      record {
        legal = ((None, met, record { asked = record { run = m.run; leaves = m.leaves; wanted = wanted }; later = x.0.run; leaves_later = x.0.leaves; replies = refl }), tt, w.legal);
        stands = with_machine w.stands (subst (λ o. generator.HasTaken machine' (Fed o ∷ history R image log) None) (sym (ap word_of met)) x.0);
      }
  line_of_fetch R image log address (Whole (Some word)) step.Low picture w wanted met x = absurd (none-some (reply (Some word) x.0.run) x.1)
  line_of_fetch R image log address (Whole (Some word)) step.Word picture w wanted met x =
      let m = w.stands.machine in
      record {
        legal = ((met, record { asked = record { run = m.run; leaves = m.leaves; wanted = wanted }; later = x.0.run; leaves_later = x.0.leaves; replies = sym (same_Some More (reply (Some word) x.0.run) x.1) }), tt, w.legal);
        stands = with_machine w.stands x.0;
      }
  line_of_fetch R image log address (Whole (Some word)) step.Done picture w wanted met x =
      let m = w.stands.machine in
      record {
        legal = ((met, record { asked = record { run = m.run; leaves = m.leaves; wanted = wanted }; later = x.0.run; leaves_later = x.0.leaves; replies = sym (same_Some (Drew picture) (reply (Some word) x.0.run) x.1) }), tt, w.legal);
        stands = with_machine w.stands x.0;
      }
  line_of_fetch {machine'} R image log address (Whole (Some word)) (step.Broke fault) picture w wanted met x =
      let m = w.stands.machine in
      record {
        legal = ((Some word, met, record { asked = record { run = m.run; leaves = m.leaves; wanted = wanted }; later = x.0.run; leaves_later = x.0.leaves; replies = sym (same_Some (Fails fault) (reply (Some word) x.0.run) x.1) }), tt, w.legal);
        stands = with_machine w.stands (subst (λ o. generator.HasTaken machine' (Fed o ∷ history R image log) None) (sym (ap word_of met)) x.0);
      }

  -- what a fetch meets is what the log says
  met_in : {R image : List ℕ} {log : Log} (address : ℕ) (low byte : Option ℕ) (high : Bool) → WorldAfter R image log (world_of rom bytes machine driving sent) → low ≡ machine.low → high ≡ is_some low → byte ≡ fetched_byte bytes rom address high
      → (low ≡ low_byte log) × (meets R image log address ≡ met (low_byte log) byte)
  met_in {R} {image} {log} address low byte high w kept second found =
      let same = kept ∙ w.stands.machine.low in
      let there : byte ≡ fetched_byte (ram image log) R address (is_some (low_byte log)) =
      found ∙ (ap (λ b. fetched_byte b rom address high) w.stands.ram ∙ (ap (λ r. fetched_byte (ram image log) r address high) w.stands.rom ∙ ap (fetched_byte (ram image log) R address) (second ∙ ap is_some same))) in
      (same, ap (met (low_byte log)) (sym there))

  pub fetch_takes : {machine' : Machine} {rom' : List ℕ} (address : ℕ) (low byte : Option ℕ) (high : Bool) (answer : Step)
      (picture : List Stroke)
      → ((told : List Told) (l : Option ℕ) (after : generator.HasTaken machine told l) → Some address ≡ wants after.run) → low ≡ machine.low → high ≡ is_some low → rom' ≡ rom → byte ≡ fetched_byte bytes rom' address high
      → ((told : List Told) (l : Option ℕ) → generator.HasTaken machine told l
      → Answers told (met l byte) machine' (answer_by answer picture))
      → AddsLine (world_of rom bytes machine driving sent) Fetch (entry_by address (met low byte) answer picture)
      (world_of rom bytes machine' driving sent)
  fetch_takes {machine'} address low byte high answer picture wanted kept second of_rom read answers R image log w =
      let m = w.stands.machine in
      let found = subst (λ rom. byte ≡ fetched_byte bytes rom address high) of_rom read in
      let there = met_in address low byte high w kept second found in
      let told = history R image log in
      let here = ap (λ l. entry_by address (met l byte) answer picture) (sym there.0) in
      subst (λ e. WorldAfter R image ((Fetch ⟼ e) ∷ log) (world_of rom bytes machine' driving sent)) here
      (line_of_fetch R image log address (met (low_byte log) byte) answer picture w (sym (wanted told (low_byte log) m))
      there.1 (answers told (low_byte log) m))

  -- a world whose generator stands after the same
  pub keeps_machine : {machine' : Machine} → ((told : List Told) (low : Option ℕ) → generator.HasTaken machine told low → generator.HasTaken machine' told low)
      → KeepsLogs (world_of rom bytes machine driving sent) (world_of rom bytes machine' driving sent)
  keeps_machine keeps R image log w = record { legal = w.legal; stands = with_machine w.stands (keeps (history R image log) (low_byte log) w.stands.machine) }

  -- a world whose driver is at the same stage
  pub keeps_stage : {driving' : Driving} → driving'.stage ≡ driving.stage
      → KeepsLogs (world_of rom bytes machine driving sent) (world_of rom bytes machine driving' sent)
  keeps_stage same R image log w = record {
    legal = w.legal;
    stands = with_stage w.stands w.stands.peeked
        (subst (λ stage. driver.StandsAfter stage w.stands.peeked (life image log)) (sym same) w.stands.stage) w.stands.byte1;
  }

  pub draws_now : {rom' : List ℕ} (address : ℕ) (low byte : Option ℕ) (high : Bool) → machine.is_open ≡ true → ((told : List Told) (l : Option ℕ) (after : generator.HasTaken machine told l) → Some address ≡ wants after.run)
      → low ≡ machine.low → high ≡ is_some low → rom' ≡ rom → byte ≡ fetched_byte bytes rom' address high → ¬ DrawsNothing machine.held (met machine.low byte) → DrawsNow (world_of rom bytes machine driving sent)
  draws_now address low byte high is_open wanted kept second of_rom read draws R image log w =
      let m = w.stands.machine in
      let found = subst (λ rom. byte ≡ fetched_byte bytes rom address high) of_rom read in
      let held = (m.stands.running (sym m.stands.is_open ∙ is_open)).held in
      let there = met_in address low byte high w kept second found in
      let same : met machine.low byte ≡ meets R image log address = ap (λ l. met l byte) m.low ∙ sym there.1 in
      let some =
      draws_some m.run.first m.run.visits m.run.held (meets R image log address) (held_first m.leaves)
      (λ nothing. draws (subst (λ h. DrawsNothing h (met machine.low byte)) (sym held) (subst (λ o. DrawsNothing m.run.held o) (sym same) nothing))) in
      record {
        address = address;
        asked = record { run = m.run; leaves = m.leaves; wanted = sym (wanted (history R image log) (low_byte log) m) };
        word = some.word;
        met = some.met;
        visits = some.more;
        adds = some.adds;
        draws = some.draws;
      }

-- an address is wanted while a run is open
pub open_of : (wanted : Option ℕ) (address : ℕ) (is_open : Bool) → wanted ≡ Some address → (IsNone wanted ↔ (is_open ≡ false)) → is_open ≡ true
open_of wanted address true is halted = refl
open_of wanted address false is halted = let none = halted.1 refl in absurd (cc)

pub on_err : {T E P : Type 0} (result : Result T E) → P → OnErr result P
on_err (Ok value) p = tt
on_err (Err error) p = p

-- and keeps the headline, as every legal log does
pub keeps_headline : {old new : State} (event : Happening) (entry : Shown) → AddsLine old event entry new → KeepsHeadlineAfter old event entry
keeps_headline event entry adds R image log after = (headline R image ((event ⟼ entry) ∷ log) (adds R image log after).legal).0
