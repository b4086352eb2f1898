-- A world goes on from what was told of another one.
use Rattle.std.proofs.Common.{◌≡◌, ℕ, suc, ◌+◌, ◌*◌, ◌/◌, ◌%◌, ◌<◌, ◌≤◌, List, [], ◌∷◌, length, map, refl, sym, ap, ◌∙◌, subst, arith}
use Rattle.std.proofs.Common.{Bool, Option, Some, None, inl, inr}
use Rattle.std.specs.Prelude.{◌==◌, ◌⊎◌, if◌then◌else◌, slice_get}
use Rattle.dvg_mem.specs.declared.TheConstants.{MEMORY_BYTES}
use Rattle.dvg_mem.specs.declared.half.Half.{Half}
use Rattle.dvg_mem.specs.declared.half.Half.TheVariants.{H0, H1}
use Rattle.dvg_frame.specs.declared.op.OpKind.{OpKind}
use Rattle.dvg_frame.specs.Left.{CursorState}
use Rattle.dvg_gen.specs.declared.stroke.Stroke.{Stroke}
use Rattle.dvg_gen.specs.Machine.{Machine, HasTaken}
use Rattle.dvg_gen.specs.Told.{Told}
use Rattle.dvg_driver.specs.declared.state.Phase.{Phase}
use Rattle.dvg_driver.specs.declared.state.Phase.TheVariants.{Start, Booting, Resting, Writing, Flipping, Waiting, Sending}
use Rattle.dvg_driver.specs.declared.state.DriverState.{DriverState}
use Rattle.dvg_driver.specs.Phases.{frame_in}
use Rattle.dvg_driver.specs.Saved.{IsState, IsWritable, cursor_in, driving_in, stage_in}
use Rattle.dvg_driver.specs.Stands.{Driving}
use Rattle.dvg_driver.proofs.DriverAfterLife.{allows_state, same_driving}
use Rattle.dvg_world.specs.Standing.{KeepsLogs, State}
use Rattle.dvg_world.proofs.EventsAddLines.{keeps_between, keeps_machine, keeps_stage, world_of}
use Rattle.dvg_device.specs.Bits.{bit}
use Rattle.dvg_device.specs.Devices.{Answered, Held, ResumesIn, World, WorldResumes}
use Rattle.dvg_device.specs.Laws.{IsWorldTaken, TellsDraft, ToldInTurn, restored}
use Rattle.dvg_device.specs.Operations.{named}
use Rattle.dvg_device.specs.Worlds.{CanGoOn, TellsOperation}
use Rattle.dvg_device.specs.Replies.{number_of, pushing}
use Rattle.dvg_device.specs.Requests.{operation_of, request_of, resuming}
use Rattle.dvg_device.specs.Resuming.{driver_in, driver_number, fields_in, half_bit, half_in, phase_in, phase_number, fields_of, state_of}
use Rattle.dvg_device.specs.States.{CanBeSaved, parts_of, word_of}
use Rattle.dvg_device.specs.declared.driver.DriverFields.{DriverFields}
use Rattle.dvg_device.specs.declared.operation.Operation.{Operation}
use Rattle.dvg_device.specs.declared.reply.Reply.{Reply}
use Rattle.dvg_device.specs.declared.reply.Reply.TheVariants as replies
use Rattle.dvg_device.specs.declared.reply.Reply.TheVariants.{NoMemory, NoState, Opened, WrongSize}
use Rattle.dvg_device.specs.declared.request.Request.TheVariants.{Push, ResumeWorld}
use Rattle.dvg_device.proofs.Restored.{goes_on, restored_stands, told_state}
use Rattle.dvg_device.proofs.PartsInWords.{bit_few, flag_again}

half_few : (half : Half) → half_bit half ≤ 1
half_few H0 = omega arith
half_few H1 = omega arith

-- a half is read in its bit
half_again : (half : Half) (n : ℕ) → n % 2 ≡ half_bit half → half_in n ≡ half
half_again H0 n is = ap (λ k. if k == 1 then H1 else H0) is
half_again H1 n is = ap (λ k. if k == 1 then H1 else H0) is

-- a phase is read in its number
phase_again : (phase : Phase) → phase_in (phase_number phase) ≡ Some phase
phase_again Start = refl
phase_again Booting = refl
phase_again Resting = refl
phase_again Writing = refl
phase_again Flipping = refl
phase_again Waiting = refl
phase_again Sending = refl

phase_few : (phase : Phase) → phase_number phase < 7
phase_few Start = omega arith
phase_few Booting = omega arith
phase_few Resting = omega arith
phase_few Writing = omega arith
phase_few Flipping = omega arith
phase_few Waiting = omega arith
phase_few Sending = omega arith

-- numbers that stand in one of a driver's fields
record Stand (n phase half flipped frame_half sent left : ℕ) : Type 0 where
  pub code : n % 0x100 ≡ 38
  pub phase_is : n / 0x100 % 0x100 ≡ phase
  pub half_is : n / 0x1_0000 % 2 ≡ half
  pub flipped_is : n / 0x2_0000 % 2 ≡ flipped
  pub frame_half_is : n / 0x4_0000 % 2 ≡ frame_half
  pub sent_is : n / 0x8_0000 % 2 ≡ sent
  pub left_is : n / 0x100_0000 % 0x1_0000 ≡ left

stand : (p h f g s l : ℕ) → p < 7 → h ≤ 1 → f ≤ 1 → g ≤ 1 → s ≤ 1 → l < 0x1_0000
    → Stand (38 + 0x100 * p + 0x1_0000 * h + 0x2_0000 * f + 0x4_0000 * g + 0x8_0000 * s + 0x100_0000 * l) p h f g s l
stand p h f g s l a b c d e few = record {
  code = omega arith;
  phase_is = omega arith;
  half_is = omega arith;
  flipped_is = omega arith;
  frame_half_is = omega arith;
  sent_is = omega arith;
  left_is = omega arith;
}

same_driver : {phase : Phase} {h h' g g' : Half} {f f' s s' : Bool} {l l' : ℕ} → h ≡ h' → f ≡ f' → g ≡ g' → l ≡ l' → s ≡ s'
    → ◌≡◌ {A = Option DriverFields} (Some (record { phase = phase; half = h; flipped = f; frame_half = g; left = l; strobe_sent = s }))
    (Some (record { phase = phase; half = h'; flipped = f'; frame_half = g'; left = l'; strobe_sent = s' }))
same_driver h f g l s = cc

-- a driver's fields are read in their number
driver_again : (fields : DriverFields) (n : ℕ) → Stand n (phase_number fields.phase) (half_bit fields.half) (bit fields.flipped)
    (half_bit fields.frame_half) (bit fields.strobe_sent) fields.left → driver_in n ≡ Some fields
driver_again fields n stands =
    ap (λ k. fields_in (phase_in k) n) stands.phase_is ∙ ap (λ phase. fields_in phase n) (phase_again fields.phase)
    ∙ same_driver (half_again fields.half _ stands.half_is) (flag_again fields.flipped _ stands.flipped_is)
    (half_again fields.frame_half _ stands.frame_half_is) stands.left_is (flag_again fields.strobe_sent _ stands.sent_is)

-- by this code a world goes on
resumes : (n : ℕ) → n % 0x100 ≡ 38 → request_of n ≡ resuming (driver_in n)
resumes n is = rw is refl

-- the number of the reply that tells of a driver is the request that resumes
pub driver_passed : (fields : DriverFields) → fields.left < 0x1_0000 → request_of (number_of (replies.Driver fields)) ≡ ResumeWorld fields
driver_passed fields few =
    let stands = stand (phase_number fields.phase) (half_bit fields.half) (bit fields.flipped) (half_bit fields.frame_half)
    (bit fields.strobe_sent) fields.left (phase_few fields.phase) (half_few fields.half) (bit_few fields.flipped)
    (half_few fields.frame_half) (bit_few fields.strobe_sent) few in
    resumes (driver_number fields) stands.code ∙ ap resuming (driver_again fields (driver_number fields) stands)

-- by this code an operation is pushed
pushes : (n : ℕ) → n % 0x100 ≡ 8 → request_of n ≡ Push (operation_of n)
pushes n is = rw is refl

same_operation : {k k' s s' z z' x x' y y' : ℕ} → k ≡ k' → s ≡ s' → z ≡ z' → x ≡ x' → y ≡ y' → ◌≡◌ {A = Operation}
    (record { kind = k; scale = s; z = z; x = x; y = y }) (record { kind = k'; scale = s'; z = z'; x = x'; y = y' })
same_operation k s z x y = cc

-- the number of the reply that tells an operation is the request that pushes it
pub operation_passed : (o : Operation) → o.kind < 0x100 → o.scale < 0x100 → o.z < 0x100 → o.x < 0x1_0000 → o.y < 0x1_0000
    → request_of (number_of (replies.Operation o)) ≡ Push o
operation_passed o k s z x y =
    pushes (pushing o) (omega arith)
    ∙ ap Push (same_operation (omega (arith, k)) (omega (arith, k, s)) (omega (arith, k, s, z)) (omega (arith, k, s, z, x)) (omega (arith, k, s, z, x, y)))

-- a picture is nothing of a history
any_picture : (machine : Machine) (picture : List Stroke) (history : List Told) (low : Option ℕ)
    → HasTaken machine history low → HasTaken (record machine { picture = picture }) history low
any_picture machine picture history low after = record {
  run = after.run;
  leaves = after.leaves;
  stands = record {
    is_open = after.stands.is_open;
    beam = after.stands.beam;
    running = λ runs. let inside = after.stands.running runs in record {
      at = inside.at;
      held = inside.held;
      strokes = inside.strokes;
      count = inside.count;
      brackets = inside.brackets;
    };
  };
  low = after.low;
  waits = after.waits;
}

same_world : {rom rom' bytes bytes' : List ℕ} {machine : Machine} {driver : Driving} {sent sent' : Bool} → rom ≡ rom' → bytes ≡ bytes'
    → sent ≡ sent' → world_of rom bytes machine driver sent ≡ world_of rom' bytes' machine driver sent'
same_world rom bytes sent = cc

-- a world that goes on from what was told of a saved one stands after the same logs
pub world_resumed : (saved world : State) (fields : DriverFields) (old between new : Held) → CanBeSaved saved.machine
    → world.rom ≡ saved.rom → old.staged ≡ saved.ram → stage_in (state_of fields old.draft) ≡ saved.driver.stage
    → fields.strobe_sent ≡ saved.sent → old.open_part ≡ World world
    → ToldInTurn (map word_of (parts_of saved.machine)) old between → Answered (ResumeWorld fields) between new Opened
    → (later : State) × (new.open_part ≡ World later) × KeepsLogs saved later
world_resumed saved world fields old between new can rom staged stage sent there in_turn answered =
    let is = told_state saved.machine old between can in_turn in
    let held : Held = record old { waiting = restored saved.machine } in
    let of_held : ResumesIn old.open_part fields held new Opened = subst (λ (held : Held). ResumesIn held.open_part fields held new Opened) is answered in
    let done : ResumesIn (World world) fields held new Opened = subst (λ part. ResumesIn part fields held new Opened) there of_held in
    let m : Machine = record (restored saved.machine) { picture = world.machine.picture } in
    let driver : Driving = driving_in (state_of fields old.draft) in
    let later_is = done.3.1 ∙ same_world {machine = m} {driver = driver} rom staged sent in
    let machine_keeps : KeepsLogs saved (world_of saved.rom saved.ram m saved.driver saved.sent) =
    keeps_machine {rom = saved.rom} {bytes = saved.ram} {machine = saved.machine} {driving = saved.driver} {sent = saved.sent} {machine' = m}
    (λ told low taken. any_picture (restored saved.machine) world.machine.picture told low (goes_on saved.machine told low taken)) in
    let stage_keeps : KeepsLogs (world_of saved.rom saved.ram m saved.driver saved.sent) (world_of saved.rom saved.ram m driver saved.sent) =
    keeps_stage {rom = saved.rom} {bytes = saved.ram} {machine = m} {driving = saved.driver} {sent = saved.sent} {driving' = driver} stage in (
      done.1,
      ap (λ (held : Held). held.open_part) done.2,
      keeps_between {old' = saved} {new' = world_of saved.rom saved.ram m driver saved.sent} refl later_is
          (λ R image log after. stage_keeps R image log (machine_keeps R image log after)),
    )

-- one reply tells one operation, or none
same_told : (one other : Option OpKind) (reply : Reply) → TellsOperation one reply → TellsOperation other reply → one ≡ other
same_told None None reply tells told = refl
same_told None (Some op) reply tells told = let is = sym tells ∙ told.2 in absurd (cc)
same_told (Some op) None reply tells told = let is = sym told ∙ tells.2 in absurd (cc)
same_told (Some op) (Some other) reply tells told =
    let same : tells.0 ≡ told.0 = of_operation (sym tells.2 ∙ told.2) in
    sym tells.1.0 ∙ ap named same ∙ told.1.0
  where
    of_operation : {o p : Operation} → replies.Operation o ≡ replies.Operation p → o ≡ p
    of_operation is = cc

-- lists that have the same at each place are the same
same_lists : {A : Type 0} (xs ys : List A) → ((n : ℕ) → slice_get xs n ≡ slice_get ys n) → xs ≡ ys
same_lists [] [] same = refl
same_lists [] (y ∷ ys) same = let first = same 0 in absurd (cc)
same_lists (x ∷ xs) [] same = let first = same 0 in absurd (cc)
same_lists (x ∷ xs) (y ∷ ys) same =
    let first : Some x ≡ Some y = same 0 in
    let head : x ≡ y = cc in
    let tail = same_lists xs ys (λ n. same (suc n)) in
    ap (λ z. z ∷ xs) head ∙ ap (λ zs. y ∷ zs) tail

-- a frame that is kept is the draft whose bytes come
kept_draft : (v : Phase) (cursor : CursorState) (F : List OpKind) → frame_in v (Some cursor) ≡ Some F → cursor.draft ≡ F
kept_draft Start cursor F is = absurd (cc)
kept_draft Booting cursor F is = absurd (cc)
kept_draft Resting cursor F is = absurd (cc)
kept_draft Writing cursor F is = cc
kept_draft Flipping cursor F is = absurd (cc)
kept_draft Waiting cursor F is = absurd (cc)
kept_draft Sending cursor F is = absurd (cc)

-- where a frame is written, what is told of it makes it
told_frame : (saved : State) (state : DriverState) (F : List OpKind) → saved.driver ≡ driving_in state → TellsDraft saved F
    → state.phase ≡ Writing → F ≡ state.frame
told_frame saved state F is tells writing = same_lists F state.frame (λ n. one n)
  where
    frame : saved.driver.frame ≡ Some state.frame
    frame = ap (λ (driver : Driving). driver.frame) is ∙ ap (λ v. frame_in v (Some (cursor_in state))) writing

    one : (n : ℕ) → slice_get F n ≡ slice_get state.frame n
    one n =
        let told = tells n in
        let other = told.1.0 in
        let draft : other.frame ≡ state.frame =
        kept_draft other.phase (cursor_in other) state.frame (sym (ap (λ (driver : Driving). driver.frame) told.1.1) ∙ frame) in
        same_told (slice_get F n) (slice_get state.frame n) told.0 told.2
        (subst (λ G. TellsOperation (slice_get G n) told.0) draft told.1.3)

-- a state with another draft, which is the frame where one is written
module _ (state : DriverState) (F : List OpKind) (same : state.phase ≡ Writing → F ≡ state.frame) where
  abbrev with_draft : List OpKind → DriverState
  with_draft draft = record state { frame = draft }

  taken_so : (R : List ℕ) → IsState R state → IsState R (with_draft F)
  taken_so R allowed = allows_state state.phase state.flipped
      (λ writing writable. subst (λ draft. IsWritable R (with_draft draft)) (sym (same writing)) writable) allowed

  stage_so : stage_in (with_draft F) ≡ stage_in state
  stage_so = ap (λ (driving : Driving). driving.stage)
      (same_driving state.phase (Some (cursor_in (with_draft F))) (Some (cursor_in state)) state.half state.flipped
      (λ writing. ap (λ draft. Some (cursor_in (with_draft draft))) (same writing)))

-- what can go on does so, if there is memory
opens : (fields : DriverFields) (world : State) (old new : Held) (reply : Reply) → length old.staged ≡ MEMORY_BYTES
    → CanGoOn old.waiting fields old.draft world.rom → WorldResumes fields world old new reply → (reply ≡ NoMemory) ⊎ (reply ≡ Opened)
opens fields world old new WrongSize count can resumes = absurd (resumes.0 count)
opens fields world old new NoMemory count can resumes = inl refl
opens fields world old new Opened count can resumes = inr refl
opens fields world old new NoState count can resumes = absurd (resumes.3.0 can)
opens fields world old new _ count can resumes = absurd (resumes.3)

-- a world takes all that a saved one tells
pub world_taken : IsWorldTaken
world_taken saved world fields old between new reply can image rom staged driver draft there in_turn answered =
    let state = driver.0 in
    let fields_are : fields ≡ fields_of state saved.sent = of_driver driver.3 in
    let same = told_frame saved state old.draft driver.1 draft in
    let is = told_state saved.machine old between can in_turn in
    let held : Held = record old { waiting = restored saved.machine } in
    let of_held : ResumesIn old.open_part fields held new reply = subst (λ (held : Held). ResumesIn held.open_part fields held new reply) is answered in
    let done : ResumesIn (World world) fields held new reply = subst (λ part. ResumesIn part fields held new reply) there of_held in
    let state_is : state_of fields old.draft ≡ record state { frame = old.draft } = ap (λ fields. state_of fields old.draft) fields_are in
    let taken : IsState world.rom (state_of fields old.draft) =
    subst (IsState world.rom) (sym state_is)
    (subst (λ R. IsState R (record state { frame = old.draft })) (sym rom) (taken_so state old.draft same saved.rom driver.2)) in
    let stage : stage_in (state_of fields old.draft) ≡ saved.driver.stage =
    ap stage_in state_is ∙ stage_so state old.draft same ∙ sym (ap (λ (driver : Driving). driver.stage) driver.1) in
    let sent : fields.strobe_sent ≡ saved.sent = ap (λ (fields : DriverFields). fields.strobe_sent) fields_are in
    let count : length old.staged ≡ MEMORY_BYTES = ap length staged ∙ image.count in
    elim (opens fields world held new reply count (restored_stands saved.machine can.stands, taken) done) [
      | inl none ↦ inl none
      | inr opened ↦ (
          let done = world_resumed saved world fields old between new can rom staged stage sent there in_turn
          (subst (λ reply. Answered (ResumeWorld fields) between new reply) opened answered) in
          inr (opened, done.0, done.1, done.2))
    ]
  where
    of_driver : {fields other : DriverFields} → replies.Driver fields ≡ replies.Driver other → fields ≡ other
    of_driver is = cc
