-- The drafts that a machine's program has built.
use Rattle.std.proofs.Common.{◌≡◌, ℕ, zero, suc, ◌+◌, ◌*◌, ◌≤◌, ◌<◌, Bool, true, false, not, List, [], ◌∷◌, length, refl, sym, ap}
use Rattle.std.proofs.Common.{◌∙◌, subst, arith}
use Rattle.std.specs.Prelude.{nat_eq, nat_le, nat_lt, ◌&&◌, ◌||◌, if◌then◌else◌}
use Rattle.dvg_frame.specs.declared.op.OpKind.{OpKind}
use Rattle.dvg_log.specs.declared.event.Event.TheVariants.{ResetAll}
use Rattle.dvg_log.specs.declared.entry.Entry.TheVariants.{Cleared}
use Rattle.dvg_log.specs.Log.{◌⟼◌, Log, ram}
use Rattle.dvg_calls_6502.specs.Processor.{Cpu, turn, at_return}
use Rattle.dvg_calls_6502.specs.Amid.{Guard, AreHarmless, changed, guards, is_kept}
use Rattle.dvg_calls_6502.specs.Tables.{table_of}
use Rattle.dvg_calls_6502.specs.Calls as calls
use Rattle.dvg_calls_6502.specs.Calls.{Routine, Call, IsSession, IsSessionBy, Brings, Follows, UnlessReset, is_taken, bounds, frame_of}
use Rattle.dvg_calls_6502.specs.Programs.{CallBrings, renamed, with_drafts, BuildsOnly, AreBuilt}
use Rattle.dvg_calls_6502.proofs.Sessions.{by_reset, unless_map}
use Rattle.dvg_calls_6502.proofs.DraftsForCalls.{call_with, busy_renamed, over_renamed}
use Rattle.dvg_calls_6502.proofs.Programs.{hindsight}
use Rattle.dvg_cells_board.specs.Board.{Board, Bus}
use Rattle.dvg_cells_board.specs.Clocks.{changes}
use Rattle.dvg_cells_board.specs.Logs.{did, answered}
use Rattle.dvg_calls_board.specs.Machine
use Rattle.dvg_calls_board.specs.Machine.{IsMachine, IsChecked, SharesRam, later}
use Rattle.dvg_calls_board.specs.Hindsight.{IsCheckedTable, IsProgram, HindsightKeeps}
use Rattle.dvg_calls_board.proofs.Machine.{legal, headline}

-- the same calls, but for drafts
abbrev Named : List Call → List Call → Type 0
Named [] [] = Unit {0}
Named [] (to ∷ tos) = ⊥
Named (call ∷ list) [] = ⊥
Named (call ∷ list) (to ∷ tos) = ((G : List OpKind) × (to ≡ call_with call G)) × Named list tos

-- the draft that a routine has
abbrev own_draft : Routine → List OpKind
own_draft (calls.Open F) = F
own_draft routine = []

own_named : (r : Routine) → renamed r (own_draft r) ≡ r
own_named calls.Reset = refl
own_named _ = refl

self_named : (list : List Call) → Named list list
self_named [] = tt
self_named (call ∷ list) = (
  (own_draft call.routine, ap (λ (r : Routine). record call { routine = r }) (sym (own_named call.routine))),
  self_named list,
)

drafts_named : (list : List Call) (drafts : List (List OpKind)) → Named list (with_drafts list drafts)
drafts_named [] drafts = tt
drafts_named (call ∷ list) [] = self_named (call ∷ list)
drafts_named (call ∷ list) (G ∷ drafts) = ((G, refl), drafts_named list drafts)

drafts_of : (list tos : List Call) → Named list tos → (drafts : List (List OpKind)) × (tos ≡ with_drafts list drafts)
drafts_of [] [] is = ([], refl)
drafts_of [] (to ∷ tos) is = absurd is
drafts_of (call ∷ list) [] is = absurd is
drafts_of (call ∷ list) (to ∷ tos) is =
    let rest = drafts_of list tos is.1 in
    (is.0.0 ∷ rest.0, ap (λ (c : Call). c ∷ tos) is.0.1 ∙ ap (λ l. call_with call is.0.0 ∷ l) rest.1)

-- the drafts don't matter to where the tables stand
taken_named : (call : Call) (G : List OpKind) → is_taken (call_with call G) ≡ is_taken call
taken_named call G = ap (λ (t : Bool).
    (at_return call.from.s (calls.after call)
    || ((nat_eq call.steps 1 && t) || calls.is_leaving call.from.s (calls.after call)))
    && not (if nat_eq call.steps 1 && t then true else (if calls.is_leaving call.from.s (calls.after call) then false
    else (calls.after call).c))) (busy_renamed call.routine G call.from.mem)

bounds_by : (r : Routine) (call : Call) (G : List OpKind) (older : ℕ × ℕ)
    → calls.taken_bounds (renamed r G) (call_with call G) older ≡ calls.taken_bounds r call older
bounds_by (calls.Offer F) call G older = let t = call.from.a + 256 * call.from.x + 2 in
    ap (λ (u : Bool). if u then (t, t + length (table_of F)) else older) (taken_named call G)
bounds_by _ call G older = refl

bounds_named : (list tos : List Call) → Named list tos → bounds tos ≡ bounds list
bounds_named [] [] is = refl
bounds_named [] (to ∷ tos) is = absurd is
bounds_named (call ∷ list) [] is = absurd is
bounds_named (call ∷ list) (to ∷ tos) is =
    ap (λ (c : Call). bounds (c ∷ tos)) is.0.1
    ∙ bounds_by call.routine call is.0.0 (bounds tos)
    ∙ ap (calls.taken_bounds call.routine call) (bounds_named list tos is.1)

-- the same calls since the last reset, and the same tables before them
abbrev Since : List Call → List Call → Type 0
Since [] [] = Unit {0}
Since [] (to ∷ tos) = ⊥
Since (call ∷ list) [] = ⊥
Since (call ∷ list) (to ∷ tos) = (call ≡ to) × (bounds list ≡ bounds tos) × UnlessReset call.routine (Since list tos)

frame_since : (list tos : List Call) → Since list tos → frame_of list ≡ frame_of tos
frame_since [] [] is = refl
frame_since [] (to ∷ tos) is = absurd is
frame_since (call ∷ list) [] is = absurd is
frame_since (call ∷ list) (to ∷ tos) is =
    by_reset (λ r U S. U (Since list tos) → calls.frame_after r call (frame_of list) ≡ calls.frame_after r call (frame_of tos))
    (λ since. refl) (λ r since. ap (calls.frame_after r call) (frame_since list tos since)) call.routine is.2
    ∙ ap (λ (c : Call). frame_of (c ∷ tos)) is.0

follows_since : (call : Call) (list tos : List Call) → Since list tos → Follows call list → Follows call tos
follows_since call [] tos is follows = absurd follows
follows_since call (older ∷ olds) [] is follows = absurd is
follows_since call (older ∷ olds) (new ∷ news) is follows =
    subst (λ (c : Call). Follows call (c ∷ news)) is.0 (
      follows.0,
      record {
        own = follows.1.own;
        ram = follows.1.ram;
        table = λ writing b low high. follows.1.table writing b (subst (λ (p : ℕ × ℕ). p.0 ≤ b) (sym same) low)
            (subst (λ (p : ℕ × ℕ). b < p.1) (sym same) high);
      },
    )
  where
    same : bounds (older ∷ olds) ≡ bounds (older ∷ news)
    same = ap (calls.taken_bounds older.routine older) is.1

session_since : (list tos : List Call) → Since list tos → IsSession list → IsSession tos
session_since [] tos is session = absurd session
session_since (call ∷ list) [] is session = absurd is
session_since (call ∷ list) (to ∷ tos) is session =
    subst (λ (c : Call). IsSession (c ∷ tos)) is.0 (
      session.0,
      by_reset (λ r U S. U (Since list tos) → Brings r call.from (frame_of list) → Brings r call.from (frame_of tos))
          (λ since b. tt) (λ r since b. subst (Brings r call.from) (frame_since list tos since) b) call.routine is.2
          session.1,
      subst (λ (p : ℕ × ℕ). AreHarmless
          (guards (is_kept (λ b. (nat_le p.0 b && nat_lt b p.1) || calls.is_offered call.routine call.from b))
          call.from.s) call.from.s call.others call.steps call.from) is.1 session.2,
      by_reset (λ r U S. U (Since list tos) → U (Follows call list × IsSession list) → U (Follows call tos × IsSession tos))
          (λ since older. tt)
          (λ r since older. (follows_since call list tos since older.0, session_since list tos since older.1))
          call.routine is.2 session.3,
    )

-- each of these calls begins a session, and builds what a program may
abbrev Good : List ℕ → List Call → Type 0
Good R [] = Unit {0}
Good R (call ∷ list) = IsSession (call ∷ list) × BuildsOnly R call.routine × Good R list

abbrev AllTell : List ℕ → List Call → Type 0
AllTell R [] = Unit {0}
AllTell R (call ∷ list) = IsSessionBy (CallBrings R) (call ∷ list) × AllTell R list

still_tell : (R : List ℕ) (t w : Bool) (list : List Call) → AllTell R list
    → AllTell R (if t then list else if w then [] else list)
still_tell R true w list all = all
still_tell R false true list all = tt
still_tell R false false list all = all

all_tell : {R image : List ℕ} {held : ℕ → ℕ} {list : List Call} {log : Log} {older : List Bus}
    → IsProgram R image held list log older → AllTell R list
all_tell (Machine.powers rom is_image same) = tt
all_tell {R} (Machine.waits {calls = list} bus whole on is served idle) =
    still_tell R (nat_eq bus.reset 0) whole list (all_tell on)
all_tell (Machine.tests bus on is served sends) = tt
all_tell (Machine.begins routine from others on session checked shares) = (session, all_tell on)
all_tell (Machine.steps n on unfinished session same) = (session, (all_tell on).1)
all_tell (Machine.accesses n access bus on session more is served made) = (session, (all_tell on).1)

abbrev Found : List ℕ → List Call → Type 0
Found R list = (tos : List Call) × Named list tos × Good R tos

abbrev FoundIf : List ℕ → List Call → List Call → (Type 0 → Type 0) → Type 0
FoundIf R list news U = (tos : List Call) × Named list tos × Good R tos × U (Since news tos)

abbrev FoundSince : List ℕ → List Call → List Call → Type 0
FoundSince R list news = FoundIf R list news (λ P. P)

-- drafts for calls, by those for the calls since the last reset
past : (R : List ℕ) (list : List Call) → AllTell R list
    → ((news : List Call) → Named list news → IsSession news → AreBuilt R news → FoundSince R list news) → Found R list
past R [] tell extends = ([], tt, tt)
past R (call ∷ list) tell extends =
    let since = hindsight R (call ∷ list) tell.0 in
    let found = extends (with_drafts (call ∷ list) since.0) (drafts_named (call ∷ list) since.0) since.1 since.2 in
    (found.0, found.1, found.2)

extend : (R : List ℕ) (list news : List Call) → AllTell R list → Named list news → IsSession news → AreBuilt R news
    → FoundSince R list news
extend R [] [] tell named session built = absurd session
extend R [] (new ∷ news) tell named session built = absurd named
extend R (call ∷ list) [] tell named session built = absurd named
extend R (call ∷ list) (new ∷ news) tell named session built =
    let rest : FoundIf R list news (UnlessReset new.routine) =
    by_reset (λ r U S. U (Follows new news × IsSession news) → U (AreBuilt R news) → FoundIf R list news U)
    (λ follows built. let found = past R list tell.1
    (λ news named session built. extend R list news tell.1 named session built) in (found.0, found.1, found.2, tt))
    (λ r follows built. extend R list news tell.1 named.1 follows.1 built) new.routine session.3 built.1 in
    let same : bounds news ≡ bounds rest.0 = bounds_named list news named.1 ∙ sym (bounds_named list rest.0 rest.1) in (
      new ∷ rest.0,
      (named.0, rest.1),
      (session_since (new ∷ news) (new ∷ rest.0) (refl, same, rest.3) session, built.0, rest.2),
      (refl, same, rest.3),
    )

all_found : (R : List ℕ) (list : List Call) → AllTell R list → Found R list
all_found R list tell = past R list tell (λ news named session built. extend R list news tell named session built)

-- a session in which the newest call has taken fewer steps
fewer_harmless : (guard : Guard) (s m n : ℕ) (others : ℕ → ℕ → ℕ) (cpu : Cpu) → AreHarmless guard s others (m + n) cpu
    → AreHarmless guard s others m cpu
fewer_harmless guard s zero n others cpu is = tt
fewer_harmless guard s (suc m) n others cpu is =
    let e : suc m + n ≡ suc (m + n) = omega arith in
    let two = subst (λ k. AreHarmless guard s others k cpu) e is in
    (two.0, fewer_harmless guard s m n (λ k. others (suc k)) (turn s (changed (others 0) cpu)) two.1)

follows_fewer : (n : ℕ) (call : Call) (list : List Call) → Follows (later n call) list → Follows call list
follows_fewer n call [] is = is
follows_fewer n call (older ∷ olds) is = is

fewer : (n : ℕ) (call : Call) (list : List Call) → IsSession (later n call ∷ list) → IsSession (call ∷ list)
fewer n call list session = (
  session.0,
  session.1,
  fewer_harmless _ call.from.s call.steps n call.others call.from session.2,
  unless_map call.routine (Follows (later n call) list × IsSession list) (Follows call list × IsSession list)
      (λ both. (follows_fewer n call list both.0, both.1)) session.3,
)

check_named : (R : List ℕ) (r : Routine) (G : List OpKind) → IsCheckedTable R r → BuildsOnly R (renamed r G)
    → IsChecked R (renamed r G)
check_named R (calls.Offer F) G checked builds = checked
check_named R (calls.Open F) G checked builds = builds
check_named R _ G checked builds = tt

share_named : (r : Routine) (G : List OpKind) (mem : ℕ → ℕ) (board : Board) → SharesRam r mem board
    → SharesRam (renamed r G) mem board
share_named calls.Reset G mem board shares = shares
share_named _ G mem board shares = tt

-- before a clock that may end the calls
before_clock : (R : List ℕ) (t w : Bool) (list tos : List Call) → Found R list
    → Named (if t then list else if w then [] else list) tos → Good R tos
    → (news : List Call) × Named list news × Good R news × ((if t then news else if w then [] else news) ≡ tos)
before_clock R true w list tos any named good = (tos, named, good, refl)
before_clock R false false list tos any named good = (tos, named, good, refl)
before_clock R false true list [] any named good = (any.0, any.1, any.2, refl)
before_clock R false true list (to ∷ tos) any named good = absurd named

-- the machine with these drafts
rebuilt : {R image : List ℕ} {held : ℕ → ℕ} {list : List Call} {log : Log} {older : List Bus}
    → IsProgram R image held list log older → (tos : List Call) → Named list tos → Good R tos
    → (named : Log) × IsMachine R image held tos named older
rebuilt (Machine.powers rom is_image same) [] named good = ([], Machine.powers rom is_image same)
rebuilt (Machine.powers rom is_image same) (to ∷ tos) named good = absurd named
rebuilt {R} {image} {held} (Machine.waits {calls = list} {older = older} bus whole on is served idle) tos named good =
    let prior = before_clock R (nat_eq bus.reset 0) whole list tos (all_found R list (all_tell on)) named good in
    let machine = rebuilt on prior.0 prior.1 prior.2 in (
      answered image held older bus whole machine.0,
      subst (λ l. IsMachine R image held l (answered image held older bus whole machine.0) (bus ∷ older)) prior.3
          (Machine.waits bus whole machine.1 is served idle),
    )
rebuilt {R} {image} {held} (Machine.tests bus on is served sends) [] named good =
    let machine = rebuilt on [] named good in
    ((ResetAll (ram image (did (changes bus) machine.0)) ⟼ Cleared) ∷ machine.0, Machine.tests bus machine.1 is served sends)
rebuilt (Machine.tests bus on is served sends) (to ∷ tos) named good = absurd named
rebuilt (Machine.begins routine from others on session checked shares) [] named good = absurd named
rebuilt {R} {image} {held} (Machine.begins {calls = list} {older = older} routine from others on session checked shares) (to ∷ tos)
    named good =
    let G = named.0.0 in
    let machine = rebuilt on tos named.1 good.2 in (
      Machine.with_reset (renamed routine G) machine.0,
      subst (λ (c : Call). IsMachine R image held (c ∷ tos) (Machine.with_reset (renamed routine G) machine.0) older)
          (sym named.0.1)
          (Machine.begins (renamed routine G) from others machine.1
          (subst (λ (c : Call). IsSession (c ∷ tos)) named.0.1 good.0)
          (check_named R routine G checked (subst (λ (c : Call). BuildsOnly R c.routine) named.0.1 good.1))
          (share_named routine G from.mem _ shares)),
    )
rebuilt (Machine.steps n on unfinished session same) [] named good = absurd named
rebuilt {R} {image} {held} (Machine.steps {call = call} {calls = list} {older = older} n on unfinished session same) (to ∷ tos)
    named good =
    let G = named.0.0 in
    let now = subst (λ (c : Call). IsSession (c ∷ tos)) named.0.1 good.0 in
    let builds = subst (λ (c : Call). BuildsOnly R c.routine) named.0.1 good.1 in
    let machine = rebuilt on (call_with call G ∷ tos) ((G, refl), named.1)
    (fewer n (call_with call G) tos now, builds, good.2) in
    let after = Machine.told image (later n (call_with call G)) machine.0 in (
      after,
      subst (λ (c : Call). IsMachine R image held (c ∷ tos) after older) (sym named.0.1)
          (Machine.steps n machine.1 (over_renamed call G ∙ unfinished) now same),
    )
rebuilt (Machine.accesses n access bus on session more is served made) [] named good = absurd named
rebuilt {R} {image} {held}
    (Machine.accesses {call = call} {calls = list} {older = older} n access bus on session more is served made) (to ∷ tos)
    named good =
    let G = named.0.0 in
    let now = subst (λ (c : Call). IsSession (c ∷ tos)) named.0.1 good.0 in
    let builds = subst (λ (c : Call). BuildsOnly R c.routine) named.0.1 good.1 in
    let machine = rebuilt on (call_with call G ∷ tos) ((G, refl), named.1)
    (fewer n (call_with call G) tos now, builds, good.2) in
    let after = did (changes bus) (answered image held older bus false machine.0) in (
      after,
      subst (λ (c : Call). IsMachine R image held (c ∷ tos) after (bus ∷ older)) (sym named.0.1)
          (Machine.accesses n access bus machine.1 now more is served made),
    )

pub hindsight_keeps : HindsightKeeps
hindsight_keeps R image held list log older on =
    let found = all_found R list (all_tell on) in
    let machine = rebuilt on found.0 found.1 found.2 in
    let drafts = drafts_of list found.0 found.1 in (
      drafts.0,
      machine.0,
      subst (λ l. IsMachine R image held l machine.0 older) drafts.1 machine.1,
      legal R image held found.0 machine.0 older machine.1,
      headline R image held found.0 machine.0 older machine.1,
    )
