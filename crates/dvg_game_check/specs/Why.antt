-- What each rule asks of an instruction: of one that it says nothing of, nothing.
use Rattle.std.specs.Prelude.{◌≡◌, ℕ, ◌+◌, ◌*◌, ◌&&◌, ◌||◌, Bool, true, false, not, nat_eq, nat_le, nat_lt, if◌then◌else◌}
use Rattle.std.specs.Prelude.{Option, None, Some, List, [], ◌∷◌, All, MatchOption, ◌<◌, ◌≤◌}
use Rattle.dvg_game_words.specs.Processor.{A, target}
use Rattle.dvg_game_words.specs.Checker
use Rattle.dvg_game_words.specs.Checker.{Notes, all_serve, begun, ends_of, fine_at, first, places, goes_on, holding, implies, is_entry, is_strobe}
use Rattle.dvg_game_words.specs.Checker.{may_write, newest, noted, of_held, pulling, pushing, same_level, serve, set, unchanged}
use Rattle.dvg_game_words.specs.Kinds
use Rattle.dvg_game_words.specs.Kinds.{Quiet, Reads, Transfer, Stores, Push, PushFlags, Pull, PullFlags, Branch, Jump, Call}
use Rattle.dvg_game_words.specs.Kinds.{Return, Finish, kind_of, size}
use Rattle.dvg_game_words.specs.Machine.{blank_after, is_driver, is_own, is_reset, reset_vector, word_at}
use Rattle.dvg_game_check.specs.declared.note.Note.{Note}
use Rattle.dvg_game_check.specs.declared.reason.Ask.{Ask}
use Rattle.dvg_game_check.specs.declared.reason.Ask.TheVariants.{Noted, Level, Depth, Room, Fuel, Awake, Held, Slots, Blank, Ends}
use Rattle.dvg_game_check.specs.declared.reason.Rule.{Rule}
use Rattle.dvg_game_check.specs.declared.reason.Broken.{Broken}
use Rattle.dvg_game_check.specs.declared.reason.Rule.TheVariants.{Wild, Strobe, Writes, Pushes, Pulls, Resets, Entry, EntryRoom}
use Rattle.dvg_game_check.specs.declared.reason.Rule.TheVariants.{EntryNmi, Asleep, Blank as Begun, CallRoom, CallNmi, ReturnLevel}
use Rattle.dvg_game_check.specs.declared.reason.Rule.TheVariants.{ReturnDepth, ReturnBlank, FinishLevel, FinishDepth, FinishHeld}
use Rattle.dvg_game_check.specs.declared.reason.Rule.TheVariants.{Next, Target}
use Rattle.dvg_game_check.specs.Program.{IsBadAt}
use Rattle.dvg_game_check.specs.Rules.{HasBytes, notes_in, reached_by}

-- a part of suits
abbrev pub asked : Ask → Checker.Note → Option Checker.Note → Bool
asked Noted now None = false
asked ask now None = true
asked Noted now (Some new) = true
asked Level now (Some new) = same_level new.level now.level
asked Depth now (Some new) = nat_eq new.depth now.depth
asked Room now (Some new) = nat_le new.room now.room
asked Fuel now (Some new) = implies (same_level now.level Checker.Nmi) (nat_lt new.fuel now.fuel)
asked Awake now (Some new) = implies new.awake now.awake
asked Held now (Some new) = all_serve new.held now.held
asked Slots now (Some new) = serve new.slots now.slots
asked Blank now (Some new) = implies now.blank new.blank
asked Ends now (Some new) = implies new.ends now.ends

abbrev pub next_asks : Rule → Checker.Note → Option Checker.Note → Bool
next_asks (Next ask) now new = asked ask now new
next_asks rule now new = true

abbrev pub target_asks : Rule → Checker.Note → Option Checker.Note → Bool
target_asks (Target ask) now new = asked ask now new
target_asks rule now new = true

-- the parts of enters
abbrev pub entry_asks : Rule → ℕ → Checker.Note → Bool
entry_asks Entry to now = is_entry to
entry_asks EntryRoom to now = nat_le 4 now.room
entry_asks EntryNmi to now = not (same_level now.level Checker.Nmi)
entry_asks Asleep to now = is_reset to || now.awake
entry_asks Begun to now = implies (goes_on to) (not now.blank)
entry_asks rule to now = true

abbrev pub return_asks : Rule → (blank : Bool) → Checker.Note → Bool
return_asks ReturnLevel blank now = same_level now.level Checker.Sub
return_asks ReturnDepth blank now = nat_eq now.depth 0
return_asks ReturnBlank blank now = implies blank now.ends
return_asks rule blank now = true

abbrev pub returns : (blank : Bool) → Checker.Note → Bool
returns blank now = same_level now.level Checker.Sub && (nat_eq now.depth 0 && implies blank now.ends)

abbrev pub reset_asks : Rule → Checker.Note → Bool
reset_asks Resets now = not (same_level now.level Checker.Nmi)
reset_asks rule now = true

abbrev pub jump_asks : Rule → Notes → (word reset : ℕ) → Checker.Note → Bool
jump_asks rule notes word reset now =
    if nat_eq word reset then reset_asks rule now else if is_driver word then entry_asks rule word now
    && return_asks rule (blank_after word now.blank) now else target_asks rule now (noted notes word)

abbrev pub begin_asks : Rule → Checker.Note → Bool
begin_asks CallRoom now = nat_le 2 now.room
begin_asks CallNmi now = not (same_level now.level Checker.Nmi)
begin_asks rule now = true

abbrev pub call_asks : Rule → Notes → (word at : ℕ) → Checker.Note → Bool
call_asks rule notes word at now =
    if is_driver word then entry_asks rule word now && next_asks rule
    (record now { awake = is_reset word || now.awake; blank = blank_after word now.blank }) (noted notes (at + 3))
    else let ends = ends_of (noted notes word) in begin_asks rule now && (target_asks rule (begun ends now) (noted notes word)
    && next_asks rule (record now { blank = ends }) (noted notes (at + 3)))

abbrev pub read_asks : Rule → Bool → Bool
read_asks Strobe is = is
read_asks rule is = true

abbrev pub write_asks : Rule → Bool → Bool
write_asks Writes is = is
write_asks rule is = true

abbrev pub push_asks : Rule → Checker.Note → Bool
push_asks Pushes now = nat_le 1 now.room
push_asks rule now = true

abbrev pub pull_asks : Rule → Checker.Note → Bool
pull_asks Pulls now = nat_le 1 now.depth
pull_asks rule now = true

abbrev pub finish_asks : Rule → Checker.Note → Bool
finish_asks FinishLevel now = same_level now.level Checker.Nmi
finish_asks FinishDepth now = nat_eq now.depth 0
finish_asks FinishHeld now = all_serve unchanged now.held
finish_asks rule now = true

abbrev pub wild_asks : Rule → Bool
wild_asks Wild = false
wild_asks rule = true

-- what a rule asks of an instruction, by the bytes behind the opcode, their word, and where the reset's vector leads: each
-- is a part of fine_with
abbrev pub asks : Kinds.Kind → Rule → Notes → (low word reset : ℕ) → ℕ → Checker.Note → Bool
asks (Quiet sets bytes) rule notes low word reset at now =
    next_asks rule (record now { held = set sets now.held }) (noted notes (at + bytes))
asks (Reads sets place) rule notes low word reset at now = read_asks rule (reached_by place low word (λ a. not (is_strobe a)))
    && next_asks rule (record now { held = set sets now.held }) (noted notes (at + size place))
asks (Transfer from to) rule notes low word reset at now =
    next_asks rule (record now { held = holding to (of_held from now.held) now.held }) (noted notes (at + 1))
asks (Stores place) rule notes low word reset at now = write_asks rule (reached_by place low word (may_write now.level))
    && next_asks rule (record now { awake = now.awake && reached_by place low word (λ a. not (is_own a)) })
    (noted notes (at + size place))
asks Push rule notes low word reset at now =
    push_asks rule now && next_asks rule (pushing now.held.a now) (noted notes (at + 1))
asks PushFlags rule notes low word reset at now =
    push_asks rule now && next_asks rule (pushing Checker.Any now) (noted notes (at + 1))
asks Pull rule notes low word reset at now = pull_asks rule now && next_asks rule
    (record (pulling now) { held = holding A (newest now.slots) now.held }) (noted notes (at + 1))
asks PullFlags rule notes low word reset at now =
    pull_asks rule now && next_asks rule (pulling now) (noted notes (at + 1))
asks Branch rule notes low word reset at now =
    target_asks rule now (noted notes (target at low)) && next_asks rule now (noted notes (at + 2))
asks Jump rule notes low word reset at now = jump_asks rule notes word reset now
asks Call rule notes low word reset at now = call_asks rule notes word at now
asks Return rule notes low word reset at now = return_asks rule now.blank now
asks Finish rule notes low word reset at now = finish_asks rule now
asks Kinds.Wild rule notes low word reset at now = wild_asks rule

-- the instruction at a place with a note breaks this rule
abbrev pub Breaks : Rule → Notes → (rom : ℕ → ℕ) → ℕ → Option Checker.Note → Type 0
Breaks rule notes rom at None = ⊥
Breaks rule notes rom at (Some now) =
    asks (kind_of (rom at)) rule notes (rom (at + 1)) (word_at rom (at + 1)) (word_at rom reset_vector) at now ≡ false

-- and the one of an answer; where it has none, the place is fine
abbrev pub BreaksBy : Option Rule → Notes → (rom : ℕ → ℕ) → ℕ → Option Checker.Note → Type 0
BreaksBy answer notes rom at note =
    MatchOption answer (fine_at notes rom at note ≡ true) (λ rule. Breaks rule notes rom at note)

-- a place isn't fine, and the rule that is named is broken there: so one is named
pub record IsBroken (bytes : List ℕ) (notes : List (Option Note)) (broken : Broken) : Type 0 where
  pub low : first ≤ broken.at
  pub high : broken.at < first + places
  pub bad : IsBadAt bytes notes broken.at
  pub breaks : (rom : ℕ → ℕ) → HasBytes bytes rom
      → BreaksBy broken.rule (notes_in notes) rom broken.at (noted (notes_in notes) broken.at)

-- an address is one of these
abbrev pub listed : List Broken → ℕ → Bool
listed [] at = false
listed (one ∷ more) at = nat_eq one.at at || listed more at

-- so many places are fine or one of these
abbrev pub HasBroken : (bytes : List ℕ) (notes : List (Option Note)) → List Broken → ℕ → Type 0
HasBroken bytes notes all n = (k : ℕ) → k < n → listed all (first + k) ≡ false → (rom : ℕ → ℕ) → HasBytes bytes rom
    → fine_at (notes_in notes) rom (first + k) (noted (notes_in notes) (first + k)) ≡ true

pub record AreBroken (bytes : List ℕ) (notes : List (Option Note)) (all : List Broken) : Type 0 where
  pub each : All (IsBroken bytes notes) all
  pub others : HasBroken bytes notes all places
