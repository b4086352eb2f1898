-- What holds all along a run: the notes are right, and the stack is as the open calls left it.
use Rattle.std.proofs.Common.{◌≡◌, ℕ, ◌+◌, ◌*◌, ◌<◌, ◌≤◌, ◌⊎◌, Bool, true, refl, ap, ◌∙◌, arith, List, [], ◌∷◌}
use Rattle.std.specs.Prelude.{None, Some}
use Rattle.dvg_calls_6502.specs.Processor.{stack_place}
use Rattle.dvg_game_rules.specs.Machine.{State, IsLoaded, Came}
use Rattle.dvg_game_rules.specs.Checker.{Level, Main, Sub, Nmi, Note, Notes, noted, spare, most}
use Rattle.dvg_game_rules.proofs.Saved.{Holds, Saved}

-- the open calls, below a level that began with this S: each return address stands on the stack, and is noted
abbrev pub Below : Notes → Bool → (ℕ → ℕ) → Level → ℕ → List ℕ → Type 0
Below notes w mem Main top [] = top ≡ 255
Below notes w mem Sub top (back ∷ backs) = (new : Note) × (noted notes back ≡ Some new)
    × (mem (stack_place (top + 1)) + 256 * mem (stack_place (top + 2)) + 1 ≡ back)
    × (new.room + spare ≤ top + 2) × (new.awake ≡ true → w ≡ true)
    × Below notes w mem new.level (top + 2 + new.depth) backs
Below notes w mem level top backs = ⊥

-- where a frame may be blank at an RTS, it may be so where that leads
abbrev pub Fresh : Notes → Bool → Level → List ℕ → Type 0
Fresh notes ends Sub (back ∷ backs) = (new : Note) × (noted notes back ≡ Some new)
    × (ends ≡ true → new.blank ≡ true) × Fresh notes new.ends new.level backs
Fresh notes ends level backs = Unit {0}

pub fresh_less : (notes : Notes) (ends ends' : Bool) (level : Level) (backs : List ℕ) → (ends' ≡ true → ends ≡ true)
    → Fresh notes ends level backs → Fresh notes ends' level backs
fresh_less notes ends ends' Main backs less is = tt
fresh_less notes ends ends' Sub [] less is = tt
fresh_less notes ends ends' Sub (back ∷ backs) less is = (is.0, is.1, (λ e. is.2 (less e)), is.3)
fresh_less notes ends ends' Nmi backs less is = tt

-- the program stands at a place
pub record Stands (notes : Notes) (st : State) (pc s : ℕ) : Type 0 where
  pub now : Note
  pub is : noted notes pc ≡ Some now
  pub below : Below notes st.awake st.mem now.level (s + now.depth) st.calls
  pub fresh : Fresh notes now.ends now.level st.calls
  pub room : now.room + spare ≤ s
  pub awake : now.awake ≡ true → st.awake ≡ true

pub record Runs (notes : Notes) (st : State) : Type 0 where
  pub stands : Stands notes st st.pc st.s
  pub outside : st.amid ≡ None
  pub homeless : st.home ≡ None
  pub blank : st.blank ≡ true → stands.now.blank ≡ true

-- the NMI runs, and the program stands where it came
pub record Handles (notes : Notes) (st : State) : Type 0 where
  pub now : Note
  pub is : noted notes st.pc ≡ Some now
  pub level : now.level ≡ Nmi
  pub came : Came
  pub amid : st.amid ≡ Some came
  pub place : came.s ≡ st.s + now.depth + 3
  pub word : st.mem (stack_place (st.s + now.depth + 2)) + 256 * st.mem (stack_place (st.s + now.depth + 3)) ≡ came.pc
  pub flags : st.mem (stack_place (st.s + now.depth + 1)) ≡ came.p
  -- where the game goes on: there, or at its call of the driver
  pub pc : ℕ
  pub s : ℕ
  pub home : ((st.home ≡ None) × (came.pc ≡ pc) × (came.s ≡ s)) ⊎ (st.home ≡ Some (pc, s))
  pub near : came.s ≤ s
  pub stands : Stands notes st pc s
  pub blank : st.blank ≡ true → stands.now.blank ≡ true
  pub holds : Holds now.held came st
  pub saved : Saved now.slots came st.mem st.s
  pub room : now.room ≤ st.s
  pub time : st.since + now.fuel ≤ most
  pub awake : now.awake ≡ true → st.awake ≡ true

pub record Good (rom : ℕ → ℕ) (notes : Notes) (st : State) : Type 0 where
  pub loaded : IsLoaded rom st.mem
  pub stage : Runs notes st ⊎ Handles notes st

-- S is a byte
pub low : (notes : Notes) (w : Bool) (mem : ℕ → ℕ) (level : Level) (top : ℕ) (backs : List ℕ)
    → Below notes w mem level top backs → top ≤ 255
low notes w mem Main top [] is = omega arith
low notes w mem Main top (back ∷ backs) is = absurd is
low notes w mem Sub top [] is = absurd is
low notes w mem Sub top (back ∷ backs) is =
    let rest = low notes w mem is.0.level (top + 2 + is.0.depth) backs is.5 in omega arith
low notes w mem Nmi top backs is = absurd is

pub small : (k : ℕ) → k ≤ 255 → stack_place k ≡ 0x100 + k
small k h = omega arith

-- what changes below leaves them
pub keeps : (notes : Notes) (w w' : Bool) (mem mem' : ℕ → ℕ) (level : Level) (top : ℕ) (backs : List ℕ)
    → (w ≡ true → w' ≡ true) → ((k : ℕ) → top < k → k ≤ 255 → mem' (stack_place k) ≡ mem (stack_place k))
    → Below notes w mem level top backs → Below notes w' mem' level top backs
keeps notes w w' mem mem' Main top [] up same is = is
keeps notes w w' mem mem' Main top (back ∷ backs) up same is = absurd is
keeps notes w w' mem mem' Sub top [] up same is = absurd is
keeps notes w w' mem mem' Sub top (back ∷ backs) up same is =
    let new = is.0 in
    let rest = low notes w mem new.level (top + 2 + new.depth) backs is.5 in
    let one = same (top + 1) (omega arith) (omega arith) in
    let two = same (top + 2) (omega arith) (omega arith) in (
      new,
      is.1,
      ap (λ b. b + 256 * mem' (stack_place (top + 2)) + 1) one
          ∙ ap (λ b. mem (stack_place (top + 1)) + 256 * b + 1) two ∙ is.2,
      is.3,
      (λ t. up (is.4 t)),
      keeps notes w w' mem mem' new.level (top + 2 + new.depth) backs up (λ k above high. same k (omega arith) high)
          is.5,
    )
keeps notes w w' mem mem' Nmi top backs up same is = absurd is

-- the same, where no call is open whatever is awake
pub keeps_at : (notes : Notes) (w w' : Bool) (mem mem' : ℕ → ℕ) (level : Level) (top : ℕ) (backs : List ℕ)
    → (level ≡ Sub → w ≡ true → w' ≡ true)
    → ((k : ℕ) → top < k → k ≤ 255 → mem' (stack_place k) ≡ mem (stack_place k))
    → Below notes w mem level top backs → Below notes w' mem' level top backs
keeps_at notes w w' mem mem' Main top [] up same is = is
keeps_at notes w w' mem mem' Main top (back ∷ backs) up same is = absurd is
keeps_at notes w w' mem mem' Sub top backs up same is = keeps notes w w' mem mem' Sub top backs (up refl) same is
keeps_at notes w w' mem mem' Nmi top backs up same is = absurd is
