-- What each call of a game brings; and each step of a play goes from a stage to a stage, whatever bears its calls.
use Rattle.std.proofs.Common.{◌≡◌, inl, inr, ℕ, suc, ◌+◌, ◌-◌, ◌*◌, ◌<◌, ◌≤◌, Bool, true, false, List}
use Rattle.std.proofs.Common.{[], refl, sym, ap, ◌∙◌, subst, arith, eq-eqb, leb-true}
use Rattle.std.specs.Prelude.{◌&&◌, not, nat_le, nat_lt, if◌then◌else◌}
use Rattle.dvg_calls_6502.specs.Processor.{Cpu, Access, at_return}
use Rattle.dvg_calls_6502.specs.Amid.{is_code}
use Rattle.dvg_calls_6502.specs.Board.{seen}
use Rattle.dvg_calls_6502.specs.Code.{dvg_offer, dvg_pair, dvg_put}
use Rattle.dvg_game_rules.specs.Kinds.{kind_of}
use Rattle.dvg_game_rules.specs.Machine.{calling, restarts, word_at}
use Rattle.dvg_game_rules.specs.Checker.{first, places}
use Rattle.dvg_game_rules.specs.Safe.{IsSafe}
use Rattle.dvg_game_rules.specs.Alike.{idle, of_cpu}
use Rattle.dvg_game_rules.proofs.Facts.{both_true, under}
use Rattle.dvg_game_6502.specs.Play
use Rattle.dvg_game_6502.specs.Play.{IsByteWide, IsPlay, done, interrupted, made}
use Rattle.dvg_game_6502.specs.Games.{Content, Enters, IsTable, IsWord, calls_at, may_call, never_calls}
use Rattle.dvg_game_6502.proofs.CheckerFollows.{calls_as, is_finish}
use Rattle.dvg_game_6502.proofs.Bearers.{Bearer}
use Rattle.dvg_game_6502.proofs.Bytes.{stage_bytes}
use Rattle.dvg_game_6502.proofs.IntoDriver.{game_calls}
use Rattle.dvg_game_6502.proofs.DriverSteps.{driver_nmi, driver_step}
use Rattle.dvg_game_6502.proofs.GameSteps.{game_nmi, game_steps, made_none, nowhere}
use Rattle.dvg_game_6502.proofs.Leaps.{calling_may}
use Rattle.dvg_game_6502.proofs.NmiSteps.{comes_back, nmi_alone, nmi_ends, nmi_steps, outside}
use Rattle.dvg_game_6502.proofs.Returns.{driver_returns, ret_is}
use Rattle.dvg_game_6502.proofs.Stages.{InDriver, InGame, InNmi, IsAccepted, Stage, safe_at}

-- what each call of the game brings
abbrev pub Brought : (R : List ℕ) → Bearer R → (ℕ → ℕ) → ℕ → Type 0
Brought R B rom start = (cpu : Cpu) (since : ℕ) (log : List Access) (w : B.World) → IsPlay rom start cpu since log
    → (g : InGame R B rom start cpu since w) → Play.restarts cpu ≡ false
    → calling (kind_of (cpu.mem cpu.pc)) (of_cpu cpu g.st) ≡ true → let to = word_at cpu.mem (cpu.pc + 1) in
    (to ≡ dvg_offer → IsTable R rom cpu) × (to ≡ dvg_put → IsWord R cpu) × (to ≡ dvg_pair → ⊥)

module _ (R : List ℕ) (B : Bearer R) {rom : ℕ → ℕ} {start : ℕ} (game : IsAccepted rom start)
  where
    -- as the content of a game speaks of it
    enters : {cpu : Cpu} {since : ℕ} {w : B.World} → (g : InGame R B rom start cpu since w)
        → Play.restarts cpu ≡ false → calling (kind_of (cpu.mem cpu.pc)) (of_cpu cpu g.st) ≡ true → (e : ℕ)
        → word_at cpu.mem (cpu.pc + 1) ≡ e → Enters e cpu
    enters {cpu} {since} {w} g go is e at = (
      nowhere game g,
      ap (λ t. t && not (restarts (idle cpu))) (calls_as (kind_of (cpu.mem cpu.pc)) cpu g.st ∙ is) ∙ ap not go,
      ap (λ q. cpu.mem (cpu.pc + 1) + 256 * cpu.mem q) (let e : cpu.pc + 2 ≡ cpu.pc + 1 + 1 = omega arith in e) ∙ at,
    )

    pub by_content : Content R rom start → Brought R B rom start
    by_content content cpu since log w play g go is = (
      (λ at. content.tables play (enters g go is dvg_offer at)),
      (λ at. content.words play (enters g go is dvg_put at)),
      (λ at. content.no_pair play (enters g go is dvg_pair at)),
    )

    -- where no place of the ROM calls a routine, no play does
    never : (entry : ℕ) → never_calls rom entry ≡ true → {cpu : Cpu} {since : ℕ} {w : B.World}
        → (g : InGame R B rom start cpu since w) → calling (kind_of (cpu.mem cpu.pc)) (of_cpu cpu g.st) ≡ true
        → word_at cpu.mem (cpu.pc + 1) ≡ entry → ⊥
    unfolding places
    never entry none {cpu} {since} {w} g is at = no (calls_at rom entry cpu.pc) refl
      where
        safe : IsSafe rom (of_cpu cpu g.st)
        safe = safe_at game (of_cpu cpu g.st) g.run

        two : (nat_le first cpu.pc ≡ true) × (nat_lt cpu.pc (first + places) ≡ true)
        two = both_true (nat_le first cpu.pc) (nat_lt cpu.pc (first + places)) safe.inside

        low : first ≤ cpu.pc
        low = leb-true first cpu.pc two.0

        high : cpu.pc < first + places
        high = leb-true (suc cpu.pc) (first + places) two.1

        here : cpu.mem cpu.pc ≡ rom cpu.pc
        here = let one = low in let less = high in safe.rom_kept cpu.pc (omega (arith, one)) (omega (arith, less))

        word : word_at rom (cpu.pc + 1) ≡ entry
        word = let one = low in let less = high in
            ap (λ v. v + 256 * rom (cpu.pc + 1 + 1)) (sym (safe.rom_kept (cpu.pc + 1) (omega (arith, one)) (omega
            (arith, less))))
            ∙ ap (λ v. cpu.mem (cpu.pc + 1) + 256 * v)
            (sym (safe.rom_kept (cpu.pc + 1 + 1) (omega (arith, one)) (omega (arith, less)))) ∙ at

        there : calls_at rom entry cpu.pc ≡ true
        there = ap (λ t. t && may_call (kind_of (rom cpu.pc))) (eq-eqb (word_at rom (cpu.pc + 1)) entry word)
            ∙ sym (ap (λ b. may_call (kind_of b)) here)
            ∙ calling_may (kind_of (cpu.mem cpu.pc)) (of_cpu cpu g.st) is

        not_there : not (calls_at rom entry cpu.pc) ≡ true
        not_there = let one = low in let less = high in
            subst (λ q. not (calls_at rom entry q) ≡ true) (let e : first + (cpu.pc - first) ≡ cpu.pc = omega
            (arith, one) in e)
            (under places (λ i. not (calls_at rom entry (first + i))) none (cpu.pc - first) (omega (arith, one, less)))

        no : (t : Bool) → calls_at rom entry cpu.pc ≡ t → ⊥
        no true is = let e = sym (ap not is) ∙ not_there in cc
        no false is = let e = sym is ∙ there in cc

    pub by_bytes : never_calls rom dvg_offer ≡ true → never_calls rom dvg_put ≡ true → never_calls rom dvg_pair ≡ true
        → Brought R B rom start
    by_bytes offers puts pairs cpu since log w play g go is = (
      (λ at. absurd (never dvg_offer offers g is at)),
      (λ at. absurd (never dvg_put puts g is at)),
      (λ at. never dvg_pair pairs g is at),
    )

module _ (R : List ℕ) (B : Bearer R) {rom : ℕ → ℕ} {start : ℕ} (game : IsAccepted rom start)
  where
    -- after an instruction
    abbrev After : (ℕ → ℕ) → Cpu → ℕ → B.World → Type 0
    After flags cpu since u = Stage R B rom start (done flags cpu) (suc since) u

    -- an instruction, with what its accesses make
    pub stage_does : Brought R B rom start → {cpu : Cpu} {since : ℕ} {log : List Access} (w v : B.World) (flags : ℕ → ℕ)
        → IsPlay rom start cpu since log → Play.restarts cpu ≡ false → flags 0 < 256
        → B.Makes (made cpu (done flags cpu)) w v → Stage R B rom start cpu since w
        → Stage R B rom start (done flags cpu) (suc since) v
    stage_does brought {cpu} {since} {log} w v flags play go small makes before =
        by before (stage_bytes game flags small before)
      where
        aside : is_code cpu.pc ≡ false → w ≡ v
        aside out = B.nothing w v (subst (λ l. B.Makes l w v) (made_none cpu (done flags cpu) out) makes)

        told : is_code cpu.pc ≡ true → B.Makes (seen (done flags cpu).log) w v
        told place = subst (λ l. B.Makes l w v) (ap (λ (t : Bool). if t then seen (done flags cpu).log else
            []) place) makes

        in_game : (g : InGame R B rom start cpu since w) → IsByteWide (done flags cpu) → (t : Bool)
            → calling (kind_of (cpu.mem cpu.pc)) (of_cpu cpu g.st) ≡ t → After flags cpu since w
        in_game g bytes false is = inl (game_steps game g flags go is bytes)
        in_game g bytes true is = let brings = brought cpu since log w play g go is in
            inr (inl (game_calls game g go is flags bytes brings.0 brings.1 brings.2))

        in_driver : (d : InDriver R B rom start cpu w) → IsByteWide (done flags cpu) → (t : Bool)
            → at_return d.s cpu ≡ t → After flags cpu since v
        in_driver d bytes false is = inr (inl (driver_step game d flags v is bytes (told d.place)))
        in_driver d bytes true is =
            let same = ret_is game d is since flags in
            subst (After flags cpu since) (B.nothing w v (subst (λ (k : Cpu). B.Makes (seen k.log) w v) same
            (told d.place)))
            (inl (subst (λ k. InGame R B rom start k (suc since) w) (sym same)
            (driver_returns game d is since flags (subst IsByteWide same bytes))))

        in_nmi : (n : InNmi R B rom start cpu since w) → IsByteWide (done flags cpu) → (t : Bool)
            → is_finish (kind_of (cpu.mem cpu.pc)) ≡ t → After flags cpu since w
        in_nmi n bytes false is = inr (inr (nmi_steps game n flags go is bytes))
        in_nmi n bytes true is =
            let same = comes_back game n go is flags in
            inr (inl (subst (λ k. InDriver R B rom start k w) (sym same)
            (nmi_ends game n go is flags (subst IsByteWide same bytes))))

        by : Stage R B rom start cpu since w → IsByteWide (done flags cpu) → After flags cpu since v
        by (inl g) bytes = subst (After flags cpu since) (aside (nowhere game g))
            (in_game g bytes (calling (kind_of (cpu.mem cpu.pc)) (of_cpu cpu g.st)) refl)
        by (inr (inl d)) bytes = in_driver d bytes (at_return d.s cpu) refl
        by (inr (inr n)) bytes = subst (After flags cpu since) (aside (outside game n))
            (in_nmi n bytes (is_finish (kind_of (cpu.mem cpu.pc))) refl)

    -- an NMI
    pub stage_nmi : {cpu : Cpu} {since : ℕ} (w : B.World) → 860 ≤ since → Stage R B rom start cpu since w
        → Stage R B rom start (interrupted cpu) 0 w
    stage_nmi {cpu} {since} w late (inl g) = inl (game_nmi game g late)
    stage_nmi {cpu} {since} w late (inr (inl d)) = inr (inr (driver_nmi game d))
    stage_nmi {cpu} {since} w late (inr (inr n)) = absurd (nmi_alone game n late)
