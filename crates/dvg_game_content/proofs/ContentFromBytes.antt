-- What a game offers and puts, by its bytes: each play stands somewhere, and knows what it brings.
use Rattle.std.proofs.Common.{◌≡◌, ◌⊎◌, inl, inr, ℕ, suc, ◌+◌, ◌*◌, ◌<◌, Bool, true, false, List}
use Rattle.std.proofs.Common.{[], ◌++◌, refl, sym, ap, ◌∙◌, subst, arith}
use Rattle.std.specs.Prelude.{◌||◌, not, if◌then◌else◌}
use Rattle.dvg_frame.specs.declared.op.OpKind.{OpKind}
use Rattle.dvg_calls_6502.specs.Amid.{changed}
use Rattle.dvg_calls_6502.specs.Processor.{Cpu, Access, at_return}
use Rattle.dvg_calls_6502.specs.Board.{seen}
use Rattle.dvg_calls_6502.specs.Code.{dvg_offer, dvg_pair, dvg_put}
use Rattle.dvg_game_rules.specs.Kinds.{Kind, Jump, Call, kind_of}
use Rattle.dvg_game_rules.specs.Machine.{calling, restarts, word_at}
use Rattle.dvg_game_rules.specs.Checker.{Notes, accepts}
use Rattle.dvg_game_rules.specs.Safe.{IsCalled}
use Rattle.dvg_game_rules.specs.Alike.{idle, of_cpu}
use Rattle.dvg_game_rules.proofs.Facts.{both_true, not_true, under}
use Rattle.dvg_game_rules.proofs.RunsAreSafe.{checked_is_safe}
use Rattle.dvg_game_6502.specs.Play
use Rattle.dvg_game_6502.specs.Play.{IsByteWide, IsPlay, begins, does, nmi, turns, done, interrupted, made}
use Rattle.dvg_game_6502.specs.Games.{Content, Enters, IsTable, IsWord}
use Rattle.dvg_game_6502.proofs.CheckerFollows.{calls_as, is_finish, restarts_same}
use Rattle.dvg_game_6502.proofs.Bearers.{Bearer}
use Rattle.dvg_game_6502.proofs.Bytes.{stage_bytes}
use Rattle.dvg_game_6502.proofs.IntoDriver.{game_calls}
use Rattle.dvg_game_6502.proofs.DriverSteps.{driver_nmi, driver_step}
use Rattle.dvg_game_6502.proofs.GameSteps.{game_begins, game_nmi, game_steps, made_none, nowhere}
use Rattle.dvg_game_6502.proofs.Leaps.{by_leap, is_called}
use Rattle.dvg_game_6502.proofs.NmiSteps.{comes_back, nmi_alone, nmi_ends, nmi_steps, outside}
use Rattle.dvg_game_6502.proofs.OnLog.{on_log}
use Rattle.dvg_game_6502.proofs.Outside.{driver_turns, game_turns, nmi_turns}
use Rattle.dvg_game_6502.proofs.Returns.{driver_returns, ret_is}
use Rattle.dvg_game_6502.proofs.Stages.{InDriver, InGame, InNmi, IsAccepted, Stage}
use Rattle.dvg_game_content.specs.Brings.{Known, Any, Is, Under, By, Ways, brings_by, brought_by, fact, far, for_each, is_leap, of_each}
use Rattle.dvg_game_content.specs.Words.{may_offer, may_put}
use Rattle.dvg_game_content.specs.Law.{ContentByBytes, ContentByTests, IsTableAt, IsWordOf}
use Rattle.dvg_game_content.proofs.InstructionLearns.{IsKnown, HoldsAt}
use Rattle.dvg_game_content.proofs.Landing.{Noted, kind_there, noted_run, word_there}
use Rattle.dvg_game_content.proofs.RegistersKnown.{Mine, Told, mine_begins, mine_nmi, mine_returns, mine_steps, mine_turns}
use Rattle.dvg_game_content.proofs.Words.{may_is, may_offer_is}

-- what holds of each pair of bytes that A and X may be holds of what they are
each_is : (k l : Known) (most : ℕ) (p : ℕ → ℕ → Bool) (a x y : ℕ) → IsKnown k a y → IsKnown l x y → y < most
    → for_each k l most p ≡ true → p a x ≡ true
each_is (Is m) (Is n) most p a x y one other less all = (λ j. p (one j) (other j)) ∙ all
each_is (Is m) (By g) most p a x y one other less all = (λ j. p (one j) (other j)) ∙ under most (λ y. p m (g y)) all y less
each_is (By f) (Is n) most p a x y one other less all = (λ j. p (one j) (other j)) ∙ under most (λ y. p (f y) n) all y less
each_is (By f) (By g) most p a x y one other less all =
    (λ j. p (one j) (other j)) ∙ under most (λ y. p (f y) (g y)) all y less
each_is Any l most p a x y one other less all = absurd (cc)
each_is (Under m) l most p a x y one other less all = absurd (cc)
each_is (Is m) (Under n) most p a x y one other less all = absurd (cc)
each_is (By f) (Under n) most p a x y one other less all = absurd (cc)
each_is (Is m) Any most p a x y one other less all = absurd (cc)
each_is (By f) Any most p a x y one other less all = absurd (cc)

leap_is : (kind : Kind) → (kind ≡ Call) ⊎ (kind ≡ Jump) → is_leap kind ≡ true
leap_is kind (inl is) = ap is_leap is
leap_is kind (inr is) = ap is_leap is

or_else : (t u : Bool) → t ≡ true → (not t || u) ≡ true → u ≡ true
or_else true u is fine = fine
or_else false u is fine = absurd (cc)

module _ (R : List ℕ) (rom : ℕ → ℕ) (start : ℕ) (notes : Notes) (ways : Ways) (offers : ℕ → Bool) (puts : ℕ → ℕ → Bool)
    (accepted : accepts rom start notes ≡ true) (brought : brings_by offers puts rom start notes ways ≡ true)
    (offered : (t : ℕ) → offers t ≡ true → IsTableAt R rom t) (put : (a x : ℕ) → a < 256 → puts a x ≡ true → IsWordOf R a x) where
  -- what a call of the driver brings
  pub record Bringing (cpu : Cpu) : Type 0 where
    pub tables : word_at cpu.mem (cpu.pc + 1) ≡ dvg_offer → IsTable R rom cpu
    pub words : word_at cpu.mem (cpu.pc + 1) ≡ dvg_put → IsWord R cpu
    pub no_pair : word_at cpu.mem (cpu.pc + 1) ≡ dvg_pair → ⊥

  bringing : (cpu : Cpu) (since : ℕ) → Mine R rom start notes ways offers puts accepted brought cpu since → IsByteWide cpu
      → Play.restarts cpu ≡ false → calling (kind_of (cpu.mem cpu.pc)) (idle cpu) ≡ true → Bringing cpu
  bringing cpu since m bytes go is = record {
    tables = λ to.
        let t = offered (cpu.a + 256 * cpu.x) (each (λ a x. offers (a + 256 * x))
        (subst (λ w. brought_by offers puts (fact ways rom far cpu.pc) w ≡ true) (word ∙ to) all)) in
        record { draft = t.draft; table = t.table; low = t.low; ends = t.ends; checked = t.checked };
    words = λ to.
        let w = put cpu.a cpu.x bytes.a (each puts
        (subst (λ w. brought_by offers puts (fact ways rom far cpu.pc) w ≡ true) (word ∙ to) all)) in
        record { op = w.op; word = w.word; put = w.put; is_op = w.is_op };
    no_pair = λ to. let e = subst (λ w. brought_by offers puts (fact ways rom far cpu.pc) w ≡ true) (word ∙ to) all
        in cc;
  }
    where
      is_there : calling (kind_of (cpu.mem cpu.pc)) (of_cpu cpu m.st) ≡ true
      is_there = sym (calls_as (kind_of (cpu.mem cpu.pc)) cpu m.st) ∙ is

      called : IsCalled (of_cpu cpu m.st) (word_at cpu.mem (cpu.pc + 1))
      called = is_called (kind_of (cpu.mem cpu.pc)) (of_cpu cpu m.st)
          (checked_is_safe rom start notes accepted (of_cpu cpu m.st) m.run).next
          (sym (restarts_same cpu m.st) ∙ go) is_there

      n : Noted R rom start notes ways offers puts accepted brought (of_cpu cpu m.st)
      n = noted_run R rom start notes ways offers puts accepted brought m.run

      word : word_at rom (cpu.pc + 1) ≡ word_at cpu.mem (cpu.pc + 1)
      word = word_there R rom start notes ways offers puts accepted brought (of_cpu cpu m.st) n

      all : brought_by offers puts (fact ways rom far cpu.pc) (word_at rom (cpu.pc + 1)) ≡ true
      all = or_else (is_leap (kind_of (rom cpu.pc))) _
          (ap is_leap (kind_there R rom start notes ways offers puts accepted brought (of_cpu cpu m.st) n)
          ∙ leap_is (kind_of (cpu.mem cpu.pc)) (by_leap (kind_of (cpu.mem cpu.pc)) (of_cpu cpu m.st) is_there)) n.brings

      holds : HoldsAt (fact ways rom far cpu.pc) cpu
      holds = (subst (λ o. Told R rom start notes ways offers puts accepted brought o cpu) called.program m.told) far

      each : (p : ℕ → ℕ → Bool) → of_each (fact ways rom far cpu.pc) p ≡ true → p cpu.a cpu.x ≡ true
      each p fine = each_is (fact ways rom far cpu.pc).a (fact ways rom far cpu.pc).x (fact ways rom far cpu.pc).most p
          cpu.a cpu.x cpu.y holds.a_is holds.x_is holds.below fine

  abbrev B : Bearer R
  B = on_log R

  game : IsAccepted rom start
  game = record { notes = notes; yes = accepted }

  -- a play stands somewhere, and in the game it is known what is brought
  abbrev Extra : {cpu : Cpu} {since : ℕ} {log : List Access} → Stage R B rom start cpu since log → Type 0
  Extra {cpu} {since} (inl g) = Mine R rom start notes ways offers puts accepted brought cpu since
  Extra (inr other) = Unit {0}

  abbrev Known_stage : Cpu → ℕ → List Access → Type 0
  Known_stage cpu since log = (s : Stage R B rom start cpu since log) × Extra s

  stage : {cpu : Cpu} {since : ℕ} {log : List Access} → IsPlay rom start cpu since log → Known_stage cpu since log
  stage (begins cpu since is) = (
    inl (game_begins R B rom start cpu since [] [] (refl, inl refl)
        (λ b low high. absurd (omega (arith, high))) is),
    mine_begins R rom start notes ways offers puts accepted brought cpu since is,
  )
  stage (does {cpu} {since} {log} flags play go small) = let before = stage play in
      by before (stage_bytes game flags small before.0)
    where
      in_game : (g : InGame R B rom start cpu since log) → Mine R rom start notes ways offers puts accepted brought cpu since
          → IsByteWide (done flags cpu) → (t : Bool) → calling (kind_of (cpu.mem cpu.pc)) (idle cpu) ≡ t
          → Known_stage (done flags cpu) (suc since) (made cpu (done flags cpu) ++ log)
      in_game g m bytes false is = (
        inl (subst (λ l. InGame R B rom start (done flags cpu) (suc since) (l ++ log))
            (sym (made_none cpu (done flags cpu) (nowhere game g)))
            (game_steps game g flags go (sym (calls_as (kind_of (cpu.mem cpu.pc)) cpu g.st) ∙ is) bytes)),
        mine_steps R rom start notes ways offers puts accepted brought cpu since m g.bytes flags go
            (sym (calls_as (kind_of (cpu.mem cpu.pc)) cpu m.st) ∙ is) bytes,
      )
      in_game g m bytes true is = let b = bringing cpu since m g.bytes go is in (
        inr (inl (subst (λ l. InDriver R B rom start (done flags cpu) (l ++ log))
            (sym (made_none cpu (done flags cpu) (nowhere game g)))
            (game_calls game g go (sym (calls_as (kind_of (cpu.mem cpu.pc)) cpu g.st) ∙ is) flags bytes b.tables b.words
            b.no_pair))),
        tt,
      )

      shows : (d : InDriver R B rom start cpu log) → made cpu (done flags cpu) ++ log ≡ seen (done flags cpu).log ++ log
      shows d = ap (λ (t : Bool). (if t then seen (done flags cpu).log else []) ++ log) d.place

      in_driver : (d : InDriver R B rom start cpu log) → IsByteWide (done flags cpu) → (t : Bool) → at_return d.s cpu ≡ t
          → Known_stage (done flags cpu) (suc since) (made cpu (done flags cpu) ++ log)
      in_driver d bytes false is = (inr (inl (driver_step game d flags _ is bytes (shows d))), tt)
      in_driver d bytes true is =
          let same = ret_is game d is since flags in (
            inl (subst (λ w. InGame R B rom start (done flags cpu) (suc since) w) (B.nothing log _
                (subst (λ (k : Cpu). made cpu (done flags cpu) ++ log ≡ seen k.log ++ log) same (shows d)))
                (subst (λ k. InGame R B rom start k (suc since) log) (sym same)
                (driver_returns game d is since flags (subst IsByteWide same bytes)))),
            subst (λ k. Mine R rom start notes ways offers puts accepted brought k (suc since)) (sym same)
                (mine_returns R rom start notes ways offers puts accepted brought game cpu log d is since flags
                (subst IsByteWide same bytes)),
          )

      in_nmi : (n : InNmi R B rom start cpu since log) → IsByteWide (done flags cpu) → (t : Bool)
          → is_finish (kind_of (cpu.mem cpu.pc)) ≡ t
          → Known_stage (done flags cpu) (suc since) (made cpu (done flags cpu) ++ log)
      in_nmi n bytes false is = (
        inr (inr (subst (λ l. InNmi R B rom start (done flags cpu) (suc since) (l ++ log))
            (sym (made_none cpu (done flags cpu) (outside game n))) (nmi_steps game n flags go is bytes))),
        tt,
      )
      in_nmi n bytes true is =
          let same = comes_back game n go is flags in (
            inr (inl (subst (λ l. InDriver R B rom start (done flags cpu) (l ++ log))
                (sym (made_none cpu (done flags cpu) (outside game n)))
                (subst (λ k. InDriver R B rom start k log) (sym same)
                (nmi_ends game n go is flags (subst IsByteWide same bytes))))),
            tt,
          )

      by : Known_stage cpu since log → IsByteWide (done flags cpu)
          → Known_stage (done flags cpu) (suc since) (made cpu (done flags cpu) ++ log)
      by (inl g, m) bytes = in_game g m bytes (calling (kind_of (cpu.mem cpu.pc)) (idle cpu)) refl
      by (inr (inl d), none) bytes = in_driver d bytes (at_return d.s cpu) refl
      by (inr (inr n), none) bytes = in_nmi n bytes (is_finish (kind_of (cpu.mem cpu.pc))) refl
  stage (nmi {cpu} {since} {log} play late) = by (stage play)
    where
      by : Known_stage cpu since log → Known_stage (interrupted cpu) 0 log
      by (inl g, m) = (
        inl (game_nmi game g late),
        mine_nmi R rom start notes ways offers puts accepted brought cpu since m g.bytes late,
      )
      by (inr (inl d), none) = (inr (inr (driver_nmi game d)), tt)
      by (inr (inr n), none) = absurd (nmi_alone game n late)
  stage (turns {cpu} {since} {log} mem play small same) = by (stage play)
    where
      by : Known_stage cpu since log → Known_stage (changed mem cpu) since log
      by (inl g, m) = (
        inl (game_turns R B rom start cpu since log mem small same g),
        mine_turns R rom start notes ways offers puts accepted brought cpu since m g.bytes mem same,
      )
      by (inr (inl d), none) = (inr (inl (driver_turns R B rom start cpu since log mem small same d)), tt)
      by (inr (inr n), none) = (inr (inr (nmi_turns R B rom start cpu since log mem small same n)), tt)

  -- a call of the driver is come to in the game alone
  comes : {cpu : Cpu} {since : ℕ} {log : List Access} → IsPlay rom start cpu since log → (e : ℕ) → Enters e cpu
      → (Bringing cpu) × (word_at cpu.mem (cpu.pc + 1) ≡ e)
  comes {cpu} {since} {log} play e enters = (by (stage play), word)
    where
      two : (calling (kind_of (cpu.mem cpu.pc)) (idle cpu) ≡ true) × (not (restarts (idle cpu)) ≡ true)
      two = both_true (calling (kind_of (cpu.mem cpu.pc)) (idle cpu)) (not (restarts (idle cpu))) enters.1

      go : Play.restarts cpu ≡ false
      go = not_true (restarts (idle cpu)) two.1

      word : word_at cpu.mem (cpu.pc + 1) ≡ e
      word = ap (λ q. cpu.mem (cpu.pc + 1) + 256 * cpu.mem q) (let e : cpu.pc + 1 + 1 ≡ cpu.pc + 2 = omega arith in e)
          ∙ enters.2

      by : Known_stage cpu since log → Bringing cpu
      by (inl g, m) = bringing cpu since m g.bytes go two.0
      by (inr (inl d), none) = absurd (let one = d.place in let out = enters.0 in cc)
      by (inr (inr n), none) = absurd (let out = (is_called (kind_of (cpu.mem cpu.pc)) (of_cpu cpu n.st)
          (checked_is_safe rom start notes accepted (of_cpu cpu n.st) n.run).next
          (sym (restarts_same cpu n.st) ∙ go)
          (sym (calls_as (kind_of (cpu.mem cpu.pc)) cpu n.st) ∙ two.0)).program in let e = sym n.amid ∙ out in cc)

  pub content : Content R rom start
  content = record {
    tables = λ play enters. let c = comes play dvg_offer enters in c.0.tables c.1;
    words = λ play enters. let c = comes play dvg_put enters in c.0.words c.1;
    no_pair = λ play enters. let c = comes play dvg_pair enters in c.0.no_pair c.1;
  }

pub content_by_tests : ContentByTests
content_by_tests R rom start notes ways offers puts accepted brought offered put =
    content R rom start notes ways offers puts accepted brought offered put

pub content_by_bytes : ContentByBytes
content_by_bytes R rom start notes ways drafts accepted brought =
    content R rom start notes ways (may_offer R rom drafts) (may_put R) accepted brought
    (λ t is. let o = may_offer_is R rom drafts t is in
    record { draft = drafts t; table = o.table; low = o.low; ends = o.ends; checked = o.checked })
    (λ a x small is. let w = may_is R a x small is in record { op = w.op; word = w.word; put = w.put; is_op = w.is_op })
