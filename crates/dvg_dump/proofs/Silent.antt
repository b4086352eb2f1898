-- A run that draws no stroke takes no memory for one.
use Rattle.std.proofs.Common.{◌≡◌, ◌+◌, ◌*◌, ℕ, zero, suc, ◌<◌, ◌≤◌, List, [], ◌∷◌, ◌++◌, Bool, true, false, Option, Some, None, refl, sym, ap, ◌∙◌, subst, ⊎_elim, arith}
use Rattle.std.proofs.lemmas.Bool.{cases_lt, ltb-true}
use Rattle.std.proofs.lemmas.List.Elements.{All-get_or}
use Rattle.std.specs.Prelude.{IfSome, nat_lt}
use Rattle.dvg_code.specs.declared.instr.Instr.{Instr}
use Rattle.dvg_code.specs.declared.instr.Instr.TheVariants.{Vctr, Labs, Halt, Jsrl, Rtsl, Jmpl, Svec}
use Rattle.dvg_code.specs.Words.{IsWord, word_in}
use Rattle.dvg_gen.specs.declared.beam.Beam.{Beam}
use Rattle.dvg_gen.specs.declared.stroke.Stroke.{Stroke}
use Rattle.dvg_gen.specs.Bytes.{Whole, met}
use Rattle.dvg_gen.specs.Completing.{IsSeen, DrawsNothing}
use Rattle.dvg_gen.specs.Drawing.{drawn}
use Rattle.dvg_gen.specs.Machine.{Machine, HasTaken}
use Rattle.dvg_gen.specs.Run.{Visit, Goes, fate, wanted, beam_after, Adds, first, one, two, Runs, begins, fetches}
use Rattle.dvg_gen.specs.Told.{Told, nothing, wants}
use Rattle.dvg_gen.proofs.OneRun.{leaves_same, runs_same}
use Rattle.dvg_mem.specs.Memory.{IsImage, IsRom, fetched, rom_word}
use Rattle.dvg_mem.proofs.Roms.{rom_some, rom_there, word_fits}
use Rattle.dvg_dump.specs.Ends.{DrawsNoStroke, drawn_by}
use Rattle.dvg_dump.specs.Tracing.{Trail}
use Rattle.dvg_dump.proofs.OneEnd.{as_far, some_end}
use Rattle.dvg_dump.proofs.OneWordMore.{Followed, wanted_is}

-- the RAM's words have 16 bits
ram_fits : (ram : List ℕ) (w : ℕ) → IsImage ram → w < 0x400 → IsWord (word_in ram w)
ram_fits ram w image low =
    let count = image.count in
    let bytes = All-get_or (λ byte. byte < 256) ram (2 * w) 0 (omega arith) image.bytes in
    let high = All-get_or (λ byte. byte < 256) ram (2 * w + 1) 0 (omega arith) image.bytes in
    omega arith

some_same : {v w : ℕ} → Some v ≡ Some w → v ≡ w
some_same e = cc

-- the ROM's words do
rom_fits : (rom : List ℕ) (w : ℕ) → IsRom rom → (found : Option ℕ) → rom_word rom w ≡ found → IfSome found IsWord
rom_fits rom w is_rom None e = tt
rom_fits rom w is_rom (Some word) e =
    let within = rom_some rom w word e in
    subst IsWord (some_same (sym (rom_there rom w within.0 within.1) ∙ e)) (word_fits rom w is_rom within.0 within.1)

-- so do those of both
pub all_fit : (ram rom : List ℕ) → IsImage ram → IsRom rom → (w : ℕ) → IfSome (fetched ram rom w) IsWord
all_fit ram rom image is_rom w = by (nat_lt w 0x400) refl
  where
    by : (test : Bool) → nat_lt w 0x400 ≡ test → IfSome (fetched ram rom w) IsWord
    by true low = rw low (ram_fits ram w image (ltb-true _ _ low))
    by false high = rw high (rom_fits rom w is_rom (rom_word rom w) refl)

front_nil : (xs ys : List Stroke) → xs ++ ys ≡ [] → xs ≡ []
front_nil [] ys e = refl
front_nil (x ∷ xs) ys e = absurd (cc)

back_nil : (xs ys : List Stroke) → xs ++ ys ≡ [] → ys ≡ []
back_nil [] ys e = e
back_nil (x ∷ xs) ys e = absurd (cc)

-- what has drawn nothing after a word had drawn nothing before it
drew_before : {visits visits' : List Visit} {held held' : Option ℕ} {word : ℕ} → Adds visits held word visits' held' → drawn_by visits' ≡ [] → drawn_by visits ≡ []
drew_before (first p) e = e
drew_before {visits = visits} (one {code = code} s) e = front_nil (drawn_by visits) (drawn (beam_after nothing.first visits) code) e
drew_before {visits = visits} (two {code = code} s) e = front_nil (drawn_by visits) (drawn (beam_after nothing.first visits) code) e

-- and so had each shorter run
drew_shorter : {memory : ℕ → Option ℕ} {m n : ℕ} {vs us : List Visit} {held k : Option ℕ} → Runs memory m vs held → Runs memory n us k → n ≤ m → drawn_by vs ≡ [] → drawn_by us ≡ []
drew_shorter {memory} {us = us} {k = k} begins q few e = ap drawn_by (runs_same (subst (λ x. Runs memory x us k) (omega arith) q) begins).0
drew_shorter {memory} {n = n} {us = us} {k = k} (fetches {count = m} r g t a) q few e = ⊎_elim
    (λ less. drew_shorter r q (omega arith) (drew_before a e))
    (λ all. ap drawn_by (runs_same (subst (λ x. Runs memory x us k) (omega arith) q) (fetches r g t a)).0 ∙ e)
    (cases_lt n (suc m))

-- a vector that is seen draws a stroke
seen_draws : (beam : Beam) (code : Instr) → IsSeen code → drawn beam code ≡ [] → ⊥
seen_draws beam (Vctr scale dx dy zero) seen e = absurd (omega arith)
seen_draws beam (Vctr scale dx dy (suc z)) seen e = absurd (cc)
seen_draws beam (Labs x y scale) seen e = seen
seen_draws beam Halt seen e = seen
seen_draws beam (Jsrl address) seen e = seen
seen_draws beam Rtsl seen e = seen
seen_draws beam (Jmpl address) seen e = seen
seen_draws beam (Svec scale dx dy zero) seen e = absurd (omega arith)
seen_draws beam (Svec scale dx dy (suc z)) seen e = absurd (cc)

-- no run over a memory that draws no stroke has drawn one
drew_none : {memory : ℕ → Option ℕ} {n : ℕ} {us : List Visit} {k : Option ℕ} → DrawsNoStroke memory → ((w : ℕ) → IfSome (memory w) IsWord) → Runs memory n us k → n ≤ 65536 → drawn_by us ≡ []
drew_none {memory} none fits r few =
    let end = some_end memory fits in
    let far = as_far end.2 r few in
    drew_shorter far.2 r far.3 (none end.0 end.1 end.2)

-- so the next word completes no vector that is seen
no_seen : {memory : ℕ → Option ℕ} {words : ℕ} {visits : List Visit} (held found : Option ℕ) → DrawsNoStroke memory → ((w : ℕ) → IfSome (memory w) IsWord) → Runs memory words visits held
    → fate visits ≡ Goes → words < 65536 → memory (wanted visits held) ≡ found → DrawsNothing held (Whole found)
no_seen held None none fits r g low there = tt
no_seen {visits = visits} None (Some word) none fits r g low there = λ code spells seen.
    let drew = drew_none none fits (fetches r g there (one spells)) (omega arith) in
    let before = beam_after nothing.first visits in
    seen_draws before code seen (back_nil (drawn_by visits) (drawn before code) drew)
no_seen {visits = visits} (Some held) (Some word) none fits r g low there = λ code spells seen.
    let drew = drew_none none fits (fetches r g there (two spells)) (omega arith) in
    let before = beam_after nothing.first visits in
    seen_draws before code seen (back_nil (drawn_by visits) (drawn before code) drew)

-- nor does that of a generator that follows the run
pub draws_nothing : {traces : Bool} {memory : ℕ → Option ℕ} {words address : ℕ} {machine : Machine} {trail : Trail} (f : Followed traces memory words machine trail) → DrawsNoStroke memory
    → ((w : ℕ) → IfSome (memory w) IsWord) → words < 65536 → Some address ≡ wants f.follows.after.run → DrawsNothing machine.held (Whole (memory address))
draws_nothing {memory = memory} {address = address} {machine = machine} f none fits low at =
    let open_run : f.follows.after.run.is_open ≡ true = ap (λ run. run.is_open) f.follows.run ∙ refl in
    let held : machine.held ≡ f.held = (f.follows.after.stands.running open_run).held ∙ ap (λ run. run.held) f.follows.run in
    let there = ap memory (sym (wanted_is address f.follows at)) in
    subst (λ h. DrawsNothing h (Whole (memory address))) (sym held) (no_seen f.held (memory address) none fits f.follows.runs f.follows.goes low there)

-- a machine whose open run fetched a low byte holds the same first word
second_half : {old middle : Machine} {history : List Told} {low : ℕ} → old.is_open ≡ true → HasTaken old history None → HasTaken middle history (Some low)
    → (middle.held ≡ old.held) × (middle.low ≡ Some low)
second_half open_run before after =
    let same = leaves_same after.leaves before.leaves in
    let open_before : before.run.is_open ≡ true = sym before.stands.is_open ∙ open_run in
    let open_after : after.run.is_open ≡ true = ap (λ run. run.is_open) same ∙ open_before in
    ((after.stands.running open_after).held ∙ ap (λ run. run.held) same ∙ sym (before.stands.running open_before).held, after.low)

-- a word that draws nothing draws nothing at its high byte
pub both_draw_nothing : {old middle : Machine} {history : List Told} (word : Option ℕ) (whole low high : ℕ) → word ≡ Some whole → low + 256 * high ≡ whole → old.is_open ≡ true
    → HasTaken old history None → HasTaken middle history (Some low) → DrawsNothing old.held (Whole word) → DrawsNothing middle.held (met middle.low (Some high))
both_draw_nothing {old = old} {middle = middle} word whole low high there sum open_run before after nothing =
    let half = second_half open_run before after in
    let met_word = subst (λ w. DrawsNothing old.held (Whole w)) (there ∙ ap Some (sym sum)) nothing in
    subst (λ l. DrawsNothing middle.held (met l (Some high))) (sym half.1) (subst (λ h. DrawsNothing h (Whole (Some (low + 256 * high)))) (sym half.0) met_word)
