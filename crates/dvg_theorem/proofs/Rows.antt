-- Worked examples of legal logs, over a RAM and a ROM of zeros.
use Rattle.std.proofs.Common.{inl, ◌≡◌, ℕ, zero, suc, ◌+◌, ◌<◌, ◌≤◌, pos, negsuc, true, false, List, [], ◌∷◌, ◌++◌, Option, Some, None, refl, sym, ap, ◌∙◌, subst, lit<, lit≤, replicate, arith}
use Rattle.std.specs.Prelude.{slice_get, option_and_then, is_none}
use Rattle.std.proofs.lemmas.Option.{same_Some}
use Rattle.std.proofs.lemmas.List.Elements.{All-replicate, All-from_recursion}
use Rattle.std.proofs.lemmas.List.{length-replicate}
use Rattle.dvg_code.specs.declared.instr.Instr.TheVariants.{Vctr, Labs, Halt, Jmpl}
use Rattle.dvg_code.specs.Acts.{Act, Moves, Halts}
use Rattle.dvg_code.specs.Ranges.{InRange}
use Rattle.dvg_code.specs.Spelling.{Spells, labs, halt, jmpl}
use Rattle.dvg_code.proofs.Rows.{long_vector}
use Rattle.dvg_mem.specs.declared.half.Half.{Half}
use Rattle.dvg_mem.specs.declared.half.Half.TheVariants.{H0}
use Rattle.dvg_mem.specs.Memory.{IsImage, IsRom}
use Rattle.dvg_gen.specs.Bytes.{Met, Waits, Whole}
use Rattle.dvg_gen.specs.declared.stroke.Stroke.{Stroke}
use Rattle.dvg_gen.specs.Run.{Visit, first, one, two}
use Rattle.dvg_gen.specs.Told.{Told, Fed, Newest, nothing, begun, grown, Leaves, new, starts, takes}
use Rattle.dvg_frame.specs.declared.op.OpKind.{OpKind}
use Rattle.dvg_frame.specs.declared.op.OpKind.TheVariants.{Draw, Halt as Stop}
use Rattle.dvg_frame.specs.declared.fault.FrameFault.{FrameFault}
use Rattle.dvg_frame.specs.declared.place.Place.{Place}
use Rattle.dvg_frame.specs.declared.place.Place.TheVariants.{InFrame, InRom}
use Rattle.dvg_frame.specs.Ops.{IsDraft, IsOp}
use Rattle.dvg_frame.specs.Steps.{Stands, in_frame, op_act, GoesPast, Names, Bad, last, target, deep, bare, IsFine, Leads, on, jump, call, back, Reached, begin, step, Misses, misses, Closed, labs as labs_first}
use Rattle.dvg_frame.specs.Loops.{Walks, none, more, HasLoop}
use Rattle.dvg_frame.specs.Faults.{Accepts}
use Rattle.dvg_driver.specs.declared.action.Action.{Action}
use Rattle.dvg_driver.specs.declared.action.Action.TheVariants.{Peek, Wrote, Read, Sent}
use Rattle.dvg_driver.specs.Script.{Did, IsWhole}
use Rattle.dvg_driver.specs.Place as place
use Rattle.dvg_driver.specs.Place.{next_place, place_of_life, with_left, after_write}
use Rattle.dvg_driver.specs.Stands.{ShowsFlag}
use Rattle.dvg_log.specs.declared.event.Event.TheVariants.{Offer, Redraw, Tick, Strobe, Fetch}
use Rattle.dvg_log.specs.declared.entry.Entry.TheVariants.{Offered, Busy, NothingPublished, Acted, Started, NoStrobe, Low, Fetched, Done, Still}
use Rattle.dvg_log.specs.Log.{Line, ◌⟼◌, Log, ram, low_byte, history, open_run, life, IsBeingDrawn}
use Rattle.dvg_theorem.proofs.Bytes.{read}
use Rattle.dvg_log.specs.Legal.{IsLegal}
use Rattle.dvg_driver.proofs.Shapes.{place_life, rests_whole}
use Rattle.dvg_driver.proofs.Places.{whole_rests, write_fits}

abbrev zeros : List ℕ
zeros = replicate 2048 0

is_rom : IsRom zeros
is_rom = record { count = inl (length-replicate {A = ℕ} 2048 0); bytes = All-replicate (λ b. b < 256) 2048 0 (lit< tt) }

is_image : IsImage zeros
is_image = record { count = length-replicate {A = ℕ} 2048 0; bytes = All-replicate (λ b. b < 256) 2048 0 (lit< tt) }

-- labs 512 400 0; vctr 9 -100 100 7; halt
abbrev F1 : List OpKind
F1 = Draw (Labs 512 400 0) ∷ Draw (Vctr 9 (negsuc 99) (pos 100) 7) ∷ Stop ∷ []

vector_range : InRange (Vctr 9 (negsuc 99) (pos 100) 7)
vector_range = (lit≤ tt, lit≤ tt, lit≤ tt, lit≤ tt)

is_draft : IsDraft F1
is_draft = record { count = lit≤ tt; ops = All-from_recursion IsOp F1 (((lit≤ tt, lit≤ tt, lit≤ tt), refl), ((vector_range, refl), (tt, tt))) }

-- the pairs that F1 reaches
data At : Place → ℕ → Type 0 where
  at0 : At (InFrame 0) 0
  at1 : At (InFrame 1) 0
  at2 : At (InFrame 2) 0

abbrev number : Place → ℕ
number (InFrame i) = i
number (InRom a) = a

low : {p : Place} {d : ℕ} → At p d → number p ≤ 2
low at0 = lit≤ tt
low at1 = lit≤ tt
low at2 = lit≤ tt

module _ (R : List ℕ) where
  acts0 : {act : Act Place} {after : Place} → Stands F1 R (InFrame 0) act after → (act ≡ Moves (Labs 512 400 0)) × (after ≡ InFrame 1)
  acts0 (in_frame e d) = (d ∙ ap op_act (sym (same_Some _ _ e)), refl)

  acts1 : {act : Act Place} {after : Place} → Stands F1 R (InFrame 1) act after → (act ≡ Moves (Vctr 9 (negsuc 99) (pos 100) 7)) × (after ≡ InFrame 2)
  acts1 (in_frame e d) = (d ∙ ap op_act (sym (same_Some _ _ e)), refl)

  acts2 : {act : Act Place} {after : Place} → Stands F1 R (InFrame 2) act after → act ≡ Halts
  acts2 (in_frame e d) = d ∙ ap op_act (sym (same_Some _ _ e))

  -- each step goes on to a later operation
  lead : {p q : Place} {d e : ℕ} → At p d → Leads F1 R p d q e → At q e × (number p < number q)
  lead at0 (on s) = let a = acts0 s in subst (λ x. At x 0 × (0 < number x)) (sym a.1) (at1, lit< tt)
  lead at0 (jump {q = q} s) = let a = (acts0 s).0 in absurd (cc)
  lead at0 (call {q = q} s) = let a = (acts0 s).0 in absurd (cc)
  lead at0 (back {q = q} s) = let a = (acts0 s).0 in absurd (cc)
  lead at1 (on s) = let a = acts1 s in subst (λ x. At x 0 × (1 < number x)) (sym a.1) (at2, lit< tt)
  lead at1 (jump {q = q} s) = let a = (acts1 s).0 in absurd (cc)
  lead at1 (call {q = q} s) = let a = (acts1 s).0 in absurd (cc)
  lead at1 (back {q = q} s) = let a = (acts1 s).0 in absurd (cc)
  lead at2 (on {instr = c} s) = let a = acts2 s in absurd (cc)
  lead at2 (jump {q = q} s) = let a = acts2 s in absurd (cc)
  lead at2 (call {q = q} s) = let a = acts2 s in absurd (cc)
  lead at2 (back {q = q} s) = let a = acts2 s in absurd (cc)

  reached : {p : Place} {d : ℕ} → Reached F1 R p d → At p d
  reached begin = at0
  reached (step r f l) = (lead (reached r) l).0

  fine0 : (fault : FrameFault) → ¬ Bad F1 R (InFrame 0) 0 fault
  fine0 fault (last s g e) = omega arith
  fine0 fault (target a s n o) = let k = (acts0 s).0 in subst (λ x. Names x (InRom a)) k n
  fine0 fault (deep {to = to} s e) = let k = (acts0 s).0 in cc
  fine0 fault (bare s e) = let k = (acts0 s).0 in cc

  fine1 : (fault : FrameFault) → ¬ Bad F1 R (InFrame 1) 0 fault
  fine1 fault (last s g e) = omega arith
  fine1 fault (target a s n o) = let k = (acts1 s).0 in subst (λ x. Names x (InRom a)) k n
  fine1 fault (deep {to = to} s e) = let k = (acts1 s).0 in cc
  fine1 fault (bare s e) = let k = (acts1 s).0 in cc

  fine2 : (fault : FrameFault) → ¬ Bad F1 R (InFrame 2) 0 fault
  fine2 fault (last s g e) = let k = acts2 s in subst GoesPast k g
  fine2 fault (target a s n o) = let k = acts2 s in subst (λ x. Names x (InRom a)) k n
  fine2 fault (deep {to = to} s e) = let k = acts2 s in cc
  fine2 fault (bare s e) = let k = acts2 s in cc

  fine : {p : Place} {d : ℕ} → At p d → IsFine F1 R p d
  fine at0 = fine0
  fine at1 = fine1
  fine at2 = fine2

  names_none : (i j : ℕ) (op : OpKind) → slice_get F1 i ≡ Some op → ¬ Names (op_act op) (InFrame j)
  names_none zero j op e n = subst (λ x. Names (op_act x) (InFrame j)) (sym (same_Some _ _ e)) n
  names_none (suc zero) j op e n = subst (λ x. Names (op_act x) (InFrame j)) (sym (same_Some _ _ e)) n
  names_none (suc (suc zero)) j op e n = subst (λ x. Names (op_act x) (InFrame j)) (sym (same_Some _ _ e)) n
  names_none (suc (suc (suc i))) j op e n = absurd (cc)

  misses_none : (i : ℕ) → ¬ Misses F1 i
  misses_none i (misses {j = j} {op = op} e n far) = names_none i j op e n

  closed : Closed F1 R
  closed = record { begins = record { begins = labs_first; fits = lit≤ tt; targets = misses_none }; fine = λ p d r. fine (reached r) }

  walks_up : {d n : ℕ} {p q : Place} → At p d → Walks F1 R d p n q → number p + n ≤ 2
  walks_up at none = let few = low at in omega arith
  walks_up at (more leads walk) =
      let next_place = lead at leads in
      let up = next_place.1 in
      let rest = walks_up next_place.0 walk in
      omega arith

  no_loop : ¬ HasLoop F1 R
  no_loop loop = let few = walks_up (reached loop.reached) loop.walk in omega arith

  accepts : Accepts F1 R
  accepts = record { closed = closed; ends = no_loop }

abbrev LegalOverZeros : Log → Type 0
LegalOverZeros = IsLegal zeros zeros

-- one more action of the driver
abbrev did : Action → Line
did action = Tick ⟼ Acted action

ticked : (log : Log) (action : Action) (to : place.Place) → LegalOverZeros log → place_of_life (Did action ∷ life zeros log) ≡ Some to → ShowsFlag action (is_none (open_run log)) → LegalOverZeros (did action ∷ log)
ticked log action to legal at reads = ((place_life (Did action ∷ life zeros log) to at, reads), tt, legal)

-- writes of a frame part
abbrev wrote : List (ℕ × ℕ) → Log → Log
wrote [] log = log
wrote (write ∷ writes) log = wrote writes (did (Wrote write.0 write.1) ∷ log)

written : (writes rest : List (ℕ × ℕ)) (log : Log) → LegalOverZeros log → place_of_life (life zeros log) ≡ Some (with_left (writes ++ rest))
    → LegalOverZeros (wrote writes log) × (place_of_life (life zeros (wrote writes log)) ≡ Some (with_left rest))
written [] rest log legal at = (legal, at)
written (write ∷ writes) rest log legal at =
    let after = ap (option_and_then (λ p. next_place p (Did (Wrote write.0 write.1)))) at ∙ write_fits write.0 write.1 (writes ++ rest) in
    written writes rest (did (Wrote write.0 write.1) ∷ log) (ticked log (Wrote write.0 write.1) (with_left (writes ++ rest)) legal after tt) after

-- F1 is offered to a driver that has booted, written to half 1 and published, and a strobe is sent and arrives
abbrev offered : Log
offered = (Offer F1 ⟼ Offered) ∷ did (Read true) ∷ did Peek ∷ []

abbrev F1_writes : List (ℕ × ℕ)
F1_writes =
    (0x402, 0x90) ∷ (0x403, 0xA1) ∷ (0x404, 0x00) ∷ (0x405, 0x02) ∷ (0x406, 0x64) ∷ (0x407, 0x90) ∷ (0x408, 0x64) ∷ (0x409, 0x74) ∷ (0x40A, 0x00) ∷ (0x40B, 0xB0)
    ∷ (0x000, 0x01) ∷ (0x001, 0xE2) ∷ []

abbrev published : Log
published = wrote F1_writes offered

abbrev started : Log
started = (Strobe ⟼ Started) ∷ did Sent ∷ did (Read true) ∷ published

booted_legal : LegalOverZeros (did (Read true) ∷ did Peek ∷ [])
booted_legal = ticked (did Peek ∷ []) (Read true) _ (ticked [] Peek _ (is_rom, is_image) refl tt) refl refl

offered_legal : LegalOverZeros offered
offered_legal = ((accepts zeros, rests_whole (life zeros (did (Read true) ∷ did Peek ∷ [])) true refl), is_draft, booted_legal)

published_legal : LegalOverZeros published
published_legal = (written F1_writes [] offered offered_legal refl).0

started_legal : LegalOverZeros started
started_legal = (refl, tt, ticked (did (Read true) ∷ published) Sent _ (ticked published (Read true) _ published_legal refl refl) refl tt)

spells_jump : Spells (Jmpl 0x201) (0xE201 ∷ [])
spells_jump = jmpl (lit≤ tt) refl

spells_labs : Spells (Labs 512 400 0) (0xA190 ∷ 0x0200 ∷ [])
spells_labs = labs (lit≤ tt, lit≤ tt, lit≤ tt) refl refl

spells_halt : Spells Halt (0xB000 ∷ [])
spells_halt = halt (lit≤ tt) (lit< tt)

abbrev drew : List Stroke
drew = record { x0 = 262144; y0 = 204800; x1 = 210944; y1 = 256000; z = 7 } ∷ []

-- the two fetches of a word, of this low byte
abbrev fetched_word : ℕ → ℕ → ℕ → Log → Log
fetched_word address low word log = (Fetch ⟼ Fetched address word) ∷ (Fetch ⟼ Low address low) ∷ log

-- the words of F1 in half 1 but the last
abbrev first_word : Log → Log
first_word log = fetched_word 0x000 0x01 0xE201 log

abbrev two_words : Log → Log
two_words log = fetched_word 0x201 0x90 0xA190 (first_word log)

abbrev three_words : Log → Log
three_words log = fetched_word 0x202 0x00 0x0200 (two_words log)

abbrev four_words : Log → Log
four_words log = fetched_word 0x203 0x64 0x9064 (three_words log)

abbrev five_words : Log → Log
five_words log = fetched_word 0x204 0x64 0x7464 (four_words log)

abbrev finished : Log → Log
finished log = (Fetch ⟼ Done 0x205 0xB000 drew) ∷ (Fetch ⟼ Low 0x205 0x00) ∷ five_words log

abbrev visits1 : List Visit
visits1 = record { place = 0; code = Jmpl 0x201 } ∷ []

abbrev visits2 : List Visit
visits2 = record { place = 0x201; code = Labs 512 400 0 } ∷ visits1

abbrev visits3 : List Visit
visits3 = record { place = 0x203; code = Vctr 9 (negsuc 99) (pos 100) 7 } ∷ visits2

abbrev visits4 : List Visit
visits4 = record { place = 0x205; code = Halt } ∷ visits3

-- a run that has just begun, over the memory that has F1 published
module _ (log : Log) (before : Newest) (legal : LegalOverZeros log) (memory : ram zeros log ≡ ram zeros published) (leaves0 : Leaves (history zeros zeros log) (begun before)) (none : low_byte log ≡ None) where
  abbrev run : List Visit → Option ℕ → Newest
  run visits held = grown (begun before) visits held

  -- what a fetch meets, at an address of that memory
  met_at : (low : Option ℕ) (a : ℕ) (found : Met) → read (ram zeros published) zeros low a ≡ found → read (ram zeros log) zeros low a ≡ found
  met_at low a found is = ap (λ bytes. read bytes zeros low a) memory ∙ is

  leaves1 : Leaves (Fed (Some 0xE201) ∷ history zeros zeros log) (run visits1 None)
  leaves1 = takes leaves0 refl (one spells_jump)

  abbrev told1 : List Told
  told1 = Fed (Some 0xE201) ∷ history zeros zeros log

  leaves2 : Leaves (Fed (Some 0xA190) ∷ told1) (run visits1 (Some 0xA190))
  leaves2 = takes leaves1 refl (first (lit< tt))

  leaves3 : Leaves (Fed (Some 0x0200) ∷ Fed (Some 0xA190) ∷ told1) (run visits2 None)
  leaves3 = takes leaves2 refl (two spells_labs)

  abbrev told3 : List Told
  told3 = Fed (Some 0x0200) ∷ Fed (Some 0xA190) ∷ told1

  leaves4 : Leaves (Fed (Some 0x9064) ∷ told3) (run visits2 (Some 0x9064))
  leaves4 = takes leaves3 refl (first (lit< tt))

  leaves5 : Leaves (Fed (Some 0x7464) ∷ Fed (Some 0x9064) ∷ told3) (run visits3 None)
  leaves5 = takes leaves4 refl (two long_vector)

  leaves6 : Leaves (Fed (Some 0xB000) ∷ Fed (Some 0x7464) ∷ Fed (Some 0x9064) ∷ told3) (run visits4 None)
  leaves6 = takes leaves5 refl (one spells_halt)

  low1 : LegalOverZeros ((Fetch ⟼ Low 0x000 0x01) ∷ log)
  low1 = ((ap (λ low. read (ram zeros log) zeros low 0x000) none ∙ met_at None 0x000 (Waits 0x01) refl, record { run = begun before; leaves = leaves0; wanted = refl }), tt, legal)

  legal1 : LegalOverZeros (first_word log)
  legal1 = ((met_at (Some 0x01) 0x000 (Whole (Some 0xE201)) refl, record { asked = record { run = begun before; leaves = leaves0; wanted = refl }; later = run visits1 None; leaves_later = leaves1; replies = refl }), tt, low1)

  low2 : LegalOverZeros ((Fetch ⟼ Low 0x201 0x90) ∷ first_word log)
  low2 = ((met_at None 0x201 (Waits 0x90) refl, record { run = run visits1 None; leaves = leaves1; wanted = refl }), tt, legal1)

  legal2 : LegalOverZeros (two_words log)
  legal2 = ((met_at (Some 0x90) 0x201 (Whole (Some 0xA190)) refl, record { asked = record { run = run visits1 None; leaves = leaves1; wanted = refl }; later = run visits1 (Some 0xA190); leaves_later = leaves2; replies = refl }), tt, low2)

  low3 : LegalOverZeros ((Fetch ⟼ Low 0x202 0x00) ∷ two_words log)
  low3 = ((met_at None 0x202 (Waits 0x00) refl, record { run = run visits1 (Some 0xA190); leaves = leaves2; wanted = refl }), tt, legal2)

  legal3 : LegalOverZeros (three_words log)
  legal3 = ((met_at (Some 0x00) 0x202 (Whole (Some 0x0200)) refl, record { asked = record { run = run visits1 (Some 0xA190); leaves = leaves2; wanted = refl }; later = run visits2 None; leaves_later = leaves3; replies = refl }), tt, low3)

  low4 : LegalOverZeros ((Fetch ⟼ Low 0x203 0x64) ∷ three_words log)
  low4 = ((met_at None 0x203 (Waits 0x64) refl, record { run = run visits2 None; leaves = leaves3; wanted = refl }), tt, legal3)

  legal4 : LegalOverZeros (four_words log)
  legal4 = ((met_at (Some 0x64) 0x203 (Whole (Some 0x9064)) refl, record { asked = record { run = run visits2 None; leaves = leaves3; wanted = refl }; later = run visits2 (Some 0x9064); leaves_later = leaves4; replies = refl }), tt, low4)

  low5 : LegalOverZeros ((Fetch ⟼ Low 0x204 0x64) ∷ four_words log)
  low5 = ((met_at None 0x204 (Waits 0x64) refl, record { run = run visits2 (Some 0x9064); leaves = leaves4; wanted = refl }), tt, legal4)

  legal5 : LegalOverZeros (five_words log)
  legal5 = ((met_at (Some 0x64) 0x204 (Whole (Some 0x7464)) refl, record { asked = record { run = run visits2 (Some 0x9064); leaves = leaves4; wanted = refl }; later = run visits3 None; leaves_later = leaves5; replies = refl }), tt, low5)

  low6 : LegalOverZeros ((Fetch ⟼ Low 0x205 0x00) ∷ five_words log)
  low6 = ((met_at None 0x205 (Waits 0x00) refl, record { run = run visits3 None; leaves = leaves5; wanted = refl }), tt, legal5)

  legal6 : LegalOverZeros (finished log)
  legal6 = ((met_at (Some 0x00) 0x205 (Whole (Some 0xB000)) refl, record { asked = record { run = run visits3 None; leaves = leaves5; wanted = refl }; later = run visits4 None; leaves_later = leaves6; replies = refl }), tt, low6)

-- the first picture: F1 is offered, published and drawn at event 29
pub first_picture : LegalOverZeros (finished started)
first_picture = legal6 started nothing started_legal refl (starts new) refl

-- a strobe that is repeated after five words abandons the run; the picture of the next one has the one stroke
pub restarted_run : LegalOverZeros (finished ((Strobe ⟼ Started) ∷ five_words started))
restarted_run =
    legal6 ((Strobe ⟼ Started) ∷ five_words started) (grown (begun nothing) visits3 None) (refl, tt, legal5 started nothing started_legal refl (starts new) refl) refl
    (starts (leaves5 started nothing started_legal refl (starts new) refl)) refl

-- F1 again: accepted after its picture, and written to half 0
abbrev F1_again : List (ℕ × ℕ)
F1_again = (0x002, 0x90) ∷ (0x003, 0xA1) ∷ (0x004, 0x00) ∷ (0x005, 0x02) ∷ (0x006, 0x64) ∷ (0x007, 0x90) ∷ (0x008, 0x64) ∷ (0x009, 0x74) ∷ (0x00A, 0x00) ∷ (0x00B, 0xB0) ∷ []

abbrev written_again : Log
written_again = wrote F1_again ((Offer F1 ⟼ Offered) ∷ finished started)

is_written_again : LegalOverZeros written_again × (place_of_life (life zeros written_again) ≡ Some (with_left ((0x001, 0xE0) ∷ [])))
is_written_again =
    written F1_again ((0x001, 0xE0) ∷ []) ((Offer F1 ⟼ Offered) ∷ finished started) ((accepts zeros, rests_whole (life zeros (finished started)) false refl), is_draft, first_picture) refl

-- a strobe that comes again before the flip begins a run, and the flip comes between the two bytes of word zero
abbrev low_fetched : Log
low_fetched = (Fetch ⟼ Low 0x000 0x01) ∷ (Strobe ⟼ Started) ∷ written_again

abbrev between : Log
between = did (Wrote 0x001 0xE0) ∷ low_fetched

abbrev before_again : Newest
before_again = grown (begun nothing) visits4 None

leaves_again : Leaves (history zeros zeros between) (begun before_again)
leaves_again = starts (leaves6 started nothing started_legal refl (starts new) refl)

low_fetched_legal : LegalOverZeros low_fetched
low_fetched_legal = ((refl, record { run = begun before_again; leaves = leaves_again; wanted = refl }), tt, (refl, tt, is_written_again.0))

between_legal : LegalOverZeros between
between_legal =
    let after = ap (option_and_then (λ p. next_place p (Did (Wrote 0x001 0xE0)))) is_written_again.1 ∙ write_fits 0x001 0xE0 [] in
    ticked low_fetched (Wrote 0x001 0xE0) (with_left []) low_fetched_legal after tt

-- no half is drawn before the high byte is fetched
pub nothing_drawn_between : (half : Half) → ¬ IsBeingDrawn between half
nothing_drawn_between half drawn = none (0x000, 0xE000 + drawn.target) drawn.later (same_Some _ _ drawn.fetches)
  where
    none : (at : ℕ × ℕ) (later : List (ℕ × ℕ)) → [] ≡ later ++ at ∷ [] → ⊥
    none at [] e = cc
    none at (fetch ∷ later) e = cc

-- the run draws the half that the flip has published
abbrev again : Log
again = (Fetch ⟼ Fetched 0x000 0xE001) ∷ between

pub flip_between_the_bytes : LegalOverZeros again
flip_between_the_bytes =
    let spells : Spells (Jmpl 0x001) (0xE001 ∷ []) = jmpl (lit≤ tt) refl in
    let jumps : List Visit = record { place = 0; code = Jmpl 0x001 } ∷ [] in
    ((refl, record { asked = record { run = begun before_again; leaves = leaves_again; wanted = refl }; later = grown (begun before_again) jumps None; leaves_later = takes leaves_again refl (one spells); replies = refl }), tt, between_legal)

pub half_0_is_drawn : IsBeingDrawn again H0
half_0_is_drawn = record { later = []; target = 0x001; fetches = refl; in_half = (lit≤ tt, lit≤ tt) }

not_idle : ¬ IsWhole []
not_idle whole = let rests = whole_rests [] whole in let e = rests.1 in cc

-- before the driver has booted: no strobe was sent, no run is open, there is nothing to draw again, and it is busy
pub refusals : LegalOverZeros ((Offer F1 ⟼ Busy) ∷ (Redraw ⟼ NothingPublished) ∷ (Fetch ⟼ Still) ∷ (Strobe ⟼ NoStrobe) ∷ [])
refusals = ((accepts zeros, not_idle), is_draft, (refl, tt, (refl, tt, (refl, tt, (is_rom, is_image)))))
