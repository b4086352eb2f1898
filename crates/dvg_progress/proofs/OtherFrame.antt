-- Another frame that is accepted in between is drawn instead: shown_in_time needs that none is.
use Rattle.std.proofs.Common.{◌≡◌, ℕ, zero, suc, ◌+◌, ◌<◌, ◌≤◌, true, false, List, [], ◌∷◌, ◌++◌, Option, Some, refl, sym, ap, ◌∙◌, subst, lit<, lit≤, arith}
use Rattle.std.specs.Prelude.{None, is_none, slice_get}
use Rattle.std.proofs.lemmas.Option.{same_Some}
use Rattle.std.proofs.lemmas.List.Elements.{All-from_recursion}
use Rattle.dvg_code.specs.declared.instr.Instr.TheVariants.{Labs, Halt, Jmpl}
use Rattle.dvg_code.specs.Acts.{Act, Moves, Halts}
use Rattle.dvg_code.specs.Spelling.{labs, halt, jmpl}
use Rattle.dvg_gen.specs.Run.{Visit, first as opens, one as alone, two as closes}
use Rattle.dvg_gen.specs.Told.{Newest, nothing, grown, begun as begun_run, starts, new}
use Rattle.dvg_frame.specs.declared.op.OpKind.{OpKind}
use Rattle.dvg_frame.specs.declared.op.OpKind.TheVariants.{Draw, Halt as Stop}
use Rattle.dvg_frame.specs.declared.fault.FrameFault.{FrameFault}
use Rattle.dvg_frame.specs.declared.place.Place.{Place}
use Rattle.dvg_frame.specs.declared.place.Place.TheVariants.{InFrame, InRom}
use Rattle.dvg_frame.specs.Ops.{IsDraft, IsOp}
use Rattle.dvg_frame.specs.Steps.{Stands, in_frame, op_act, GoesPast, Names, Bad, last as goes_past, target, deep, bare, Leads, on, jump, call, back, Reached, begin, step, Misses, misses, labs as labs_first}
use Rattle.dvg_frame.specs.Loops.{Walks, none, more as further}
use Rattle.dvg_frame.specs.Faults.{Accepts}
use Rattle.dvg_driver.specs.declared.action.Action.{Action}
use Rattle.dvg_driver.specs.declared.action.Action.TheVariants.{Wrote, Read, Sent}
use Rattle.dvg_driver.specs.Place.{Place as Point, place_of_life}
use Rattle.dvg_driver.specs.Stands.{ShowsFlag}
use Rattle.dvg_driver.proofs.Shapes.{rests_whole}
use Rattle.dvg_log.specs.declared.event.Event.TheVariants.{Offer, Strobe, Fetch, ResetGen, ResetCpu}
use Rattle.dvg_log.specs.declared.entry.Entry.TheVariants.{Offered, Started, Low, Done}
use Rattle.dvg_log.specs.Log.{◌⟼◌, Log, life, open_run}
use Rattle.dvg_log.specs.Legal.{IsLegal}
use Rattle.dvg_progress.specs.Progress.{DrawsOnce}
use Rattle.dvg_progress.proofs.FinishedOnce.{drawn_in_time}
use Rattle.dvg_progress.proofs.FirstPicture.{zeros, frame, did, did_more, all_writes, writes, sending, sends, begun_legal, fetched, ticks_apart, waits_apart, fetches_apart}
use Rattle.dvg_progress.proofs.Needed.{stood, stands_still, stood_apart, joined, more, last, flipped}
use Rattle.dvg_progress.proofs.NeededToShow.{IsWriting, IsSending, IsDrawing}

-- labs 512 400 0; halt
abbrev pub other : List OpKind
other = Draw (Labs 512 400 0) ∷ Stop ∷ []

is_draft : IsDraft other
is_draft =
    record { count = lit≤ tt; ops = All-from_recursion IsOp other (((lit≤ tt, lit≤ tt, lit≤ tt), refl), (tt, tt)) }

-- the pairs that it reaches
data At : Place → ℕ → Type 0 where
  at0 : At (InFrame 0) 0
  at1 : At (InFrame 1) 0

abbrev number : Place → ℕ
number (InFrame i) = i
number (InRom a) = a

low : {p : Place} {d : ℕ} → At p d → number p ≤ 1
low at0 = lit≤ tt
low at1 = lit≤ tt

acts0 : {act : Act Place} {after : Place} → Stands other zeros (InFrame 0) act after
    → (act ≡ Moves (Labs 512 400 0)) × (after ≡ InFrame 1)
acts0 (in_frame e d) = (d ∙ ap op_act (sym (same_Some _ _ e)), refl)

acts1 : {act : Act Place} {after : Place} → Stands other zeros (InFrame 1) act after → act ≡ Halts
acts1 (in_frame e d) = d ∙ ap op_act (sym (same_Some _ _ e))

-- each step goes on to a later operation
lead : {p q : Place} {d e : ℕ} → At p d → Leads other zeros p d q e → At q e × (number p < number q)
lead at0 (on s) =
    let a = acts0 s in subst (λ x. At x 0 × (0 < number x)) (sym a.1) (at1, lit< tt)
lead at0 (jump {q = q} s) = let a = (acts0 s).0 in absurd (cc)
lead at0 (call {q = q} s) = let a = (acts0 s).0 in absurd (cc)
lead at0 (back {q = q} s) = let a = (acts0 s).0 in absurd (cc)
lead at1 (on {instr = c} s) = let a = acts1 s in absurd (cc)
lead at1 (jump {q = q} s) = let a = acts1 s in absurd (cc)
lead at1 (call {q = q} s) = let a = acts1 s in absurd (cc)
lead at1 (back {q = q} s) = let a = acts1 s in absurd (cc)

reached : {p : Place} {d : ℕ} → Reached other zeros p d → At p d
reached begin = at0
reached (step r f l) = (lead (reached r) l).0

fine : {p : Place} {d : ℕ} → At p d → (fault : FrameFault) → ¬ Bad other zeros p d fault
fine at0 fault (goes_past s g e) = omega arith
fine at0 fault (target a s n o) =
    let k = (acts0 s).0 in subst (λ x. Names x (InRom a)) k n
fine at0 fault (deep {to = to} s e) = let k = (acts0 s).0 in cc
fine at0 fault (bare s e) = let k = (acts0 s).0 in cc
fine at1 fault (goes_past s g e) = let k = acts1 s in subst GoesPast k g
fine at1 fault (target a s n o) = let k = acts1 s in subst (λ x. Names x (InRom a)) k n
fine at1 fault (deep {to = to} s e) = let k = acts1 s in cc
fine at1 fault (bare s e) = let k = acts1 s in cc

names_none : (i j : ℕ) (op : OpKind) → slice_get other i ≡ Some op → ¬ Names (op_act op) (InFrame j)
names_none zero j op e n = subst (λ x. Names (op_act x) (InFrame j)) (sym (same_Some _ _ e)) n
names_none (suc zero) j op e n = subst (λ x. Names (op_act x) (InFrame j)) (sym (same_Some _ _ e)) n
names_none (suc (suc i)) j op e n = absurd (cc)

misses_none : (i : ℕ) → ¬ Misses other i
misses_none i (misses {j = j} {op = op} e n far) = names_none i j op e n

walks_up : {d n : ℕ} {p q : Place} → At p d → Walks other zeros d p n q → number p + n ≤ 1
walks_up at none = let few = low at in omega arith
walks_up at (further leads walk) =
    let next_place = lead at leads in
    let up = next_place.1 in
    let rest = walks_up next_place.0 walk in
    omega arith

accepts : Accepts other zeros
accepts =
    record {
      closed =
          record {
            begins = record { begins = labs_first; fits = lit≤ tt; targets = misses_none };
            fine = λ p d r. fine (reached r);
          };
      ends = λ loop. let few = walks_up (reached loop.reached) loop.walk in omega arith;
    }

-- these actions may come next, the oldest one first
abbrev May : List Action → Log → Type 0
May [] log = Unit {0}
May (action ∷ actions) log =
    (to : Point) × (place_of_life (life zeros (did (action ∷ actions) ++ log)) ≡ Some to)
    × ShowsFlag action (is_none (open_run (did actions ++ log))) × May actions log

acts : (actions : List Action) (log : Log) → IsLegal zeros zeros log → May actions log
    → IsLegal zeros zeros (did actions ++ log)
acts [] log l may = l
acts (action ∷ actions) log l may = did_more (did actions ++ log) action may.0 (acts actions log l may.3) may.1 may.2

-- the writes to half 0, and the strobe
abbrev acted : List Action
acted =
    Sent ∷ Read true ∷ Wrote 0x001 0xE0 ∷ Wrote 0x007 0xB0 ∷ Wrote 0x006 0x00 ∷ Wrote 0x005 0x02
    ∷ Wrote 0x004 0x00 ∷ Wrote 0x003 0xA1 ∷ Wrote 0x002 0x90 ∷ []

abbrev offered : Log
offered = (Offer other ⟼ Offered) ∷ sends

abbrev send : Log
send = did acted ++ offered

abbrev started : Log
started = (Strobe ⟼ Started) ∷ send ++ flipped

abbrev other_words : List (ℕ × ℕ × ℕ)
other_words = (0x002, 0x00, 0x0200) ∷ (0x001, 0x90, 0xA190) ∷ (0x000, 0x01, 0xE001) ∷ []

abbrev drawn : Log
drawn = (Fetch ⟼ Done 0x003 0xB000 []) ∷ (Fetch ⟼ Low 0x003 0x00) ∷ fetched other_words

-- the 12 fetches of the first frame's bound, of which 8 draw the other frame
abbrev draw : Log
draw = stood 4 ++ drawn

offered_legal : IsLegal zeros zeros (offered ++ flipped)
offered_legal = ((accepts, rests_whole (life zeros (sends ++ flipped)) false refl), is_draft, begun_legal.2)

started_legal : IsLegal zeros zeros started
started_legal = (
  refl,
  tt,
  acts acted (offered ++ flipped) offered_legal (
    _,
    refl,
    tt,
    (
      _,
      refl,
      refl,
      (_, refl, tt, (_, refl, tt, (_, refl, tt, (_, refl, tt, (_, refl, tt, (_, refl, tt, (_, refl, tt, tt))))))),
    ),
  ),
)

abbrev run : List Visit → Option ℕ → Newest
run visits held = grown (begun_run nothing) visits held

abbrev jumped : List Visit
jumped = record { place = 0; code = Jmpl 0x001 } ∷ []

abbrev placed : List Visit
placed = record { place = 0x001; code = Labs 512 400 0 } ∷ jumped

drawn_legal : IsLegal zeros zeros (drawn ++ started)
drawn_legal =
    let one_word = more started (begun_run nothing) 0x000 0x01 0xE001 jumped None started_legal
    (starts new) refl refl refl refl (alone (jmpl (lit≤ tt) refl)) refl in
    let at1 : Log = fetched ((0x000, 0x01, 0xE001) ∷ []) ++ started in
    let two_words = more at1 (run jumped None) 0x001 0x90 0xA190 jumped (Some 0xA190) one_word.0
    one_word.1 refl refl refl refl (opens (lit< tt)) refl in
    let at2 : Log = fetched ((0x001, 0x90, 0xA190) ∷ []) ++ at1 in
    let three = more at2 (run jumped (Some 0xA190)) 0x002 0x00 0x0200 placed None two_words.0
    two_words.1 refl refl refl refl
    (closes (labs (lit≤ tt, lit≤ tt, lit≤ tt) refl refl)) refl in
    let at3 : Log = fetched ((0x002, 0x00, 0x0200) ∷ []) ++ at2 in
    last at3 (run placed None) 0x003 0x00 0xB000 (record { place = 0x003; code = Halt } ∷ placed) []
    three.0 three.1 refl refl refl refl (alone (halt (lit≤ tt) (lit< tt))) refl

other_once : (F : List OpKind) (n : ℕ) → DrawsOnce F zeros n started draw → DrawsOnce other zeros 4 started draw
other_once F n once =
    let same = same_Some other F once.0 in
    let four : n ≡ 4 = let count = once.2 in omega arith in
    subst (λ k. DrawsOnce other zeros k started draw) four
    (subst (λ G. DrawsOnce G zeros n started draw) (sym same) once)

-- another frame is accepted before the strobe comes, and it is drawn
pub shown_needs_no_other_frame : IsLegal zeros zeros (draw ++ started) × (open_run flipped ≡ None)
    × IsWriting writes × IsSending send × IsDrawing 6 started draw
    × (¬ DrawsOnce frame zeros 6 started draw) × DrawsOnce other zeros 4 started draw
shown_needs_no_other_frame =
    let legal = (stands_still (drawn ++ started) drawn_legal refl 4).0 in
    let apart = stood_apart (Strobe ∷ ResetGen ∷ []) drawn (λ e. cc, (λ e. cc, tt))
    ((λ e. cc, (λ e. cc, tt)), ((λ e. cc, (λ e. cc, tt)), fetches_apart other_words)) 4 in
    let found = drawn_in_time zeros zeros (send ++ flipped) draw legal apart refl in (
      legal,
      refl,
      (ticks_apart all_writes, lit≤ tt),
      (
        joined (Strobe ∷ ResetCpu ∷ []) (did acted) offered (waits_apart acted)
            ((λ e. cc, (λ e. cc, tt)), waits_apart sending),
        lit≤ tt,
      ),
      (apart, lit≤ tt),
      λ once. let shown = same_Some other frame once.0 in cc,
      other_once found.0 found.1 found.2,
    )
