-- A line spells one list of events at most, and what it spells shows by its name.
use Rattle.std.proofs.Common.{◌≡◌, ◌<◌, ◌≤◌, ℕ, List, [], ◌∷◌, false, eqb, Some, ◌⊎◌, inl, inr, length, replicate, get_or, refl, sym, ap, subst, ◌∙◌, arith, codes, decimal}
use Rattle.std.specs.Prelude.{bytes_eq, if◌then◌else◌}
use Rattle.std.specs.Str.Parse.{digits_value}
use Rattle.std.proofs.lemmas.List.{length-replicate}
use Rattle.std.specs.List.{join_with_byte}
use Rattle.std.proofs.lemmas.List.Splits.{join_with_byte-slice_split}
use Rattle.dvg_log.specs.Events.{Happening}
use Rattle.dvg_log.specs.declared.event.Event.TheVariants.{Offer, Redraw, Tick, Strobe, Fetch, ResetGen, ResetCpu, ResetAll}
use Rattle.std.proofs.lemmas.Int.Digits.{digits_value-lt}
use Rattle.dvg_read.proofs.OneOperation.{number, number_is}
use Rattle.dvg_read.specs.EventLines.{TakesCount, IsNamed}
use Rattle.dvg_read.specs.Texts.{IsHex, is_passed, parts}
use Rattle.dvg_read.specs.TraceTexts.{Counts, EventParts, once, times, redraw, tick, strobe, fetch, resetgen, resetcpu, resetall}

-- The rows, with the bytes of a reset as a function of the byte: a match on `EventParts` itself computes 2,048 of them.
data Row (fill : ℕ → List ℕ) : List Happening → List (List ℕ) → Type 0 where
  redraws : Row fill (Redraw ∷ []) (codes "redraw" ∷ [])
  ticks : {n : ℕ} {ps : List (List ℕ)} → Counts (codes "tick") n ps → Row fill (replicate n Tick) ps
  strobes : {n : ℕ} {ps : List (List ℕ)} → Counts (codes "strobe") n ps → Row fill (replicate n Strobe) ps
  fetches : {n : ℕ} {ps : List (List ℕ)} → Counts (codes "fetch") n ps → Row fill (replicate n Fetch) ps
  resets_gen : Row fill (ResetGen ∷ []) (codes "resetgen" ∷ [])
  resets_cpu : Row fill (ResetCpu ∷ []) (codes "resetcpu" ∷ [])
  resets_all : {byte : ℕ} {digits : List ℕ} → IsHex 2 byte digits → Row fill (ResetAll (fill byte) ∷ []) (codes "resetall" ∷ digits ∷ [])

row : {events : List Happening} {ps : List (List ℕ)} → EventParts events ps → Row (replicate 2048) events ps
row redraw = redraws
row (tick c) = ticks c
row (strobe c) = strobes c
row (fetch c) = fetches c
row resetgen = resets_gen
row resetcpu = resets_cpu
row (resetall h) = resets_all h

-- the first letter of the first part
abbrev pub letter_of : List (List ℕ) → ℕ
letter_of [] = 0
letter_of (part ∷ ps) = get_or part 0 0

-- a name alone, or with its count
abbrev Counted : List ℕ → ℕ → List (List ℕ) → Type 0
Counted name n ps = ((ps ≡ name ∷ []) × (n ≡ 1)) ⊎ ((ps ≡ name ∷ decimal n ∷ []) × (1 ≤ n) × (n ≤ 9999))

pub counted : {name : List ℕ} {n : ℕ} {ps : List (List ℕ)} → Counts name n ps → Counted name n ps
counted once = inl (refl, refl)
counted (times some most) = inr (refl, some, most)

letter : {name : List ℕ} {n : ℕ} {ps : List (List ℕ)} → Counts name n ps → letter_of ps ≡ get_or name 0 0
letter once = refl
letter (times some most) = refl

pub count_bounds : {name : List ℕ} {n : ℕ} {ps : List (List ℕ)} → Counts name n ps → (1 ≤ n) × (n ≤ 9999)
count_bounds once = (omega arith, omega arith)
count_bounds (times some most) = (some, most)

resetall_row : {fill : ℕ → List ℕ} {more : List Happening} {digits : List ℕ} → Row fill more (codes "resetall" ∷ digits ∷ []) → (byte : ℕ) × IsHex 2 byte digits × (more ≡ ResetAll (fill byte) ∷ [])
resetall_row (ticks c) = let is = letter c in absurd (omega arith)
resetall_row (strobes c) = let is = letter c in absurd (omega arith)
resetall_row (fetches c) = let is = letter c in absurd (omega arith)
resetall_row (resets_all {byte = byte} h) = (byte, h, refl)

-- a line of events begins with the name of none of these lines
no_rom_row : {fill : ℕ → List ℕ} {more : List Happening} {ps : List (List ℕ)} → Row fill more (codes "rom" ∷ ps) → ⊥
no_rom_row (ticks c) = let is = letter c in absurd (omega arith)
no_rom_row (strobes c) = let is = letter c in absurd (omega arith)
no_rom_row (fetches c) = let is = letter c in absurd (omega arith)

no_offer_row : {fill : ℕ → List ℕ} {more : List Happening} {ps : List (List ℕ)} → Row fill more (codes "offer" ∷ ps) → ⊥
no_offer_row (ticks c) = let is = letter c in absurd (omega arith)
no_offer_row (strobes c) = let is = letter c in absurd (omega arith)
no_offer_row (fetches c) = let is = letter c in absurd (omega arith)

no_map_row : {fill : ℕ → List ℕ} {more : List Happening} {ps : List (List ℕ)} → Row fill more (codes "map" ∷ ps) → ⊥
no_map_row (ticks c) = let is = letter c in absurd (omega arith)
no_map_row (strobes c) = let is = letter c in absurd (omega arith)
no_map_row (fetches c) = let is = letter c in absurd (omega arith)

pub no_map : {more : List Happening} {ps : List (List ℕ)} → EventParts more (codes "map" ∷ ps) → ⊥
no_map h = no_map_row (row h)

pub no_rom : {more : List Happening} {ps : List (List ℕ)} → EventParts more (codes "rom" ∷ ps) → ⊥
no_rom h = no_rom_row (row h)

pub no_offer : {more : List Happening} {ps : List (List ℕ)} → EventParts more (codes "offer" ∷ ps) → ⊥
no_offer h = no_offer_row (row h)

-- parts spell one list of events at most: it is read back from them
abbrev count_of : List (List ℕ) → ℕ
count_of (name ∷ count ∷ []) = number count
count_of _ = 1

abbrev read_back : (fill : ℕ → List ℕ) → List (List ℕ) → List Happening
read_back fill [] = []
read_back fill (name ∷ ps) =
    if bytes_eq name (codes "tick") then replicate (count_of (name ∷ ps)) Tick
    else (if bytes_eq name (codes "strobe") then replicate (count_of (name ∷ ps)) Strobe
    else (if bytes_eq name (codes "fetch") then replicate (count_of (name ∷ ps)) Fetch
    else (if bytes_eq name (codes "redraw") then Redraw ∷ []
    else (if bytes_eq name (codes "resetgen") then ResetGen ∷ []
    else (if bytes_eq name (codes "resetcpu") then ResetCpu ∷ []
    else ResetAll (fill (digits_value 16 (get_or ps 0 []))) ∷ [])))))

back : {fill : ℕ → List ℕ} {events : List Happening} {ps : List (List ℕ)} → Row fill events ps → read_back fill ps ≡ events
back redraws = refl
back (ticks once) = refl
back (ticks (times {n = n} some most)) = ap (λ n. replicate n Tick) (number_is n (omega (arith, most)))
back (strobes once) = refl
back (strobes (times {n = n} some most)) = ap (λ n. replicate n Strobe) (number_is n (omega (arith, most)))
back (fetches once) = refl
back (fetches (times {n = n} some most)) = ap (λ n. replicate n Fetch) (number_is n (omega (arith, most)))
back resets_gen = refl
back resets_cpu = refl
back {fill} (resets_all h) = ap (λ byte. ResetAll (fill byte) ∷ []) h.value

pub one_events : {more other : List Happening} {ps : List (List ℕ)} → EventParts more ps → EventParts other ps → other ≡ more
one_events p q = sym (back (row q)) ∙ back (row p)

-- and one event at least
some_row : {fill : ℕ → List ℕ} {more : List Happening} {ps : List (List ℕ)} → Row fill more ps → 1 ≤ length more
some_row redraws = omega arith
some_row (ticks {n = n} c) = let (some, most) = count_bounds c in omega (arith, length-replicate {A = Happening} n Tick)
some_row (strobes {n = n} c) = let (some, most) = count_bounds c in omega (arith, length-replicate {A = Happening} n Strobe)
some_row (fetches {n = n} c) = let (some, most) = count_bounds c in omega (arith, length-replicate {A = Happening} n Fetch)
some_row resets_gen = omega arith
some_row resets_cpu = omega arith
some_row (resets_all h) = omega arith

pub some_events : {more : List Happening} {ps : List (List ℕ)} → EventParts more ps → 1 ≤ length more
some_events h = some_row (row h)

pub byte_fits : {n : ℕ} {digits : List ℕ} → IsHex 2 n digits → n < 256
byte_fits {n} {digits} h = let small = digits_value-lt 16 digits h.digits in let size = rw h.size at small in omega (arith, size, h.value)

-- the rows of a name alone

pub alone_made : (event : Happening) (name : List ℕ) → IsNamed event name → EventParts (event ∷ []) (name ∷ [])
alone_made Redraw name e = rw e redraw
alone_made Tick name e = rw e (tick once)
alone_made Strobe name e = rw e (strobe once)
alone_made Fetch name e = rw e (fetch once)
alone_made ResetGen name e = rw e resetgen
alone_made ResetCpu name e = rw e resetcpu
alone_made (Offer F) name e = absurd e
alone_made (ResetAll bytes) name e = absurd e

-- and such a name is its line's one part
pub named_alone : (event : Happening) (name : List ℕ) → IsNamed event name → parts name ≡ name ∷ []
named_alone Redraw name e = rw e refl
named_alone Tick name e = rw e refl
named_alone Strobe name e = rw e refl
named_alone Fetch name e = rw e refl
named_alone ResetGen name e = rw e refl
named_alone ResetCpu name e = rw e refl
named_alone (Offer F) name e = absurd e
named_alone (ResetAll bytes) name e = absurd e

alone_count_of : (name first : List ℕ) (n : ℕ) → Counted name n (first ∷ []) → (first ≡ name) × (1 ≡ n)
alone_count_of name first n (inl (e, is)) = (cc, sym is)
alone_count_of name first n (inr (e, some, most)) = absurd (cc)

alone_count : {name first : List ℕ} {n : ℕ} → Counts name n (first ∷ []) → (first ≡ name) × (1 ≡ n)
alone_count {name} {first} {n} c = alone_count_of name first n (counted c)

-- an event by its name
pub record Alone (events : List Happening) (name : List ℕ) : Type 0 where
  pub event : Happening
  pub named : IsNamed event name
  pub all : event ∷ [] ≡ events

alone : {fill : ℕ → List ℕ} {events : List Happening} {name : List ℕ} → Row fill events (name ∷ []) → Alone events name
alone redraws = record { event = Redraw; named = refl; all = refl }
alone (ticks c) = let is = alone_count c in record { event = Tick; named = is.0; all = ap (λ n. replicate n Tick) is.1 }
alone (strobes c) = let is = alone_count c in record { event = Strobe; named = is.0; all = ap (λ n. replicate n Strobe) is.1 }
alone (fetches c) = let is = alone_count c in record { event = Fetch; named = is.0; all = ap (λ n. replicate n Fetch) is.1 }
alone resets_gen = record { event = ResetGen; named = refl; all = refl }
alone resets_cpu = record { event = ResetCpu; named = refl; all = refl }

pub alone_row : {events : List Happening} {name : List ℕ} → EventParts events (name ∷ []) → Alone events name
alone_row h = alone (row h)

pub named_made : (event : Happening) (name : List ℕ) → IsNamed event name → EventParts (event ∷ []) (parts name)
named_made event name h = rw (named_alone event name h) (alone_made event name h)

-- so a line that is the name of one event spells that one
pub named_only : (event : Happening) (name : List ℕ) → IsNamed event name → ((other : Happening) → IsNamed other name → event ≡ other) → (events : List Happening) → EventParts events (parts name) → event ∷ [] ≡ events
named_only event name h only events p =
    let row = alone_row (rw (named_alone event name h) at p) in
    ap (λ event. event ∷ []) (only row.event row.named) ∙ row.all

-- the rows of a name and an operand

pub times_made : (event : Happening) (n : ℕ) (name operand : List ℕ) → IsNamed event name → TakesCount event → operand ≡ decimal n → 1 ≤ n → n ≤ 9999 → EventParts (replicate n event) (name ∷ operand ∷ [])
times_made Tick n name operand e h is some most = rw (e, is) (tick (times some most))
times_made Strobe n name operand e h is some most = rw (e, is) (strobe (times some most))
times_made Fetch n name operand e h is some most = rw (e, is) (fetch (times some most))
times_made Redraw n name operand e h is some most = absurd h
times_made ResetGen n name operand e h is some most = absurd h
times_made ResetCpu n name operand e h is some most = absurd h
times_made (Offer F) n name operand e h is some most = absurd h
times_made (ResetAll bytes) n name operand e h is some most = absurd h

pub resetall_made : (byte : ℕ) (name operand : List ℕ) → name ≡ codes "resetall" → IsHex 2 byte operand → EventParts (ResetAll (replicate 2048 byte) ∷ []) (name ∷ operand ∷ [])
resetall_made byte name operand e h = rw e (resetall h)

-- a name with a count
pub record Repeated (events : List Happening) (name operand : List ℕ) : Type 0 where
  pub event : Happening
  pub counts : TakesCount event
  pub named : IsNamed event name
  pub n : ℕ
  pub some : 1 ≤ n
  pub most : n ≤ 9999
  pub spelled : operand ≡ decimal n
  pub all : replicate n event ≡ events

-- the name of a reset of the whole system, with the byte
pub record Filled (fill : ℕ → List ℕ) (events : List Happening) (name operand : List ℕ) : Type 0 where
  pub named : name ≡ codes "resetall"
  pub byte : ℕ
  pub spelled : IsHex 2 byte operand
  pub all : ResetAll (fill byte) ∷ [] ≡ events

count_row_of : (name first operand : List ℕ) (n : ℕ) → Counted name n (first ∷ operand ∷ []) → (first ≡ name) × (operand ≡ decimal n) × (1 ≤ n) × (n ≤ 9999)
count_row_of name first operand n (inl (e, is)) = absurd (cc)
count_row_of name first operand n (inr (e, some, most)) = (cc, cc, some, most)

count_row : {name first operand : List ℕ} {n : ℕ} → Counts name n (first ∷ operand ∷ []) → (first ≡ name) × (operand ≡ decimal n) × (1 ≤ n) × (n ≤ 9999)
count_row {name} {first} {operand} {n} c = count_row_of name first operand n (counted c)

with_operand : {fill : ℕ → List ℕ} {events : List Happening} {name operand : List ℕ} → Row fill events (name ∷ operand ∷ []) → Repeated events name operand ⊎ Filled fill events name operand
with_operand (ticks {n = n} c) = let r = count_row c in inl (record { event = Tick; counts = tt; named = r.0; n = n; some = r.2; most = r.3; spelled = r.1; all = refl })
with_operand (strobes {n = n} c) = let r = count_row c in inl (record { event = Strobe; counts = tt; named = r.0; n = n; some = r.2; most = r.3; spelled = r.1; all = refl })
with_operand (fetches {n = n} c) = let r = count_row c in inl (record { event = Fetch; counts = tt; named = r.0; n = n; some = r.2; most = r.3; spelled = r.1; all = refl })
with_operand (resets_all {byte = byte} h) = inr (record { named = refl; byte = byte; spelled = h; all = refl })

pub operand_row : {events : List Happening} {name operand : List ℕ} → EventParts events (name ∷ operand ∷ []) → Repeated events name operand ⊎ Filled (replicate 2048) events name operand
operand_row h = with_operand (row h)

-- a `resetall` has one byte
pub resetall_only : (byte : ℕ) (name operand : List ℕ) → name ≡ codes "resetall" → ((n : ℕ) → IsHex 2 n operand → Some byte ≡ Some n) → (events : List Happening) → EventParts events (name ∷ operand ∷ []) → ResetAll (replicate 2048 byte) ∷ [] ≡ events
resetall_only byte name operand e only events h =
    let (n, spelled, is) = resetall_row (row (subst (λ name. EventParts events (name ∷ operand ∷ [])) e h)) in
    let same = only n spelled in
    let equal : n ≡ byte = cc in
    sym (is ∙ ap (λ n. ResetAll (replicate 2048 n) ∷ []) equal)

few_of : {name : List ℕ} {n : ℕ} {ps : List (List ℕ)} → Counted name n ps → length ps ≤ 2
few_of (inl (e, is)) = omega (arith, ap length e)
few_of (inr (e, some, most)) = omega (arith, ap length e)

few : {fill : ℕ → List ℕ} {events : List Happening} {ps : List (List ℕ)} → Row fill events ps → length ps ≤ 2
few redraws = omega arith
few (ticks c) = few_of (counted c)
few (strobes c) = few_of (counted c)
few (fetches c) = few_of (counted c)
few resets_gen = omega arith
few resets_cpu = omega arith
few (resets_all h) = omega arith

-- there are two parts at most
pub few_parts : {events : List Happening} {ps : List (List ℕ)} → EventParts events ps → length ps ≤ 2
few_parts h = few (row h)

-- a line of events isn't passed over

count_unpassed : {name : List ℕ} {n : ℕ} {ps : List (List ℕ)} → ((rest : List (List ℕ)) → is_passed (join_with_byte 32 (name ∷ rest)) ≡ false) → Counts name n ps → is_passed (join_with_byte 32 ps) ≡ false
count_unpassed h once = h []
count_unpassed h (times {n = n} some most) = h (decimal n ∷ [])

join_unpassed : (byte : ℕ) (name : List ℕ) → eqb byte 35 ≡ false → (rest : List (List ℕ)) → is_passed (join_with_byte 32 ((byte ∷ name) ∷ rest)) ≡ false
join_unpassed byte name e [] = e
join_unpassed byte name e (part ∷ rest) = e

unpassed_row : {fill : ℕ → List ℕ} {events : List Happening} {ps : List (List ℕ)} → Row fill events ps → is_passed (join_with_byte 32 ps) ≡ false
unpassed_row redraws = refl
unpassed_row (ticks c) = count_unpassed (join_unpassed 116 (codes "ick") refl) c
unpassed_row (strobes c) = count_unpassed (join_unpassed 115 (codes "trobe") refl) c
unpassed_row (fetches c) = count_unpassed (join_unpassed 102 (codes "etch") refl) c
unpassed_row resets_gen = refl
unpassed_row resets_cpu = refl
unpassed_row (resets_all h) = refl

pub events_unpassed : {events : List Happening} (line : List ℕ) → EventParts events (parts line) → is_passed line ≡ false
events_unpassed line h = subst (λ line. is_passed line ≡ false) (join_with_byte-slice_split 32 line) (unpassed_row (row h))
