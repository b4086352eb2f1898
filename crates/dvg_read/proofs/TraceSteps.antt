-- What the lines of a trace spell, line by line.
use Rattle.std.proofs.Common.{◌≡◌, ℕ, List, [], ◌∷◌, ◌++◌, length, refl, sym, ap, subst, ◌∙◌, arith, append_assoc, append-nil, length-append, codes, All, Option, Some, None}
use Rattle.std.specs.List.{AllZip}
use Rattle.std.proofs.lemmas.List.{get_or_append_left}
use Rattle.std.proofs.Math.Seq.{get_or-append_seam}
use Rattle.dvg_frame.specs.declared.op.OpKind.{OpKind}
use Rattle.dvg_log.specs.Events.{Happening}
use Rattle.dvg_log.specs.declared.event.Event.TheVariants.{Offer}
use Rattle.dvg_read.specs.Texts.{parts}
use Rattle.dvg_read.specs.OpLines.{IsOpLine}
use Rattle.dvg_read.specs.RomTexts.{RomText, unmapped}
use Rattle.dvg_read.specs.RomReading.{TellsRom, unstated}
use Rattle.dvg_read.specs.TraceTexts.{Begun, EventParts, FitsTrace, FitsDraft, IsFineTrace, SpellsTrace, Whole, alone, inside, nothing, offer, whole}
use Rattle.dvg_read.specs.TraceReading.{SoFar, Takes, TraceTakes, does, ends, events, opens, tells}
use Rattle.dvg_read.proofs.OneOperation.{one_operation}
use Rattle.dvg_read.proofs.RomSteps.{one_stated, rom_leads, stated_by_name, tells_more}
use Rattle.dvg_read.proofs.Steps.{Leads, front_says, further, here, last_line, on, one_saying}
use Rattle.dvg_read.proofs.Zips.{zip_push}
use Rattle.dvg_read.proofs.EventRows.{no_map, no_offer, no_rom, one_events, some_events}

abbrev pub so_far : RomText → List Happening → Option (List OpKind) → SoFar
so_far rom old opened = record { rom = rom; events = old; opened = opened }

-- what lines spell, of a whole state
abbrev pub Says : SoFar → List (List ℕ) → Type 0
Says s ls = SpellsTrace s.rom s.events s.opened ls

-- before the first line nothing was said
abbrev pub start : SoFar
start = record { rom = unstated; events = []; opened = None }

-- one more line

whole_of : {old : List Happening} {ls : List (List ℕ)} → Begun old None ls → Whole old ls
whole_of (whole w) = w

-- the lines of an offer that isn't ended, after those of whole events
record Open (old : List Happening) (F : List OpKind) (ls : List (List ℕ)) : Type 0 where
  front : List (List ℕ)
  ops : List (List ℕ)
  done : Whole old front
  draft : AllZip IsOpLine F ops
  cut : ls ≡ front ++ codes "offer" ∷ ops

open_of : {old : List Happening} {F : List OpKind} {ls : List (List ℕ)} → Begun old (Some F) ls → Open old F ls
open_of (inside {ls = ls} F ops w all) = record { front = ls; ops = ops; done = w; draft = all; cut = refl }

no_lines : {old : List Happening} {ls : List (List ℕ)} → Whole old ls → length old ≡ 0 → ls ≡ []
no_lines nothing h = refl
no_lines (alone {events = old} {more = more} l w p) h = absurd (omega (arith, length-append old more, some_events p))
no_lines (offer {events = old} F ops w all) h = absurd (omega (arith, length-append old (Offer F ∷ [])))

pub says_more : {rom now : RomText} {old new : List Happening} {opened left : Option (List OpKind)} {l : List ℕ} {ls : List (List ℕ)}
    → SpellsTrace rom old opened ls → Takes rom old opened l now new left → SpellsTrace now new left (ls ++ l ∷ [])
says_more {ls = ls} s (tells {line = l} h) =
    let none : s.rest ≡ [] = no_lines (whole_of s.begun) refl in
    let all : ls ≡ s.front = s.cut ∙ ap (λ k. s.front ++ k) none ∙ append-nil s.front in
    record {
      front = s.front ++ l ∷ [];
      rest = [];
      cut = ap (λ k. k ++ l ∷ []) all ∙ sym (append-nil (s.front ++ l ∷ []));
      head = tells_more s.head h;
      begun = whole nothing;
    }
says_more s (events {line = l} p) = record {
  front = s.front;
  rest = s.rest ++ l ∷ [];
  cut = ap (λ k. k ++ l ∷ []) s.cut ∙ append_assoc s.front s.rest (l ∷ []);
  head = s.head;
  begun = whole (alone l (whole_of s.begun) p);
}
says_more s opens = record {
  front = s.front;
  rest = s.rest ++ codes "offer" ∷ [];
  cut = ap (λ k. k ++ codes "offer" ∷ []) s.cut ∙ append_assoc s.front s.rest (codes "offer" ∷ []);
  head = s.head;
  begun = inside [] [] (whole_of s.begun) tt;
}
says_more s (does {F = F} {line = l} op h) =
    let o = open_of s.begun in
    record {
      front = s.front;
      rest = o.front ++ codes "offer" ∷ (o.ops ++ l ∷ []);
      cut = ap (λ k. k ++ l ∷ []) s.cut ∙ append_assoc s.front s.rest (l ∷ [])
          ∙ ap (λ k. s.front ++ k) (ap (λ k. k ++ l ∷ []) o.cut ∙ append_assoc o.front (codes "offer" ∷ o.ops) (l ∷ []));
      head = s.head;
      begun = inside (F ++ op ∷ []) (o.ops ++ l ∷ []) o.done (zip_push IsOpLine F o.ops op l o.draft h);
    }
says_more s (ends {F = F}) =
    let o = open_of s.begun in
    record {
      front = s.front;
      rest = (o.front ++ codes "offer" ∷ o.ops) ++ codes "end" ∷ [];
      cut = ap (λ k. k ++ codes "end" ∷ []) s.cut ∙ append_assoc s.front s.rest (codes "end" ∷ []) ∙ ap (λ k. s.front ++ (k ++ codes "end" ∷ [])) o.cut;
      head = s.head;
      begun = whole (offer F o.ops o.done o.draft);
    }

pub says_nothing : Says start []
says_nothing = record { front = []; rest = []; cut = refl; head = unmapped tt; begun = whole nothing }

-- all lines in turn

head_leads : (rom now : RomText) (ls : List (List ℕ)) → Leads TellsRom rom ls now → Leads TraceTakes (so_far rom [] None) ls (so_far now [] None)
head_leads rom now [] here = here
head_leads rom now (l ∷ ls) (on {t = mid} g p) =
    let first : TraceTakes (so_far rom [] None) l (so_far mid [] None) = tells g in
    on first (head_leads mid now ls p)

ops_lead : (rom : RomText) (old : List Happening) (F G : List OpKind) (ops : List (List ℕ)) → AllZip IsOpLine G ops → Leads TraceTakes (so_far rom old (Some F)) ops (so_far rom old (Some (F ++ G)))
ops_lead rom old F [] [] h = subst (λ k. Leads TraceTakes (so_far rom old (Some F)) [] (so_far rom old (Some k))) (sym (append-nil F)) here
ops_lead rom old F [] (l ∷ ops) h = absurd h
ops_lead rom old F (op ∷ G) [] h = absurd h
ops_lead rom old F (op ∷ G) (l ∷ ops) h =
    let first : TraceTakes (so_far rom old (Some F)) l (so_far rom old (Some (F ++ op ∷ []))) = does op h.0 in
    let rest = ops_lead rom old (F ++ op ∷ []) G ops h.1 in
    on first (subst (λ k. Leads TraceTakes (so_far rom old (Some (F ++ op ∷ []))) ops (so_far rom old (Some k))) (append_assoc F (op ∷ []) G) rest)

offer_leads : (rom : RomText) (old : List Happening) (F : List OpKind) (ops : List (List ℕ)) → AllZip IsOpLine F ops → Leads TraceTakes (so_far rom old None) (codes "offer" ∷ ops) (so_far rom old (Some F))
offer_leads rom old F ops h =
    let first : TraceTakes (so_far rom old None) (codes "offer") (so_far rom old (Some [])) = opens in
    on first (ops_lead rom old [] F ops h)

whole_leads : (rom : RomText) {old : List Happening} {ls : List (List ℕ)} → Whole old ls → Leads TraceTakes (so_far rom [] None) ls (so_far rom old None)
whole_leads rom nothing = here
whole_leads rom (alone {events = old} {more = more} {ls = ls} l w p) =
    let last : TraceTakes (so_far rom old None) l (so_far rom (old ++ more) None) = events p in
    further TraceTakes _ _ _ ls (l ∷ []) (whole_leads rom w) (on last here)
whole_leads rom (offer {events = old} {ls = ls} F ops w all) =
    let last : TraceTakes (so_far rom old (Some F)) (codes "end") (so_far rom (old ++ Offer F ∷ []) None) = ends in
    let opened : Leads TraceTakes (so_far rom [] None) (ls ++ codes "offer" ∷ ops) (so_far rom old (Some F)) = further TraceTakes _ _ _ ls (codes "offer" ∷ ops) (whole_leads rom w) (offer_leads rom old F ops all) in
    further TraceTakes _ _ _ (ls ++ codes "offer" ∷ ops) (codes "end" ∷ []) opened (on last here)

begun_leads : (rom : RomText) {old : List Happening} {opened : Option (List OpKind)} {ls : List (List ℕ)} → Begun old opened ls → Leads TraceTakes (so_far rom [] None) ls (so_far rom old opened)
begun_leads rom (whole w) = whole_leads rom w
begun_leads rom (inside {events = old} {ls = ls} F ops w all) = further TraceTakes _ _ _ ls (codes "offer" ∷ ops) (whole_leads rom w) (offer_leads rom old F ops all)

-- what lines spell, they lead to
leads_to : (s : SoFar) (ls : List (List ℕ)) → Says s ls → Leads TraceTakes start ls s
leads_to s ls p =
    let head = head_leads unstated s.rom p.front (rom_leads p.head) in
    subst (λ k. Leads TraceTakes start k s) (sym p.cut) (further TraceTakes start (so_far s.rom [] None) s p.front p.rest head (begun_leads s.rom p.begun))

-- no line goes on in two ways

parts_offer : parts (codes "offer") ≡ codes "offer" ∷ []
parts_offer = refl

map_is_no_offer : (rest : List (List ℕ)) → codes "map" ∷ rest ≡ codes "offer" ∷ [] → ⊥
map_is_no_offer rest e = absurd cc

rom_is_no_offer : (rest : List (List ℕ)) → codes "rom" ∷ rest ≡ codes "offer" ∷ [] → ⊥
rom_is_no_offer rest e = absurd cc

offer_tells_nothing : {rom now : RomText} → TellsRom rom (codes "offer") now → ⊥
offer_tells_nothing t = stated_by_name (λ ps. ps ≡ codes "offer" ∷ []) parts_offer map_is_no_offer rom_is_no_offer t

no_events_map : {more : List Happening} (rest : List (List ℕ)) → EventParts more (codes "map" ∷ rest) → ⊥
no_events_map rest = no_map

no_events_rom : {more : List Happening} (rest : List (List ℕ)) → EventParts more (codes "rom" ∷ rest) → ⊥
no_events_rom rest = no_rom

tells_no_events : {rom now : RomText} {more : List Happening} {l : List ℕ} → TellsRom rom l now → EventParts more (parts l) → ⊥
tells_no_events {more = more} t p = stated_by_name (EventParts more) p no_events_map no_events_rom t

pub end_is_no_op : (op : OpKind) → IsOpLine op (codes "end") → ⊥
end_is_no_op op h = elim h [ ]

one_way : {rom now also : RomText} {old new next : List Happening} {opened left kept : Option (List OpKind)} {l : List ℕ}
    → Takes rom old opened l now new left → Takes rom old opened l also next kept → so_far also next kept ≡ so_far now new left
one_way (tells {rom = rom} {now = now} {line = l} g) (tells {now = also} h) = ap (λ rom. so_far rom [] None) (one_stated rom now also l g h)
one_way (tells g) (events p) = absurd (tells_no_events g p)
one_way (tells g) opens = absurd (offer_tells_nothing g)
one_way (events p) (tells g) = absurd (tells_no_events g p)
one_way (events {rom = rom} {old = old} p) (events q) = ap (λ more. so_far rom (old ++ more) None) (one_events p q)
one_way (events p) opens = absurd (no_offer p)
one_way opens (tells g) = absurd (offer_tells_nothing g)
one_way opens (events p) = absurd (no_offer p)
one_way opens opens = refl
one_way (does {rom = rom} {old = old} {F = F} op h) (does other k) = ap (λ op. so_far rom old (Some (F ++ op ∷ []))) (one_operation h k)
one_way (does op h) ends = absurd (end_is_no_op op h)
one_way ends (does op h) = absurd (end_is_no_op op h)
one_way ends ends = refl

same_way : (s t u : SoFar) (l : List ℕ) → TraceTakes s l t → TraceTakes s l u → u ≡ t
same_way s t u l g h = one_way g h

more_said : (s t : SoFar) (l : List ℕ) (ls : List (List ℕ)) → Says s ls → TraceTakes s l t → Says t (ls ++ l ∷ [])
more_said s t l ls p g = says_more p g

-- a line that goes on from what others spell
pub goes_on : (s t : SoFar) (ls : List (List ℕ)) (l : List ℕ) → Says s ls → Says t (ls ++ l ∷ []) → TraceTakes s l t
goes_on = last_line TraceTakes same_way Says start says_nothing more_said leads_to

pub one_spelled_trace : {rom also : RomText} {one other : List Happening} {opened left : Option (List OpKind)} {ls : List (List ℕ)}
    → SpellsTrace rom one opened ls → SpellsTrace also other left ls → (also ≡ rom) × (other ≡ one) × (left ≡ opened)
one_spelled_trace {rom} {also} {one} {other} {opened} {left} {ls} p q =
    let same = one_saying TraceTakes same_way Says start says_nothing more_said leads_to (so_far rom one opened) (so_far also other left) ls p q in
    (ap (λ s. s.rom) same, ap (λ s. s.events) same, ap (λ s. s.opened) same)

-- what fits

all_front : {A : Type 0} (P : A → Type 0) (xs ys : List A) → All P (xs ++ ys) → All P xs
all_front P xs ys h k d l = subst P (get_or_append_left xs ys d k l) (h k d (omega (arith, length-append xs ys)))

all_last : {A : Type 0} (P : A → Type 0) (xs : List A) (y : A) → All P (xs ++ y ∷ []) → P y
all_last P xs y h = subst P (get_or-append_seam xs y [] y) (h (length xs) y (omega (arith, length-append xs (y ∷ []))))

fits_before : {rom now : RomText} {old new : List Happening} {opened left : Option (List OpKind)} {l : List ℕ} → Takes rom old opened l now new left → FitsTrace new left → FitsTrace old opened
fits_before (tells h) f = record { count = f.count; drafts = f.drafts; last = tt }
fits_before (events {old = old} {more = more} p) f = let count = f.count in record { count = omega (arith, length-append old more); drafts = all_front FitsDraft old more f.drafts; last = tt }
fits_before opens f = record { count = f.count; drafts = f.drafts; last = tt }
fits_before (does {F = F} op h) f = let last = f.last in record { count = f.count; drafts = f.drafts; last = omega (arith, length-append F (op ∷ [])) }
fits_before (ends {old = old} {F = F}) f =
    let count = f.count in
    record { count = omega (arith, length-append old (Offer F ∷ [])); drafts = all_front FitsDraft old (Offer F ∷ []) f.drafts; last = all_last FitsDraft old (Offer F) f.drafts }

fits_along : (s t : SoFar) (ls : List (List ℕ)) → Leads TraceTakes s ls t → FitsTrace t.events t.opened → FitsTrace s.events s.opened
fits_along s t [] here f = f
fits_along s t (l ∷ ls) (on {t = mid} g p) f = fits_before g (fits_along mid t ls p f)

-- a front of lines without fault is without fault
pub fine_front : (ls more : List (List ℕ)) → IsFineTrace (ls ++ more) → IsFineTrace ls
fine_front ls more h =
    let all = so_far h.rom h.events h.opened in
    let (mid, says, leads) = front_says TraceTakes same_way Says start says_nothing more_said leads_to all ls more h.spelled in
    record { rom = mid.rom; events = mid.events; opened = mid.opened; spelled = says; fits = fits_along mid all more leads h.fits }
