-- What the lines of a draft spell, line by line.
use Rattle.std.proofs.Common.{◌≡◌, ◌≤◌, ℕ, List, [], ◌∷◌, ◌++◌, length, refl, sym, ap, subst, ◌∙◌, arith, append_assoc, append-nil, length-append, codes}
use Rattle.std.specs.List.{AllZip}
use Rattle.dvg_frame.specs.declared.op.OpKind.{OpKind}
use Rattle.dvg_read.specs.OpLines.{IsOpLine, OpParts}
use Rattle.dvg_read.specs.RomTexts.{RomText, unmapped}
use Rattle.dvg_read.specs.RomReading.{TellsRom, unstated}
use Rattle.dvg_read.specs.DraftTexts.{Denotes, IsFineDraft, SpellsDraft}
use Rattle.dvg_read.proofs.OneOperation.{one_operation}
use Rattle.dvg_read.proofs.RomSteps.{one_stated, rom_leads, stated_by_name, tells_more}
use Rattle.dvg_read.proofs.Steps.{Leads, front_says, further, here, last_line, on, one_saying}
use Rattle.dvg_read.proofs.Zips.{zip_push}

-- what some lines spell so far
pub record SoFar : Type 0 where
  pub rom : RomText
  pub ops : List OpKind

abbrev pub so_far : RomText → List OpKind → SoFar
so_far rom ops = record { rom = rom; ops = ops }

-- what one more line makes of it
pub data Goes : SoFar → List ℕ → SoFar → Type 0 where
  tells : {rom now : RomText} {line : List ℕ} → TellsRom rom line now → Goes (so_far rom []) line (so_far now [])
  does : {rom : RomText} {F : List OpKind} {line : List ℕ} (op : OpKind) → IsOpLine op line → Goes (so_far rom F) line (so_far rom (F ++ op ∷ []))

abbrev pub Says : SoFar → List (List ℕ) → Type 0
Says s ls = SpellsDraft s.rom s.ops ls

abbrev start : SoFar
start = so_far unstated []

says_nothing : Says start []
says_nothing = record { front = []; rest = []; cut = refl; head = unmapped tt; draft = tt }

no_items : {A B : Type 0} (R : A → B → Type 0) (ys : List B) → AllZip R [] ys → ys ≡ []
no_items R [] h = refl
no_items R (y ∷ ys) h = absurd h

pub says_more : (s t : SoFar) (l : List ℕ) (ls : List (List ℕ)) → Says s ls → Goes s l t → Says t (ls ++ l ∷ [])
says_more s t l ls p (tells h) =
    let none = no_items IsOpLine p.rest p.draft in
    let all : ls ≡ p.front = p.cut ∙ ap (λ k. p.front ++ k) none ∙ append-nil p.front in
    record {
      front = p.front ++ l ∷ [];
      rest = [];
      cut = ap (λ k. k ++ l ∷ []) all ∙ sym (append-nil (p.front ++ l ∷ []));
      head = tells_more p.head h;
      draft = tt;
    }
says_more s t l ls p (does {F = F} op h) = record {
  front = p.front;
  rest = p.rest ++ l ∷ [];
  cut = ap (λ k. k ++ l ∷ []) p.cut ∙ append_assoc p.front p.rest (l ∷ []);
  head = p.head;
  draft = zip_push IsOpLine F p.rest op l p.draft h;
}

head_leads : (rom now : RomText) (ls : List (List ℕ)) → Leads TellsRom rom ls now → Leads Goes (so_far rom []) ls (so_far now [])
head_leads rom now [] here = here
head_leads rom now (l ∷ ls) (on {t = mid} g p) =
    let first : Goes (so_far rom []) l (so_far mid []) = tells g in
    on first (head_leads mid now ls p)

ops_lead : (rom : RomText) (F G : List OpKind) (ls : List (List ℕ)) → AllZip IsOpLine G ls → Leads Goes (so_far rom F) ls (so_far rom (F ++ G))
ops_lead rom F [] [] h = subst (λ k. Leads Goes (so_far rom F) [] (so_far rom k)) (sym (append-nil F)) here
ops_lead rom F [] (l ∷ ls) h = absurd h
ops_lead rom F (op ∷ G) [] h = absurd h
ops_lead rom F (op ∷ G) (l ∷ ls) h =
    let first : Goes (so_far rom F) l (so_far rom (F ++ op ∷ [])) = does op h.0 in
    let rest = ops_lead rom (F ++ op ∷ []) G ls h.1 in
    on first (subst (λ k. Leads Goes (so_far rom (F ++ op ∷ [])) ls (so_far rom k)) (append_assoc F (op ∷ []) G) rest)

leads_to : (s : SoFar) (ls : List (List ℕ)) → Says s ls → Leads Goes start ls s
leads_to s ls p =
    let head = head_leads unstated s.rom p.front (rom_leads p.head) in
    subst (λ k. Leads Goes start k s) (sym p.cut) (further Goes start (so_far s.rom []) s p.front p.rest head (ops_lead s.rom [] s.ops p.rest p.draft))

no_op_map : {op : OpKind} (rest : List (List ℕ)) → OpParts op (codes "map" ∷ rest) → ⊥
no_op_map rest h = elim h [ ]

no_op_rom : {op : OpKind} (rest : List (List ℕ)) → OpParts op (codes "rom" ∷ rest) → ⊥
no_op_rom rest h = elim h [ ]

not_both : {rom now : RomText} {op : OpKind} {l : List ℕ} → TellsRom rom l now → IsOpLine op l → ⊥
not_both {op = op} t h = stated_by_name (OpParts op) h no_op_map no_op_rom t

one_way : (s t u : SoFar) (l : List ℕ) → Goes s l t → Goes s l u → u ≡ t
one_way s t u l (tells {rom = rom} {now = now} g) (tells {now = also} h) = ap (λ rom. so_far rom []) (one_stated rom now also l g h)
one_way s t u l (tells g) (does op h) = absurd (not_both g h)
one_way s t u l (does op h) (tells g) = absurd (not_both g h)
one_way s t u l (does {rom = rom} {F = F} op h) (does other k) = ap (λ op. so_far rom (F ++ op ∷ [])) (one_operation h k)

-- a line that goes on from what others spell
pub goes_on : (s t : SoFar) (ls : List (List ℕ)) (l : List ℕ) → Says s ls → Says t (ls ++ l ∷ []) → Goes s l t
goes_on = last_line Goes one_way Says start says_nothing says_more leads_to

pub one_spelled : {rom other : RomText} {F G : List OpKind} {ls : List (List ℕ)} → SpellsDraft rom F ls → SpellsDraft other G ls → (other ≡ rom) × (G ≡ F)
one_spelled {rom} {other} {F} {G} {ls} p q =
    let same = one_saying Goes one_way Says start says_nothing says_more leads_to (so_far rom F) (so_far other G) ls p q in
    (ap (λ s. s.rom) same, ap (λ s. s.ops) same)

-- a text denotes one draft, and tells one thing of the ROM, at most
pub one_meaning : (text : List ℕ) (rom other : RomText) (F G : List OpKind) → Denotes text rom F → Denotes text other G → (other ≡ rom) × (G ≡ F)
one_meaning text rom other F G a b = one_spelled a.spelled b.spelled

no_fewer : (s t : SoFar) (ls : List (List ℕ)) → Leads Goes s ls t → length s.ops ≤ length t.ops
no_fewer s t [] here = omega arith
no_fewer s t (l ∷ ls) (on {t = mid} (tells g) p) = omega (arith, no_fewer mid t ls p)
no_fewer s t (l ∷ ls) (on {t = mid} (does {F = F} op h) p) = omega (arith, no_fewer mid t ls p, length-append F (op ∷ []))

-- a front of lines without fault is without fault
pub fine_front : (ls more : List (List ℕ)) → IsFineDraft (ls ++ more) → IsFineDraft ls
fine_front ls more h =
    let all = so_far h.rom h.ops in
    let (mid, says, leads) = front_says Goes one_way Says start says_nothing says_more leads_to all ls more h.spelled in
    let whole = h.count in
    record { rom = mid.rom; ops = mid.ops; spelled = says; count = omega (arith, no_fewer mid all more leads) }
