-- What the lines that tell of a ROM spell, line by line.
use Rattle.std.proofs.Common.{◌≡◌, ℕ, List, [], ◌∷◌, ◌++◌, refl, sym, ap, subst, ◌∙◌, append_assoc, append-nil, arith, codes, Option, Some, None}
use Rattle.std.specs.List.{AllZip}
use Rattle.dvg_read.specs.Texts.{IsHex, parts}
use Rattle.dvg_read.specs.RomTexts.{IsMapLine, IsRomLine, RomLine, RomText, SpellsRom, first_stated, large, mapped, small, unmapped}
use Rattle.dvg_read.specs.RomReading.{SpellsWords, TellsRom, gives_words, tells_map, unstated}
use Rattle.dvg_read.proofs.GivenWords.{same_words}
use Rattle.dvg_read.proofs.Steps.{Leads, here, on}
use Rattle.dvg_read.proofs.Zips.{zip_push}

-- what is stated of the ROM
abbrev pub stated_rom : Option ℕ → List RomLine → RomText
stated_rom map given = record { map = map; given = given }

-- one more line

no_lines : (first : ℕ) (ls : List (List ℕ)) → AllZip (IsRomLine first) [] ls → ls ≡ []
no_lines first [] h = refl
no_lines first (l ∷ ls) h = absurd h

map_alone : {first : ℕ} {l : List ℕ} (ls : List (List ℕ)) → ls ≡ [] → IsMapLine first l → SpellsRom (stated_rom (Some first) []) (ls ++ l ∷ [])
map_alone [] none m = mapped m tt
map_alone (x ∷ ls) none m = absurd cc

pub tells_more : {rom now : RomText} {l : List ℕ} {ls : List (List ℕ)} → SpellsRom rom ls → TellsRom rom l now → SpellsRom now (ls ++ l ∷ [])
tells_more (unmapped {ls = ls} h) (tells_map m) = map_alone ls (no_lines 0x800 ls h) m
tells_more (unmapped {ls = ls} h) (gives_words {before = given} {line = l} g k) = unmapped (zip_push (IsRomLine 0x800) given ls g l h k)
tells_more (mapped {first = first} {ls = ls} m h) (gives_words {before = given} {line = l} g k) = mapped m (zip_push (IsRomLine first) given ls g l h k)

-- all lines in turn

words_lead : (map : Option ℕ) (old given : List RomLine) (ls : List (List ℕ)) → AllZip (IsRomLine (first_stated map)) given ls → Leads TellsRom (stated_rom map old) ls (stated_rom map (old ++ given))
words_lead map old [] [] h = subst (λ k. Leads TellsRom (stated_rom map old) [] (stated_rom map k)) (sym (append-nil old)) here
words_lead map old [] (l ∷ ls) h = absurd h
words_lead map old (g ∷ given) [] h = absurd h
words_lead map old (g ∷ given) (l ∷ ls) h =
    let first : TellsRom (stated_rom map old) l (stated_rom map (old ++ g ∷ [])) = gives_words g h.0 in
    let rest = words_lead map (old ++ g ∷ []) given ls h.1 in
    on first (subst (λ k. Leads TellsRom (stated_rom map (old ++ g ∷ [])) ls (stated_rom map k)) (append_assoc old (g ∷ []) given) rest)

pub rom_leads : {rom : RomText} {ls : List (List ℕ)} → SpellsRom rom ls → Leads TellsRom unstated ls rom
rom_leads (unmapped {given = given} {ls = ls} h) = words_lead None [] given ls h
rom_leads (mapped {first = first} {given = given} {line = l} {ls = ls} m h) =
    let stated : TellsRom unstated l (stated_rom (Some first) []) = tells_map m in
    on stated (words_lead (Some first) [] given ls h)

-- no line goes on in two ways

one_hex : (count m n : ℕ) (part : List ℕ) → IsHex count m part → IsHex count n part → n ≡ m
one_hex count m n part h k = sym k.value ∙ h.value

same_line : (a b : ℕ) (ws vs : List ℕ) → b ≡ a → vs ≡ ws → (let line : RomLine = record { address = b; words = vs } in line) ≡ record { address = a; words = ws }
same_line a b ws vs e f = cc

-- a line gives one list of words of the ROM at most
pub one_rom_line : (first : ℕ) (given other : RomLine) (line : List ℕ) → IsRomLine first given line → IsRomLine first other line → other ≡ given
one_rom_line first given other line h k =
    let p = h.split in
    let q = k.split in
    let digits : k.digits ≡ h.digits = cc in
    let spelled : k.spelled ≡ h.spelled = cc in
    let a : other.address ≡ given.address = one_hex 3 given.address other.address h.digits h.address (subst (IsHex 3 other.address) digits k.address) in
    let ws : other.words ≡ given.words = same_words other.words given.words h.spelled (subst (SpellsWords other.words) spelled k.words) h.words in
    same_line given.address other.address given.words other.words a ws

one_map : {first other : ℕ} {l : List ℕ} → IsMapLine first l → IsMapLine other l → other ≡ first
one_map small small = refl
one_map large large = refl

-- the parts of a map's line
pub map_parts : {first : ℕ} {l : List ℕ} → IsMapLine first l → (rest : List (List ℕ)) × (parts l ≡ codes "map" ∷ rest)
map_parts small = (codes "2048" ∷ [], refl)
map_parts large = (codes "4096" ∷ [], refl)

abbrev letter : List (List ℕ) → ℕ
letter ((byte ∷ name) ∷ ps) = byte
letter _ = 0

map_is_no_rom : (rest more : List (List ℕ)) → codes "map" ∷ rest ≡ codes "rom" ∷ more → ⊥
map_is_no_rom rest more e = let is : 109 ≡ 114 = ap letter e in absurd (omega (arith, is))

map_gives_no_words : {first low : ℕ} {l : List ℕ} (given : RomLine) → IsMapLine first l → IsRomLine low given l → ⊥
map_gives_no_words given m h = let (rest, is) = map_parts m in map_is_no_rom rest _ (sym is ∙ h.split)

pub one_stated : (rom now also : RomText) (l : List ℕ) → TellsRom rom l now → TellsRom rom l also → also ≡ now
one_stated rom now also l (tells_map m) (tells_map k) = ap (λ first. stated_rom (Some first) []) (one_map m k)
one_stated rom now also l (tells_map m) (gives_words g h) = absurd (map_gives_no_words g m h)
one_stated rom now also l (gives_words g h) (tells_map m) = absurd (map_gives_no_words g m h)
one_stated rom now also l (gives_words {map = first} {before = before} g h) (gives_words k m) = ap (λ g. stated_rom first (before ++ g ∷ [])) (one_rom_line (first_stated first) g k l h m)

-- a line that tells of the ROM is named so
pub stated_by_name : {rom now : RomText} {l : List ℕ} (P : List (List ℕ) → Type 0) → P (parts l) → ((rest : List (List ℕ)) → P (codes "map" ∷ rest) → ⊥) → ((rest : List (List ℕ)) → P (codes "rom" ∷ rest) → ⊥) → TellsRom rom l now → ⊥
stated_by_name P p no_map no_rom (tells_map m) = let (rest, is) = map_parts m in no_map rest (subst P is p)
stated_by_name P p no_map no_rom (gives_words g h) = no_rom _ (subst P h.split p)
