-- What the reader of a sketch holds before the first row, and after a section begins.
use Rattle.std.proofs.Common.{◌≡◌, ℕ, List, [], ◌∷◌, ◌++◌, get_or, map, refl, sym, ap, subst, ◌∙◌, arith, Option, None, true, false}
use Rattle.std.proofs.lemmas.List.Elements.{All-cons, All-nil}
use Rattle.std.specs.Option.{option_to_list}
use Rattle.dvg_read.specs.LineParts.{bytes_of}
use Rattle.dvg_read.specs.RomReading.{TellsRom, unstated}
use Rattle.dvg_read.specs.RomTexts.{RomText, first_stated}
use Rattle.dvg_rows.specs.declared.given_names.GivenNames.{GivenNames}
use Rattle.dvg_read.specs.declared.fault.LineFault.{LineFault}
use Rattle.dvg_read.specs.declared.fault.LineFault.TheVariants.{OutOfRom}
use Rattle.dvg_named.specs.declared.reading.Reading.{Reading}
use Rattle.dvg_rows.specs.declared.rom_area.RomArea.{RomArea}
use Rattle.dvg_named.specs.declared.stated_rom.StatedRom.{StatedRom}
use Rattle.dvg_rows.specs.FreshNames.{IsFresh, StopsNames}
use Rattle.dvg_rows.specs.HeldRows.{rows_of}
use Rattle.dvg_named.specs.SketchFaults.{KeepsLimits}
use Rattle.dvg_rows.specs.RowPlaces.{AreDistinct}
use Rattle.dvg_named.specs.ReadParts.{KeepsNext, free_stated, sketch_of}
use Rattle.dvg_rows.specs.RomAreas.{BeginsAt, StopsBegin}
use Rattle.dvg_rows.specs.Rows.{Head, IsHeadLine, frame, rom, top}
use Rattle.dvg_named.specs.Sections.{Section}
use Rattle.dvg_named.specs.SketchReading.{IsBare, KeepsAll, Opens, Reads, ReadsMore, StopsSketch, closed_in, head_in, section_in, spelled_in}
use Rattle.dvg_named.specs.SketchSteps.{SketchTakes, begun, tells}
use Rattle.dvg_named.specs.StatedRoms.{HoldsStated, TellsStated}
use Rattle.dvg_named.proofs.ReadCuts.{goes_begin}
use Rattle.dvg_named.proofs.ReadLimits.{IsOnce, IsSmall}
use Rattle.dvg_named.proofs.BegunSections.{begun_frame, begun_out, begun_rom, begun_twice}
use Rattle.dvg_named.proofs.ReadRows.{names_stop}

-- what is kept, under other names of the same
pub keeps_as : (stated : RomText) (closed closed_now : List Section) (last now : Section)
    (of_frames frames_now of_rom rom_now names names_now : List (List ℕ)) (count count_now : ℕ) (held area_now : RomArea)
    → closed_now ≡ closed → now ≡ last → frames_now ≡ of_frames → rom_now ≡ of_rom → names_now ≡ names
    → count_now ≡ count → area_now ≡ held → KeepsAll stated closed last of_frames of_rom names count held
    → KeepsAll stated closed_now now frames_now rom_now names_now count_now area_now
keeps_as stated closed closed_now last now of_frames frames_now of_rom rom_now names names_now count count_now held area_now a b c d e f g h =
    subst (λ closed. KeepsAll stated closed now frames_now rom_now names_now count_now area_now) (sym a)
    (subst (λ last. KeepsAll stated closed last frames_now rom_now names_now count_now area_now) (sym b)
    (subst (λ frames. KeepsAll stated closed last frames rom_now names_now count_now area_now) (sym c)
    (subst (λ roms. KeepsAll stated closed last of_frames roms names_now count_now area_now) (sym d)
    (subst (λ names. KeepsAll stated closed last of_frames of_rom names count_now area_now) (sym e)
    (subst (λ count. KeepsAll stated closed last of_frames of_rom names count area_now) (sym f)
    (subst (λ area. KeepsAll stated closed last of_frames of_rom names count area) (sym g) h))))))

-- ---- a section begins

module _ {A : Type 0} (old : Reading A) (stated : RomText) (line : List ℕ) (reads : Reads stated old) where
  goes_opened : (mid new : Reading A) (head : Head) → closed_in mid ≡ closed_in old → section_in mid.last ≡ section_in old.last
      → IsHeadLine head line → Opens mid head new → SketchTakes (spelled_in stated old) line (spelled_in stated new)
  goes_opened mid new head same kept spelled opened =
      subst (λ closed. SketchTakes (spelled_in stated old) line (sketch_of stated closed (section_in new.last)))
      (sym (opened.closed ∙ ap (λ l. l ++ section_in mid.last ∷ []) same ∙ ap (λ s. closed_in old ++ s ∷ []) kept))
      (subst (λ last. SketchTakes (spelled_in stated old) line (sketch_of stated (closed_in old ++ section_in old.last ∷ []) last))
      (sym opened.opened) (goes_begin stated (closed_in old) (section_in old.last) head line spelled))

  pub frame_opened : (names : GivenNames A) (name : Option (List ℕ)) (new : Reading A) → IsHeadLine (frame name) line
      → bytes_of names.given.keys ≡ bytes_of old.frame_names.given.keys ++ option_to_list name
      → IsFresh (bytes_of old.frame_names.given.keys) name → Opens (record old { frame_names = names }) (frame name) new
      → ReadsMore stated old line new
  frame_opened names name new spelled given fresh opened = record {
    now = stated;
    goes = goes_opened (record old { frame_names = names }) new (frame name) refl refl spelled opened;
    reads = record {
      rom = subst (λ rom. HoldsStated stated rom) (sym opened.rom) reads.rom;
      keeps =
          keeps_as stated (closed_in old ++ section_in old.last ∷ []) (closed_in new) (begun (frame name)) (section_in new.last)
          (bytes_of old.frame_names.given.keys ++ option_to_list name) (bytes_of new.frame_names.given.keys)
          (bytes_of old.rom_names.given.keys) (bytes_of new.rom_names.given.keys) [] (bytes_of new.names.given.keys) 0
          new.count old.area new.area opened.closed opened.opened
          (ap (λ (names : GivenNames A). bytes_of names.given.keys) opened.frame_names ∙ given)
          (ap (λ (names : GivenNames A). bytes_of names.given.keys) opened.rom_names) opened.names opened.count opened.area
          (begun_frame stated (closed_in old) (section_in old.last) (bytes_of old.frame_names.given.keys)
          (bytes_of old.rom_names.given.keys) (bytes_of old.names.given.keys) old.count old.area reads.keeps name fresh);
    };
  }

  pub frame_refused : (name : Option (List ℕ)) (fault : LineFault) → IsHeadLine (frame name) line
      → StopsNames (bytes_of old.frame_names.given.keys) name fault → StopsSketch fault (spelled_in stated old) line
  frame_refused name fault spelled stops =
      names_stop fault (bytes_of old.frame_names.given.keys) name (spelled_in stated old) line stops
      (λ again. begun_twice stated (closed_in old) (section_in old.last) (bytes_of old.frame_names.given.keys)
      (bytes_of old.rom_names.given.keys) (bytes_of old.names.given.keys) old.count old.area reads.keeps name line spelled
      again)

  pub rom_opened : (area : RomArea) (address : Option ℕ) (first : ℕ) (new : Reading A) → IsHeadLine (rom address) line
      → first ≡ first_stated stated.map → BeginsAt first address old.area area
      → Opens (record old { area = area }) (rom address) new → ReadsMore stated old line new
  rom_opened area address first new spelled e begins opened = record {
    now = stated;
    goes = goes_opened (record old { area = area }) new (rom address) refl refl spelled opened;
    reads = record {
      rom = subst (λ rom. HoldsStated stated rom) (sym opened.rom) reads.rom;
      keeps =
          keeps_as stated (closed_in old ++ section_in old.last ∷ []) (closed_in new) (begun (rom address)) (section_in new.last)
          (bytes_of old.frame_names.given.keys) (bytes_of new.frame_names.given.keys) (bytes_of old.rom_names.given.keys)
          (bytes_of new.rom_names.given.keys) [] (bytes_of new.names.given.keys) 0 new.count area new.area opened.closed
          opened.opened (ap (λ (names : GivenNames A). bytes_of names.given.keys) opened.frame_names)
          (ap (λ (names : GivenNames A). bytes_of names.given.keys) opened.rom_names) opened.names opened.count opened.area
          (begun_rom stated (closed_in old) (section_in old.last) (bytes_of old.frame_names.given.keys)
          (bytes_of old.rom_names.given.keys) (bytes_of old.names.given.keys) old.count old.area reads.keeps address first e
          area begins);
    };
  }

  pub begin_refused : (address : Option ℕ) (first : ℕ) (fault : LineFault) → IsHeadLine (rom address) line
      → first ≡ first_stated stated.map → StopsBegin first address old.area fault
      → StopsSketch fault (spelled_in stated old) line
  begin_refused address first OutOfRom spelled e out =
      begun_out stated (closed_in old) (section_in old.last) (bytes_of old.frame_names.given.keys)
      (bytes_of old.rom_names.given.keys) (bytes_of old.names.given.keys) old.count old.area reads.keeps address line spelled
      first e out
  begin_refused address first _ spelled e h = absurd h

-- ---- before the first row

no_names : AreDistinct []
no_names = λ i j d low inside. absurd (omega (arith, low, inside))

-- no rows are within the limits
nothing_kept : (stated : RomText) (head : Head) → KeepsLimits (sketch_of stated [] (record { head = head; rows = [] }))
nothing_kept stated head = record {
  once = record {
    in_frames = All-cons IsOnce (record { name = None; rows = [] }) [] no_names (All-nil IsOnce);
    in_rom = no_names;
    of_frames = no_names;
  };
  drafts = All-cons IsSmall (record { name = None; rows = [] }) [] (omega arith) (All-nil IsSmall);
  rom = All-nil _;
  apart = λ i j d low inside. absurd (omega (arith, low, inside));
}

next_at_top : (stated : RomText) (head : Head) (next : ℕ) → head ≡ top → KeepsNext stated [] head [] next
next_at_top stated top next e = tt
next_at_top stated (frame name) next e = tt
next_at_top stated (rom address) next e = absurd cc

-- what is kept where nothing was spelled
kept_bare : (stated : RomText) (of_frames of_rom names : List (List ℕ)) (count : ℕ) (held : RomArea) → of_frames ≡ [] → of_rom ≡ []
    → names ≡ [] → count ≡ 0 → held.free ≡ free_stated stated → ((a : ℕ) → get_or held.is_taken a false ≡ false)
    → KeepsAll stated [] (record { head = top; rows = [] }) of_frames of_rom names count held
kept_bare stated of_frames of_rom names count held a b c d free none = record {
  starts = refl;
  limits = nothing_kept stated top;
  frames = a;
  roms = b;
  frame = (c, d);
  next = tt;
  area = record {
    free = free;
    on = λ a covered. absurd (let low = covered.2 in omega (arith, low));
    only = λ a is. let no = none a in absurd (let e : true ≡ false = sym is ∙ no in cc);
  };
}

pub begins_bare : {A : Type 0} (reading : Reading A) → HoldsStated unstated reading.rom → reading.closed.items ≡ []
    → reading.last.head ≡ None → reading.last.rows.items ≡ [] → bytes_of reading.frame_names.given.keys ≡ []
    → bytes_of reading.rom_names.given.keys ≡ [] → bytes_of reading.names.given.keys ≡ [] → reading.count ≡ 0
    → reading.area.free ≡ 0x800 → ((a : ℕ) → get_or reading.area.is_taken a false ≡ false) → Reads unstated reading
begins_bare reading holds closed head rows a b c d free none = record {
  rom = holds;
  keeps =
      keeps_as unstated [] (closed_in reading) (record { head = top; rows = [] }) (section_in reading.last) [] (bytes_of reading.frame_names.given.keys)
      [] (bytes_of reading.rom_names.given.keys) [] (bytes_of reading.names.given.keys) 0 reading.count reading.area
      reading.area (ap (map section_in) closed)
      (let at = ap head_in head in let none = ap rows_of rows in let s : section_in reading.last ≡ record { head = top; rows = [] } = cc in s)
      a b c d refl (kept_bare unstated [] [] [] 0 reading.area refl refl refl refl free none);
}

-- ---- a line that tells of the ROM

stated_rows : (stated now : RomText) (head : Head) (of_frames of_rom names : List (List ℕ)) (count : ℕ) (held new : RomArea)
    → new.free ≡ free_stated now → new.is_taken ≡ held.is_taken
    → KeepsAll stated [] (record { head = head; rows = [] }) of_frames of_rom names count held
    → KeepsAll now [] (record { head = head; rows = [] }) of_frames of_rom names count new
stated_rows stated now head of_frames of_rom names count held new free taken h = record {
  starts = h.starts;
  limits = nothing_kept now head;
  frames = h.frames;
  roms = h.roms;
  frame = h.frame;
  next = next_at_top now head new.next h.starts;
  area = record {
    free = free;
    on = λ a covered. absurd (let low = covered.2 in omega (arith, low));
    only = λ a is. h.area.only a (ap (λ l. get_or l a false) (sym taken) ∙ is);
  };
}

stated_by : (stated now : RomText) (closed : List Section) (last : Section) (of_frames of_rom names : List (List ℕ)) (count : ℕ)
    (held new : RomArea) → closed ≡ [] → last.rows ≡ [] → new.free ≡ free_stated now → new.is_taken ≡ held.is_taken
    → KeepsAll stated closed last of_frames of_rom names count held → KeepsAll now closed last of_frames of_rom names count new
stated_by stated now closed last of_frames of_rom names count held new none empty free taken h =
    let is : last ≡ record { head = last.head; rows = [] } = ap (λ rows. record { head = last.head; rows = rows }) empty in
    subst (λ closed. KeepsAll now closed last of_frames of_rom names count new) (sym none)
    (subst (λ last. KeepsAll now [] last of_frames of_rom names count new) (sym is)
    (stated_rows stated now last.head of_frames of_rom names count held new free taken
    (subst (λ last. KeepsAll stated [] last of_frames of_rom names count held) is
    (subst (λ closed. KeepsAll stated closed last of_frames of_rom names count held) none h))))

goes_stated : (stated now : RomText) (closed : List Section) (last : Section) (line : List ℕ) → closed ≡ [] → last.rows ≡ []
    → TellsRom stated line now → SketchTakes (sketch_of stated closed last) line (sketch_of now closed last)
goes_stated stated now closed last line none empty h =
    let is : last ≡ record { head = last.head; rows = [] } = ap (λ rows. record { head = last.head; rows = rows }) empty in
    subst (λ closed. SketchTakes (sketch_of stated closed last) line (sketch_of now closed last)) (sym none)
    (subst (λ last. SketchTakes (sketch_of stated [] last) line (sketch_of now [] last)) (sym is) (tells h))

pub rom_stated : {A : Type 0} (old : Reading A) (stated : RomText) (line : List ℕ) (held : StatedRom) (area : RomArea)
    → IsBare old → Reads stated old → TellsStated stated line held → area.free ≡ held.free → area.is_taken ≡ old.area.is_taken
    → ReadsMore stated old line (record old { rom = held; area = area })
rom_stated old stated line held area bare reads says free taken = record {
  now = says.now;
  goes = goes_stated stated says.now (closed_in old) (section_in old.last) line bare.0 bare.1 says.tells;
  reads = record {
    rom = says.holds;
    keeps = stated_by stated says.now (closed_in old) (section_in old.last) (bytes_of old.frame_names.given.keys)
        (bytes_of old.rom_names.given.keys) (bytes_of old.names.given.keys) old.count old.area area bare.0 bare.1
        (free ∙ says.holds.free) taken reads.keeps;
  };
}
