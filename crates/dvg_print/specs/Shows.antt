-- What `play` writes of a log.
use Rattle.std.specs.Prelude.{ℕ, suc, List, [], ◌∷◌, ◌++◌, length, flat_map, codes, decimal, Bool, true, false}
use Rattle.dvg_gen.specs.declared.stroke.Stroke.{Stroke}
use Rattle.dvg_gen.specs.Numbers.{fault_number}
use Rattle.dvg_driver.specs.declared.action.Action.{Action}
use Rattle.dvg_driver.specs.declared.action.Action.TheVariants.{Peek, Wrote, Read, Sent, Idle}
use Rattle.dvg_log.specs.Entries.{Shown, map_entry}
use Rattle.dvg_log.specs.declared.entry.Entry.{Entry}
use Rattle.dvg_log.specs.declared.entry.Entry.TheVariants.{Offered, Refused, Busy, Asked, NothingPublished, Acted}
use Rattle.dvg_log.specs.declared.entry.Entry.TheVariants.{Started, NoStrobe, Low, Fetched, Done, Broke, Still, Cleared}
use Rattle.dvg_print.specs.Lines.{hex_2, hex_3, hex_4, spaced}
use Rattle.dvg_print.specs.Verdicts.{fault_parts}

-- the parts of an action's text
abbrev pub action_parts : Action → List (List ℕ)
action_parts Peek = codes "peek" ∷ []
action_parts (Wrote a byte) = codes "wrote" ∷ hex_3 a ∷ hex_2 byte ∷ []
action_parts (Read true) = codes "read halted" ∷ []
action_parts (Read false) = codes "read running" ∷ []
action_parts Sent = codes "sent" ∷ []
action_parts Idle = codes "idle" ∷ []

-- the parts of an entry's text; a finished run has the number of its strokes
abbrev pub entry_parts : Entry ℕ → List (List ℕ)
entry_parts Offered = codes "offered" ∷ []
entry_parts (Refused fault) = codes "refused" ∷ fault_parts fault
entry_parts Busy = codes "busy" ∷ []
entry_parts Asked = codes "asked" ∷ []
entry_parts NothingPublished = codes "nothing published" ∷ []
entry_parts (Acted action) = action_parts action
entry_parts Started = codes "started" ∷ []
entry_parts NoStrobe = codes "no strobe" ∷ []
entry_parts (Low address byte) = codes "low" ∷ hex_3 address ∷ hex_2 byte ∷ []
entry_parts (Fetched address word) = codes "fetched" ∷ hex_3 address ∷ hex_4 word ∷ []
entry_parts (Done address word strokes) = codes "done" ∷ hex_3 address ∷ hex_4 word ∷ decimal strokes ∷ []
entry_parts (Broke address fault) = codes "broke" ∷ hex_3 address ∷ decimal (fault_number fault) ∷ []
entry_parts Still = codes "still" ∷ []
entry_parts Cleared = codes "cleared" ∷ []

-- the text of a position (for a private contract)
abbrev pub position_text : ℕ → ℕ → List ℕ
position_text x y = decimal x ++ spaced (decimal y ∷ [])

-- the line of a stroke, positions in 1/512 units; 10 is LF
abbrev pub stroke_line : Stroke → List ℕ
stroke_line stroke = decimal stroke.x0
    ++ spaced (decimal stroke.y0 ∷ decimal stroke.x1 ∷ decimal stroke.y1 ∷ decimal stroke.z ∷ []) ++ 10 ∷ []

-- the strokes of a finished run, in the order drawn, a line each
abbrev pub strokes_of : Shown → List ℕ
strokes_of (Done address word drew) = flat_map stroke_line drew
strokes_of _ = []

-- the line of an entry: its event's number and its text
abbrev pub entry_line : ℕ → Entry ℕ → List ℕ
entry_line number entry = decimal number ++ spaced (entry_parts entry) ++ 10 ∷ []

-- the line of a picture: the event's number and how many strokes there are; none for another entry
abbrev pub picture_line : ℕ → Shown → List ℕ
picture_line number (Done address word drew) = codes "picture" ++ spaced (decimal number ∷ decimal (length drew) ∷ [])
    ++ 10 ∷ []
picture_line number _ = []

-- the first line that is shown of an entry: with `all` of each, and else of finished runs alone
abbrev pub head_line : Bool → ℕ → Shown → List ℕ
head_line true number entry = entry_line number (map_entry (λ drew. length drew) entry)
head_line false number entry = picture_line number entry

-- what is shown of one entry
abbrev pub shown_entry : Bool → ℕ → Shown → List ℕ
shown_entry all number entry = head_line all number entry ++ strokes_of entry

-- what is shown of entries in order, the first of which is that of this event's number
abbrev pub shown : Bool → ℕ → List Shown → List ℕ
shown all number [] = []
shown all number (entry ∷ entries) = shown_entry all number entry ++ shown all (suc number) entries
