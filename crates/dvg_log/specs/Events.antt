-- Events, wherever their drafts and images lie in memory. Logs speak of lists as values: one in
-- memory has a place, so equal events would differ.
use Rattle.std.specs.Prelude.{ℕ, List, [], Box, replicate}
use Rattle.std.specs.declared.convert.Infallible.{Infallible}
use Rattle.dvg_mem.specs.declared.TheConstants.{MEMORY_BYTES}
use Rattle.dvg_mem.specs.Memory.{IsImage}
use Rattle.dvg_frame.specs.declared.op.OpKind.{OpKind}
use Rattle.dvg_frame.specs.Ops.{IsDraft}
use Rattle.dvg_log.specs.declared.event.Event.{Event}
use Rattle.dvg_log.specs.declared.event.Event.TheVariants.{Offer, Redraw, Tick, Strobe, Fetch, ResetGen, ResetCpu}
use Rattle.dvg_log.specs.declared.event.Event.TheVariants.{ResetAll}

-- the same event, with f of its draft and g of its image
abbrev pub map_event : {D I E J : Type 0} → (D → E) → (I → J) → Event D I → Event E J
map_event f g (Offer draft) = Offer (f draft)
map_event f g Redraw = Redraw
map_event f g Tick = Tick
map_event f g Strobe = Strobe
map_event f g Fetch = Fetch
map_event f g ResetGen = ResetGen
map_event f g ResetCpu = ResetCpu
map_event f g (ResetAll image) = ResetAll (g image)

-- an event whose draft is the list of its operations, and whose image is the list of its bytes
abbrev pub Happening : Type 0
Happening = Event (List OpKind) (List ℕ)

-- an event of the code, with its draft and its image as lists
abbrev pub happening_of : {A : Type 0} → Event (Box (List OpKind) A) (List ℕ) → Happening
happening_of event = map_event (λ draft. draft.value) (λ image. image) event

-- an event that a line of text spells: no offer is among them, and an image has this byte everywhere
abbrev pub spelled_as : Event Infallible ℕ → Happening
spelled_as event = map_event (λ none. []) (λ byte. replicate MEMORY_BYTES byte) event

-- what an event brings is a draft, or an image
abbrev pub IsEvent : Happening → Type 0
IsEvent (Offer F) = IsDraft F
IsEvent (ResetAll bytes) = IsImage bytes
IsEvent _ = Unit {0}
