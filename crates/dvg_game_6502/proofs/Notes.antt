-- What is noted at each address of the driver's code but dvg_copy's: each row is proved.
use Rattle.std.specs.Prelude.{ℕ, true, false, List, [], ◌∷◌, ◌++◌, Option, None, Some, nat_eq, if◌then◌else◌}
use Rattle.dvg_calls_6502.specs.Processor.{A, X, Y}
use Rattle.dvg_game_6502.proofs.Claims.{Claim, Unknown, Ready, Sized, Low, Blank, Aims, Inside, Note}
use Rattle.dvg_game_6502.proofs.Claims.{Also, Nothing, Is, UpTo, Small, Even, Page, Once, Twice, Says}
use Rattle.dvg_game_6502.proofs.Claims.{Under, Over, Found}

-- S is as where the call began; it may be two lower
abbrev pub outer : Claim → Also → Note
outer claim also = record { inner = false; claim = claim; also = also }

abbrev pub inner : Claim → Also → Note
inner claim also = record { inner = true; claim = claim; also = also }

-- dvg_reset
abbrev pub reset : List (ℕ × Note)
reset =
    (0x6800, outer Unknown Nothing) ∷ (0x6802, outer Unknown (Is A 0))
    ∷ (0x6804, outer Low Nothing) ∷ (0x6806, outer Low Nothing) ∷ (0x6808, outer Ready Nothing)
    ∷ []

-- dvg_run
abbrev pub run : List (ℕ × Note)
run =
    (0x6809, outer Ready Nothing) ∷ (0x680B, outer Ready (Says A)) ∷ (0x680D, outer Ready Nothing)
    ∷ (0x680F, outer Ready Nothing) ∷ (0x6811, outer Ready Nothing) ∷ (0x6813, outer Ready Nothing)
    ∷ (0x6815, outer Ready Nothing) ∷ (0x6818, outer Ready Nothing) ∷ (0x681B, outer Ready Nothing)
    ∷ []

-- dvg_run, where it writes a table
abbrev pub burst : List (ℕ × Note)
burst =
    (0x681C, outer Aims Nothing) ∷ (0x681E, outer Aims Small) ∷ (0x681F, outer Aims Small)
    ∷ (0x6820, outer Aims Small) ∷ (0x6822, outer Aims Small) ∷ (0x6824, outer Aims Small)
    ∷ (0x6826, outer Inside Small) ∷ (0x6827, outer Inside Small) ∷ (0x6829, outer Inside Small)
    ∷ (0x682B, outer Inside Small) ∷ (0x682D, outer Inside Small) ∷ (0x682F, outer Inside Small)
    ∷ (0x6831, outer Inside Small) ∷ (0x6832, outer Inside Small) ∷ (0x6834, outer Inside Small)
    ∷ (0x6836, outer Inside Small) ∷ (0x6838, outer Inside Small) ∷ (0x6839, outer Aims Small)
    ∷ (0x683B, outer Inside Small) ∷ (0x683C, outer Inside Small) ∷ (0x683E, outer Inside Small)
    ∷ (0x6840, outer Inside Small) ∷ (0x6842, outer Aims Small) ∷ (0x6844, outer Aims Small)
    ∷ (0x6846, outer Aims Small) ∷ (0x6848, outer Aims Small) ∷ (0x684A, outer Aims Small)
    ∷ (0x684C, outer Aims Small) ∷ (0x684E, outer Aims Small) ∷ (0x6850, outer Aims Small)
    ∷ (0x6852, outer Aims Small) ∷ (0x6854, outer Aims Small) ∷ (0x6856, outer Aims Small)
    ∷ (0x6858, outer Aims Small) ∷ (0x685A, outer Aims Small) ∷ (0x685C, outer Aims Small)
    ∷ (0x685E, outer Aims Small) ∷ []

-- dvg_ticks
abbrev pub ticks : List (ℕ × Note)
ticks =
    (0x6860, outer Ready Nothing) ∷ (0x6862, outer Ready Nothing) ∷ (0x6865, outer Ready Nothing)
    ∷ (0x6867, outer Ready Nothing) ∷ (0x6869, outer Ready Nothing) ∷ []

-- dvg_tick
abbrev pub tick : List (ℕ × Note)
tick =
    (0x686A, inner Ready Nothing) ∷ (0x686C, inner Ready (Says X))
    ∷ (0x686E, inner Ready (Under 0)) ∷ (0x6870, inner Ready (Over 0))
    ∷ (0x6871, inner Ready (Under 1)) ∷ (0x6873, inner Ready (Over 1))
    ∷ (0x6874, inner Ready (Under 2)) ∷ (0x6876, inner Ready (Over 2))
    ∷ (0x6877, inner Ready (Under 3)) ∷ (0x6879, inner Ready (Over 3))
    ∷ (0x687A, inner Ready (Under 4)) ∷ (0x687C, inner Ready (Over 4))
    ∷ (0x687D, inner Ready (Under 5)) ∷ (0x687F, inner Ready (Over 5))
    ∷ (0x6880, inner Ready (Under 6)) ∷ (0x6882, inner Ready Nothing)
    ∷ (0x6884, inner Ready (Is A 2)) ∷ (0x6886, inner Low Nothing) ∷ (0x6889, inner Ready Nothing)
    ∷ (0x688A, inner Low Nothing) ∷ (0x688D, inner Low Nothing) ∷ (0x688F, inner Low Nothing)
    ∷ (0x6891, inner Low Nothing) ∷ (0x6893, inner Low Nothing) ∷ (0x6895, inner Ready Nothing)
    ∷ (0x6896, inner Low Nothing) ∷ (0x6899, inner Low Nothing) ∷ (0x689B, inner Low Nothing)
    ∷ (0x689D, inner Ready Nothing) ∷ (0x689E, inner Low Nothing) ∷ (0x68A0, inner Low Nothing)
    ∷ (0x68A3, inner Low Nothing) ∷ (0x68A5, inner Ready Nothing) ∷ (0x68A6, inner Low Nothing)
    ∷ (0x68A8, inner Low Nothing) ∷ (0x68AB, inner Low Nothing) ∷ (0x68AD, inner Low Nothing)
    ∷ (0x68AF, inner Low Nothing) ∷ (0x68B1, inner Low Nothing) ∷ (0x68B3, inner Low Nothing)
    ∷ (0x68B5, inner Ready Nothing) ∷ (0x68B6, inner Low Nothing) ∷ (0x68B9, inner Low Nothing)
    ∷ (0x68BB, inner Low Nothing) ∷ (0x68BD, inner Ready Nothing) ∷ []

-- dvg_tick, where it writes a table
abbrev pub write : List (ℕ × Note)
write =
    (0x68BE, inner Aims Nothing) ∷ (0x68C0, inner Aims Small) ∷ (0x68C1, inner Aims Small)
    ∷ (0x68C2, inner Aims Small) ∷ (0x68C4, inner Aims Small) ∷ (0x68C6, inner Aims Small)
    ∷ (0x68C8, inner Aims Small) ∷ (0x68CA, inner Aims Small) ∷ (0x68CC, inner Aims Small)
    ∷ (0x68CE, inner Aims Small) ∷ (0x68CF, inner Aims Small) ∷ (0x68D1, inner Aims Small)
    ∷ (0x68D3, inner Aims Small) ∷ (0x68D5, inner Aims Small) ∷ (0x68D6, inner Aims Small)
    ∷ (0x68D8, inner Aims Small) ∷ (0x68DA, inner Aims Small) ∷ (0x68DC, inner Aims Small)
    ∷ (0x68DE, inner Aims Small) ∷ (0x68E0, inner Aims Small) ∷ (0x68E2, inner Aims Small)
    ∷ (0x68E4, inner Aims Small) ∷ (0x68E6, inner Inside Small) ∷ (0x68E7, inner Inside Small)
    ∷ (0x68E9, inner Inside Small) ∷ (0x68EB, inner Inside Small) ∷ (0x68ED, inner Inside Small)
    ∷ (0x68EF, inner Aims Small) ∷ (0x68F1, inner Aims Small) ∷ (0x68F3, inner Aims Small)
    ∷ (0x68F5, inner Aims Small) ∷ (0x68F7, inner Aims Small) ∷ (0x68F9, inner Aims Small)
    ∷ (0x68FB, inner Aims Small) ∷ (0x68FD, inner Ready Nothing) ∷ []

-- dvg_offer, dvg_open, dvg_redraw
abbrev pub offer : List (ℕ × Note)
offer =
    (0x68FE, outer Sized Nothing) ∷ (0x6900, outer Sized (Says Y))
    ∷ (0x6902, outer Sized (Found 2)) ∷ (0x6904, outer Low Nothing) ∷ (0x6906, outer Low Nothing)
    ∷ (0x6908, outer Low Nothing) ∷ (0x690A, outer Low (Is Y 1)) ∷ (0x690C, outer Low (Is Y 1))
    ∷ (0x690E, outer Low (Is Y 1)) ∷ (0x690F, outer Low (Is Y 0)) ∷ (0x6911, outer Low (Is Y 0))
    ∷ (0x6912, outer Low (Is Y 0)) ∷ (0x6914, outer Low (Is Y 0)) ∷ (0x6916, outer Low (Is Y 0))
    ∷ (0x6918, outer Low (Is Y 0)) ∷ (0x691A, outer Low (Is Y 0)) ∷ (0x691C, outer Low (Is Y 0))
    ∷ (0x691E, outer Low (Is Y 0)) ∷ (0x6920, outer Low (Is Y 0)) ∷ (0x6922, outer Low (Is Y 0))
    ∷ (0x6924, outer Sized Nothing) ∷ (0x6926, outer Sized (Says Y))
    ∷ (0x6928, outer Sized (Found 2)) ∷ (0x692A, outer Low Nothing) ∷ (0x692C, outer Low (Is Y 0))
    ∷ (0x692E, outer Low (Is Y 0)) ∷ (0x6930, outer Low (Is Y 0)) ∷ (0x6932, outer Blank Nothing)
    ∷ (0x6934, outer Blank Nothing) ∷ (0x6936, outer Blank (UpTo 2))
    ∷ (0x6937, outer Blank (UpTo 4)) ∷ (0x6939, outer Blank Page) ∷ (0x693B, outer Aims Nothing)
    ∷ (0x693D, outer Aims Small) ∷ (0x693F, outer Aims Small) ∷ (0x6941, outer Aims Nothing)
    ∷ (0x6942, outer Ready Nothing) ∷ (0x6943, outer Ready Nothing) ∷ (0x6945, outer Ready Nothing)
    ∷ (0x6947, outer Ready Nothing) ∷ (0x6949, outer Ready Nothing) ∷ (0x694B, outer Ready Nothing)
    ∷ (0x694D, outer Ready Nothing) ∷ (0x694F, outer Ready Nothing)
    ∷ (0x6951, outer Ready (Is A 5)) ∷ (0x6953, outer Low Nothing) ∷ (0x6954, outer Ready Nothing)
    ∷ (0x6955, outer Ready Nothing) ∷ (0x6956, outer Ready Nothing) ∷ []

-- dvg_put
abbrev pub put : List (ℕ × Note)
put =
    (0x6957, outer Ready Nothing) ∷ (0x6959, outer Ready (Says Y))
    ∷ (0x695B, outer Ready (Found 7)) ∷ (0x695D, outer Aims Nothing) ∷ (0x695F, outer Aims Nothing)
    ∷ (0x6961, outer Aims Nothing) ∷ (0x6963, outer Aims Small) ∷ (0x6965, outer Aims Small)
    ∷ (0x6967, outer Aims Small) ∷ (0x6969, outer Aims Small) ∷ (0x696B, outer Inside Small)
    ∷ (0x696C, outer Inside Small) ∷ (0x696D, outer Aims Small) ∷ (0x696F, outer Inside Small)
    ∷ (0x6970, outer Inside Small) ∷ (0x6972, outer Inside Small) ∷ (0x6974, outer Inside Small)
    ∷ (0x6976, outer Aims Small) ∷ (0x6978, outer Ready Nothing) ∷ []

-- dvg_labs, dvg_pair
abbrev pub pair : List (ℕ × Note)
pair =
    (0x6979, outer Ready Nothing) ∷ (0x697B, outer Ready Nothing) ∷ (0x697D, outer Ready Nothing)
    ∷ (0x697F, outer Ready Nothing) ∷ (0x6981, outer Ready Nothing) ∷ (0x6983, outer Ready Nothing)
    ∷ (0x6985, outer Ready Nothing) ∷ (0x6987, outer Ready Nothing) ∷ (0x6989, outer Ready Nothing)
    ∷ (0x698B, outer Ready (Says Y)) ∷ (0x698D, outer Ready (Found 7))
    ∷ (0x698F, outer Aims Nothing) ∷ (0x6991, outer Aims Nothing) ∷ (0x6993, outer Aims Nothing)
    ∷ (0x6995, outer Aims Small) ∷ (0x6997, outer Aims Small) ∷ (0x6999, outer Aims Small)
    ∷ (0x699B, outer Aims Small) ∷ (0x699D, outer Aims Small) ∷ (0x699F, outer Inside Small)
    ∷ (0x69A0, outer Inside Small) ∷ (0x69A2, outer Aims Small) ∷ (0x69A4, outer Inside Small)
    ∷ (0x69A5, outer Inside Small) ∷ (0x69A7, outer Inside Small) ∷ (0x69A9, outer Aims Small)
    ∷ (0x69AB, outer Aims Small) ∷ (0x69AD, outer Aims Small) ∷ (0x69AF, outer Inside Small)
    ∷ (0x69B0, outer Inside Small) ∷ (0x69B2, outer Aims Small) ∷ (0x69B4, outer Inside Small)
    ∷ (0x69B5, outer Inside Small) ∷ (0x69B7, outer Inside Small) ∷ (0x69B9, outer Inside Small)
    ∷ (0x69BB, outer Aims Small) ∷ (0x69BD, outer Ready Nothing) ∷ (0x69BE, outer Ready Nothing)
    ∷ (0x69BF, outer Ready Nothing) ∷ []

-- dvg_close
abbrev pub close : List (ℕ × Note)
close =
    (0x6A00, outer Ready Nothing) ∷ (0x6A02, outer Ready (Says Y))
    ∷ (0x6A04, outer Ready (Found 7)) ∷ (0x6A06, outer Aims Nothing) ∷ (0x6A08, outer Aims Small)
    ∷ (0x6A0A, outer Aims Small) ∷ (0x6A0C, outer Inside Small) ∷ (0x6A0D, outer Inside Small)
    ∷ (0x6A0F, outer Aims Small) ∷ (0x6A11, outer Inside Small) ∷ (0x6A13, outer Aims Small)
    ∷ (0x6A15, outer Aims Small) ∷ (0x6A16, outer Ready Nothing) ∷ []

-- dvg_vector: the signs of x and y
abbrev pub axes : List (ℕ × Note)
axes =
    (0x6A17, outer Ready Nothing) ∷ (0x6A19, outer Ready Nothing) ∷ (0x6A1B, outer Ready Nothing)
    ∷ (0x6A1D, outer Ready Nothing) ∷ (0x6A1F, outer Ready Even) ∷ (0x6A21, outer Ready Even)
    ∷ (0x6A23, outer Ready Even) ∷ (0x6A25, outer Ready Even) ∷ (0x6A27, outer Ready Even)
    ∷ (0x6A29, outer Ready Even) ∷ (0x6A2B, outer Ready Even) ∷ (0x6A2D, outer Ready Even)
    ∷ (0x6A2F, outer Ready Even) ∷ (0x6A31, outer Ready Even) ∷ (0x6A33, outer Ready Even)
    ∷ (0x6A35, outer Ready Even) ∷ (0x6A37, outer Ready Even) ∷ (0x6A39, outer Ready Even)
    ∷ (0x6A3B, outer Ready Even) ∷ (0x6A3D, outer Ready Even) ∷ (0x6A3F, outer Ready Even)
    ∷ (0x6A41, outer Ready Even) ∷ (0x6A43, outer Ready Even) ∷ (0x6A44, outer Ready Once)
    ∷ (0x6A45, outer Ready Twice) ∷ []

-- dvg_vector: short or long
abbrev pub vector : List (ℕ × Note)
vector =
    (0x6A47, outer Ready Nothing) ∷ (0x6A49, outer Ready Nothing) ∷ (0x6A4B, outer Ready Nothing)
    ∷ (0x6A4D, outer Ready Nothing) ∷ (0x6A4F, outer Ready Nothing) ∷ (0x6A51, outer Ready Nothing)
    ∷ (0x6A53, outer Ready Nothing) ∷ (0x6A55, outer Ready Nothing) ∷ (0x6A57, outer Ready Nothing)
    ∷ (0x6A59, outer Ready Nothing) ∷ (0x6A5A, outer Ready Nothing) ∷ (0x6A5C, outer Ready Nothing)
    ∷ (0x6A5E, outer Ready Nothing) ∷ (0x6A5F, outer Ready Nothing) ∷ (0x6A61, outer Ready Nothing)
    ∷ (0x6A62, outer Ready Nothing) ∷ (0x6A63, outer Ready Nothing) ∷ (0x6A64, outer Ready Nothing)
    ∷ (0x6A65, outer Ready Nothing) ∷ (0x6A67, outer Ready Nothing) ∷ (0x6A69, outer Ready Nothing)
    ∷ (0x6A6B, outer Ready Nothing) ∷ (0x6A6D, outer Ready Nothing) ∷ (0x6A70, outer Ready Nothing)
    ∷ (0x6A72, outer Ready Nothing) ∷ (0x6A74, outer Ready Nothing) ∷ (0x6A76, outer Ready Nothing)
    ∷ (0x6A78, outer Ready Nothing) ∷ (0x6A7A, outer Ready Nothing) ∷ (0x6A7B, outer Ready Nothing)
    ∷ (0x6A7C, outer Ready Nothing) ∷ (0x6A7D, outer Ready Nothing) ∷ (0x6A7E, outer Ready Nothing)
    ∷ (0x6A80, outer Ready Nothing) ∷ (0x6A82, outer Ready Nothing) ∷ (0x6A85, outer Ready Nothing)
    ∷ (0x6A86, outer Ready Nothing) ∷ []

abbrev pub notes : List (ℕ × Note)
notes =
    reset ++ (run ++ (burst ++ (ticks ++ (tick ++ (write
    ++ (offer ++ (put ++ (pair ++ (close ++ (axes ++ (vector)))))))))))

abbrev pub lookup : List (ℕ × Note) → ℕ → Option Note
lookup [] at = None
lookup (row ∷ rows) at = let rest = lookup rows at in if nat_eq row.0 at then Some row.1 else rest

-- the note of an address
abbrev pub noted : ℕ → Option Note
noted at = lookup notes at
