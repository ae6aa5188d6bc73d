-- Examples of a word at a time, reckoned by hand: what the call tells, and steps that must hold after it.
use Rattle.std.specs.Prelude.{ℕ, Bool, true, false, ◌&&◌, List, [], ◌∷◌, ◌++◌, eqb}
use Rattle.module_types.specs.declared.Call.TheVariants.{Read, Write, Tick, Pin}
use Rattle.module_types.specs.declared.Output.TheVariants.{Low, High}
use Rattle.module_types.specs.declared.Said.{Said}
use Rattle.module_rules.specs.Refusals.{said_of}
use Rattle.module_rules.specs.Calls.{powered_up}
use Rattle.module_rules.specs.Examples.{ExampleStep, says, shows, flagged, clock_at, ok, value, no_edge, edge, refused, same_said, all_hold, after_steps, set_up, tick_edges}
use Rattle.word_rules.specs.declared.Worded.{Worded}
use Rattle.word_rules.specs.Word.{word_of}

-- The call after some steps from power-up: what its step says, how many levels there are, the levels, and what holds after it.
abbrev pub word_tells : List ExampleStep → Bool → ℕ → Said → ℕ → ℕ → List ExampleStep → Bool
word_tells before ss word said count levels after =
    let told : Worded = word_of (after_steps powered_up before) ss word in
    same_said (said_of told.answer) said && (eqb told.count count && (eqb told.levels levels && all_hold told.after after))

-- A host of 8 bits sends A5 and takes 3C; the flag is raised, and it is idle.
abbrev pub host_word : Bool
host_word =
    word_tells (set_up 0x0020 0 ++ (says (Write 3 0xA5) ok ∷ [])) false 0x003C ok 8 0xA5
    (flagged true ∷ shows High ∷ clock_at false ∷ says (Read 3) (value 0x3C) ∷ says (Tick true false) no_edge ∷ [])

-- After three edges, the second of which took a 1, the low seven bits are taken and told. The next word is loaded, and its first edge shows its top bit.
abbrev pub mid_word : Bool
mid_word =
    word_tells (set_up 0x0020 1 ++ (says (Write 3 0xA5) ok ∷ says (Write 3 0x40) ok ∷ []) ++ tick_edges 3) false 0xFF95 ok 7 0x25
    (says (Read 3) (value 0x95) ∷ says (Tick true false) edge ∷ shows Low ∷ says (Tick true false) edge ∷ says (Tick true false) edge ∷ shows High ∷ [])

-- 16 bits with CKE and CKP: the top bit stands before the first edge.
abbrev pub early_word : Bool
early_word =
    word_tells (set_up 0x0560 0 ++ (says (Write 3 0x8001) ok ∷ [])) true 0x1234 ok 16 0x8001
    (clock_at true ∷ says (Read 3) (value 0x1234) ∷ says (Tick true false) no_edge ∷ [])

-- A client with nothing to send sends zeros; one with SSEN sends its word while it is selected, and nothing happens while it is not.
abbrev pub client_words : Bool
client_words =
    word_tells (set_up 0x0000 0) true 0x5A ok 8 0 (says (Read 3) (value 0x5A) ∷ [])
    && (word_tells (set_up 0x0080 0 ++ (says (Write 3 0xC3) ok ∷ [])) false 0x5A ok 8 0xC3 (says (Read 3) (value 0x5A) ∷ [])
    && word_tells (set_up 0x0080 0 ++ (says (Write 3 0xC3) ok ∷ [])) true 0x5A ok 0 0 (clock_at false ∷ says (Read 3) (refused 6) ∷ []))

-- SCK was left at the active level while the client was not selected: an edge to the idle level comes first.
abbrev pub late_word : Bool
late_word =
    word_tells (set_up 0x0080 0 ++ (says (Write 3 0xC3) ok ∷ says (Pin true true true) ok ∷ [])) false 0x5A ok 8 0xC3
    (clock_at false ∷ says (Read 3) (value 0x5A) ∷ [])

-- A host with DISSCK: one that has nothing to send sees its clock as it was.
abbrev pub pinned_words : Bool
pinned_words =
    word_tells (set_up 0x1020 0) true 0x5A ok 0 0 (clock_at false ∷ says (Read 3) (refused 6) ∷ [])
    && word_tells (set_up 0x1020 0 ++ (says (Write 3 0x81) ok ∷ [])) true 0x5A ok 8 0x81 (says (Read 3) (value 0x5A) ∷ [])

-- An idle host, a disabled module, and one edge of a framed host, whose clock runs on.
abbrev pub other_words : Bool
other_words =
    word_tells (set_up 0x0020 0) false 0x5A no_edge 0 0 (says (Read 3) (refused 6) ∷ [])
    && (word_tells [] false 0x5A (refused 2) 0 0 [] && word_tells (set_up 0x0020 0x8000) false 0x5A ok 1 0 (clock_at true ∷ []))

abbrev pub word_examples : Bool
word_examples = host_word && (mid_word && (early_word && (client_words && (late_word && (pinned_words && other_words)))))
