-- Document 02, Eight: boards with the words that they owe. proofs/OwedExamplesHold.antt runs the definitions on them.
use Rattle.std.specs.Prelude.{ℕ, Bool, true, false, ◌&&◌, List, [], ◌∷◌, ◌++◌, eqb, replicate, Result, Ok, Err}
use Rattle.module_types.specs.declared.Call.TheVariants.{Tick, Pin}
use Rattle.board_rules.specs.declared.BoardCall.{BoardCall}
use Rattle.board_rules.specs.declared.BoardCall.TheVariants.{PowerUp, PowerUpAt, Make, StepAndLook, MakeWord}
use Rattle.board_rules.specs.declared.BoardFault.{BoardFault}
use Rattle.board_rules.specs.Board.{board_number_of, BoardStep, one, two, board_after}
use Rattle.board_rules.specs.BoardExamples.{fresh, write, every, ready}
use Rattle.board_rules.specs.Owed.{owes_of, owed_after}

-- What the question answers: the words owed, or a refusal.
abbrev pub tells : Result ℕ BoardFault → ℕ → ℕ → Bool
tells (Err w) number words = eqb (board_number_of w) number && eqb words 0
tells (Ok n) number words = eqb number 0 && eqb n words

-- So many modules owe so many words after some steps from power-up.
abbrev pub owes : ℕ → List BoardStep → ℕ → Bool
owes size steps words = tells (owes_of (owed_after (record { modules = fresh size; owed = 0 }) steps)) 0 words

-- The same from a total that is not the list's own.
abbrev pub owes_from : ℕ → List BoardStep → List BoardStep → ℕ → Bool
owes_from total before steps words =
    tells (owes_of (owed_after (record { modules = board_after (fresh 4) before; owed = total }) steps)) 0 words

-- So many modules at power-up have a total of 7, which is not theirs, and leave it.
abbrev pub leaves7 : ℕ → List BoardStep → Bool
leaves7 size steps = eqb (owed_after (record { modules = fresh size; owed = 7 }) steps).owed 7

abbrev pub refused : ℕ → Bool
refused size = tells (owes_of (record { modules = fresh size; owed = 0 })) 21 0

-- Some calls of one module.
abbrev pub calls : ℕ → List BoardCall → List BoardStep
calls n [] = []
calls n (c ∷ cs) = one n c ∷ calls n cs

abbrev pub tick : BoardCall
tick = Make (Tick false false)

abbrev pub pins : Bool → Bool → BoardCall
pins sck ss = Make (Pin sck false ss)

abbrev pub step : Bool → Bool → BoardCall
step sck ss = StepAndLook sck false ss

abbrev pub word : Bool → BoardCall
word ss = MakeWord ss 0x005A

-- A host in enhanced operation at 1 with three words.
abbrev pub host : List BoardStep
host = calls 1 (write 1 0x0020 ∷ write 2 0x0001 ∷ write 0 0x8000 ∷ write 3 0x00A5 ∷ write 3 0x003C ∷ write 3 0x0081 ∷ [])

-- An SSEN client at 0 with one word, selected and at its first edge; and one with none, which begins a filler.
abbrev pub client : List BoardStep
client = calls 0 (write 1 0x0080 ∷ write 0 0x8000 ∷ write 3 0x0055 ∷ pins false false ∷ pins true false ∷ [])

abbrev pub filler : List BoardStep
filler = calls 0 (write 1 0x0080 ∷ write 0 0x8000 ∷ pins false false ∷ pins true false ∷ [])

abbrev pub owed_examples : Bool
owed_examples =
    every (
    refused 0
    ∷ refused 5
    ∷ owes 1 [] 0
    ∷ owes 4 [] 0
    -- three words accepted: one in the shift register, two waiting
    ∷ owes 4 host 3
    -- at its last edge a word is finished, and not before
    ∷ owes 4 (host ++ calls 1 (replicate 15 tick)) 3
    ∷ owes 4 (host ++ calls 1 (replicate 16 tick)) 2
    ∷ owes 4 (host ++ calls 1 (replicate 48 tick)) 0
    ∷ owes 4 (host ++ calls 1 (replicate 49 tick)) 0
    -- by clock steps too (document 02, Eleven), whatever SCK is
    ∷ owes 4 (host ++ calls 1 (replicate 15 (step true true))) 3
    ∷ owes 4 (host ++ calls 1 (replicate 16 (step true false))) 2
    ∷ owes 4 (client ++ calls 0 (step true true ∷ [])) 1
    ∷ leaves7 4 (one 2 (step true true) ∷ one 4 (step true true) ∷ [])
    -- and by words at a time: one whole, what is left of one, and no more than there are; a client's word while it is selected, and its filler
    ∷ owes 4 (host ++ calls 1 (word false ∷ [])) 2
    ∷ owes 4 (host ++ calls 1 (tick ∷ word true ∷ word true ∷ [])) 1
    ∷ owes 4 (host ++ calls 1 (replicate 4 (word false))) 0
    ∷ owes 4 (client ++ calls 0 (word false ∷ [])) 0
    ∷ owes 4 (client ++ calls 0 (word true ∷ [])) 1
    ∷ owes 4 (filler ++ calls 0 (write 3 0x0001 ∷ word false ∷ [])) 1
    ∷ owes_from 9 host (calls 1 (word false ∷ [])) 8
    ∷ leaves7 4 (one 2 (word true) ∷ one 4 (word true) ∷ [])
    -- a begun word of an SSEN client counts once, an abort leaves it, a filler never counts
    ∷ owes 4 client 1
    ∷ owes 4 (client ++ calls 0 (pins true true ∷ [])) 1
    ∷ owes 4 filler 0
    ∷ owes 4 (calls 0 (write 0 0x8000 ∷ pins true true ∷ [])) 0
    ∷ owes 4 (client ++ host) 4
    -- a refused write counts nothing: disabled, and full
    ∷ owes 4 (calls 2 (write 3 0x0001 ∷ [])) 0
    ∷ owes 4 (calls 2 (write 1 0x0020 ∷ write 0 0x8000 ∷ write 3 0x0001 ∷ write 3 0x0002 ∷ write 3 0x0003 ∷ [])) 2
    -- disabling empties, and so does power-up of one module
    ∷ owes 4 (client ++ (host ++ calls 1 (write 0 0x0000 ∷ []))) 1
    ∷ owes 4 (client ++ (host ++ calls 1 (PowerUp ∷ []))) 1
    ∷ owes 4 (client ++ (host ++ calls 7 (PowerUp ∷ []))) 4
    -- also with a depth, but not with one that there is not; at depth 4 five are accepted, and a sixth is refused
    ∷ owes 4 (client ++ (host ++ calls 1 (PowerUpAt 4 ∷ []))) 1
    ∷ owes 4 (client ++ (host ++ calls 1 (PowerUpAt 12 ∷ []))) 4
    ∷ owes 4 (client ++ calls 1 (PowerUpAt 4 ∷ write 1 0x0020 ∷ write 2 0x0001 ∷ write 0 0x8000 ∷ replicate 6 (write 3 0x0001))) 6
    -- a linked run finishes words at both ends
    ∷ owes 4 (ready ++ (two 1 3 15 ∷ [])) 2
    ∷ owes 4 (ready ++ (two 1 3 16 ∷ [])) 0
    -- a total that is not the list's own moves by the modules that are named alone
    ∷ owes_from 9 host (calls 2 (PowerUp ∷ [])) 9
    ∷ owes_from 9 host (calls 1 (replicate 16 tick)) 8
    ∷ owes_from 9 ready (two 1 3 16 ∷ []) 7
    -- calls and linked runs that the board refuses, and runs that the two modules refuse, leave it
    ∷ leaves7 5 (one 0 PowerUp ∷ two 0 1 16 ∷ [])
    ∷ leaves7 4 (one 4 PowerUp ∷ two 4 0 16 ∷ two 0 4 16 ∷ two 2 2 16 ∷ [])
    ∷ leaves7 4 (two 0 1 16 ∷ two 0 1 545 ∷ [])
    -- a total that is not the list's own stops at either end
    ∷ owes_from 65535 [] host 65535
    ∷ owes_from 65532 [] host 65535
    ∷ owes_from 0 host (calls 1 (replicate 16 tick)) 0
    ∷ []
    )
