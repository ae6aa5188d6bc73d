-- Examples of a word at both ends of a wire, reckoned by hand: whether both are at its beginning, what the run says, and steps that must hold at each end.
use Rattle.std.specs.Prelude.{ℕ, Bool, true, false, not, ◌&&◌, List, [], ◌∷◌}
use Rattle.module_types.specs.declared.Module.{Module}
use Rattle.module_types.specs.declared.Call.TheVariants.{Read, Tick}
use Rattle.module_rules.specs.Examples.{ExampleStep, says, value, no_edge, edge, refused, after_steps, tick_edges}
use Rattle.link_rules.specs.Link.{client_sees, told_of}
use Rattle.link_rules.specs.LinkExamples.{used, link_holds, ready, host_l, client_l}
use Rattle.link_words.specs.LinkWords.{at_beginning, word_then_turns}

-- A run from here on, once the client has seen the host's levels.
abbrev pub word_holds : ℕ → Module → Module → ℕ → List ExampleStep → List ExampleStep → Bool
word_holds left host client edges after seen =
    at_beginning host (client_sees host client) && link_holds (told_of (word_then_turns left host (client_sees host client))) (used edges) after seen

-- Document 01's checked example l: A5 and 3C are exchanged, and the host is idle.
abbrev pub word_l : Bool
word_l =
    word_holds 16 host_l client_l 16 (says (Read 3) (value 0x003C) ∷ says (Tick true false) no_edge ∷ []) (says (Read 3) (value 0x00A5) ∷ [])

-- Two words, and three edges more than one takes: the first is exchanged, and of the second three edges are made.
abbrev pub word_and_more : Bool
word_and_more =
    word_holds 19 (ready 0x0120 0x0001 2 0x00A5) (ready 0x0180 0x0001 2 0x003C) 19
    (says (Read 3) (value 0x003C) ∷ says (Read 3) (refused 6) ∷ says (Tick true false) edge ∷ [])
    (says (Read 3) (value 0x00A5) ∷ says (Read 3) (refused 6) ∷ [])

-- An end whose SDO is undriven is read as zeros.
abbrev pub word_undriven : Bool
word_undriven =
    word_holds 16 host_l (ready 0x0800 0x0000 1 0x003C) 16 (says (Read 3) (value 0x0000) ∷ []) (says (Read 3) (value 0x00A5) ∷ [])
    && word_holds 16 (ready 0x0820 0x0000 1 0x00A5) client_l 16 (says (Read 3) (value 0x003C) ∷ []) (says (Read 3) (value 0x0000) ∷ [])

-- Neither an idle host nor one inside a word, after one edge or two, is at a word's beginning.
abbrev pub inside : Bool
inside =
    not (at_beginning (ready 0x0020 0x0000 0 0) client_l)
    && (not (at_beginning (after_steps host_l (tick_edges 1)) client_l) && not (at_beginning (after_steps host_l (tick_edges 2)) client_l))

abbrev pub link_word_examples : Bool
link_word_examples = word_l && (word_and_more && (word_undriven && inside))
