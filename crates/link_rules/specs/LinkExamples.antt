-- Document 01's checked example l, and further examples of linked runs: what the run's answer must say, and steps that must
-- hold at each end after it.
use Rattle.std.specs.Prelude.{ℕ, Bool, true, false, ◌&&◌, List, [], ◌∷◌, ◌++◌, eqb, replicate}
use Rattle.module_types.specs.declared.Depth.{Depth}
use Rattle.module_types.specs.declared.Depth.TheVariants.{Four, Eight, Sixteen}
use Rattle.module_types.specs.declared.Module.{Module}
use Rattle.module_types.specs.declared.Call.TheVariants.{Read, Write, Tick}
use Rattle.module_types.specs.declared.Output.TheVariants.{Low}
use Rattle.module_rules.specs.Calls.{powered_at, powered_up}
use Rattle.module_rules.specs.Examples.{ExampleStep, says, shows, ok, value, no_edge, edge, refused, all_hold, after_steps, set_up}
use Rattle.link_rules.specs.declared.LinkSaid.{LinkSaid}
use Rattle.link_rules.specs.declared.Linked.{Linked}
use Rattle.link_rules.specs.Link.{linked_of, link_said_of}

-- What the answer of a run says: the edges used, or a refusal.
abbrev pub used : ℕ → LinkSaid
used n = record { number = 0; edges = n }

abbrev pub link_refused : ℕ → LinkSaid
link_refused n = record { number = n; edges = 0 }

abbrev pub link_holds : Linked → LinkSaid → List ExampleStep → List ExampleStep → Bool
link_holds l said host client =
    (eqb (link_said_of l.answer).number said.number && eqb (link_said_of l.answer).edges said.edges)
    && (all_hold l.host host && all_hold l.client client)

-- A module configured, enabled and given some equal words to send.
abbrev pub ready_at : Depth → ℕ → ℕ → ℕ → ℕ → Module
ready_at depth con1 con2 words word =
    after_steps (powered_at depth) (set_up con1 con2 ++ replicate words (says (Write 3 word) ok))

abbrev pub ready : ℕ → ℕ → ℕ → ℕ → Module
ready = ready_at Eight

-- l. A host with A5 and a client with 3C, linked, 16 edges: the host reads 3C, the client A5.
abbrev pub host_l : Module
host_l = ready 0x0020 0x0000 1 0x00A5

abbrev pub client_l : Module
client_l = ready 0x0000 0x0000 1 0x003C

abbrev pub example_l : Bool
example_l =
    link_holds (linked_of host_l client_l 16) (used 16)
    (says (Read 3) (value 0x003C) ∷ says (Tick true false) no_edge ∷ [])
    (says (Read 3) (value 0x00A5) ∷ [])

-- Nothing was read, and the host still owes its word.
abbrev pub unread_host : List ExampleStep
unread_host = says (Read 3) (refused 6) ∷ says (Tick true false) edge ∷ []

abbrev pub unread_client : List ExampleStep
unread_client = says (Read 3) (refused 6) ∷ []

-- The limit 544 is allowed and uses no more than the host owes; 545 gives 11 (document 02, Twelve).
abbrev pub link_limits : Bool
link_limits =
    link_holds (linked_of host_l client_l 544) (used 16)
    (says (Read 3) (value 0x003C) ∷ says (Tick true false) no_edge ∷ [])
    (says (Read 3) (value 0x00A5) ∷ [])
    && link_holds (linked_of host_l client_l 545) (link_refused 11) unread_host unread_client

-- Eight words of 16 bits owe 256 edges, and the client holds and reads them all.
abbrev pub link_eight : Bool
link_eight =
    link_holds (linked_of (ready 0x0420 0x0001 8 0xA5C3) (ready 0x0400 0x0001 0 0) 288) (used 256)
    (says (Tick true false) no_edge ∷ [])
    (replicate 8 (says (Read 3) (value 0xA5C3)) ++ (says (Read 3) (refused 6) ∷ []))

-- Nine owe 288 edges, and the limit 288 sends them all. Both ends overflow in enhanced operation (document 02, Four): eight
-- words stand in each receive buffer, SPIROV is set, and a BUF read gives 16.
abbrev pub link_nine : Bool
link_nine =
    link_holds (linked_of (ready 0x0420 0x0001 9 0xA5C3) (ready 0x0400 0x0001 0 0) 288) (used 288)
    (says (Tick true false) no_edge ∷ says (Read 0) (value 0x80C1) ∷ says (Read 3) (refused 16) ∷ [])
    (says (Read 0) (value 0x87C1) ∷ says (Read 3) (refused 16) ∷ [])

-- Document 02, Twelve: a host of depth 16 with 17 words of 16 bits owes 544 edges. A client of depth 4 holds the first four and is marked; the
-- host holds 16 of the zeros.
abbrev pub link_depths : Bool
link_depths =
    link_holds (linked_of (ready_at Sixteen 0x0420 0x0001 17 0xA5C3) (ready_at Four 0x0400 0x0001 0 0) 544) (used 544)
    (says (Tick true false) no_edge ∷ says (Read 0) (value 0x80C1) ∷ says (Read 3) (refused 16) ∷ [])
    (says (Read 0) (value 0x84C1) ∷ says (Read 3) (refused 16) ∷ [])

-- A host in standard operation with two words: a standard client loses the second and reads the first; an enhanced client of
-- the same wire reads both.
abbrev pub link_standard : Bool
link_standard =
    link_holds (linked_of (ready 0x0020 0x0000 2 0x00A5) (ready 0x0000 0x0000 0 0) 288) (used 32)
    (says (Read 0) (value 0x8041) ∷ says (Read 3) (value 0x0000) ∷ says (Read 3) (refused 6) ∷ [])
    (says (Read 0) (value 0x8041) ∷ says (Read 3) (value 0x00A5) ∷ says (Read 3) (refused 6) ∷ [])
    && link_holds (linked_of (ready 0x0020 0x0000 2 0x00A5) (ready 0x0000 0x0001 0 0) 288) (used 32)
    (says (Read 3) (value 0x0000) ∷ says (Read 3) (refused 6) ∷ [])
    (says (Read 3) (value 0x00A5) ∷ says (Read 3) (value 0x00A5) ∷ says (Read 3) (refused 6) ∷ [])

-- With the limit 0 nothing is used, and with 15 no word is finished.
abbrev pub link_short : Bool
link_short =
    link_holds (linked_of host_l client_l 0) (used 0) unread_host unread_client
    && link_holds (linked_of host_l client_l 15) (used 15) unread_host unread_client

-- A client whose SDO is undriven is read as zeros. An SSEN client is selected, and stays so after the run. With CKE 1 its
-- top bit is on the wire before the first edge.
abbrev pub link_wires : Bool
link_wires =
    link_holds (linked_of host_l (ready 0x0800 0x0000 1 0x003C) 16) (used 16)
    (says (Read 3) (value 0x0000) ∷ [])
    (says (Read 3) (value 0x00A5) ∷ [])
    && link_holds (linked_of host_l (ready 0x0080 0x0000 1 0x003C) 16) (used 16)
    (says (Read 3) (value 0x003C) ∷ [])
    (shows Low ∷ says (Read 3) (value 0x00A5) ∷ [])
    && link_holds (linked_of (ready 0x0120 0x0000 1 0x00A5) (ready 0x0180 0x0000 1 0x00BC) 16) (used 16)
    (says (Read 3) (value 0x00BC) ∷ [])
    (says (Read 3) (value 0x00A5) ∷ [])

-- 2 for either end before 7, 7 for a host in the client's place and for a DISSCK host, then 10 for each of the three.
abbrev pub link_refusals : Bool
link_refusals =
    link_holds (linked_of powered_up client_l 16) (link_refused 2) [] unread_client
    && link_holds (linked_of client_l powered_up 16) (link_refused 2) unread_client []
    && link_holds (linked_of client_l host_l 16) (link_refused 7) unread_client unread_host
    && link_holds (linked_of (ready 0x1020 0x0000 1 0x00A5) client_l 16) (link_refused 7) [] unread_client
    && link_holds (linked_of host_l (ready 0x1020 0x0000 1 0x00A5) 16) (link_refused 7) unread_host []
    && link_holds (linked_of host_l (ready 0x0040 0x0000 1 0x003C) 16) (link_refused 10) unread_host unread_client
    && link_holds (linked_of host_l (ready 0x0180 0x0000 1 0x003C) 16) (link_refused 10) unread_host unread_client
    && link_holds (linked_of host_l (ready 0x0400 0x0000 1 0x003C) 16) (link_refused 10) unread_host unread_client

-- Document 02, Three: 7 for a framed host and for a framed client, be it a frame host or a frame client, also if the two are
-- a frame's two ends; before 10 and after 2.
abbrev pub framed_host_l : Module
framed_host_l = ready 0x0020 0x8000 1 0x00A5

abbrev pub framed_client_l : Module
framed_client_l = ready 0x0000 0xC000 1 0x003C

abbrev pub link_framed : Bool
link_framed =
    link_holds (linked_of framed_host_l client_l 16) (link_refused 7) unread_host unread_client
    && link_holds (linked_of (ready 0x0020 0xC000 1 0x00A5) client_l 16) (link_refused 7) unread_host unread_client
    && link_holds (linked_of host_l framed_client_l 16) (link_refused 7) unread_host unread_client
    && link_holds (linked_of host_l (ready 0x0000 0x8000 1 0x003C) 16) (link_refused 7) unread_host unread_client
    && link_holds (linked_of framed_host_l framed_client_l 16) (link_refused 7) unread_host unread_client
    && link_holds (linked_of framed_host_l (ready 0x0040 0x0000 1 0x003C) 16) (link_refused 7) unread_host unread_client
    && link_holds (linked_of framed_host_l powered_up 16) (link_refused 2) unread_host []

abbrev pub link_examples : Bool
link_examples =
    link_limits
    && (link_eight && (link_nine && (link_depths && (link_standard && (link_short && (link_wires && (link_refusals && link_framed)))))))
