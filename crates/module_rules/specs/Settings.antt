-- Document 01, "Registers" and "One edge at a time": what the settings decide.
use Rattle.std.specs.Prelude.{ℕ, Bool, not, ◌&&◌}
use Rattle.laws.specs.Choice.{when◌then◌else◌}
use Rattle.module_types.specs.declared.Depth.{Depth}
use Rattle.module_types.specs.declared.Depth.TheVariants.{Four, Eight, Sixteen}
use Rattle.module_types.specs.declared.Settings.{Settings}

-- Width w: 16 with MODE16, else 8.
abbrev pub width_of : Settings → ℕ
width_of s = when s.con1.mode16 then 16 else 8

-- Document 02, Twelve: the words that a buffer holds in enhanced operation, as chosen at power-up.
abbrev pub words_of : Depth → ℕ
words_of Four = 4
words_of Eight = 8
words_of Sixteen = 16

-- Words that each buffer holds: the chosen depth with SPIBEN, else 1.
abbrev pub depth_of : Settings → ℕ
depth_of s = when s.con2.spiben then words_of s.depth else 1

-- Document 02, Three: with FRMEN a module is framed. SPIFSD 0 makes it a frame host, which gives pulses on SS; SPIFSD 1 makes
-- it a frame client, which samples them there.
abbrev pub framed : Settings → Bool
framed s = s.con2.frmen

abbrev pub frame_host : Settings → Bool
frame_host s = framed s && not s.con2.spifsd

abbrev pub frame_client : Settings → Bool
frame_client s = framed s && s.con2.spifsd

-- CKE and SSEN as the edge rules see them: a framed module has them at 0 there, whatever was written.
abbrev pub cke_of : Settings → Bool
cke_of s = not (framed s) && s.con1.cke

abbrev pub ssen_of : Settings → Bool
ssen_of s = not (framed s) && s.con1.ssen

-- The clock of a host stops between words, but that of a framed one runs on.
abbrev pub clock_stops : Settings → Bool
clock_stops s = not (framed s)

-- A module that begins nothing if no word is left to send: an unframed host and a frame host. The others send a filler.
abbrev pub silent : Settings → Bool
silent s = when framed s then not s.con2.spifsd else s.con1.msten

-- A client that watches its select pin: MSTEN 0 with SSEN.
abbrev pub ssen_client : Settings → Bool
ssen_client s = not s.con1.msten && ssen_of s

-- A host with its own clock: MSTEN 1 and DISSCK 0. Every other module is clocked from its pin.
abbrev pub own_clock : Settings → Bool
own_clock s = s.con1.msten && not s.con1.dissck

-- An unframed host with its own clock, whose edges can be counted beforehand.
abbrev pub unframed_host : Settings → Bool
unframed_host s = own_clock s && clock_stops s
