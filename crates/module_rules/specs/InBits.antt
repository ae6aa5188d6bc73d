-- What the register bits say, in the sentences of document 01 and of document 02, Three. This is for the files that judge: no
-- rule cites it, and it cites no rule, so that a rule which takes a bit for another differs from what stands here.
use Rattle.std.specs.Prelude.{ℕ, ◌%◌, Bool, not, ◌&&◌, ◌||◌, eqb}
use Rattle.std.specs.Bool.{beq}
use Rattle.laws.specs.Choice.{when◌then◌else◌}
use Rattle.module_types.specs.declared.Con1.{Con1}
use Rattle.module_types.specs.declared.Depth.{Depth}
use Rattle.module_types.specs.declared.Depth.TheVariants.{Four, Eight, Sixteen}
use Rattle.module_types.specs.declared.Settings.{Settings}

-- A word has 16 bits with MODE16, else 8.
abbrev pub word_bits : Settings → ℕ
word_bits s = when s.con1.mode16 then 16 else 8

-- With SPIBEN each buffer holds the 4, 8 or 16 words that power-up chose, else 1.
abbrev pub chosen : Depth → ℕ
chosen Four = 4
chosen Eight = 8
chosen Sixteen = 16

abbrev pub room : Settings → ℕ
room s = when s.con2.spiben then chosen s.depth else 1

-- The edges of a word at which SDI is sampled: the odd ones with CKE, else the even ones. With FRMEN CKE counts as 0.
abbrev pub odd_sampled : Settings → Bool
odd_sampled s = not s.con2.frmen && s.con1.cke

abbrev pub sampled_at : Settings → ℕ → Bool
sampled_at s edge = beq (odd_sampled s) (eqb (edge % 2) 1)

-- A host has its own clock with MSTEN and without DISSCK.
abbrev pub clocks_itself : Con1 → Bool
clocks_itself con1 = con1.msten && not con1.dissck

-- That clock stops between words, but with FRMEN it runs on.
abbrev pub stops_between_words : Settings → Bool
stops_between_words s = clocks_itself s.con1 && not s.con2.frmen

-- Select counts for a client with SSEN: without MSTEN, and without FRMEN, with which SSEN counts as 0.
abbrev pub heeds_select : Settings → Bool
heeds_select s = not s.con1.msten && (not s.con2.frmen && s.con1.ssen)

-- With FRMEN a module gives pulses on SS, or with SPIFSD takes them there.
abbrev pub gives_pulses : Settings → Bool
gives_pulses s = s.con2.frmen && not s.con2.spifsd

abbrev pub takes_pulses : Settings → Bool
takes_pulses s = s.con2.frmen && s.con2.spifsd

-- With nothing to send a host begins nothing, nor does a frame host; a client and a frame client send a filler.
abbrev pub sends_no_filler : Settings → Bool
sends_no_filler s = when s.con2.frmen then not s.con2.spifsd else s.con1.msten

-- What cannot be enabled: its own clock with both prescalers at 1:1 (PPRE 3, SPRE 7); SMP; CKE in a client without SSEN and
-- without FRMEN.
abbrev pub undivided_clock : Settings → Bool
undivided_clock s = clocks_itself s.con1 && (eqb s.con1.ppre 3 && eqb s.con1.spre 7)

abbrev pub cke_without_select : Settings → Bool
cke_without_select s = not s.con2.frmen && (not s.con1.msten && (s.con1.cke && not s.con1.ssen))

abbrev pub cannot_enable : Settings → Bool
cannot_enable s = undivided_clock s || (s.con1.smp || cke_without_select s)
