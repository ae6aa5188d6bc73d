-- A character that finishes, as the law of word order has it.
--     finish_port   what is left to send and what is unread after a finish are the law's own
-- Assumes nothing.
use Rattle.std.specs.Prelude.{◌∷◌, ◌++◌, ◌≡◌, Option, Some, None}
use Rattle.laws.proofs.Common.{ℕ, Bool, true, false, [], refl, when◌then◌else◌}
use Rattle.word_order.specs.Port.{Way, loses_at}
use Rattle.word_order.specs.Port as port
use Rattle.ti_rules.specs.declared.Settings.{Settings}
use Rattle.ti_rules.specs.declared.Engine.{Engine}
use Rattle.ti_rules.specs.Finish.{finished}
use Rattle.ti_rules.specs.Watch.{in_buffer, way_of, port_of, terms_of}

-- The finish, by its words: by what was sent, what waits and what is unread.
pub finish_port : (s : Settings) (zeros : Bool) (bits edges received : ℕ) (waiting : Option ℕ) (n : Engine) (unread : Option ℕ) (way : Way) →
    port_of
    (finished s received
    (record { waiting = waiting; shift = n.shift; unread = unread; pins = n.pins; overrun = n.overrun }))
    ≡ port.finished (terms_of s)
    (record { filler = zeros; word = bits; edges = edges; received = received })
    (record { owed = (when zeros then [] else bits ∷ []) ++ in_buffer waiting; way = way; unread = in_buffer unread; marked = false })
unfolding finished port.finished when◌then◌else◌ loses_at way_of
finish_port s true bits edges received None n None way = refl
finish_port s true bits edges received None n (Some x) way = refl
finish_port s true bits edges received (Some y) n None way = refl
finish_port s true bits edges received (Some y) n (Some x) way = refl
finish_port s false bits edges received None n None way = refl
finish_port s false bits edges received None n (Some x) way = refl
finish_port s false bits edges received (Some y) n None way = refl
finish_port s false bits edges received (Some y) n (Some x) way = refl
