-- A waveform's file around its steps.
use Rattle.std.specs.Prelude.{ℕ, List, [], ◌∷◌, ◌++◌}
use Rattle.std.specs.Fmt.{decimal}
use Prim.Native.Char.{code}
use Rattle.script_rules.specs.Script.{bytes, lf}
use Rattle.wave_steps.specs.declared.Shown.{Shown}
use Rattle.wave_steps.specs.Wave.{head_text, changes, unshown}

-- the head, and all values at power-up
unfoldable pub opening : Shown → List ℕ
opening shown = head_text ++ (changes unshown shown ++ bytes "$end\n")

-- the time at which the last step ends
unfoldable pub closing : ℕ → List ℕ
closing time = code "#" ∷ (decimal time ++ (lf ∷ []))
