-- STAT as a sum.
--     stat_sum   STAT, part by part
-- Assumes nothing.
use Rattle.std.specs.Prelude.{◌+◌, ◌*◌, ◌%◌, ◌&&◌, ◌≡◌}
use Rattle.laws.proofs.Common.{ℕ, Bool, true, false, refl, ◌∙◌, arith, eqb, leb, when◌then◌else◌}
use Rattle.module_rules.proofs.Types.{Settings, Module}
use Rattle.module_rules.specs.Settings.{depth_of}
use Rattle.module_rules.specs.Registers.{weighed, shows_enhanced, at_most7, spibec, srmpt, srxmpt, spitbf, spirbf, stat_value}
use Rattle.module_registers.specs.Shown.{enhanced_shown, Shows}

parts : (on f u : Bool) (n : ℕ) →
    (when on then n * 256 + weighed f 128 + weighed u 32 else 0) ≡
    (when on then n else 0) * 256 + weighed (on && f) 128 + weighed (on && u) 32
unfolding when◌then◌else◌ weighed
parts true f u n = refl
parts false f u n = refl

module _ (s : Settings) (waiting unread : ℕ) (free : Bool) where
  pub stat_sum : {m : Module} {spirov : Bool} {a b c d t r : ℕ} → Shows m s waiting unread free spirov → a ≡ weighed s.spien 32768 →
      b ≡ weighed s.spisidl 8192 → c ≡ enhanced_shown s waiting unread free → d ≡ weighed spirov 64 →
      t ≡ weighed (leb (depth_of s) waiting) 2 → r ≡ weighed (leb (depth_of s) unread) 1 → a + b + c + d + s.sisel % 8 * 4 + t + r ≡ stat_value m
  unfolding stat_value enhanced_shown spibec srmpt srxmpt spitbf spirbf
  stat_sum shows first second third fourth fifth sixth =
      let e = third ∙ parts (shows_enhanced s) free (eqb unread 0) (at_most7 (when s.con1.msten then waiting else unread)) in
      rw (shows.settings, shows.waiting, shows.unread, shows.free, shows.spirov) (omega (arith, e, first, second, fourth, fifth, sixth))
