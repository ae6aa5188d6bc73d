-- `trace_player::play_file` meets its contract: a right file has a section 0. Assumes nothing.
use Rattle.laws.proofs.Common.{ap, ◌∙◌}
use Rattle.module_rules.specs.Calls.{after_calls}
use Rattle.trace_rules.specs.Trace.{play_calls, file_calls}
use Rattle.trace_right.specs.declared.RightFile.{RightFile}
use Rattle.trace_page.proofs.TraceContents.{contents_laid}
use Rattle.trace_player.proofs.play_file.Goals as goal

pub play_section-requires : goal.play_section-requires
play_section-requires g c = (contents_laid _ c.new-trace.result.file.is_right.0).some

pub returns : goal.returns
unfolding file_calls
returns g c =
    c.play_section.ensures
    ∙ ap (λ (x : RightFile). after_calls (g.P.Player.held c.args.player.now) (play_calls x.bytes.now 8 0)) c.new-trace.ensures
