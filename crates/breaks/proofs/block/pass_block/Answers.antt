use mathlib.Core.Path.{sym, ◌∙◌}
use Rattle.breaks.proofs.Blocks.{block_passed, block_quiet_lem}
use Rattle.breaks.proofs.block.pass_block.Goals as goal

pub returns-then-in_window : goal.returns-then-in_window
returns-then-in_window c = λ k S. block_passed _ _ _ k _ _ S c.requires.0 (sym c.in_window.ensures ∙ c.if-in_window.true) c.pass_grown.ensures

pub returns-then-block_quiet : goal.returns-then-block_quiet
returns-then-block_quiet c = λ k S. block_quiet_lem _ _ _ k _ _ S (sym c.block_quiet.ensures ∙ c.if-block_quiet.true)
