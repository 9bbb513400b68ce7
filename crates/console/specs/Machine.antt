-- The calls of a script on a machine, which is a chart's or a network's.
use Rattle.std.specs.Prelude.{ℕ, cond, List}
use Rattle.reading.specs.Answer.{Answer}
use Rattle.reading.specs.Verdict.{or_kept}
use Rattle.console.specs.Script.{moves, numbers_of}
use Rattle.console.specs.declared.script.Call.{Call}
use Rattle.console.specs.declared.script.Call.TheVariants as Cl
use Rattle.console.specs.declared.script.Line.{Line}

-- the operations of a machine with configurations C, each on a file
pub record Operations (C : Type 0) : Type 0 where
  pub zero : C  -- what stands for a configuration before the start
  pub start : List ℕ → Answer C
  pub step : List ℕ → C → List ℕ → Answer C
  pub wait : List ℕ → C → ℕ → Answer C
  pub longest : List ℕ → C → Answer ℕ

module _ {C : Type 0} (m : Operations C) (file : List ℕ) (c : C) where
  -- by the call, with the numbers of a step; where no call moves the machine a wait of no ticks, which is refused
  abbrev pub answer_by : Call → List ℕ → Answer C
  answer_by Cl.Nothing ms = m.wait file c 0
  answer_by Cl.Start ms = m.start file
  answer_by Cl.Step ms = m.step file c ms
  answer_by (Cl.Wait d) ms = m.wait file c d
  answer_by Cl.Longest ms = m.wait file c 0
  answer_by Cl.Unknown ms = m.wait file c 0
  answer_by Cl.Number ms = m.wait file c 0

  -- by the line
  abbrev pub answer_to : Line → Answer C
  answer_to l = answer_by l.call (numbers_of l)

-- what a refused call leaves: the configuration that it was called on, and of a start none
abbrev pub kept_by : {C : Type 0} → Operations C → C → Call → C
kept_by m c Cl.Nothing = c
kept_by m c Cl.Start = m.zero
kept_by m c Cl.Step = c
kept_by m c (Cl.Wait d) = c
kept_by m c Cl.Longest = c
kept_by m c Cl.Unknown = c
kept_by m c Cl.Number = c

-- the configuration after a line: what its call leaves, and the same where it has none that moves the machine
abbrev pub after_line : {C : Type 0} → Operations C → List ℕ → C → Line → C
after_line m file c l = cond (moves l.call) (or_kept (kept_by m c l.call) (answer_to m file c l)) c
