-- What the check hands over of a file that it passes.
use Rattle.std.specs.Prelude.{◌≡◌, true, List, ℕ}
use Rattle.lists.specs.Lists.{all}
use Rattle.reading.specs.Answer.{Answer, ◌>>=◌}
use Rattle.reading.specs.declared.field.Fault.{Fault}
use Rattle.reading.specs.declared.field.Fault.TheVariants as Fl
use Rattle.chart_records.specs.Chart.{Chart, records, numbered}
use Rattle.chart_records.specs.Rules.{parents, entry_marks, siblings, exits, keeps_rules}
use Rattle.chart_records.specs.Laid.{Laid}
use Rattle.chart_tree.specs.Table.{Tabled}
use Rattle.chart_records.specs.declared.header.Counts.{Counts}
use Rattle.chart_tree.specs.declared.table.Tree.{Tree}

-- the chart of the bytes after the header
unfoldable pub chart_from : Counts → List ℕ → Answer Chart
chart_from n s = numbered (records n s) >>= keeps_rules

-- 3 for a length, 4 for a field
abbrev pub fault_number : Fault → ℕ
fault_number Fl.Length = 3
fault_number Fl.Range = 4

-- counts, offsets and tables of a chart that keeps the rules, whose records stand in the bytes. By rule 11 a composite source has
-- a declared exit, by which a step looks it up among the completed states
pub record Ready (rest : List ℕ) (n : Counts) (offsets : List ℕ) (t : Tree) (c : Chart) : Type 0 where
  pub laid : Laid rest n offsets c
  pub tabled : Tabled c t
  pub parents : parents c ≡ true
  pub entry_marks_lem : entry_marks c ≡ true
  pub siblings : all (siblings c) c.transitions ≡ true
  pub exits : all (exits c) c.transitions ≡ true
