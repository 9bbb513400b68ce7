-- The picture of a chart configuration in the network.
use Rattle.std.specs.Prelude.{ℕ, cond, map, ltb, get_or, length}
use Rattle.lists.specs.Lists.{below, keep, bits_of}
use Rattle.chart_records.specs.Chart.{Chart}
use Rattle.chart_records.specs.Tree.{children, sequentials}
use Rattle.chart_moves.specs.Machine.{is_active}
use Rattle.chart_moves.specs.declared.configuration.Configuration as chart-type
use Rattle.network_moves.specs.declared.configuration.Configuration as network-type
use Rattle.flattening.specs.Flatten.{Place, idle, child, number, flag_at}

-- the place of a sequential state: its active child, or idle
unfoldable pub pictured : Chart → chart-type.Configuration → ℕ → Place
pictured c σ q = cond (is_active σ q) (child (get_or (keep (is_active σ) (children c q)) 0 0)) (idle q)

unfoldable pub picture : Chart → chart-type.Configuration → network-type.Configuration
picture c σ = record {
  locations = map (λ a. cond (ltb a (length (sequentials c))) (number c (pictured c σ (get_or (sequentials c) a 0))) 0) (below 16);
  flags = map (λ a. cond (ltb a (length (sequentials c))) (bits_of (flag_at c (get_or (sequentials c) a 0) (pictured c σ (get_or (sequentials c) a 0))) 8) 0) (below 16);
  variables = σ.variables;
  clocks = σ.clocks;
}
